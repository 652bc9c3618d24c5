-- What the two sides of a session come to.
use Rattle.std.proofs.Common.{◌≡◌, ◌⊎◌, inl, inr, ℕ, zero, suc, ◌+◌, ◌-◌, ◌≤◌, Bool, true, false, List, [], ◌∷◌, ◌++◌, length, take, drop, Option, Some, None, eqb, refl, sym, ap, ◌∙◌, subst, append_assoc, arith}
use Rattle.std.proofs.lemmas.Bool.{cases_Bool, eqb-true, leb-true, not_from_false, or_cases}
use Rattle.std.proofs.lemmas.List.{append-nil, length-drop, take-append-drop}
use Rattle.std.proofs.lemmas.List.Elements.{All-from_recursion, All-head, All-drop, All-take}
use Rattle.std.specs.Prelude.{unwrap_or}
use Rattle.std.specs.FinMap as finmap
use Rattle.std.specs.List.{All, fold}
use Rattle.std.specs.Ordering.{nat_cmp}
use Rattle.oct_delta.specs.Clocks.{entries_bytes}
use Rattle.oct_delta.specs.Delta.{encoded}
use Rattle.oct_delta.specs.Text.{Bytes}
use Rattle.oct_join.specs.Clock.{Clock, covers, through, empty as empty_clock}
use Rattle.oct_ops.specs.Body.{Operation}
use Rattle.oct_ops.specs.Operation.{Dot}
use Rattle.oct_ops.specs.Operations.{IsRising, Operations, contains, empty, listed, set_of, union}
use Rattle.oct_ops.specs.Order.{op_cmp}
use Rattle.oct_ops.specs.OrderLaws.{op_cmp_exact, op_cmp_total}
use Rattle.oct_ops.specs.SetLaws as laws
use Rattle.oct_ops.specs.Valid.{IsOp}
use Rattle.oct_store.specs.Summary.{beyond, not_covered}
use Rattle.oct_record.specs.Valid.{AreValid}
use Rattle.oct_store.proofs.Authors.{clock-has}
use Rattle.oct_ops.proofs.Members.{Has, Has-empty, Has-keep, Has-listed, In, In-listed, keep-has, same_set, In-filter_source, all_in}
use Rattle.oct_sync.specs.Driven.{after, begun}
use Rattle.oct_sync.specs.Exchange.{AllIsExchanged, BothEndWithAll, EachHoldsAll, EachIsAnswered, EachTakesMissing, GiftIsExchanged, HasNoForks, ServerEndsWithAll, ServerTakesMissing, sent_clock}
use Rattle.oct_sync.specs.Frames.{Frame, Split, delta_tag, end_frame, frame_bytes, pack_length, split_frames}
use Rattle.oct_sync.specs.Session.{AwaitsClock, AwaitsDeltas, AwaitsEnd, HasFailed, IsDone, Phase, Point, Session, clock_frame, failed_if, is_head, missing_frames, on_clock, on_due, on_end, on_frame, on_head, on_rest_in, received, rest_fault, said, taken_in}
use Rattle.oct_sync.specs.declared.error.SyncError.{SyncError}
use Rattle.oct_sync.specs.declared.error.SyncError.TheVariants as fault
use Rattle.oct_sync.specs.declared.role.Role.{Role}
use Rattle.oct_sync.specs.declared.role.Role.TheVariants.{Client, ClientOfAll, Giver, Server}
use Rattle.oct_sync.proofs.Arriving.{clock_arrives, delta_arrives, end_arrives, last_arrives, session}
use Rattle.oct_sync.proofs.Gathering.{frames_of, rises_first, rises_second}
use Rattle.oct_sync.proofs.Greeting.{clock_read, clock_short, first_entries, none_said, sent_covers}
use Rattle.oct_sync.proofs.Owing.{fed_past}
use Rattle.oct_sync.proofs.Packed.{fits_alone, frame_short, pack_fits, pack_is_read}
use Rattle.oct_sync.proofs.Packing.{some_packed}
use Rattle.oct_sync.proofs.Taking.{taken_none, taken_parts}

-- ---- sets

Has-union : (s t : Operations) (o : Operation) → Has (union s t) o → Has s o ⊎ Has t o
Has-union s t o h = or_cases (contains s o) (contains t o) (sym (laws.contains-union op_cmp_total op_cmp_exact s t o) ∙ h)

left : (s t : Operations) (o : Operation) → Has s o → Has (union s t) o
left s t o h = laws.union_left op_cmp_total op_cmp_exact s t o h

right : (s t : Operations) (o : Operation) → Has t o → Has (union s t) o
right s t o h = laws.union_right op_cmp_total op_cmp_exact s t o h

in_beyond : (s : Operations) (t : Clock) (o : Operation) → Has (beyond s t) o → Has s o
in_beyond s t o h = Has-keep (not_covered t) s o h

passes : (s : Operations) (t : Clock) (o : Operation) → Has (beyond s t) o → not_covered t o ≡ true
passes s t o h = (In-filter_source (not_covered t) o (listed s) (subst (In o) (laws.listed-keep op_cmp_total op_cmp_exact (not_covered t) s) (In-listed (beyond s t) o h))).1

beyond_has : (s : Operations) (t : Clock) (o : Operation) → Has s o → not_covered t o ≡ true → Has (beyond s t) o
beyond_has s t o h k = keep-has (not_covered t) s o h k

beyond_valid : (s : Operations) (t : Clock) → AreValid s → AreValid (beyond s t)
beyond_valid s t valid o h = valid o (in_beyond s t o h)

-- what came from the other side is no news to it
sent_back : (own others : Operations) (t u : Clock) → union own (beyond (union others (beyond own u)) t) ≡ union own (beyond others t)
sent_back own others t u = same_set _ _ to from
  where
    to : (o : Operation) → Has (union own (beyond (union others (beyond own u)) t)) o → Has (union own (beyond others t)) o
    to o h = elim (Has-union own (beyond (union others (beyond own u)) t) o h) [
      | inl mine ↦ left own (beyond others t) o mine
      | inr new ↦ elim (Has-union others (beyond own u) o (in_beyond (union others (beyond own u)) t o new)) [
        | inl theirs ↦ right own (beyond others t) o (beyond_has others t o theirs (passes (union others (beyond own u)) t o new))
        | inr mine ↦ left own (beyond others t) o (in_beyond own u o mine)
      ]
    ]

    from : (o : Operation) → Has (union own (beyond others t)) o → Has (union own (beyond (union others (beyond own u)) t)) o
    from o h = elim (Has-union own (beyond others t) o h) [
      | inl mine ↦ left own (beyond (union others (beyond own u)) t) o mine
      | inr new ↦ right own (beyond (union others (beyond own u)) t) o (beyond_has (union others (beyond own u)) t o (left others (beyond own u) o (in_beyond others t o new)) (passes others t o new))
    ]

-- what a clock that was sent covers is held, where no dot has two contents
all_held : (held others : Operations) → AreValid others → HasNoForks (union held others) → union held (beyond others (sent_clock held)) ≡ union held others
all_held held others valid single = same_set _ _ to from
  where
    t : Clock
    t = sent_clock held

    to : (o : Operation) → Has (union held (beyond others (sent_clock held))) o → Has (union held others) o
    to o h = elim (Has-union held (beyond others (sent_clock held)) o h) [ inl mine ↦ left held others o mine | inr new ↦ right held others o (in_beyond others (sent_clock held) o new) ]

    from : (o : Operation) → Has (union held others) o → Has (union held (beyond others (sent_clock held))) o
    from o h = elim (Has-union held others o h) [
      | inl mine ↦ left held (beyond others (sent_clock held)) o mine
      | inr theirs ↦ elim (cases_Bool (covers (sent_clock held) o.dot)) [
        | inl covered ↦
            let p = clock-has (listed held) o.dot (valid o theirs).dot.number.0 (sent_covers held o.dot covered) in
            let has : Has held p.0 = Has-listed held p.0 p.1 in
            let same : p.0 ≡ o = single p.0 o (left held others p.0 has) (right held others o theirs) p.2 in
            left held (beyond others (sent_clock held)) o (subst (Has held) same has)
        | inr not_so ↦ right held (beyond others (sent_clock held)) o (beyond_has others (sent_clock held) o theirs (not_from_false (covers (sent_clock held) o.dot) not_so))
      ]
    ]

-- ---- deltas

each_valid : (s : Operations) → AreValid s → All IsOp (listed s)
each_valid s valid = All-from_recursion IsOp (listed s) (all_in IsOp (listed s) (λ o is. valid o (Has-listed s o is)))

deltas_arrive : (role : Role) (t : Clock) (fuel : ℕ) (ops : List Operation) (held : Operations) (sent rest : Bytes) → length ops ≤ fuel → All IsOp ops → IsRising ops →
    received role (session (AwaitsDeltas t) held sent) (frames_of fuel ops ++ rest) ≡ received role (session (AwaitsDeltas t) (taken_in role held (set_of ops)) sent) rest
unfolding frames_of
deltas_arrive role t zero [] held sent rest few valid rising = ap (λ h. received role (session (AwaitsDeltas t) h sent) rest) (sym (taken_none role held))
deltas_arrive role t zero (o ∷ ops) held sent rest few valid rising = absurd (omega (arith, few))
deltas_arrive role t (suc fuel) [] held sent rest few valid rising = ap (λ h. received role (session (AwaitsDeltas t) h sent) rest) (sym (taken_none role held))
deltas_arrive role t (suc fuel) (o ∷ ops) held sent rest few valid rising =
    let n : ℕ = pack_length (o ∷ ops) in
    let pack : List Operation = take (pack_length (o ∷ ops)) (o ∷ ops) in
    let later : List Operation = drop (pack_length (o ∷ ops)) (o ∷ ops) in
    let whole : take (pack_length (o ∷ ops)) (o ∷ ops) ++ drop (pack_length (o ∷ ops)) (o ∷ ops) ≡ o ∷ ops = take-append-drop n (o ∷ ops) in
    let some : 1 ≤ pack_length (o ∷ ops) = some_packed o ops (fits_alone o (All-head IsOp o ops valid)) in
    let left : length (drop (pack_length (o ∷ ops)) (o ∷ ops)) ≡ length (o ∷ ops) - pack_length (o ∷ ops) = length-drop (pack_length (o ∷ ops)) (o ∷ ops) in
    ap (received role (session (AwaitsDeltas t) held sent)) (append_assoc (frame_bytes delta_tag (encoded pack)) (frames_of fuel later) rest)
    ∙ delta_arrives role t held sent (encoded pack) (frames_of fuel later ++ rest) pack (frame_short pack (pack_fits (o ∷ ops)))
    (pack_is_read pack (All-take IsOp n (o ∷ ops) valid) (rises_first pack later (subst IsRising (sym whole) rising)) (pack_fits (o ∷ ops)))
    ∙ deltas_arrive role t fuel later (taken_in role held (set_of pack)) sent rest (omega (arith, left, some, few)) (All-drop IsOp n (o ∷ ops) valid) (rises_second pack later (subst IsRising (sym whole) rising))
    ∙ ap (λ h. received role (session (AwaitsDeltas t) h sent) rest) (taken_parts role held pack later ∙ ap (λ xs. taken_in role held (set_of xs)) whole)

-- the deltas that a set has beyond a clock, and an end
missing_arrive : (role : Role) (t u : Clock) (others held : Operations) (sent rest : Bytes) → AreValid others →
    received role (session (AwaitsDeltas t) held sent) (missing_frames others u ++ rest) ≡ received role (session (AwaitsDeltas t) (taken_in role held (beyond others u)) sent) (end_frame ++ rest)
unfolding frames_of
missing_arrive role t u others held sent rest valid =
    let ops : List Operation = listed (beyond others u) in
    ap (received role (session (AwaitsDeltas t) held sent)) (append_assoc (frames_of (length ops) ops) end_frame rest)
    ∙ deltas_arrive role t (length ops) ops held sent (end_frame ++ rest) (omega arith) (each_valid (beyond others u) (beyond_valid others u valid)) (laws.listed-rises op_cmp (beyond others u))
    ∙ ap (λ s. received role (session (AwaitsDeltas t) (taken_in role held s) sent) (end_frame ++ rest)) (laws.set_of-listed op_cmp_total op_cmp_exact (beyond others u))

-- ---- a client that awaits the last frame sends nothing

abbrev IsLate : Phase → Type 0
IsLate AwaitsClock = ⊥
IsLate (AwaitsDeltas t) = ⊥
IsLate AwaitsEnd = Unit {0}
IsLate IsDone = Unit {0}
IsLate (HasFailed f) = Unit {0}

record IsQuiet (sent : Bytes) (s : Session) : Type 0 where
  sent_is : s.sent ≡ sent
  late : IsLate s.phase

on_end_late : (role : Role) (s : Session) → on_end role s AwaitsEnd ≡ record s { phase = IsDone }
on_end_late Client s = refl
on_end_late ClientOfAll s = refl
on_end_late Giver s = refl
on_end_late Server s = refl

on_last : (role : Role) (s : Session) (f : Frame) → s.phase ≡ AwaitsEnd → eqb f.tag 3 ≡ true → on_due role s f ≡ record s { phase = IsDone }
on_last role s f awaits is =
    ap (λ tag. on_due role s (record { tag = tag; payload = f.payload })) (eqb-true f.tag 3 is)
    ∙ ap (λ phase. on_end role s phase) awaits
    ∙ on_end_late role s

quiet_head : (role : Role) (s : Session) (f : Frame) (a b : Bool) → s.phase ≡ AwaitsEnd → eqb f.tag 3 ≡ b → IsQuiet s.sent (on_head role s f (elim a [ false ↦ Some fault.Frame | true ↦ elim b [ true ↦ None | false ↦ Some fault.Order ] ]))
quiet_head role s f false b awaits is = record { sent_is = refl; late = tt }
quiet_head role s f true false awaits is = record { sent_is = refl; late = tt }
quiet_head role s f true true awaits is = subst (IsQuiet s.sent) (sym (on_last role s f awaits is)) (record { sent_is = refl; late = tt })

quiet_frame : (role : Role) (phase : Phase) (held : Operations) (sent : Bytes) (f : Frame) → IsLate phase → IsQuiet sent (on_frame role (session phase held sent) f)
quiet_frame role AwaitsClock held sent f late = absurd late
quiet_frame role (AwaitsDeltas t) held sent f late = absurd late
quiet_frame role AwaitsEnd held sent f late = quiet_head role (session AwaitsEnd held sent) f (is_head (1 + length f.payload) f.tag) (eqb f.tag 3) refl refl
quiet_frame role IsDone held sent f late = record { sent_is = refl; late = tt }
quiet_frame role (HasFailed g) held sent f late = record { sent_is = refl; late = tt }

quiet_fold : (role : Role) (sent : Bytes) (s : Session) (frames : List Frame) → IsQuiet sent s → IsQuiet sent (fold (on_frame role) s frames)
quiet_fold role sent s [] q = q
quiet_fold role sent s (f ∷ frames) q = quiet_fold role sent (on_frame role s f) frames (subst (λ z. IsQuiet z (on_frame role s f)) q.sent_is (quiet_frame role s.phase s.held s.sent f q.late))

quiet_if : (s : Session) (o : Option SyncError) → (failed_if s o).sent ≡ s.sent
quiet_if s None = refl
quiet_if s (Some f) = refl

quiet_rest : (phase : Phase) (s : Session) (rest : Bytes) → (on_rest_in phase s rest).sent ≡ s.sent
quiet_rest AwaitsClock s rest = quiet_if s (rest_fault AwaitsClock rest)
quiet_rest (AwaitsDeltas t) s rest = quiet_if s (rest_fault (AwaitsDeltas t) rest)
quiet_rest AwaitsEnd s rest = quiet_if s (rest_fault AwaitsEnd rest)
quiet_rest IsDone s [] = refl
quiet_rest IsDone s (b ∷ rest) = refl
quiet_rest (HasFailed f) s rest = refl

quiet : (role : Role) (held : Operations) (sent bytes : Bytes) → (received role (session AwaitsEnd held sent) bytes).sent ≡ sent
quiet role held sent bytes =
    let split : Split = split_frames bytes in
    let s : Session = fold (on_frame role) (session AwaitsEnd held sent) split.frames in
    quiet_rest s.phase s split.rest ∙ (quiet_fold role sent (session AwaitsEnd held sent) split.frames (record { sent_is = refl; late = tt })).sent_is

-- what was sent stays in front
sent_grows : (role : Role) (phase : Phase) (held : Operations) (sent bytes : Bytes) → (received role (session phase held sent) bytes).sent ≡ sent ++ (received role (session phase held []) bytes).sent
sent_grows role phase held sent bytes =
    ap (λ z. (received role (session phase held z) bytes).sent) (sym (append-nil sent))
    ∙ ap (λ (p : Point). p.session.sent) (fed_past sent role (session phase held []) [] bytes)

-- ---- what is beyond a clock that covers nothing

beyond_all : (s : Operations) (t : Clock) → AreValid s → ((d : Dot) → 1 ≤ d.number → covers t d ≡ true → ⊥) → beyond s t ≡ s
beyond_all s t valid nothing = same_set _ _ (λ o h. in_beyond s t o h) (λ o h. beyond_has s t o h (bare o h))
  where
    bare : (o : Operation) → Has s o → not_covered t o ≡ true
    bare o h = elim (cases_Bool (covers t o.dot)) [
      | inl covered ↦ absurd (nothing o.dot (valid o h).dot.number.0 covered)
      | inr not_so ↦ not_from_false (covers t o.dot) not_so
    ]

empty_covers : (d : Dot) → 1 ≤ d.number → covers empty_clock d ≡ true → ⊥
empty_covers d some h =
    let within = leb-true d.number (through empty_clock d.author) h in
    let none : through empty_clock d.author ≡ 0 = ap (λ o. unwrap_or o 0) (finmap.get-empty nat_cmp d.author) in
    omega (arith, within, none, some)

-- a side that says that it has nothing
none_covers : (d : Dot) → 1 ≤ d.number → covers (sent_clock empty) d ≡ true → ⊥
none_covers d some h = let p = clock-has (listed empty) d some (sent_covers empty d h) in Has-empty p.0 (Has-listed empty p.0 p.1)

-- ---- a side that speaks first

abbrev SpeaksFirst : Role → Type 0
SpeaksFirst Client = Unit {0}
SpeaksFirst ClientOfAll = Unit {0}
SpeaksFirst Giver = Unit {0}
SpeaksFirst Server = ⊥

-- the clock by which it answers the other side's
abbrev answered : Role → Clock → Clock
answered Client t = t
answered ClientOfAll t = empty_clock
answered Giver t = t
answered Server t = t

begins : (role : Role) (held : Operations) → SpeaksFirst role → begun role held ≡ session AwaitsClock held (clock_frame (said role held))
begins Client held first = refl
begins ClientOfAll held first = ap (session AwaitsClock held) (sym none_said)
begins Giver held first = refl
begins Server held first = absurd first

hears : (role : Role) (held : Operations) (sent : Bytes) (t : Clock) → SpeaksFirst role → on_clock role (session AwaitsClock held sent) (Some t) ≡ session (AwaitsDeltas (answered role t)) held sent
hears Client held sent t first = refl
hears ClientOfAll held sent t first = refl
hears Giver held sent t first = refl
hears Server held sent t first = absurd first

answers_end : (role : Role) (held : Operations) (sent : Bytes) (t : Clock) → SpeaksFirst role → on_end role (session (AwaitsDeltas t) held sent) (AwaitsDeltas t) ≡ session AwaitsEnd held (sent ++ missing_frames held t)
answers_end Client held sent t first = refl
answers_end ClientOfAll held sent t first = refl
answers_end Giver held sent t first = refl
answers_end Server held sent t first = absurd first

said_valid : (role : Role) (held : Operations) → AreValid held → AreValid (said role held)
said_valid Client held valid = valid
said_valid ClientOfAll held valid = λ o h. absurd (Has-empty o h)
said_valid Giver held valid = valid
said_valid Server held valid = valid

union_valid : (s t : Operations) → AreValid s → AreValid t → AreValid (union s t)
union_valid s t sv tv o h = elim (Has-union s t o h) [ inl mine ↦ sv o mine | inr new ↦ tv o new ]

taken_valid : (role : Role) (held new : Operations) → AreValid held → AreValid new → AreValid (taken_in role held new)
taken_valid Client held new hv nv = union_valid held new hv nv
taken_valid ClientOfAll held new hv nv = union_valid held new hv nv
taken_valid Giver held new hv nv = hv
taken_valid Server held new hv nv = union_valid held new hv nv

-- ---- both sides

module _ (role : Role) (first : SpeaksFirst role) (client server : Operations) (client_valid : AreValid client) (server_valid : AreValid server) where
  -- what the client says that it has
  abbrev shown : Operations
  shown = said role client

  -- the clock by which the client answers
  abbrev asked : Clock
  asked = answered role (sent_clock server)

  -- what the client holds in the end
  abbrev both : Operations
  both = taken_in role client (beyond server (sent_clock shown))

  abbrev to_server : Bytes
  to_server = clock_frame shown ++ missing_frames both asked

  -- what the server sends before its last frame
  abbrev to_client : Bytes
  to_client = clock_frame server ++ missing_frames server (sent_clock shown)

  both_valid : AreValid both
  both_valid = taken_valid role client (beyond server (sent_clock shown)) client_valid (beyond_valid server (sent_clock shown) server_valid)

  server_greeted : (more : Bytes) → after Server server (clock_frame shown ++ more) ≡ received Server (session (AwaitsDeltas (sent_clock shown)) server to_client) more
  server_greeted more = clock_arrives Server server [] (entries_bytes (first_entries shown)) more (sent_clock shown) (clock_short shown) (clock_read shown (said_valid role client client_valid))

  client_greeted : (more : Bytes) → after role client (clock_frame server ++ more) ≡ received role (session (AwaitsDeltas asked) client (clock_frame shown)) more
  client_greeted more =
      ap (λ s. received role s (clock_frame server ++ more)) (begins role client first)
      ∙ clock_arrives role client (clock_frame shown) (entries_bytes (first_entries server)) more (sent_clock server) (clock_short server) (clock_read server server_valid)
      ∙ ap (λ s. received role s more) (hears role client (clock_frame shown) (sent_clock server) first)

  client_told : (more : Bytes) → after role client (to_client ++ more) ≡ received role (session AwaitsEnd both to_server) more
  client_told more =
      ap (after role client) (append_assoc (clock_frame server) (missing_frames server (sent_clock shown)) more)
      ∙ client_greeted (missing_frames server (sent_clock shown) ++ more)
      ∙ missing_arrive role asked (sent_clock shown) server client (clock_frame shown) more server_valid
      ∙ end_arrives role asked both (clock_frame shown) more
      ∙ ap (λ s. received role s more) (answers_end role both (clock_frame shown) asked first)

  pub client_done : after role client (to_client ++ end_frame) ≡ session IsDone both to_server
  client_done = client_told end_frame ∙ last_arrives role both to_server

  pub server_done : after Server server to_server ≡ session IsDone (union server (beyond both asked)) (to_client ++ end_frame)
  server_done =
      server_greeted (missing_frames both asked)
      ∙ ap (received Server (session (AwaitsDeltas (sent_clock shown)) server to_client)) (sym (append-nil (missing_frames both asked)))
      ∙ missing_arrive Server (sent_clock shown) asked both server to_client [] both_valid
      ∙ end_arrives Server (sent_clock shown) (union server (beyond both asked)) to_client []

  -- where each reads what the other sends, these are the bytes
  pub settled : (x y : Bytes) → x ≡ (after Server server y).sent → y ≡ (after role client x).sent → (x ≡ to_client ++ end_frame) × (y ≡ to_server)
  settled x y answers greets =
      let z : Bytes = (received role (session AwaitsClock client []) x).sent in
      let starts : y ≡ clock_frame shown ++ z = greets ∙ ap (λ (s : Session). (received role s x).sent) (begins role client first) ∙ sent_grows role AwaitsClock client (clock_frame shown) x in
      let m : Bytes = (received Server (session (AwaitsDeltas (sent_clock shown)) server []) z).sent in
      let told : x ≡ to_client ++ m =
      answers ∙ ap (λ w. (after Server server w).sent) starts ∙ ap (λ (s : Session). s.sent) (server_greeted z) ∙ sent_grows Server (AwaitsDeltas (sent_clock shown)) server to_client z in
      let whole : y ≡ to_server = greets ∙ ap (λ w. (after role client w).sent) told ∙ ap (λ (s : Session). s.sent) (client_told m) ∙ quiet role both to_server m in
      (answers ∙ ap (λ w. (after Server server w).sent) whole ∙ ap (λ (s : Session). s.sent) server_done, whole)

  client_ends : (bytes : Bytes) → bytes ≡ (after Server server (after role client bytes).sent).sent → after role client bytes ≡ session IsDone both to_server
  client_ends bytes is = ap (after role client) (settled bytes (after role client bytes).sent is refl).0 ∙ client_done

  server_ends : (bytes : Bytes) → bytes ≡ (after role client (after Server server bytes).sent).sent → after Server server bytes ≡ session IsDone (union server (beyond both asked)) (to_client ++ end_frame)
  server_ends bytes is = ap (after Server server) (settled (after Server server bytes).sent bytes refl is).1 ∙ server_done

  client_takes : (bytes : Bytes) → bytes ≡ (after Server server (after role client bytes).sent).sent → ((after role client bytes).phase ≡ IsDone) × ((after role client bytes).held ≡ both)
  client_takes bytes is = let s = client_ends bytes is in (ap (λ (t : Session). t.phase) s, ap (λ (t : Session). t.held) s)

  -- the server's bytes, where the client reads what it sends for these
  client_answers : to_client ++ end_frame ≡ (after Server server (after role client (to_client ++ end_frame)).sent).sent
  client_answers = sym (ap (λ (s : Session). (after Server server s.sent).sent) client_done ∙ ap (λ (s : Session). s.sent) server_done)

  server_answers : to_server ≡ (after role client (after Server server to_server).sent).sent
  server_answers = sym (ap (λ (s : Session). (after role client s.sent).sent) server_done ∙ ap (λ (s : Session). s.sent) client_done)

-- ---- the laws

pub each_takes_missing : EachTakesMissing
each_takes_missing server Client client bytes takes sv cv is = let t = client_takes Client tt client server cv sv bytes is in record { done = t.0; held_is = t.1 }
each_takes_missing server ClientOfAll client bytes takes sv cv is = let t = client_takes ClientOfAll tt client server cv sv bytes is in record { done = t.0; held_is = t.1 }
each_takes_missing server Giver client bytes takes sv cv is = absurd takes
each_takes_missing client Server server bytes takes cv sv is =
    let s = server_ends Client tt client server cv sv bytes is in
    record { done = ap (λ (t : Session). t.phase) s; held_is = ap (λ (t : Session). t.held) s ∙ sent_back server client (sent_clock server) (sent_clock client) }

pub each_holds_all : EachHoldsAll
each_holds_all others role held bytes takes ov hv single is = (each_takes_missing others role held bytes takes ov hv is).held_is ∙ all_said role held others ov single
  where
    all_said : (role : Role) (held others : Operations) → AreValid others → HasNoForks (union held others) → union held (beyond others (sent_clock (said role held))) ≡ union held others
    all_said Client held others ov single = all_held held others ov single
    all_said ClientOfAll held others ov single = ap (union held) (beyond_all others (sent_clock empty) ov none_covers)
    all_said Giver held others ov single = all_held held others ov single
    all_said Server held others ov single = all_held held others ov single

pub each_is_answered : EachIsAnswered
each_is_answered server Client client sv cv = (_, client_answers Client tt client server cv sv)
each_is_answered server ClientOfAll client sv cv = (_, client_answers ClientOfAll tt client server cv sv)
each_is_answered server Giver client sv cv = (_, client_answers Giver tt client server cv sv)
each_is_answered client Server server cv sv = (_, server_answers Client tt client server cv sv)

-- ---- where the client sends all

pub both_end_with_all : BothEndWithAll
both_end_with_all client server x y cv sv is =
    let bytes = settled ClientOfAll tt client server cv sv x y is.to_client_is is.to_server_is in
    let c : after ClientOfAll client x ≡ session IsDone (both ClientOfAll tt client server cv sv) (to_server ClientOfAll tt client server cv sv) = ap (after ClientOfAll client) bytes.0 ∙ client_done ClientOfAll tt client server cv sv in
    let s = ap (after Server server) bytes.1 ∙ server_done ClientOfAll tt client server cv sv in
    let union_is : both ClientOfAll tt client server cv sv ≡ union client server = ap (union client) (beyond_all server (sent_clock empty) sv none_covers) in (
      record { done = ap (λ (t : Session). t.phase) c; held_is = ap (λ (t : Session). t.held) c ∙ union_is },
      record {
        done = ap (λ (t : Session). t.phase) s;
        held_is = ap (λ (t : Session). t.held) s
            ∙ ap (union server) (beyond_all (both ClientOfAll tt client server cv sv) empty_clock (both_valid ClientOfAll tt client server cv sv) empty_covers ∙ union_is)
            ∙ joined_twice server client;
      },
    )
  where
    joined_twice : (s t : Operations) → union s (union t s) ≡ union t s
    joined_twice s t = same_set _ _ (λ o h. elim (Has-union s (union t s) o h) [ inl mine ↦ right t s o mine | inr all ↦ all ]) (λ o h. right s (union t s) o h)

pub all_is_exchanged : AllIsExchanged
all_is_exchanged client server cv sv = (
  to_client ClientOfAll tt client server cv sv ++ end_frame,
  to_server ClientOfAll tt client server cv sv,
  record {
    to_client_is = sym (ap (λ (s : Session). s.sent) (server_done ClientOfAll tt client server cv sv));
    to_server_is = sym (ap (λ (s : Session). s.sent) (client_done ClientOfAll tt client server cv sv));
  },
)

-- ---- where a side gives

pub server_takes_missing : ServerTakesMissing
server_takes_missing giver server x y gv sv is =
    let bytes = settled Giver tt giver server gv sv x y is.to_giver_is is.to_server_is in
    let g : after Giver giver x ≡ session IsDone giver (to_server Giver tt giver server gv sv) = ap (after Giver giver) bytes.0 ∙ client_done Giver tt giver server gv sv in
    let s = ap (after Server server) bytes.1 ∙ server_done Giver tt giver server gv sv in (
      record { done = ap (λ (t : Session). t.phase) g; held_is = ap (λ (t : Session). t.held) g },
      record { done = ap (λ (t : Session). t.phase) s; held_is = ap (λ (t : Session). t.held) s },
    )

pub server_ends_with_all : ServerEndsWithAll
server_ends_with_all giver server x y gv sv single is =
    let ends = (server_takes_missing giver server x y gv sv is).1 in
    let turned : union giver server ≡ union server giver = laws.union_comm op_cmp_total op_cmp_exact giver server in
    record { done = ends.done; held_is = ends.held_is ∙ all_held server giver gv (subst HasNoForks turned single) ∙ sym turned }

pub gift_is_exchanged : GiftIsExchanged
gift_is_exchanged giver server gv sv = (
  to_client Giver tt giver server gv sv ++ end_frame,
  to_server Giver tt giver server gv sv,
  record {
    to_giver_is = sym (ap (λ (s : Session). s.sent) (server_done Giver tt giver server gv sv));
    to_server_is = sym (ap (λ (s : Session). s.sent) (client_done Giver tt giver server gv sv));
  },
)
