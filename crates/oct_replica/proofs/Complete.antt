-- The lines of a catalogue leave nothing out.
use Rattle.std.proofs.Common.{◌≡◌, ◌≢◌, ◌↔◌, ℕ, ◌+◌, ◌-◌, ◌*◌, ◌/◌, ◌<◌, ◌≤◌, Bool, true, false, leb, List, [], ◌∷◌, ◌++◌, map, length, take, drop, Option, Some, None, inl, inr, refl, sym, ap, ◌∙◌, subst, arith}
use Rattle.std.specs.Int.{div_ceil}
use Rattle.std.specs.List.{IsAmong, filter, flat_map, range_with_len}
use Rattle.std.specs.Ordering.{eq_by_cmp, is_eq}
use Rattle.std.specs.Cmp.{Equal-is, nat_cmp_total}
use Rattle.std.specs.FinMap.{nat_cmp-IsAntisymmetric}
use Rattle.std.proofs.lemmas.Bool.{false≢true, leb-false, le-leb, lt-leb, ltb-true, ltb-false}
use Rattle.std.proofs.lemmas.Cmp.{tied_itself}
use Rattle.std.proofs.lemmas.List.{append_assoc, length-take, length-drop}
use Rattle.std.proofs.lemmas.List.Sums.{length-filter}
use Rattle.std.proofs.Math.Dec.{ltb}
use Rattle.oct_code.specs.Code.{Code, code_eq}
use Rattle.oct_code.specs.CodeOrder.{code_cmp_total}
use Rattle.oct_mex.specs.NimValues.{nim_values}
use Rattle.oct_code.proofs.Members as members
use Rattle.oct_mex.proofs.NimValues.{nim_values-length}
use Rattle.oct_ops.specs.Body as kind
use Rattle.oct_ops.specs.Body.{Operation}
use Rattle.oct_ops.specs.DotOrder.{dot_cmp}
use Rattle.oct_ops.specs.Operation.{Dot, Block, Period}
use Rattle.oct_ops.specs.Operations.{Operations, contains, listed}
use Rattle.oct_ops.specs.OrderLaws.{dot_cmp_total, dot_cmp_exact}
use Rattle.oct_store.specs.Summary as summary
use Rattle.oct_store.proofs.Greatest.{is_last}
use Rattle.oct_store.proofs.Throughs.{is_through}
use Rattle.oct_notes.specs.Notes.{live_notes}
use Rattle.oct_notes.proofs.Unremoved.{unremoved_is_live}
use Rattle.oct_verify.specs.Known.{first_wrong, known, verdict, verdict_at}
use Rattle.oct_verify.specs.declared.status.Status.TheVariants as of_block
use Rattle.oct_verify.proofs.KnownLaws.{known_is}
use Rattle.oct_period.specs.FarBlocks.{block_status, has_proved}
use Rattle.oct_period.specs.Periods.{first_break, is_proved, needs, period_status, status_at}
use Rattle.oct_period.specs.declared.status.PeriodStatus.{PeriodStatus}
use Rattle.oct_period.specs.declared.status.PeriodStatus.TheVariants as of_claim
use Rattle.oct_period.proofs.FarLaws.{far_settled, far_waits, near_settled}
use Rattle.oct_period.proofs.FirstBreaks.{is_proof}
use Rattle.oct_period.proofs.Statuses.{enough_seen, unbroken, unbroken-seen}
use Rattle.oct_pages.specs.Catalogue.{Text, author_line, block_line, blocks_of, claim_in, claims_of, block_in, ending, fork_line, game_lines, game_text, games, heading, if_some, lines, note_line, period_line, under, values_line, values_lines, values_per_line}
use Rattle.oct_replica.specs.Complete.{AuthorsAreShown, BlocksAreShown, ClaimsAreShown, ForksAreShown, GamesAreShown, HasLine, IsOpenBy, IsOutOfReach, IsProvedBy, IsUnbroken, NotesAreShown, ShowsValue}
use Rattle.oct_replica.specs.Settled.{blocks_in, claims_in}
use Rattle.oct_replica.specs.Shown.{Has}
use Rattle.oct_pages.proofs.InGames.{In-arranged, In-filter_map, In-filter_map_source, In-games}
use Rattle.oct_ops.proofs.Members.{In, among-In, In-filter, In-filter_source, In-listed, In-map, Has-listed, any-In, any_source}
use Rattle.oct_replica.proofs.Settled.{In-contains}
use Rattle.oct_replica.proofs.Shown.{block_so, claim_of_op, claim_so, values_row}

of_its_code : (c : Code) → code_eq c c ≡ true
of_its_code c = ap is_eq (tied_itself code_cmp_total c)

-- ---- what the lines of a game show

module _ (ops : Operations) (c : Code) where
  abbrev all_known : ℕ
  all_known = known (blocks_in c ops)

  abbrev first : List Text
  first = game_text c all_known ∷ values_lines (nim_values c all_known)

  abbrev blocks : List Text
  blocks = map (block_line (blocks_in c ops) (claims_in c ops)) (blocks_of c (listed ops))

  abbrev claims : List Text
  claims = map (period_line (blocks_in c ops)) (claims_of c (listed ops))

  first_has : (line : Text) → In line first → HasLine ops c line
  first_has line h = among-In (game_lines (listed ops) c) line (members.In-append_left line (first ++ blocks) claims (members.In-append_left line first blocks h))

  block_has : (b : Dot × Block) → In b (blocks_of c (listed ops)) → HasLine ops c (block_line (blocks_in c ops) (claims_in c ops) b)
  block_has b h =
      let line = block_line (blocks_in c ops) (claims_in c ops) b in
      among-In (game_lines (listed ops) c) line (members.In-append_left line (first ++ blocks) claims (members.In-append_right line first blocks (In-map (block_line (blocks_in c ops) (claims_in c ops)) b (blocks_of c (listed ops)) h)))

  claim_has : (p : Dot × Period) → In p (claims_of c (listed ops)) → HasLine ops c (period_line (blocks_in c ops) p)
  claim_has p h =
      let line = period_line (blocks_in c ops) p in
      among-In (game_lines (listed ops) c) line (members.In-append_right line (first ++ blocks) claims (In-map (period_line (blocks_in c ops)) p (claims_of c (listed ops)) h))

  value_shown : (n : ℕ) → n < all_known → ShowsValue ops c n
  value_shown n lt =
      let all = nim_values c all_known in
      let i = n / values_per_line in
      let whole = nim_values-length c all_known in
      let row = length-take values_per_line (drop (values_per_line * i) all) in
      let rest = length-drop (values_per_line * i) all in
      record {
        first = values_per_line * i;
        values = take values_per_line (drop (values_per_line * i) all);
        from = omega arith;
        to = omega (arith, lt, row, rest, whole);
        are = values_row c all_known i;
        shown = first_has (values_line all i) (inr (In-map (values_line all) i (range_with_len 0 (div_ceil (length all) values_per_line)) (members.In-range i 0 (div_ceil (length all) values_per_line) (omega arith) (omega (arith, lt, whole)))));
      }

-- ---- where the lines of a game stand

parted : {X Y : Type 0} (f : X → List Y) (x : X) (xs : List X) → In x xs → (before : List Y) × (after : List Y) × (flat_map f xs ≡ before ++ f x ++ after)
parted f x [] h = absurd h
parted f x (y ∷ ys) h = elim h [
  | inl e ↦ ([], flat_map f ys, ap (λ z. f z ++ flat_map f ys) (sym e))
  | inr t ↦
      let s = parted f x ys t in
      (f y ++ s.0, s.1, ap (λ zs. f y ++ zs) (s.2 ∙ append_assoc s.0 (f x) s.1) ∙ sym (append_assoc (f y ++ s.0) (f x) s.1 ∙ append_assoc (f y) s.0 (f x ++ s.1)))
]

module _ (ops : Operations) where
  abbrev of_games : List Text
  of_games = heading ∷ flat_map (game_lines (listed ops)) (games (listed ops))

  abbrev of_notes : List Text
  of_notes = map note_line (live_notes (listed ops))

  abbrev of_forks : List Text
  of_forks = map (fork_line (listed ops)) (summary.forks (listed ops))

  abbrev of_authors : List Text
  of_authors = map (author_line (listed ops)) (summary.authors (listed ops))

  abbrev others : List Text
  others = of_notes ++ (of_forks ++ (of_authors ++ ending ∷ []))

  games_first : lines (listed ops) ≡ of_games ++ others
  games_first =
      append_assoc (of_games ++ of_notes ++ of_forks) of_authors (ending ∷ []) ∙ append_assoc (of_games ++ of_notes) of_forks (of_authors ++ ending ∷ []) ∙ append_assoc of_games of_notes (of_forks ++ (of_authors ++ ending ∷ []))

  note_in : (line : Text) → In line of_notes → IsAmong (lines (listed ops)) line
  note_in line h =
      among-In (lines (listed ops)) line
      (members.In-append_left line (of_games ++ of_notes ++ of_forks ++ of_authors) (ending ∷ [])
      (members.In-append_left line (of_games ++ of_notes ++ of_forks) of_authors (members.In-append_left line (of_games ++ of_notes) of_forks (members.In-append_right line of_games of_notes h))))

  fork_in : (line : Text) → In line of_forks → IsAmong (lines (listed ops)) line
  fork_in line h =
      among-In (lines (listed ops)) line
      (members.In-append_left line (of_games ++ of_notes ++ of_forks ++ of_authors) (ending ∷ [])
      (members.In-append_left line (of_games ++ of_notes ++ of_forks) of_authors (members.In-append_right line (of_games ++ of_notes) of_forks h)))

  author_in : (line : Text) → In line of_authors → IsAmong (lines (listed ops)) line
  author_in line h =
      among-In (lines (listed ops)) line
      (members.In-append_left line (of_games ++ of_notes ++ of_forks ++ of_authors) (ending ∷ []) (members.In-append_right line (of_games ++ of_notes ++ of_forks) of_authors h))

pub games_are_shown : GamesAreShown
games_are_shown ops o c held game =
    let part = parted (game_lines (listed ops)) c (games (listed ops)) (In-games c (listed ops) o (In-listed ops o held) game) in
    let front = (heading ∷ part.0) ++ game_lines (listed ops) c in
    record {
      before = heading ∷ part.0;
      after = part.1 ++ others ops;
      together = games_first ops ∙ ap (λ xs. (heading ∷ xs) ++ others ops) part.2 ∙ append_assoc front part.1 (others ops);
      known = all_known ops c;
      is_known = known_is (blocks_in c ops);
      shown = first_has ops c (game_text c (all_known ops c)) (inl refl);
      values = value_shown ops c;
    }

-- ---- claims

unbroken_by : (k : ℕ) (p : Period) → first_break p.code p.period (k - (p.start + p.period)) p.start ≡ None → IsUnbroken k p
unbroken_by k p none n low high = unbroken-seen p.code p.period (k - (p.start + p.period)) p.start none n low (omega (arith, low, high))

none_breaks : (k : ℕ) (p : Period) → IsUnbroken k p → first_break p.code p.period (k - (p.start + p.period)) p.start ≡ None
none_breaks k p whole = unbroken p.code p.period (k - (p.start + p.period)) p.start (λ n low high. whole n low (omega (arith, low, high)))

proved_by : (blocks : List Block) (p : Period) → period_status blocks p ≡ of_claim.Proved ↔ IsProvedBy (known blocks) p
proved_by blocks p = (
  λ is. let seen = enough_seen (known blocks) p (first_break p.code p.period (known blocks - (p.start + p.period)) p.start) is in (seen.1, unbroken_by (known blocks) p seen.0),
  λ by. is_proof blocks p (known blocks) refl (sym (none_breaks (known blocks) p by.1)) by.0,
)

too_few : (k : ℕ) (p : Period) (x : Option ℕ) (n : ℕ) → status_at k p x ≡ of_claim.Pending n → (x ≡ None) × (k < needs p)
too_few k p (Some at) n h = cc
too_few k p None n h = elim (leb (needs p) k) as (λ t. leb (needs p) k ≡ t → ◌≡◌ {A = PeriodStatus} (elim t [ true ↦ of_claim.Proved | false ↦ of_claim.Pending (needs p) ]) (of_claim.Pending n) → ◌≡◌ {A = Option ℕ} None None × (k < needs p)) [
  | true ↦ λ _ is. cc
  | false ↦ λ e _. (refl, leb-false (needs p) k e)
] refl h

open_by : (blocks : List Block) (p : Period) → period_status blocks p ≡ of_claim.Pending (needs p) ↔ IsOpenBy (known blocks) p
open_by blocks p = (
  λ is. let few = too_few (known blocks) p (first_break p.code p.period (known blocks - (p.start + p.period)) p.start) (needs p) is in (few.1, unbroken_by (known blocks) p few.0),
  λ by. ap (status_at (known blocks) p) (none_breaks (known blocks) p by.1) ∙ ap (λ t. elim t [ true ↦ of_claim.Proved | false ↦ of_claim.Pending (needs p) ]) (lt-leb (needs p) (known blocks) by.0),
)

claim_here : (ops : Operations) (c : Code) (d : Dot) (p : Period) → Has ops d (kind.Period p) → p.code ≡ c → In (d, p) (claims_of c (listed ops))
claim_here ops c d p held same =
    let o : Operation = record { dot = d; body = kind.Period p } in
    In-filter_map (claim_in c) (listed ops) o (d, p) (In-listed ops o held) (ap (λ t. under d (if_some t p)) (subst (λ x. code_eq p.code x ≡ true) same (of_its_code p.code)))

pub claims_are_shown : ClaimsAreShown
claims_are_shown ops d p valid held =
    let blocks = blocks_in p.code ops in
    let there = claim_here ops p.code d p held refl in
    let o : Operation = record { dot = d; body = kind.Period p } in
    record {
      known = known blocks;
      is_known = known_is blocks;
      status = period_status blocks p;
      so = claim_so ops p.code p (period_status blocks p) (valid o held).body refl;
      proved = proved_by blocks p;
      pending = open_by blocks p;
      shown = claim_has ops p.code (d, p) there;
    }

-- ---- blocks

settled : (b : Block) → verdict b ≢ of_block.Pending
settled b = by (first_wrong b.code b.start b.values)
  where
    by : (wrong : Option ℕ) → verdict_at b wrong ≡ of_block.Pending → ⊥
    by None e = cc
    by (Some n) e = cc

proved_when : (s : PeriodStatus) → is_proved s ≡ true → s ≡ of_claim.Proved
proved_when of_claim.Proved h = refl
proved_when (of_claim.Refuted n) h = cc
proved_when (of_claim.Pending n) h = cc

module _ (ops : Operations) (b : Block) where
  abbrev near : List Block
  near = blocks_in b.code ops

  abbrev far : List Period
  far = claims_in b.code ops

  abbrev proves : Period → Bool
  proves p = is_proved (period_status near p)

  none_proved : has_proved near far ≡ false → (d : Dot) (p : Period) → Has ops d (kind.Period p) → p.code ≡ b.code → ¬ IsProvedBy (known near) p
  none_proved none d p held same by =
      let there = In-map (λ (q : Dot × Period). q.1) (d, p) (claims_of b.code (listed ops)) (claim_here ops b.code d p held same) in
      false≢true (sym none ∙ any-In proves far p there (ap is_proved ((proved_by near p).1 by)))

  proved_one : has_proved near far ≡ true → (d : Dot) × (p : Period) × Has ops d (kind.Period p) × (p.code ≡ b.code) × IsProvedBy (known near) p
  proved_one some =
      let claim = any_source proves far some in
      let pair = members.In-map_source (λ (q : Dot × Period). q.1) claim.0 (claims_of b.code (listed ops)) claim.1 in
      let op = In-filter_map_source (claim_in b.code) (listed ops) pair.0 pair.1 in
      let from = claim_of_op b.code op.0.dot op.0.body pair.0 op.2 in (
        pair.0.0,
        pair.0.1,
        subst (λ o. contains ops o ≡ true) from.whole (Has-listed ops op.0 op.1),
        from.game,
        subst (IsProvedBy (known near)) pair.2 ((proved_by near claim.0).0 (proved_when (period_status near claim.0) claim.2)),
      )

  waits : block_status near far b ≡ of_block.Pending → IsOutOfReach ops (known near) b
  waits is = record {
    beyond = elim (ltb (known near) b.start) as (λ t. ltb (known near) b.start ≡ t → known near < b.start) [
      | true ↦ λ e. ltb-true (known near) b.start e
      | false ↦ λ e. absurd (settled b (sym (near_settled near far b (ltb-false (known near) b.start e)) ∙ is))
    ] refl;
    unproved = elim (has_proved near far) as (λ t. has_proved near far ≡ t → (d : Dot) (p : Period) → Has ops d (kind.Period p) → p.code ≡ b.code → ¬ IsProvedBy (known near) p) [
      | true ↦ λ e. absurd (settled b (sym (far_settled near far b e) ∙ is))
      | false ↦ λ e. none_proved e
    ] refl;
  }

  reached : IsOutOfReach ops (known near) b → block_status near far b ≡ of_block.Pending
  reached out = far_waits near far b out.beyond (elim (has_proved near far) as (λ t. has_proved near far ≡ t → t ≡ false) [
    | true ↦ λ e. let one = proved_one e in absurd (out.unproved one.0 one.1 one.2 one.3 one.4)
    | false ↦ λ _. refl
  ] refl)

pub blocks_are_shown : BlocksAreShown
blocks_are_shown ops d b held =
    let o : Operation = record { dot = d; body = kind.Block b } in
    record {
      known = known (near ops b);
      is_known = known_is (near ops b);
      status = block_status (near ops b) (far ops b) b;
      so = block_so ops b.code b (block_status (near ops b) (far ops b) b) refl;
      pending = (waits ops b, reached ops b);
      shown = block_has ops b.code (d, b) (In-filter_map (block_in b.code) (listed ops) o (d, b) (In-listed ops o held) (ap (λ t. under d (if_some t b)) (of_its_code b.code)));
    }

-- ---- the other lines

pub notes_are_shown : NotesAreShown
notes_are_shown ops d n live =
    let o : Operation = record { dot = d; body = kind.Note n } in
    note_in ops (note_line o) (In-map note_line o (live_notes (listed ops)) (In-contains (live_notes (listed ops)) o (unremoved_is_live ops o live)))

one_of : {X : Type 0} (p : X → Bool) (xs ys : List X) → filter p xs ≡ ys → 1 ≤ length ys → (x : X) × In x xs × (p x ≡ true)
one_of p xs [] e some = absurd (omega (arith, some))
one_of p xs (y ∷ ys) e some = let found = In-filter_source p y xs (subst (In y) (sym e) (inl refl)) in (y, found.0, found.1)

pub forks_are_shown : ForksAreShown
forks_are_shown ops d several =
    let has = λ (o : Operation). eq_by_cmp dot_cmp o.dot d in
    let one = one_of has (listed ops) (filter has (listed ops)) refl (omega (arith, several, length-filter has (listed ops))) in
    let same : one.0.dot ≡ d = dot_cmp_exact one.0.dot d ((Equal-is (dot_cmp one.0.dot d)).0 one.2) in
    let dot = subst (λ x. In x (summary.dots (listed ops))) same (In-map (λ (o : Operation). o.dot) one.0 (listed ops) one.1) in
    let fork = In-filter (λ x. leb 2 (summary.contents (listed ops) x)) d _ (In-arranged dot_cmp_total dot_cmp_exact (summary.dots (listed ops)) d dot) (le-leb 2 (summary.contents (listed ops) d) several) in
    fork_in ops (fork_line (listed ops) d) (In-map (fork_line (listed ops)) d (summary.forks (listed ops)) fork)

pub authors_are_shown : AuthorsAreShown
authors_are_shown ops o held =
    let author = o.dot.author in
    let there = In-arranged nat_cmp_total nat_cmp-IsAntisymmetric (map (λ (x : Operation). x.dot.author) (listed ops)) author (In-map (λ (x : Operation). x.dot.author) o (listed ops) (In-listed ops o held)) in
    record {
      through = summary.through (listed ops) author;
      last = summary.last (listed ops) author;
      is_through = is_through (listed ops) author;
      is_last = is_last (listed ops) author;
      shown = author_in ops (author_line (listed ops) author) (In-map (author_line (listed ops)) author (summary.authors (listed ops)) there);
    }
