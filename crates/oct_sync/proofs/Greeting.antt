-- The clock frame of valid operations is read as the clock that was sent.
use Rattle.std.proofs.Common.{◌≡◌, ℕ, zero, suc, ◌+◌, ◌<◌, ◌≤◌, Bool, true, false, cond, List, [], ◌∷◌, length, take, Some, None, refl, sym, ap, ◌∙◌, subst, arith}
use Rattle.std.specs.Prelude.{unwrap_or}
use Rattle.std.specs.FinMap as finmap
use Rattle.std.specs.FinMap.{find, is_sorted, nat_cmp-IsAntisymmetric}
use Rattle.std.specs.List.{All, AllByRecursion, list_all}
use Rattle.std.specs.Cmp.{nat_cmp_total, Equal-is, first_so, second_so}
use Rattle.std.specs.Ordering.{nat_cmp, is_eq, is_lt, eq_by_cmp}
use Rattle.std.specs.declared.cmp.Ordering.{Ordering}
use Rattle.std.specs.declared.cmp.Ordering.TheVariants.{Less, Equal, Greater}
use Rattle.std.proofs.lemmas.Cmp.{tied_itself}
use Rattle.std.proofs.lemmas.Bool.{leb-true, le-leb, and_from}
use Rattle.std.proofs.lemmas.List.{length-take}
use Rattle.std.proofs.lemmas.List.Elements.{All-from_recursion, All-take}
use Rattle.std.proofs.lemmas.Float.{T_from_true}
use Rattle.std.proofs.lemmas.Option.{none-some}
use Rattle.oct_code.specs.Tests.{true_from_T}
use Rattle.oct_delta.specs.Clocks.{IsClockText, entries_bytes, read_clock}
use Rattle.oct_delta.proofs.ClockTexts.{clock_is_read, entries_again}
use Rattle.oct_join.specs.Clock.{Clock, IsClock, IsEntry, covers, entries, through}
use Rattle.oct_join.specs.Entries.{Entries}
use Rattle.oct_ops.specs.Operation.{Dot}
use Rattle.oct_ops.specs.Operations.{Operations, empty, listed}
use Rattle.oct_ops.specs.OrderLaws.{op_cmp_exact, op_cmp_total}
use Rattle.oct_ops.specs.SetLaws as laws
use Rattle.oct_store.specs.Summary.{clock_of, positive, through as through_of}
use Rattle.oct_store.proofs.Greatest.{clock_of-is}
use Rattle.oct_store.proofs.Throughs.{is_through}
use Rattle.oct_record.specs.Valid.{AreValid}
use Rattle.oct_store.proofs.Authors.{has_dot_source}
use Rattle.oct_ops.proofs.Members.{Has-listed}
use Rattle.oct_sync.specs.Exchange.{sent_clock}
use Rattle.oct_sync.specs.Frames.{clock_tag, frame_bytes, max_frame}
use Rattle.oct_sync.specs.Session.{clock_frame, empty_clock_frame, max_authors}
use Rattle.oct_sync.proofs.Written.{length-entries_bytes}

-- ---- entries in order

all-take : {X : Type 0} (p : X → Bool) (n : ℕ) (xs : List X) → list_all p xs ≡ true → list_all p (take n xs) ≡ true
all-take p zero xs h = refl
all-take p (suc n) [] h = refl
all-take p (suc n) (x ∷ xs) h = and_from (p x) (list_all p (take n xs)) (first_so (p x) (list_all p xs) h) (all-take p n xs (second_so (p x) (list_all p xs) h))

abbrev above : ℕ → ℕ × ℕ → Bool
above author f = is_lt (nat_cmp author f.0)

sorted-take : (n : ℕ) (es : Entries) → is_sorted nat_cmp es ≡ true → is_sorted nat_cmp (take n es) ≡ true
sorted-take zero es h = refl
sorted-take (suc n) [] h = refl
sorted-take (suc n) (e ∷ es) h =
    and_from (list_all (above e.0) (take n es)) (is_sorted nat_cmp (take n es))
    (all-take (above e.0) n es (first_so (list_all (above e.0) es) (is_sorted nat_cmp es) h)) (sorted-take n es (second_so (list_all (above e.0) es) (is_sorted nat_cmp es) h))

sorted_entries : (t : Clock) → is_sorted nat_cmp (entries t) ≡ true
sorted_entries t = true_from_T _ (finmap.entries_sorted t)

-- the clock of entries in order has these entries
entries_of : (es : Entries) → is_sorted nat_cmp es ≡ true → entries (finmap.from_entries es) ≡ es
entries_of es sorted =
    let ordered = T_from_true _ sorted in
    let same : finmap.from_entries es ≡ finmap.from_sorted es = finmap.same_map nat_cmp_total nat_cmp-IsAntisymmetric _ _ (λ q. finmap.get-from_entries nat_cmp_total es q ∙ sym (finmap.get-from_sorted nat_cmp es q ordered)) in
    ap entries same ∙ finmap.entries-from_sorted nat_cmp es ordered

-- ---- what is found

apart : (o : Ordering) → is_lt o ≡ true → is_eq o ≡ false
apart Less h = refl
apart Equal h = cc
apart Greater h = refl

not_there : (author : ℕ) (es : Entries) → list_all (above author) es ≡ true → find nat_cmp author es ≡ None
not_there author [] h = refl
not_there author (e ∷ es) h =
    ap (λ b. cond b (Some e.1) (find nat_cmp author es)) (apart (nat_cmp author e.0) (first_so (above author e) (list_all (above author) es) h))
    ∙ not_there author es (second_so (above author e) (list_all (above author) es) h)

found_later : (author n : ℕ) (e : ℕ × ℕ) (es : Entries) → list_all (above e.0) es ≡ true → find nat_cmp author es ≡ Some n → find nat_cmp author (e ∷ es) ≡ Some n
found_later author n e es h there = elim (eq_by_cmp nat_cmp author e.0) as (λ b. eq_by_cmp nat_cmp author e.0 ≡ b → cond b (Some e.1) (find nat_cmp author es) ≡ Some n) [
  | true ↦ λ tied. absurd (none-some _ (sym (not_there e.0 es h) ∙ ap (λ a. find nat_cmp a es) (sym (nat_cmp-IsAntisymmetric author e.0 ((Equal-is (nat_cmp author e.0)).0 tied))) ∙ there))
  | false ↦ λ _. there
] refl

each_entry : (es : Entries) → is_sorted nat_cmp es ≡ true → ((author n : ℕ) → find nat_cmp author es ≡ Some n → IsEntry (author, n)) → AllByRecursion IsEntry es
each_entry [] sorted is = tt
each_entry (e ∷ es) sorted is =
    let below = first_so (list_all (above e.0) es) (is_sorted nat_cmp es) sorted in
    (is e.0 e.1 (ap (λ b. cond b (Some e.1) (find nat_cmp e.0 es)) (ap is_eq (tied_itself nat_cmp_total e.0))), each_entry es (second_so (list_all (above e.0) es) (is_sorted nat_cmp es) sorted) (λ author n there. is author n (found_later author n e es below there)))

-- ---- the clock of valid operations

positive_is : (n m : ℕ) → positive n ≡ Some m → (n ≡ m) × (1 ≤ n)
positive_is zero m e = absurd cc
positive_is (suc n) m e = (cc, omega arith)

entry_of : (held : Operations) → AreValid held → (author n : ℕ) → finmap.get (clock_of (listed held)) author ≡ Some n → IsEntry (author, n)
entry_of held valid author n there =
    let ops = listed held in
    let number = positive_is (through_of ops author) n (sym (clock_of-is ops author) ∙ there) in
    let dot : Dot = record { author = author; number = through_of ops author } in
    let source = has_dot_source ops dot ((is_through ops author).all (through_of ops author) number.1 (omega arith)) in
    let is = (valid source.0 (Has-listed held source.0 source.1)).dot in
    let a : source.0.dot.author ≡ author = ap (λ (d : Dot). d.author) source.2 in
    let m : source.0.dot.number ≡ n = ap (λ (d : Dot). d.number) source.2 ∙ number.0 in
    record { author = subst (λ k. (1 ≤ k) × (k < 4294967296)) a is.author; number = subst (λ k. (1 ≤ k) × (k < 4294967296)) m is.number }

pub clock_of-valid : (held : Operations) → AreValid held → IsClock (clock_of (listed held))
clock_of-valid held valid =
    let t = clock_of (listed held) in
    All-from_recursion IsEntry (entries t) (each_entry (entries t) (sorted_entries t) (λ author n there. entry_of held valid author n (finmap.get-entries t author ∙ there)))

-- ---- the clock that is sent

abbrev pub first_entries : Operations → Entries
first_entries held = take max_authors (entries (clock_of (listed held)))

sent_entries : (held : Operations) → entries (sent_clock held) ≡ first_entries held
sent_entries held = entries_of (first_entries held) (sorted-take max_authors (entries (clock_of (listed held))) (sorted_entries (clock_of (listed held))))

sent_text : (held : Operations) → AreValid held → IsClockText (entries_bytes (first_entries held)) (sent_clock held)
sent_text held valid = record {
  valid = subst (All IsEntry) (sym (sent_entries held)) (All-take IsEntry max_authors (entries (clock_of (listed held))) (clock_of-valid held valid));
  spelled = ap entries_bytes (sym (sent_entries held));
}

pub clock_read : (held : Operations) → AreValid held → read_clock (entries_bytes (first_entries held)) ≡ Some (sent_clock held)
clock_read held valid = clock_is_read (entries_bytes (first_entries held)) (sent_clock held) (entries_again (entries_bytes (first_entries held)) (sent_clock held) (sent_text held valid))

-- that of a side that says that it has nothing
pub none_said : clock_frame empty ≡ empty_clock_frame
none_said =
    ap (λ ops. frame_bytes clock_tag (entries_bytes (take max_authors (entries (clock_of ops))))) (laws.listed-empty op_cmp_total op_cmp_exact)
    ∙ ap (λ es. frame_bytes clock_tag (entries_bytes (take max_authors es))) (entries_of [] refl)

few_taken : (n : ℕ) (es : Entries) → length (take n es) ≤ n
few_taken n es = let size = length-take n es in omega (arith, size)

few_short : (es : Entries) → length es ≤ 65536 → 1 + length (entries_bytes es) ≤ 1048576
few_short es few = let size = length-entries_bytes es in omega (arith, size, few)

pub clock_short : (held : Operations) → 1 + length (entries_bytes (first_entries held)) ≤ max_frame
clock_short held = few_short (first_entries held) (few_taken max_authors (entries (clock_of (listed held))))

-- ---- it covers no more than the whole clock

find-take : (author : ℕ) (m : ℕ) (es : Entries) → unwrap_or (find nat_cmp author (take m es)) 0 ≤ unwrap_or (find nat_cmp author es) 0
find-take author zero es = omega arith
find-take author (suc m) [] = omega arith
find-take author (suc m) (e ∷ es) = elim (eq_by_cmp nat_cmp author e.0) as (λ b. unwrap_or (cond b (Some e.1) (find nat_cmp author (take m es))) 0 ≤ unwrap_or (cond b (Some e.1) (find nat_cmp author es)) 0) [
  | true ↦ omega arith
  | false ↦ find-take author m es
]

through_less : (held : Operations) (author : ℕ) → through (sent_clock held) author ≤ through (clock_of (listed held)) author
through_less held author =
    let t = clock_of (listed held) in
    let cut = ap (λ o. unwrap_or o 0) (finmap.get-from_entries nat_cmp_total (first_entries held) author) in
    let whole = ap (λ o. unwrap_or o 0) (finmap.get-entries t author) in
    let less = find-take author max_authors (entries t) in
    omega (arith, cut, whole, less)

pub sent_covers : (held : Operations) (d : Dot) → covers (sent_clock held) d ≡ true → covers (clock_of (listed held)) d ≡ true
sent_covers held d h =
    let within = leb-true d.number (through (sent_clock held) d.author) h in
    let less = through_less held d.author in
    le-leb d.number (through (clock_of (listed held)) d.author) (omega (arith, within, less))
