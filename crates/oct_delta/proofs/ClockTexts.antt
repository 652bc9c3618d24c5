-- Clocks are read as they are written.
use Rattle.std.proofs.Common.{◌≡◌, ◌↔◌, ℕ, ◌+◌, ◌^◌, ◌<◌, ◌≤◌, max, true, false, cond, ◌&&◌, ◌==◌, eqb, leb, List, [], ◌∷◌, ◌++◌, length, Option, Some, None, Result, Ok, Err, refl, sym, ap, subst, ◌∙◌, arith, leb-true, le-leb}
use Rattle.std.specs.Int.{w32}
use Rattle.std.specs.List.{list_all, flat_map, AllByRecursion}
use Rattle.std.specs.Prelude.{IfOk, IfErr, unwrap_or}
use Rattle.std.specs.Option.{option_map}
use Rattle.std.specs.declared.cmp.Ordering.{Ordering}
use Rattle.std.specs.declared.cmp.Ordering.TheVariants.{Equal, Greater}
use Rattle.std.specs.Ordering.{nat_cmp, ordering_then, is_lt, is_eq}
use Rattle.std.specs.Cmp.{IsTotalOrder, nat_cmp_total, on_total, first_so, second_so}
use Rattle.std.specs.Cmp.Lexicographic.{slice_cmp}
use Rattle.std.specs.FinMap as map
use Rattle.std.specs.FinMap.{nat_cmp-IsAntisymmetric}
use Rattle.std.specs.FinMap.Entries.{find, put, by_order, is_sorted}
use Rattle.std.proofs.lemmas.Cmp.{ranked, by_ranked}
use Rattle.std.proofs.lemmas.List.{append-nil, nil_from_length}
use Rattle.std.proofs.lemmas.List.Elements.{All-from_recursion, recursion_from_All}
use Rattle.std.proofs.lemmas.Bool.Decides.{nat_tests}
use Rattle.std.proofs.lemmas.Bool.{and_from, and_parts}
use Rattle.std.proofs.lemmas.Float.{T_from_true}
use Rattle.oct_code.specs.Tests.{true_from_T}
use Rattle.oct_join.specs.Clock.{Clock, IsEntry, IsClock, entries, through, raised}
use Rattle.oct_join.specs.Entries.{Entries, AreOfClock}
use Rattle.oct_ops.specs.Sets.{rises}
use Rattle.oct_ops.specs.OrderLaws.{then_equal}
use Rattle.oct_delta.specs.declared.fault.TextFault.{TextFault}
use Rattle.oct_delta.specs.declared.fault.ReadError.{ReadError}
use Rattle.oct_delta.specs.declared.fault.ReadError.TheVariants.{Memory, Fault as Unread}
use Rattle.oct_delta.specs.Bytes.{IsBytes}
use Rattle.oct_delta.specs.Text.{Bytes, u32}
use Rattle.oct_delta.specs.Reading.{◌>>=◌, Read, GivesIfRoom, checked, follows, skipped, with_front, number_at, next_at, chain_at}
use Rattle.oct_delta.specs.Decoding.{all_of}
use Rattle.oct_delta.specs.Clocks.{entry_bytes, entries_bytes, IsClockText, author_cmp, entry_at, entries_at, read_clock}
use Rattle.oct_delta.proofs.Codecs.{Codec, Chained, number_codec, wide32, then_codec, checked_codec, same_codec, bind_ok, ok_is, done, skipped_ok}
use Rattle.oct_delta.proofs.Chains.{IsNext, items_codec, each_from_chain, rises_from_chain, chain_from_rising}
use Rattle.oct_delta.proofs.Deltas.{all_is}

abbrev entry_cmp : ℕ × ℕ → ℕ × ℕ → Ordering
entry_cmp a b = ordering_then (nat_cmp a.0 b.0) (nat_cmp a.1 b.1)

entry_from_test : (e : ℕ × ℕ) → e.0 < 2 ^ 32 → e.1 < 2 ^ 32 → (leb 1 e.0 && leb 1 e.1) ≡ true → IsEntry e
entry_from_test e a n h =
    let both = and_parts (leb 1 e.0) (leb 1 e.1) h in
    record { author = (leb-true _ _ both.0, a); number = (leb-true _ _ both.1, n) }

entry_codec : Codec entry_at entry_bytes entry_cmp IsEntry
unfolding entry_at
entry_codec =
    let made : ℕ → ℕ → ℕ × ℕ = λ author through. (author, through) in
    same_codec entry_bytes entry_cmp IsEntry
    (then_codec (λ author bytes. number_at w32 bytes >>= λ through. checked (leb 1 author && leb 1 through.0) (made author through.0) through.1) (λ e. e.0) (number_codec wide32)
    (λ author. then_codec (λ through bytes. checked (leb 1 author && leb 1 through) (made author through) bytes) (λ e. e.1) (number_codec wide32)
    (λ through. checked_codec (leb 1 author && leb 1 through) (made author through))
    (λ through e g. ap (λ (x : ℕ × ℕ). x.1) g.0))
    (λ author e g. ap (λ (x : ℕ × ℕ). x.0) g.1.0))
    (λ e. ap (λ (z : Bytes). u32 e.0 ++ z) (append-nil (u32 e.1)))
    (λ a b. ap (ordering_then (nat_cmp a.0 b.0)) (then_equal (nat_cmp a.1 b.1)))
    (λ e g. entry_from_test e g.0 g.1.0 g.1.1.1)
    (λ e h. (h.author.1, (h.number.1, (refl, and_from _ _ (le-leb _ _ h.author.0) (le-leb _ _ h.number.0)))))

abbrev IsNextEntry : Option (ℕ × ℕ) → ℕ × ℕ → Type 0
IsNextEntry = IsNext author_cmp IsEntry

chain_codec_of : (n : ℕ) → Codec (chain_at (next_at author_cmp entry_at) None n) (flat_map entry_bytes) (slice_cmp entry_cmp) (λ es. (length es ≡ n) × Chained IsNextEntry None es)
chain_codec_of n = items_codec author_cmp entry_codec None n

-- ---- what rises by author

author_total : IsTotalOrder author_cmp
author_total = on_total (λ (e : ℕ × ℕ). e.0) nat_cmp_total

sorted_is : (es : Entries) → is_sorted nat_cmp es ≡ rises author_cmp es
sorted_is [] = refl
sorted_is (e ∷ es) = ap (λ b. list_all (λ f. is_lt (nat_cmp e.0 f.0)) es && b) (sorted_is es)

pub entries_rise : (t : Clock) → rises author_cmp (entries t) ≡ true
entries_rise t = sym (sorted_is (entries t)) ∙ true_from_T _ (map.entries_sorted t)

is_less : (x y : ℕ) → is_lt (nat_cmp x y) ≡ true → x < y
is_less x y h = by_ranked _ _ _ (nat_cmp x y) (ranked x y (nat_cmp x y) refl) (λ _ lt. lt) (λ e _. absurd (not_less Equal (sym (ap is_lt e) ∙ h) refl)) (λ e _. absurd (not_less Greater (sym (ap is_lt e) ∙ h) refl))
  where
    not_less : (o : Ordering) → is_lt o ≡ true → is_lt o ≡ false → ⊥
    not_less o p q = cc

-- authors above a bound are fewer than the numbers above it
few_above : (bound : ℕ) (es : Entries) → bound < 2 ^ 32 → AllByRecursion IsEntry es → AllByRecursion (λ e. bound < e.0) es → rises author_cmp es ≡ true → length es + bound < 2 ^ 32
few_above bound [] low valid above r = omega (arith, low)
few_above bound (e ∷ es) low valid above r =
    let rest = few_above e.0 es valid.0.author.1 valid.1 (each_above es (first_so _ _ r)) (second_so (list_all (λ f. is_lt (nat_cmp e.0 f.0)) es) _ r) in
    let first : bound < e.0 = above.0 in
    omega (arith, rest, first)
  where
    each_above : (fs : Entries) → list_all (λ f. is_lt (nat_cmp e.0 f.0)) fs ≡ true → AllByRecursion (λ f. e.0 < f.0) fs
    each_above [] h = tt
    each_above (f ∷ fs) h = (is_less e.0 f.0 (first_so _ _ h), each_above fs (second_so (is_lt (nat_cmp e.0 f.0)) _ h))

positive : (es : Entries) → AllByRecursion IsEntry es → AllByRecursion (λ e. 0 < e.0) es
positive [] h = tt
positive (e ∷ es) h = (h.0.author.0, positive es h.1)

-- so the length of a clock is a u32
pub few_of_clock : (es : Entries) → AreOfClock es → length es < 2 ^ 32
few_of_clock es of_clock =
    let each = recursion_from_All IsEntry es of_clock.valid in
    let rise : rises author_cmp es ≡ true = sym (sorted_is es) ∙ true_from_T _ of_clock.sorted in
    omega (arith, few_above 0 es (omega arith) each (positive es each) rise)

few_entries : (t : Clock) → IsClock t → length (entries t) < 2 ^ 32
few_entries t valid = few_of_clock (entries t) (record { sorted = map.entries_sorted t; valid = valid })

-- ---- reading

pub entries_again : (bytes : Bytes) (t : Clock) → IsClockText bytes t → entries_at bytes ≡ Ok (entries t, [])
entries_again bytes t is =
    let es = entries t in
    let chain : Chained IsNextEntry None es = chain_from_rising author_cmp IsEntry es (recursion_from_All IsEntry es is.valid) (entries_rise t) in
    ap entries_at is.spelled
    ∙ ap (λ (r : Read ℕ). r >>= λ count. chain_at (next_at author_cmp entry_at) None count.0 count.1) ((number_codec wide32).again (length es) (flat_map entry_bytes es) (few_entries t is.valid))
    ∙ ap (chain_at (next_at author_cmp entry_at) None (length es)) (sym (append-nil (flat_map entry_bytes es)))
    ∙ (chain_codec_of (length es)).again es [] (refl, chain)

-- what was read is a clock's list
record AreRead (bytes : Bytes) (es : Entries) : Type 0 where
  valid : AllByRecursion IsEntry es
  rise : rises author_cmp es ≡ true
  spelled : bytes ≡ entries_bytes es

read_entries : (bytes : Bytes) (es : Entries) → IsBytes bytes → entries_at bytes ≡ Ok (es, []) → AreRead bytes es
read_entries bytes es fits read =
    let count = bind_ok (number_at w32 bytes) (λ count. chain_at (next_at author_cmp entry_at) None count.0 count.1) (es, []) read in
    let t = (number_codec wide32).takes bytes count.0 fits count.1 in
    let u = (chain_codec_of count.0.0).takes count.0.1 (es, []) t.0.rest_fits count.2 in
    record {
      valid = each_from_chain author_cmp IsEntry None es u.1.1;
      rise = rises_from_chain author_cmp IsEntry author_total None es u.1.1;
      spelled = t.0.parts ∙ ap (λ (z : Bytes). u32 count.0.0 ++ z) (u.0.parts ∙ append-nil (flat_map entry_bytes es)) ∙ ap (λ (k : ℕ). u32 k ++ flat_map entry_bytes es) (sym u.1.0);
    }

pub text_of_entries : (bytes : Bytes) (t : Clock) → IsBytes bytes → entries_at bytes ≡ Ok (entries t, []) → IsClockText bytes t
text_of_entries bytes t fits read =
    let is = read_entries bytes (entries t) fits read in
    record { valid = All-from_recursion IsEntry (entries t) is.valid; spelled = is.spelled }

from_its_entries : (t : Clock) → map.from_entries (entries t) ≡ t
from_its_entries t = map.same_map nat_cmp_total nat_cmp-IsAntisymmetric _ _ (λ q. map.get-from_entries nat_cmp_total (entries t) q ∙ sym (map.get-entries t q))

sorted_entries : (bytes : Bytes) (es : Entries) → AreRead bytes es → entries (map.from_sorted es) ≡ es
sorted_entries bytes es is = map.entries-from_sorted nat_cmp es (T_from_true _ (sorted_is es ∙ is.rise))

-- bytes that are read to the end are a clock's text
pub some_clock : (bytes : Bytes) (es : Entries) → IsBytes bytes → entries_at bytes ≡ Ok (es, []) → (t : Clock) × IsClockText bytes t × (entries t ≡ es)
some_clock bytes es fits read =
    let is = read_entries bytes es fits read in
    let same = sorted_entries bytes es is in
    (map.from_sorted es, text_of_entries bytes (map.from_sorted es) fits (read ∙ ap (λ (z : Entries). let w : Entries × Bytes = (z, []) in Ok w) (sym same)), same)

pub clock_is_read : (bytes : Bytes) (t : Clock) → entries_at bytes ≡ Ok (entries t, []) → read_clock bytes ≡ Some t
clock_is_read bytes t read = ap (λ (r : Read Entries). option_map map.from_entries (all_of r)) read ∙ ap Some (from_its_entries t)

pub no_clock : (bytes : Bytes) → all_of (entries_at bytes) ≡ None → (t : Clock) → IsClockText bytes t → ⊥
no_clock bytes none t is = absurd (cc (none, ap all_of (entries_again bytes t is)))

pub reads_clock : (bytes : Bytes) (t : Clock) → IsBytes bytes → (read_clock bytes ≡ Some t) ↔ IsClockText bytes t
reads_clock bytes t fits = (λ h. by (all_of (entries_at bytes)) refl h, λ is. clock_is_read bytes t (entries_again bytes t is))
  where
    by : (r : Option Entries) → all_of (entries_at bytes) ≡ r → option_map map.from_entries r ≡ Some t → IsClockText bytes t
    by None e h = absurd cc
    by (Some es) e h =
        let found = some_clock bytes es fits (all_is (entries_at bytes) es e) in
        let same : found.0 ≡ t = sym (from_its_entries found.0) ∙ ap map.from_entries found.2 ∙ (let s : map.from_entries es ≡ t = cc in s) in
        subst (IsClockText bytes) same found.1

-- ---- the check, and the building

pub checked_entries : (bytes rest : Bytes) (n : ℕ) → number_at w32 bytes ≡ Ok (n, rest) → skipped (chain_at (next_at author_cmp entry_at) None n rest) ≡ Ok [] → (es : Entries) × (entries_at bytes ≡ Ok (es, []))
checked_entries bytes rest n count read =
    let found = skipped_ok (chain_at (next_at author_cmp entry_at) None n rest) [] read in
    (found.0, ap (λ (r : Read ℕ). r >>= λ count. chain_at (next_at author_cmp entry_at) None count.0 count.1) count ∙ found.1)

pub read_on : (bytes rest : Bytes) (n : ℕ) → number_at w32 bytes ≡ Ok (n, rest) → entries_at bytes ≡ chain_at (next_at author_cmp entry_at) None n rest
read_on bytes rest n count = ap (λ (r : Read ℕ). r >>= λ count. chain_at (next_at author_cmp entry_at) None count.0 count.1) count

pub no_count : (bytes : Bytes) (f : TextFault) → number_at w32 bytes ≡ Err f → all_of (entries_at bytes) ≡ None
no_count bytes f e = ap (λ (r : Read ℕ). all_of (r >>= λ count. chain_at (next_at author_cmp entry_at) None count.0 count.1)) e

none_skipped : {A : Type 0} (r : Read A) (f : TextFault) → skipped r ≡ Err f → all_of r ≡ None
none_skipped (Ok x) f e = absurd cc
none_skipped (Err g) f e = refl

more_skipped : {A : Type 0} (r : Read A) (after : Bytes) → skipped r ≡ Ok after → eqb (length after) 0 ≡ false → all_of r ≡ None
more_skipped (Ok (x, [])) after e more = let same : [] ≡ after = cc in absurd (no_length (subst (λ (z : Bytes). eqb (length z) 0 ≡ false) (sym same) more))
  where
    no_length : true ≡ false → ⊥
    no_length e = cc
more_skipped (Ok (x, b ∷ rest)) after e more = refl
more_skipped (Err f) after e more = refl

pub none_from_fault : (bytes rest : Bytes) (n : ℕ) (f : TextFault) → number_at w32 bytes ≡ Ok (n, rest) → skipped (chain_at (next_at author_cmp entry_at) None n rest) ≡ Err f → all_of (entries_at bytes) ≡ None
none_from_fault bytes rest n f count read = ap all_of (read_on bytes rest n count) ∙ none_skipped (chain_at (next_at author_cmp entry_at) None n rest) f read

pub none_from_rest : (bytes rest after : Bytes) (n : ℕ) → number_at w32 bytes ≡ Ok (n, rest) → skipped (chain_at (next_at author_cmp entry_at) None n rest) ≡ Ok after → eqb (length after) 0 ≡ false → all_of (entries_at bytes) ≡ None
none_from_rest bytes rest after n count read more = ap all_of (read_on bytes rest n count) ∙ more_skipped (chain_at (next_at author_cmp entry_at) None n rest) after read more

pub built_clock : {V : Type 0} (items : V → Entries) (bytes rest after : Bytes) (n : ℕ) (r : Result V ReadError) → number_at w32 bytes ≡ Ok (n, rest) → GivesIfRoom (λ v. (items v, after)) r (chain_at (next_at author_cmp entry_at) None n rest)
    → (es : Entries) → entries_at bytes ≡ Ok (es, []) → IfOk r (λ v. entries_at bytes ≡ Ok (items v, [])) × IfErr r (λ e. e ≡ Memory)
built_clock {V} items bytes rest after n (Ok v) count gives es is =
    let same = ok_is (es, []) (items v, after) (sym is ∙ read_on bytes rest n count ∙ gives) in
    (is ∙ ap (λ (x : Entries × Bytes). let w : Entries × Bytes = (x.0, []) in Ok w) same, tt)
built_clock items bytes rest after n (Err Memory) count gives es is = (tt, refl)
built_clock items bytes rest after n (Err (Unread f)) count gives es is = absurd (no_err (sym is ∙ read_on bytes rest n count ∙ gives))
  where
    no_err : done {A = Entries × Bytes} (es, []) ≡ Err f → ⊥
    no_err e = cc

-- ---- one entry more

pub entries_empty : entries map.empty ≡ []
entries_empty = nil_from_length (entries map.empty) (sym (map.len-entries {R = nat_cmp} map.empty) ∙ map.len-empty nat_cmp ℕ)

pub with_front_nil : {A : Type 0} (r : Read (List A)) → with_front [] r ≡ r
with_front_nil (Ok x) = refl
with_front_nil (Err f) = refl

-- the authors are at most that of the entry before
abbrev pub AreUpTo : Option (ℕ × ℕ) → Entries → Type 0
AreUpTo None es = es ≡ []
AreUpTo (Some b) es = AllByRecursion (λ e. e.0 ≤ b.0) es

put_end : (author n : ℕ) (es : Entries) → AllByRecursion (λ e. e.0 < author) es → put nat_cmp author n es ≡ es ++ (author, n) ∷ []
put_end author n [] h = refl
put_end author n (e ∷ es) h =
    let first : e.0 < author = h.0 in
    let greater : nat_cmp author e.0 ≡ Greater = grind (arith, nat_tests) in
    ap (λ r. by_order r ((author, n) ∷ e ∷ es) ((e.0, n) ∷ es) (e ∷ put nat_cmp author n es)) greater ∙ ap (λ (z : Entries). e ∷ z) (put_end author n es h.1)

find_none : (author : ℕ) (es : Entries) → AllByRecursion (λ e. e.0 < author) es → find nat_cmp author es ≡ None
find_none author [] h = refl
find_none author (e ∷ es) h =
    let first : e.0 < author = h.0 in
    let greater : nat_cmp author e.0 ≡ Greater = grind (arith, nat_tests) in
    ap (λ r. cond (is_eq r) (Some e.1) (find nat_cmp author es)) greater ∙ find_none author es h.1

all_below : (before : Option (ℕ × ℕ)) (x : ℕ × ℕ) (es : Entries) → AreUpTo before es → follows author_cmp before x ≡ true → AllByRecursion (λ e. e.0 < x.0) es
all_below None x es up follow = subst (AllByRecursion (λ (e : ℕ × ℕ). e.0 < x.0)) (sym up) tt
all_below (Some b) x [] up follow = tt
all_below (Some b) x (e ∷ es) up follow =
    let above : b.0 < x.0 = is_less b.0 x.0 follow in
    let first : e.0 ≤ b.0 = up.0 in
    (omega arith, all_below (Some b) x es up.1 follow)

up_to_last : (x : ℕ × ℕ) (es : Entries) → AllByRecursion (λ e. e.0 < x.0) es → AllByRecursion (λ e. e.0 ≤ x.0) (es ++ x ∷ [])
up_to_last x [] h = (omega arith, tt)
up_to_last x (e ∷ es) h = let first : e.0 < x.0 = h.0 in (omega arith, up_to_last x es h.1)

pub raised_by : (before : Option (ℕ × ℕ)) (x : ℕ × ℕ) (t new : Clock) → AreUpTo before (entries t) → follows author_cmp before x ≡ true → IsEntry x → new ≡ raised t x.0 x.1
    → (entries new ≡ entries t ++ x ∷ []) × AreUpTo (Some x) (entries new)
raised_by before x t new up follow valid is =
    let below = all_below before x (entries t) up follow in
    let positive : 1 ≤ x.1 = valid.number.0 in
    let apart : (x.1 == 0) ≡ false = grind (arith, nat_tests) in
    let none : through t x.0 ≡ 0 = ap (λ o. unwrap_or o 0) (map.get-entries t x.0 ∙ find_none x.0 (entries t) below) in
    let greater : max x.1 (through t x.0) ≡ x.1 = omega arith in
    let same : entries new ≡ entries t ++ x ∷ [] =
    ap entries is ∙ ap (λ b. entries (cond b t (map.insert t x.0 (max x.1 (through t x.0))))) apart
    ∙ map.entries-insert nat_cmp_total t x.0 (max x.1 (through t x.0)) ∙ ap (λ n. put nat_cmp x.0 n (entries t)) greater ∙ put_end x.0 x.1 (entries t) below in
    (same, subst (AllByRecursion (λ (e : ℕ × ℕ). e.0 ≤ x.0)) (sym same) (up_to_last x (entries t) below))
