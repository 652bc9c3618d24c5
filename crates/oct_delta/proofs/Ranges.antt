-- What reading tests is what the parts of an operation are.
use Rattle.std.proofs.Common.{◌≡◌, ◌⊎◌, ℕ, ◌+◌, ◌-◌, ◌^◌, ◌<◌, ◌≤◌, Bool, true, false, not, cond, ltb, leb, eqb, ◌&&◌, List, [], ◌∷◌, length, Option, Some, None, Result, Ok, Err, refl, ap, arith, nat_lt, leb-true, le-leb}
use Rattle.std.specs.Prelude.{slice_get, is_none, is_ok}
use Rattle.std.specs.List.{AllByRecursion}
use Rattle.std.proofs.lemmas.Bool.{le-ltb, ne_eqb, and_from, and_parts, not-false}
use Rattle.std.proofs.lemmas.Bool.Decides.{nat_tests}
use Rattle.std.proofs.lemmas.List.Elements.{recursion_from_All}
use Rattle.oct_ops.specs.declared.limits.TheConstants.{MAX_ITEMS}
use Rattle.oct_code.specs.Code.{Code, IsCode}
use Rattle.oct_code.specs.DigitFaults.{is_head, are_octal, ends_in_zero, digits_fault}
use Rattle.oct_code.specs.declared.error.DigitsError.{DigitsError}
use Rattle.oct_code.specs.declared.limits.TheConstants.{MAX_DIGITS, LIMIT}
use Rattle.oct_code.proofs.Accepted.{accepted}
use Rattle.oct_code.proofs.CodeLaws.{last_is}
use Rattle.oct_ops.specs.DotOrder.{dot_cmp}
use Rattle.oct_ops.specs.Faults.{is_dot, block_fault, period_fault, is_name, is_text, removal_fault}
use Rattle.oct_ops.specs.Limits.{keeps_limit}
use Rattle.oct_ops.specs.Operation.{Dot, Block, Period, Note, Removal}
use Rattle.oct_ops.specs.Body as kind
use Rattle.oct_ops.specs.Sets.{rises}
use Rattle.oct_ops.specs.Valid.{IsDot, IsNote}
use Rattle.oct_delta.specs.Reading.{is_count, is_range, is_claim}

-- of three tests in order each fails, where there is no fault
no_test : {E : Type 0} (a b c : Bool) (x y z : E) → cond a (Some x) (cond b (Some y) (cond c (Some z) None)) ≡ None → (a ≡ false) × (b ≡ false) × (c ≡ false)
no_test true b c x y z e = absurd cc
no_test false true c x y z e = absurd cc
no_test false false true x y z e = absurd cc
no_test false false false x y z e = (refl, refl, refl)

no_fault : {E : Type 0} (a b c : Bool) (x y z : E) → a ≡ false → b ≡ false → c ≡ false → cond a (Some x) (cond b (Some y) (cond c (Some z) None)) ≡ None
no_fault a b c x y z e f g = rw (e, f, g) refl

no_pair : {E : Type 0} (a b : Bool) (x y : E) → cond a (Some x) (cond b (Some y) None) ≡ None → (a ≡ false) × (b ≡ false)
no_pair true b x y e = absurd cc
no_pair false true x y e = absurd cc
no_pair false false x y e = (refl, refl)

-- ---- codes

faultless : (r : Result (Unit {0}) DigitsError) → is_ok r ≡ true → r ≡ Ok tt
faultless (Ok u) e = refl
faultless (Err f) e = cc

pub code_from_test : (c : Code) → is_ok (digits_fault c.head c.digits) ≡ true → IsCode c
code_from_test c e = accepted c.head c.digits (faultless (digits_fault c.head c.digits) e)

all_octal : (digits : List ℕ) → AllByRecursion (λ d. d ≤ 7) digits → are_octal digits ≡ true
all_octal [] h = refl
all_octal (d ∷ digits) h = and_from _ _ (le-leb d 7 h.0) (all_octal digits h.1)

head_passes : (d : ℕ) → (d ≡ 0) ⊎ (d ≡ 4) → not (is_head d) ≡ false
head_passes d h = grind (arith, nat_tests)

pub test_from_code : (c : Code) → IsCode c → is_ok (digits_fault c.head c.digits) ≡ true
test_from_code c h =
    let octal : not (are_octal c.digits) ≡ false = ap not (all_octal c.digits (recursion_from_All (λ d. d ≤ 7) c.digits h.octal)) in
    let room : nat_lt MAX_DIGITS (length c.digits) ≡ false = le-ltb _ _ h.len in
    let last : ends_in_zero c.digits ≡ false = last_is (slice_get c.digits (length c.digits - 1)) h.last in
    all_pass (not (is_head c.head)) (nat_lt MAX_DIGITS (length c.digits)) (not (are_octal c.digits)) (ends_in_zero c.digits) _ _ _ _ (head_passes c.head h.head) room octal last
  where
    all_pass : (a b c d : Bool) (w x y z : DigitsError) → a ≡ false → b ≡ false → c ≡ false → d ≡ false → is_ok {T = Unit {0}} (cond a (Err w) (cond b (Err x) (cond c (Err y) (cond d (Err z) (Ok tt))))) ≡ true
    all_pass a b c d w x y z e f g h = rw (e, f, g, h) refl

-- ---- dots

pub dot_from_test : (d : Dot) → d.author < 2 ^ 32 → d.number < 2 ^ 32 → is_dot d ≡ true → IsDot d
dot_from_test d a n h =
    let both = and_parts (leb 1 d.author) (leb 1 d.number) h in
    record { author = (leb-true _ _ both.0, a); number = (leb-true _ _ both.1, n) }

pub test_from_dot : (d : Dot) → IsDot d → is_dot d ≡ true
test_from_dot d h = grind (arith, nat_tests)

-- ---- blocks

counted : (n : ℕ) → eqb n 0 ≡ false → ltb MAX_ITEMS n ≡ false → is_count n ≡ true
counted n some few = grind (arith, nat_tests)

pub faultless_from_range : (limit : ℕ) (b : Block) → limit ≤ LIMIT → is_range limit b.start (length b.values) ≡ true → (block_fault b ≡ None) × (keeps_limit limit (kind.Block b) ≡ true)
faultless_from_range limit b low h =
    let outer = and_parts (is_count (length b.values)) (leb (b.start + length b.values) limit) h in
    let inner = and_parts (leb 1 (length b.values)) (leb (length b.values) 1024) outer.0 in
    let some : 1 ≤ length b.values = leb-true _ _ inner.0 in
    let few : length b.values ≤ 1024 = leb-true _ _ inner.1 in
    let end : b.start + length b.values ≤ limit = leb-true _ _ outer.1 in
    (no_fault (eqb (length b.values) 0) (ltb MAX_ITEMS (length b.values)) (ltb LIMIT (b.start + length b.values)) _ _ _ (ne_eqb _ _ (λ e. omega (arith, e, some))) (le-ltb _ _ few) (le-ltb _ _ (omega (arith, end, low))), outer.1)

pub range_from_faultless : (limit : ℕ) (b : Block) → block_fault b ≡ None → keeps_limit limit (kind.Block b) ≡ true → is_range limit b.start (length b.values) ≡ true
range_from_faultless limit b h k =
    let tests = no_test (eqb (length b.values) 0) (ltb MAX_ITEMS (length b.values)) (ltb LIMIT (b.start + length b.values)) _ _ _ h in
    and_from _ _ (counted (length b.values) tests.0 tests.1) k

-- ---- period claims

none_is : {A : Type 0} (o : Option A) → is_none o ≡ true → o ≡ None
none_is None e = refl
none_is (Some x) e = cc

pub faultless_from_claim : (limit : ℕ) (p : Period) → is_claim limit p ≡ true → (period_fault p ≡ None) × (keeps_limit limit (kind.Period p) ≡ true)
faultless_from_claim limit p h =
    let both = and_parts (is_none (period_fault p)) (keeps_limit limit (kind.Period p)) h in
    (none_is (period_fault p) both.0, both.1)

pub claim_from_faultless : (limit : ℕ) (p : Period) → period_fault p ≡ None → keeps_limit limit (kind.Period p) ≡ true → is_claim limit p ≡ true
claim_from_faultless limit p h k = and_from _ _ (ap is_none h) k

pub claim_small : (limit : ℕ) (p : Period) → limit ≤ LIMIT → keeps_limit limit (kind.Period p) ≡ true → (p.start < 2 ^ 32) × (p.period < 2 ^ 32)
claim_small limit p low h =
    let both = and_parts (leb p.start limit) (leb p.period limit) h in
    let start : p.start ≤ limit = leb-true _ _ both.0 in
    let period : p.period ≤ limit = leb-true _ _ both.1 in
    (omega arith, omega arith)

-- ---- notes

pub note_from_test : (n : Note) → (is_name n.name && is_text n.text) ≡ true → IsNote n
note_from_test n h =
    let both = and_parts (is_name n.name) (is_text n.text) h in
    record { faultless = no_two (not (is_name n.name)) (not (is_text n.text)) _ _ (ap not both.0) (ap not both.1) }
  where
    no_two : {E : Type 0} (a b : Bool) (x y : E) → a ≡ false → b ≡ false → cond a (Some x) (cond b (Some y) None) ≡ None
    no_two a b x y e f = rw (e, f) refl

pub test_from_note : (n : Note) → IsNote n → (is_name n.name && is_text n.text) ≡ true
test_from_note n h =
    let tests = no_pair (not (is_name n.name)) (not (is_text n.text)) _ _ h.faultless in
    and_from _ _ (not-false _ tests.0) (not-false _ tests.1)

-- ---- removals

pub faultless_from_dots : (r : Removal) → is_count (length r.dots) ≡ true → rises dot_cmp r.dots ≡ true → removal_fault r ≡ None
faultless_from_dots r h k =
    let both = and_parts (leb 1 (length r.dots)) (leb (length r.dots) 1024) h in
    let some : 1 ≤ length r.dots = leb-true _ _ both.0 in
    let few : length r.dots ≤ 1024 = leb-true _ _ both.1 in
    no_fault (eqb (length r.dots) 0) (ltb MAX_ITEMS (length r.dots)) (not (rises dot_cmp r.dots)) _ _ _ (ne_eqb _ _ (λ e. omega (arith, e, some))) (le-ltb _ _ few) (ap not k)

pub dots_from_faultless : (r : Removal) → removal_fault r ≡ None → (is_count (length r.dots) ≡ true) × (rises dot_cmp r.dots ≡ true)
dots_from_faultless r h =
    let tests = no_test (eqb (length r.dots) 0) (ltb MAX_ITEMS (length r.dots)) (not (rises dot_cmp r.dots)) _ _ _ h in
    (counted (length r.dots) tests.0 tests.1, not-false _ tests.2)

pub count_small : (n : ℕ) → is_count n ≡ true → n < 2 ^ 16
count_small n h = let few : n ≤ 1024 = leb-true _ _ (and_parts (leb 1 n) (leb n 1024) h).1 in omega (arith, few)
