-- Whether all heaps below a number pass a test, and the blocks of operations as spans.
use Rattle.std.proofs.Common.{◌≡◌, ℕ, zero, suc, ◌+◌, ◌≤◌, ◌<◌, add-one, Bool, true, false, ◌&&◌, ◌||◌, cond, get_or, Option, None, List, [], ◌∷◌, ◌++◌, drop, length, refl, sym, ap, ◌∙◌, arith, append_assoc}
use Rattle.std.specs.Prelude.{◌==◌, nat_le, nat_lt, unwrap_or}
use Rattle.std.specs.List.{filter, list_any}
use Rattle.std.proofs.Math.Dec.{eqb-suc-zero}
use Rattle.std.proofs.Math.Seq.{drop-cons}
use Rattle.std.proofs.lemmas.Bool.{and_left, and_right, leb-false, leb-true, ltb-false, ltb-true}
use Rattle.std.proofs.lemmas.List.Folds.{list_any-append}
use Rattle.oct_code.specs.Code.{Code}
use Rattle.oct_ops.specs.Body.{Operation}
use Rattle.oct_ops.specs.Operations.{Operations, empty, listed}
use Rattle.oct_ops.specs.OrderLaws.{op_cmp_total, op_cmp_exact}
use Rattle.oct_ops.specs.SetLaws.{listed-empty}
use Rattle.oct_store.specs.Summary.{of_game}
use Rattle.oct_left.specs.Covered.{all_below, is_covered, is_covered_by, is_said, tells}
use Rattle.oct_left.specs.Spans.{has_heap}
use Rattle.oct_left.specs.declared.span.Span.{Span}

-- the first of those that are left
next_item : {V : Type 0} (items : List V) (i : ℕ) (item : V) → i < length items → item ≡ get_or items i item → drop i items ≡ item ∷ drop (i + 1) items
next_item items i item within is = rw add-one (drop-cons items i item within ∙ ap (λ f. f ∷ drop (suc i) items) (sym is))

all_true : (p : ℕ → Bool) (count missing : ℕ) → ((k : ℕ) → k < missing → p k ≡ true) → count ≤ missing → all_below p count ≡ true
all_true p zero missing holds within = refl
all_true p (suc n) missing holds within = λ i. holds n (omega arith) i && all_true p n missing holds (omega arith) i

one_false : (p : ℕ → Bool) (count missing : ℕ) → p missing ≡ false → missing < count → all_below p count ≡ false
one_false p zero missing fails above = absurd (omega arith)
one_false p (suc n) missing fails above = by (nat_lt missing n) refl (one_false p n missing fails)
  where
    by : (b : Bool) → nat_lt missing n ≡ b → (missing < n → all_below p n ≡ false) → all_below p (suc n) ≡ false
    by true e rest = and_right (p n) (all_below p n) (rest (ltb-true missing n e))
    by false e rest =
        let last : missing ≡ n = (let from = ltb-false missing n e in omega (arith, from, above)) in
        and_left (p n) (all_below p n) (ap p (sym last) ∙ fails)

-- the first number that fails tells whether all below another one pass
pub all_below_first : (p : ℕ → Bool) (count missing : ℕ) → ((k : ℕ) → k < missing → p k ≡ true) → p missing ≡ false → nat_le count missing ≡ all_below p count
all_below_first p count missing holds fails = by (nat_le count missing) refl
  where
    by : (b : Bool) → nat_le count missing ≡ b → nat_le count missing ≡ all_below p count
    by true e = e ∙ sym (all_true p count missing holds (leb-true count missing e))
    by false e = e ∙ sym (one_false p count missing fails (leb-false count missing e))

-- the empty heap needs no block
pub said_at : (ops : List Operation) (heap : ℕ) → (1 ≤ heap → list_any (tells heap) ops ≡ true) → is_said ops heap ≡ true
said_at ops zero told = refl
said_at ops (suc n) told = λ i. eqb-suc-zero n i || told (omega arith) i

pub unsaid_at : (ops : List Operation) (heap : ℕ) → 1 ≤ heap → list_any (tells heap) ops ≡ false → is_said ops heap ≡ false
unsaid_at ops zero some untold = absurd (omega arith)
unsaid_at ops (suc n) some untold = λ i. eqb-suc-zero n i || untold i

-- no operation has the empty heap alone
pub none_covered : (count : ℕ) → nat_le count 1 ≡ is_covered_by [] count
none_covered count = all_below_first (is_said []) count 1 (λ k below. said_at [] k (λ some. absurd (omega arith))) (unsaid_at [] 1 (omega arith) refl)

-- an operation that is a block, or none, becomes a span, or none
pub span_more : (spans : List Span) (s : Span) (heap : ℕ) (o : Operation) (rest : List Operation) → has_heap heap s ≡ tells heap o
    → (list_any (has_heap heap) (spans ++ s ∷ []) || list_any (tells heap) rest) ≡ (list_any (has_heap heap) spans || list_any (tells heap) (o ∷ rest))
span_more spans s heap o rest same =
    ap (λ b. b || list_any (tells heap) rest) (list_any-append (has_heap heap) spans (s ∷ []))
    ∙ by (list_any (has_heap heap) spans) (has_heap heap s) (list_any (tells heap) rest)
    ∙ ap (λ b. list_any (has_heap heap) spans || (b || list_any (tells heap) rest)) same
  where
    by : (a b c : Bool) → ((a || (b || false)) || c) ≡ (a || (b || c))
    by true b c = refl
    by false true c = refl
    by false false c = refl

pub span_less : (spans : List Span) (heap : ℕ) (o : Operation) (rest : List Operation) → tells heap o ≡ false
    → (list_any (has_heap heap) spans || list_any (tells heap) rest) ≡ (list_any (has_heap heap) spans || list_any (tells heap) (o ∷ rest))
span_less spans heap o rest other = ap (λ b. list_any (has_heap heap) spans || (b || list_any (tells heap) rest)) (sym other)

-- a game that is not found has no blocks
pub none_said : (ops : Operations) (code : Code) (found : Option Operations) (count : ℕ) → unwrap_or found empty ≡ of_game ops code → None ≡ found → nat_le count 1 ≡ is_covered ops code count
none_said ops code found count is none =
    none_covered count ∙ ap (λ ops. is_covered_by ops count) (sym (listed-empty op_cmp_total op_cmp_exact))
    ∙ ap (λ held. is_covered_by (listed held) count) (ap (λ f. unwrap_or f empty) none ∙ is)

-- ---- a list of games

pub passed_over : (p : Code → Bool) (codes : List Code) (i : ℕ) (code : Code) (front : List Code) → i < length codes → code ≡ get_or codes i code → p code ≡ false
    → front ++ filter p (drop (i + 1) codes) ≡ front ++ filter p (drop i codes)
passed_over p codes i code front within is fails =
    sym (ap (λ l. front ++ filter p l) (next_item codes i code within is) ∙ ap (λ b. front ++ cond b (code ∷ filter p (drop (i + 1) codes)) (filter p (drop (i + 1) codes))) fails)

pub taken : (p : Code → Bool) (codes : List Code) (i : ℕ) (code : Code) (front more : List Code) → i < length codes → code ≡ get_or codes i code → p code ≡ true → more ≡ front ++ code ∷ []
    → more ++ filter p (drop (i + 1) codes) ≡ front ++ filter p (drop i codes)
taken p codes i code front more within is passes grown =
    ap (λ l. l ++ filter p (drop (i + 1) codes)) grown ∙ append_assoc front (code ∷ []) (filter p (drop (i + 1) codes))
    ∙ sym (ap (λ l. front ++ filter p l) (next_item codes i code within is) ∙ ap (λ b. front ++ cond b (code ∷ filter p (drop (i + 1) codes)) (filter p (drop (i + 1) codes))) passes)
