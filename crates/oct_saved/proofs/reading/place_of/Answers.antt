use Rattle.std.proofs.Common.{◌≡◌, ℕ, ◌<◌, ◌^◌, List, [], ◌++◌, length, sym, ◌∙◌, ap, subst, arith}
use Rattle.std.proofs.lemmas.Bool.{eqb-false, eqb-true}
use Rattle.std.proofs.lemmas.List.{append-nil, get_or_default, nil_from_length}
use Rattle.std.proofs.lemmas.Result.{err_from_is_err_and}
use Rattle.oct_saved.specs.Numbers.{place_numbers}
use Rattle.oct_saved.specs.Saved.{AreWords}
use Rattle.oct_saved.proofs.Texts.{kept_again, none_left, saved_shaped}
use Rattle.oct_saved.proofs.Fronts.{refuses_more}
use Rattle.oct_saved.proofs.reading.place_of.Goals as goal
use Rattle.oct_saved.proofs.reading.place_of.Goals.{then-not-is_empty-via-then-not-is_empty, then-not-is_empty-via-else-not-is_empty+then-not-is_kept}

pub returns-in_err-place-clause-err : goal.returns-in_err-place-clause-err
returns-in_err-place-clause-err g c =
    let p = err_from_is_err_and c.from_residual.result c.from_residual.ensures.1 in
    rw (p.1, p.2) (refuses_more c.in_err-place.field-0.0 _ _ (λ (x, is, e). record { value = x; rest = []; is = saved_shaped x is; front = c.new-input.ensures ∙ e ∙ sym (append-nil (place_numbers x)) }) c.in_err-place.ensures.err)

pub returns-then-not-is_empty-clause-err : goal.returns-then-not-is_empty-clause-err
returns-then-not-is_empty-clause-err g c = λ (x, is, e).
    let q = c.in_ok-place.place in
    let read = c.in_ok-place.ensures.ok in
    let rest = c.place.new.self in
    let left = none_left x q c.args.numbers.now rest e (sym c.new-input.ensures ∙ read.front) in
    elim c.then-not-is_empty.branch [
      | then-not-is_empty-via-then-not-is_empty w ↦ absurd (eqb-false (length rest) 0 (sym c.is_empty.ensures ∙ w.if-not-is_empty.true) (ap length left.1))
      | then-not-is_empty-via-else-not-is_empty+then-not-is_kept w ↦
          let kept = w.is_kept.ensures.1 (kept_again x q left.0 is read.is) in
          absurd cc
    ]

pub returns-clause-saved : goal.returns-clause-saved
returns-clause-saved g c =
    let q = c.in_ok-place.place in
    let read = c.in_ok-place.ensures.ok in
    let numbers = c.args.numbers.now in
    let words : AreWords numbers = λ k d lt. subst (λ (n : ℕ). n < 2 ^ 64) (get_or_default numbers k 0 d lt) (omega (arith, c.type_inv.numbers k)) in
    let none : c.place.new.self ≡ [] = nil_from_length c.place.new.self (eqb-true (length c.place.new.self) 0 (sym c.is_empty.ensures ∙ c.if-not-is_empty.false)) in
    let whole : numbers ≡ place_numbers q = sym c.new-input.ensures ∙ read.front ∙ ap (λ (z : List ℕ). place_numbers q ++ z) none ∙ append-nil (place_numbers q) in
    record {
      kept = c.is_kept.ensures.0 c.if-not-is_kept.false;
      coded = read.is.coded;
      fits = record { code = read.is.code; stage = read.is.fits; numbers = subst AreWords whole words };
    }

pub returns-clause-numbers : goal.returns-clause-numbers
returns-clause-numbers g c =
    let q = c.in_ok-place.place in
    let read = c.in_ok-place.ensures.ok in
    let none : c.place.new.self ≡ [] = nil_from_length c.place.new.self (eqb-true (length c.place.new.self) 0 (sym c.is_empty.ensures ∙ c.if-not-is_empty.false)) in
    sym c.new-input.ensures ∙ read.front ∙ ap (λ (z : List ℕ). place_numbers q ++ z) none ∙ append-nil (place_numbers q)
