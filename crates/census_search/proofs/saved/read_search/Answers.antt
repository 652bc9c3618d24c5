use Rattle.std.proofs.Common.{◌≡◌, ◌≢◌, true, false, not, inl, inr, sym, ap, ◌∙◌}
use Rattle.std.proofs.lemmas.Bool.{cases_Bool, false≢true}
use Rattle.std.specs.Cmp.{Equal-is, tied_itself}
use Rattle.std.specs.Ordering.{is_eq}
use Rattle.oct_code.specs.Code.{Code, code_cmp, code_eq}
use Rattle.oct_code.specs.CodeOrder.{code_cmp_exact, code_cmp_total}
use Rattle.census_search.proofs.saved.read_search.Goals as goal

itself : (c : Code) → code_eq c c ≡ true
itself c = ap is_eq (tied_itself code_cmp_total c)

other : (a c : Code) → not (code_eq a c) ≡ true → a ≢ c
other a c differ same = false≢true (sym (ap not (ap (code_eq a) (sym same) ∙ itself a)) ∙ differ)

same_code : (a c : Code) → not (code_eq a c) ≡ false → a ≡ c
same_code a c alike = elim (cases_Bool (code_eq a c)) [
  | inl e ↦ code_cmp_exact a c ((Equal-is (code_cmp a c)).0 e)
  | inr e ↦ absurd (false≢true (sym alike ∙ ap not e))
]

pub returns-then-ne-clause-err : goal.returns-then-ne-clause-err
returns-then-ne-clause-err c =
    let place = c.in_ok-place.place in
    let read = c.in_ok-place.ensures in
    record {
      place = place;
      is_saved = record { kept = read.kept; coded = read.coded; fits = read.fits };
      spelled = read.text;
      other = other place.code c.args.code (sym c.ne.ensures ∙ c.if-ne.true);
    }

pub returns-clause-code : goal.returns-clause-code
returns-clause-code c = same_code c.in_ok-place.place.code c.args.code (sym c.ne.ensures ∙ c.if-ne.false)
