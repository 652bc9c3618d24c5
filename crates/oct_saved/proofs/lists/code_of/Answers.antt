use Rattle.std.proofs.Common.{◌≡◌, sym, ◌∙◌}
use Rattle.std.proofs.lemmas.List.{map-id}
use Rattle.oct_saved.proofs.Codes.{not_refused}
use Rattle.oct_saved.proofs.lists.code_of.Goals as goal

pub returns-clause-err : goal.returns-clause-err
returns-clause-err g c = λ (x, is).
    let items = c.in_ok-digits.digits.items in
    let same : c.deref.result.now ≡ c.args.digits.now = c.deref.ensures.value ∙ sym (map-id items) ∙ c.in_ok-digits.ensures.items in
    not_refused c.in-Some.head c.deref.result.now c.in-Err.field-0 (sym c.from_digits.ensures ∙ c.in-Err.is) x is.valid (is.head ∙ sym c.in-Some.ensures.0) (is.digits ∙ sym same)
