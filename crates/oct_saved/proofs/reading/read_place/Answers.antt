use Rattle.std.proofs.Common.{◌∙◌, sym, ap, subst}
use Rattle.std.proofs.lemmas.Result.{err_from_is_err_and}
use Rattle.oct_saved.specs.Saved.{AreWords, number_bytes}
use Rattle.oct_saved.proofs.Texts.{refused_numbers, refused_place}
use Rattle.oct_saved.proofs.reading.read_place.Goals as goal

pub returns-in_err-numbers-clause-err : goal.returns-in_err-numbers-clause-err
returns-in_err-numbers-clause-err g c =
    let p = err_from_is_err_and c.from_residual-in_err-numbers.result c.from_residual-in_err-numbers.ensures.1 in
    rw (p.1, p.2) (refused_numbers _ c.args.text.now c.in_ok-body.body.now c.in_err-numbers.field-0.0 c.in_ok-body.ensures.ok c.in_err-numbers.ensures.err)

pub returns-clause-err : goal.returns-clause-err
returns-clause-err g c =
    refused_place _ c.args.text.now c.in_ok-body.body.now c.deref.result.now c.place_of.result c.in_ok-body.ensures.ok (c.in_ok-numbers.ensures.bytes ∙ ap number_bytes (sym c.deref.ensures.value))
    (subst AreWords (sym c.deref.ensures.value) c.in_ok-numbers.ensures.words) c.place_of.ensures.err
