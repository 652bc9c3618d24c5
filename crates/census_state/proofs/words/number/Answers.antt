use Rattle.std.proofs.Common.{◌≡◌, ◌≢◌, true, get_or, rules, arith, sym, ◌∙◌}
use Rattle.std.specs.Str.{all_ascii_digits}
use Rattle.std.specs.Str.Parse.{digits_value}
use Rattle.std.proofs.lemmas.Str.Parse.{IsNumeralModel, numerals_by_value, parse_plain, parse_digits}
use Rattle.std.proofs.lemmas.Result.{OkIff-at_ok, OkIff-at_err}
use Rattle.std.proofs.lemmas.Bool.{false≢true}
use Rattle.census_state.proofs.words.number.Goals as goal

own : IsNumeralModel (λ ds. all_ascii_digits ds ≡ true) (digits_value 10)
own = numerals_by_value _ (search rules)

pub returns-in-Ok : goal.returns-in-Ok
returns-in-Ok c =
    let unsigned : get_or c.args.word.now 0 0 ≢ 43 = λ plus. false≢true (sym c.if-has_plus.false ∙ c.has_plus.ensures.1 plus) in
    let parsed = OkIff-at_ok _ _ _ _ (parse_plain own 64 c.args.word.now c.parse.result c.parse.ensures.value.0 unsigned) c.in-Ok.is in
    (record { filled = parsed.0.1; digits = parsed.0.0; small = rw parsed.1 at c.if-value-greatest.true }, parsed.1)

pub returns-in_default-2 : goal.returns-in_default-2
returns-in_default-2 c = λ h.
    OkIff-at_err _ _ _ _ (parse_digits own 64 c.args.word.now c.parse.result c.parse.ensures.value.0 h.digits) c.in_default.is
    (h.filled, omega (arith, h.small, c.ranges.greatest.fits))

pub returns-in_default : goal.returns-in_default
returns-in_default c = λ h.
    let parsed = OkIff-at_ok _ _ _ _ (parse_digits own 64 c.args.word.now c.parse.result c.parse.ensures.value.0 h.digits) c.in-Ok.is in
    omega (arith, parsed.1, h.small, c.if-value-greatest.false)
