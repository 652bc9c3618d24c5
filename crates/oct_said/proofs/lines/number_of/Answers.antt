use Rattle.std.proofs.Common.{◌≡◌, true, sym, ◌∙◌, subst}
use Rattle.std.specs.Str.{all_ascii_digits}
use Rattle.std.specs.Str.Parse.{ParsesUnsigned}
use Rattle.std.proofs.lemmas.Str.Parse.{parse_digits}
use Rattle.oct_bfile.proofs.Numerals.{digits-all, digits_are_text, own, text_is, text_there}
use Rattle.oct_said.proofs.Numerals.{no_number, parsed_number}
use Rattle.oct_said.proofs.lines.number_of.Goals as goal

pub returns-then-not-are_digits : goal.returns-then-not-are_digits
returns-then-not-are_digits c = no_number c.args.word.now (sym (digits-all c.args.word.now) ∙ sym c.are_digits.ensures ∙ c.if-not-are_digits.true)

pub returns-in_err-text : goal.returns-in_err-text
returns-in_err-text c =
    let word = c.args.word.now in
    let digits : all_ascii_digits word ≡ true = sym (digits-all word) ∙ sym c.are_digits.ensures ∙ c.if-not-are_digits.false in
    absurd (text_there _ word c.from_utf8.result (digits_are_text word digits) c.from_utf8.ensures.cases (sym c.in_err-text.was ∙ c.ok.ensures.value))

pub returns : goal.returns
returns c =
    let word = c.args.word.now in
    let digits : all_ascii_digits word ≡ true = sym (digits-all word) ∙ sym c.are_digits.ensures ∙ c.if-not-are_digits.false in
    let is = text_is _ word c.from_utf8.result c.in_ok-text.text c.from_utf8.ensures.cases (sym c.in_ok-text.was ∙ c.ok.ensures.value) in
    c.ok-2.ensures.value
    ∙ parsed_number word c.parse.result digits (parse_digits own 64 word c.parse.result (subst (λ text. ParsesUnsigned 64 10 text c.parse.result) is c.parse.ensures.value.0) digits)
