use Rattle.std.proofs.Common.{◌≡◌, List, ℕ, Ok, ap, sym, ◌∙◌}
use Rattle.std.specs.Int.{w32}
use Rattle.std.proofs.lemmas.Bool.{eqb-true}
use Rattle.std.proofs.lemmas.List.{nil_from_length}
use Rattle.oct_delta.specs.Reading.{number_at}
use Rattle.oct_delta.proofs.Codecs.{done}
use Rattle.oct_delta.proofs.ClockTexts.{checked_entries}
use Rattle.oct_delta.proofs.clock.check_clock.Goals as goal

pub returns-clause-ok : goal.returns-clause-ok
returns-clause-ok c =
    let count : number_at w32 c.args.bytes.now ≡ Ok (c.in_ok-count.count, c.u32.new.self) = ap (number_at w32) (sym c.new-input.ensures.value) ∙ c.in_ok-count.ensures in
    let nothing = nil_from_length c.skip_entries.new.self (eqb-true _ _ (sym c.is_empty.ensures ∙ c.if-not-is_empty.false)) in
    checked_entries c.args.bytes.now c.u32.new.self c.in_ok-count.count count (c.in_ok-skip_entries.ensures ∙ ap (λ (z : List ℕ). done z) nothing)
