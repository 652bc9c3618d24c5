use Rattle.std.proofs.Common.{◌≡◌, Ok, sym, ap, ◌∙◌}
use Rattle.std.specs.Int.{w32}
use Rattle.oct_delta.specs.Reading.{number_at}
use Rattle.oct_delta.proofs.OneByOne.{begins}
use Rattle.oct_delta.proofs.text_ops.TextOps.new.Goals as goal

pub invariant_of-result : goal.invariant_of-result
invariant_of-result c =
    let count : number_at w32 c.args.list.now ≡ Ok (c.in-Ok.left, c.u32.new.self) = ap (number_at w32) (sym c.new-input.ensures.value) ∙ c.in-Ok.ensures in
    (begins c.args.limit c.requires.low c.args.list.now c.u32.new.self c.in-Ok.left count c.requires.list.0 c.requires.list.1).0

pub returns : goal.returns
returns c =
    let count : number_at w32 c.args.list.now ≡ Ok (c.in-Ok.left, c.u32.new.self) = ap (number_at w32) (sym c.new-input.ensures.value) ∙ c.in-Ok.ensures in
    (begins c.args.limit c.requires.low c.args.list.now c.u32.new.self c.in-Ok.left count c.requires.list.0 c.requires.list.1).1
