use Rattle.std.proofs.Common.{◌≡◌, length, ap, ◌∙◌, arith}
use Rattle.oct_code.specs.Code.{len}
use Rattle.oct_delta.proofs.Sizes.{length-block_bytes}
use Rattle.oct_delta.proofs.encoding.block_size.Goals as goal

pub returns-clause-size : goal.returns-clause-size
returns-clause-size g c =
    let digits : c.len.result ≡ length c.args.block.now.code.digits = c.len.ensures.value ∙ ap len c.code.ensures.value in
    let values : length c.values.result.now ≡ length c.args.block.now.values = ap length c.values.ensures.value in
    omega (arith, digits, values, length-block_bytes c.args.block.now)
