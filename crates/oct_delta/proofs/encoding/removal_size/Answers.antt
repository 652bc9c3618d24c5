use Rattle.std.proofs.Common.{◌≡◌, length, ap, arith}
use Rattle.oct_delta.proofs.Sizes.{length-dots}
use Rattle.oct_delta.proofs.encoding.removal_size.Goals as goal

pub returns-clause-size : goal.returns-clause-size
returns-clause-size g c =
    let dots : length c.dots.result.now ≡ length c.args.removal.now.dots = ap length c.dots.ensures.value in
    omega (arith, dots, length-dots c.args.removal.now.dots)
