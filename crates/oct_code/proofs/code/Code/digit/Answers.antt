use Rattle.std.proofs.Common.{ap}
use Rattle.oct_code.specs.Code.{Code}
use Rattle.oct_code.proofs.Reading.{digit_after, digit_first}
use Rattle.oct_code.proofs.code.Code.digit.Goals as goal

pub returns-in-None : goal.returns-in-None
returns-in-None c = digit_first c.args.self.now _ c.args.r (ap (λ (k : Code). k.head) c.self.view_is) c.in-None.ensures

pub returns-in-Some : goal.returns-in-Some
returns-in-Some c = digit_after c.args.self.now _ c.args.r _ _ _ _ c.in-Some.ensures c.digits.ensures.value c.get.ensures.lookup c.copied.ensures c.unwrap_or.ensures
