use Rattle.std.proofs.Common.{ap, ap₂, nat_le, ◌∙◌}
use Rattle.oct_join.specs.Clock.{through}
use Rattle.oct_join.proofs.clock.Clock.covers.Goals as goal

pub returns : goal.returns
returns g c = ap₂ nat_le c.number.ensures.value (c.through.ensures ∙ ap (through c.args.self.now) c.author.ensures.value)
