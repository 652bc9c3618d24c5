use Rattle.std.proofs.Common.{if◌then◌else◌, sym, ap, ◌∙◌}
use Rattle.oct_delta.specs.Delta.{old_format, new_format}
use Rattle.oct_delta.proofs.each.edition_of_each.Goals as goal

pub returns-then-each_keeps_old_limits : goal.returns-then-each_keeps_old_limits
returns-then-each_keeps_old_limits g c = sym (ap (λ b. if b then old_format else new_format) (sym c.each_keeps_old_limits.ensures ∙ c.if-each_keeps_old_limits.true))

pub returns-else-each_keeps_old_limits : goal.returns-else-each_keeps_old_limits
returns-else-each_keeps_old_limits g c = sym (ap (λ b. if b then old_format else new_format) (sym c.each_keeps_old_limits.ensures ∙ c.if-each_keeps_old_limits.false))
