use Rattle.std.proofs.Common.{if◌then◌else◌, sym, ap, ◌∙◌}
use Rattle.oct_delta.specs.Delta.{old_format, new_format}
use Rattle.oct_delta.proofs.encoding.edition_of.Goals as goal

pub returns-then-keep_old_limits : goal.returns-then-keep_old_limits
returns-then-keep_old_limits g c = sym (ap (λ b. if b then old_format else new_format) (sym c.keep_old_limits.ensures ∙ c.if-keep_old_limits.true))

pub returns-else-keep_old_limits : goal.returns-else-keep_old_limits
returns-else-keep_old_limits g c = sym (ap (λ b. if b then old_format else new_format) (sym c.keep_old_limits.ensures ∙ c.if-keep_old_limits.false))
