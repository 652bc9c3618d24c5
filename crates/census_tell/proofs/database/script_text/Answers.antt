use Rattle.std.proofs.Common.{◌++◌, ap, ◌∙◌}
use Rattle.oct_ops.specs.Operations.{listed}
use Rattle.oct_sql.specs.Script.{script}
use Rattle.census_tell.proofs.database.script_text.Goals as goal

pub returns : goal.returns
returns c = c.in_ok-write_sql.ensures.ok ∙ ap (λ front. front ++ script (listed c.args.held.now.ops)) c.new-text.ensures.items
