use Rattle.std.proofs.Common.{◌∙◌}
use Rattle.oct_notes.proofs.Leading.{padded}
use Rattle.oct_notes.proofs.row.lead.Goals as goal

pub returns : goal.returns
returns c = c.from_be_bytes.ensures ∙ padded c.args.name.now _ _ c.min-len.ensures c.copy_from_slice.ensures.after
