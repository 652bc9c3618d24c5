use Rattle.std.proofs.Common.{◌++◌, ap, ◌∙◌}
use Rattle.census_tell.specs.Questions.{shown_among}
use Rattle.census_tell.proofs.viewing.view_text.Goals as goal

pub returns-in-Ok : goal.returns-in-Ok
returns-in-Ok c = c.in-Ok.ensures ∙ ap (λ front. front ++ shown_among c.args.view c.args.part.now.ops c.args.whole.now.ops) c.new-text.ensures.items
