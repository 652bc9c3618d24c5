use Rattle.std.proofs.Common.{◌++◌, ap, ◌∙◌}
use Rattle.std.proofs.lemmas.Result.{on_ok_weaker}
use Rattle.oct_views.specs.Index.{author_row}
use Rattle.oct_views.proofs.records.AuthorRowsRowsCalled.append_row.Goals as goal

pub returns-clause-ok : goal.returns-clause-ok
returns-clause-ok g c = on_ok_weaker c.append_called.result (λ e. e ∙ ap (λ a. c.args.out.now.items ++ author_row a) c.row.view_is) c.append_called.ensures.ok
