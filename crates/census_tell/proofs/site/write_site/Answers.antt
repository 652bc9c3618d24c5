use Rattle.std.proofs.Common.{refl}
use Rattle.std.proofs.lemmas.Result.{on_ok_weaker}
use Rattle.oct_ops.specs.Operations.{listed}
use Rattle.oct_sheet.specs.Sheet.{sheet}
use Rattle.census_tell.proofs.Shelves.{each_fault, no_fault}
use Rattle.census_state.proofs.Stepping.{then_with}
use Rattle.census_tell.specs.Site.{site}
use Rattle.census_tell.proofs.site.write_site.Goals as goal

pub returns-in_err-held-clause-unread : goal.returns-in_err-held-clause-unread
returns-in_err-held-clause-unread g c = each_fault _ _ refl

pub returns-clause-ok : goal.returns-clause-ok
returns-clause-ok g c =
    on_ok_weaker c.put_site.result
    (λ e. record { files = site c.args.beside c.args.proved.now (sheet (listed c.in_ok-held.held.ops)); are = then_with _ _ _ c.in_ok-held.ensures.ok; filled = e }) c.put_site.ensures.ok

pub returns-clause-unread : goal.returns-clause-unread
returns-clause-unread g c = no_fault _ _ _ (then_with _ _ _ c.in_ok-held.ensures.ok)
