use Rattle.std.proofs.Common.{◌≡◌, ◌++◌, subst}
use Rattle.std.specs.Prelude.{IfOk, OnOk}
use Rattle.oct_ops.specs.Operations.{listed}
use Rattle.oct_pages.specs.Catalogue.{has_page, page}
use Rattle.oct_record.specs.Content.{RecordContent}
use Rattle.oct_replica.proofs.Beside.{are_in}
use Rattle.oct_replica.proofs.replica.Replica.page.Goals as goal

pub write_page_with-requires : goal.write_page_with-requires
write_page_with-requires g c = are_in c.self.inside.said.ops c.self.inside.games c.self.invariant

pub returns-clause-found : goal.returns-clause-found
returns-clause-found g c = subst (λ (r : RecordContent). IfOk c.write_page_with.result (λ found. found ≡ has_page (listed r.ops) c.args.number)) c.self.view_is c.write_page_with.ensures.found

pub returns-clause-ok : goal.returns-clause-ok
returns-clause-ok g c =
    subst (λ (r : RecordContent). OnOk c.write_page_with.result (c.write_page_with.new.out.items ≡ c.args.out.now.items ++ page (listed r.ops) c.args.number)) c.self.view_is c.write_page_with.ensures.ok

pub returns-clause-none : goal.returns-clause-none
returns-clause-none g c = c.write_page_with.ensures.none

pub returns-clause-err : goal.returns-clause-err
returns-clause-err g c = c.write_page_with.ensures.err
