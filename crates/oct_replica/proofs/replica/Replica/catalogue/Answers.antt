use Rattle.std.proofs.Common.{◌≡◌, ◌++◌, subst}
use Rattle.std.specs.Prelude.{OnOk}
use Rattle.oct_ops.specs.Operations.{listed}
use Rattle.oct_pages.specs.Catalogue.{catalogue}
use Rattle.oct_record.specs.Content.{RecordContent}
use Rattle.oct_replica.proofs.Beside.{are_in}
use Rattle.oct_replica.proofs.replica.Replica.catalogue.Goals as goal

pub write_catalogue_with-requires : goal.write_catalogue_with-requires
write_catalogue_with-requires g c = are_in c.self.inside.said.ops c.self.inside.games c.self.invariant

pub returns-clause-ok : goal.returns-clause-ok
returns-clause-ok g c =
    subst (λ (r : RecordContent). OnOk c.write_catalogue_with.result (c.write_catalogue_with.new.out.items ≡ c.args.out.now.items ++ catalogue (listed r.ops))) c.self.view_is c.write_catalogue_with.ensures.ok
