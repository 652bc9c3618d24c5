use Rattle.std.proofs.Common.{◌≡◌, ◌↔◌, ◌==◌, subst}
use Rattle.std.specs.Prelude.{IsTrue}
use Rattle.std.proofs.lemmas.Bool.Decides.{Decides-eqb}
use Rattle.oct_record.proofs.record.Record.is_empty.Goals as goal

pub returns : goal.returns
returns g c = subst (λ n. IsTrue (c.len.result == 0) ↔ (n ≡ 0)) c.len.ensures (Decides-eqb c.len.result 0)
