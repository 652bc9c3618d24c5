use Rattle.oct_answer.proofs.Leaving.{is_over}
use Rattle.oct_answer.proofs.missing.Missing.is_over.Goals as goal

pub returns : goal.returns
returns g c = is_over _ _ _ _ _ c.self.view_is
