use Rattle.oct_delta.proofs.Deltas.{text_front_is_all}
use Rattle.oct_delta.proofs.laws.no_text_begins_another.Goals as goal

pub returns : goal.returns
returns c = λ bytes more a b p q. (text_front_is_all bytes more a b p q).1
