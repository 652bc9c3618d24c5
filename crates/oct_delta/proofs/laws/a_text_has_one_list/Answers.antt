use Rattle.std.proofs.Common.{[], sym, subst}
use Rattle.std.proofs.lemmas.List.{append-nil}
use Rattle.oct_delta.specs.Text.{Bytes}
use Rattle.oct_delta.specs.Delta.{IsDeltaText}
use Rattle.oct_delta.proofs.Deltas.{text_front_is_all}
use Rattle.oct_delta.proofs.laws.a_text_has_one_list.Goals as goal

pub returns : goal.returns
returns c = λ bytes a b p q. (text_front_is_all bytes [] a b p (subst (λ (z : Bytes). IsDeltaText z b) (sym (append-nil bytes)) q)).0
