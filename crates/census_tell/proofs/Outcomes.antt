-- Who wins a position whose value is known.
use Rattle.std.proofs.Common.{◌≡◌, ℕ, List, Result, Ok, Err, refl, ap}
use Rattle.std.specs.Prelude.{IfOk}
use Rattle.oct_code.specs.Code.{Code}
use Rattle.oct_mex.specs.NimValues.{position_value as nim_sum}
use Rattle.oct_period.proofs.Winners.{told_by_value}
use Rattle.oct_period.specs.declared.unknown.Unknown.{Unknown}
use Rattle.oct_text.specs.declared.form.Form.{Form}
use Rattle.census_tell.specs.Asking.{known_text, position_text, value_text}

-- by the value alone as by the moves alone
pub placed : (form : Form) (c : Code) (heaps : List ℕ) (known : Result ℕ Unknown) → IfOk known (λ v. v ≡ nim_sum c heaps) → position_text form known ≡ value_text form c heaps known
placed form c heaps (Ok v) right = ap (known_text form v) (told_by_value c heaps (Ok v) right)
placed form c heaps (Err unknown) right = refl
