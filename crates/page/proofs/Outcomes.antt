-- Who wins a position whose value is known.
use Rattle.std.proofs.Common.{◌≡◌, ℕ, List, Result, Ok, ap, ◌∙◌, sym}
use Rattle.oct_code.specs.Code.{Code}
use Rattle.oct_period.specs.Outcomes.{outcome_by}
use Rattle.oct_period.specs.declared.unknown.Unknown.{Unknown}
use Rattle.oct_text.specs.declared.form.Form.TheVariants.{Lines}
use Rattle.census_tell.specs.Asking.{known_text, value_text}

pub outcome_shown : (c : Code) (heaps : List ℕ) (known : Result ℕ Unknown) (v : ℕ) → known ≡ Ok v → known_text Lines v (outcome_by c heaps known) ≡ value_text Lines c heaps known
outcome_shown c heaps known v is = ap (λ k. known_text Lines v (outcome_by c heaps k)) is ∙ ap (value_text Lines c heaps) (sym is)
