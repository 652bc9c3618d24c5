-- Parts of a list.
use Rattle.std.specs.Prelude.{ℕ, zero, suc, ◌≤◌, ◌-◌, List, [], ◌∷◌}
use Rattle.census_codes.specs.declared.part.TheConstants.{MAX_PARTS}

pub record ListPart : Type 0 where
  pub number : ℕ
  pub of : ℕ

-- the parts are counted from 1, and are not too many
pub record IsPart (number of : ℕ) : Type 0 where
  pub some : 1 ≤ number
  pub within : number ≤ of
  pub few : of ≤ MAX_PARTS

-- every n-th item of a list, where so many come before the first of them
abbrev pub each_nth : {X : Type 0} → ℕ → ℕ → List X → List X
each_nth n before [] = []
each_nth n zero (x ∷ xs) = x ∷ each_nth n (n - 1) xs
each_nth n (suc before) (x ∷ xs) = each_nth n before xs
