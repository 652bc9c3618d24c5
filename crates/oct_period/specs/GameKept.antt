-- What the fields of a `Game` keep.
use Rattle.std.specs.Prelude.{◌≡◌, true}
use Rattle.std.specs.List.Sorted.{IsStrictlySortedBy}
use Rattle.oct_ops.specs.Sets as sets
use Rattle.oct_verify.specs.Filing.{Filing}
use Rattle.oct_period.specs.Claims.{Claim, claim_cmp}
use Rattle.oct_period.specs.GameContent.{GameContent}
use Rattle.oct_period.specs.declared.game.Game.TheInside.{Inside}

-- the claims are kept as the rising list of their set
abbrev pub content_of : {A : Type 0} → Inside A → GameContent
content_of g = record { code = g.ledger.code; blocks = g.ledger.blocks; claims = sets.set_of g.claims.keys }

-- blocks and claims are of the game
pub record IsGame {A : Type 0} (g : Inside A) : Type 0 where
  pub sorted : IsStrictlySortedBy claim_cmp g.claims.keys
  pub blocks : (f : Filing) → sets.contains g.ledger.blocks f ≡ true → f.1.code ≡ g.ledger.code
  pub claims : (c : Claim) → sets.contains (sets.set_of {R = claim_cmp} g.claims.keys) c ≡ true → c.1.code ≡ g.ledger.code
