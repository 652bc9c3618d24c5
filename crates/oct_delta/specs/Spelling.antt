-- Which operations byte strings spell, in the words of texts alone.
use Rattle.std.specs.Prelude.{◌≡◌, ◌⊎◌, ◌↔◌, true, List}
use Rattle.std.specs.List.{IsAmong}
use Rattle.oct_ops.specs.Body.{Operation}
use Rattle.oct_ops.specs.Operations.{Operations, contains, empty, listed}
use Rattle.oct_delta.specs.Text.{Bytes}
use Rattle.oct_delta.specs.Delta.{IsDeltaText}

-- the bytes are a text of no list
abbrev pub IsNoText : Bytes → Type 0
IsNoText bytes = (ops : List Operation) → ¬ IsDeltaText bytes ops

-- the bytes spell the set: they are a text of its list; any other bytes spell the empty set
abbrev pub Spells : Bytes → Operations → Type 0
Spells bytes ops = IsDeltaText bytes (listed ops) ⊎ (IsNoText bytes × (ops ≡ empty))

-- one of the strings spells a set that has the operation
pub record IsSpelledIn (strings : List Bytes) (o : Operation) : Type 0 where
  pub bytes : Bytes
  pub among : IsAmong strings bytes
  pub ops : Operations
  pub spells : Spells bytes ops
  pub held : contains ops o ≡ true

-- the set has exactly the operations that the strings spell
abbrev pub SpellTogether : List Bytes → Operations → Type 0
SpellTogether strings ops = (o : Operation) → (contains ops o ≡ true) ↔ IsSpelledIn strings o
