-- Which bytes are the text of a state.
use Rattle.std.specs.Prelude.{◌≡◌, ◌≤◌, ℕ, Bool, true, false, nat_eq, List, ◌++◌}
use Rattle.std.specs.List.{starts_with}
use Rattle.oct_ops.specs.Body.{Operation}
use Rattle.oct_ops.specs.Operations.{Operations}
use Rattle.oct_ops.specs.Valid.{IsU32}
use Rattle.oct_delta.specs.Text.{Bytes, u32}
use Rattle.oct_delta.specs.Delta.{IsDeltaText, encoded}
use Rattle.oct_delta.specs.State.{IsState, state_tag}
use Rattle.oct_record.specs.declared.error.LoadError.{LoadError}
use Rattle.oct_record.specs.declared.error.LoadError.TheVariants.{Version, Refused, OutOfMemory}

-- the text that is written: the tag, the author, and the text of the operations
abbrev pub state_text : ℕ → List Operation → Bytes
state_text author ops = state_tag ++ u32 author ++ encoded ops

-- the first four bytes are the tag
abbrev pub has_tag : Bytes → Bool
has_tag bytes = starts_with nat_eq bytes state_tag

-- an author, and what comes after it
pub record IsAuthored (bytes : Bytes) (author : ℕ) (rest : Bytes) : Type 0 where
  pub fits : (1 ≤ author) × IsU32 author
  pub spelled : bytes ≡ u32 author ++ rest

-- the tag, an author, and what comes after both
pub record IsHeaded (bytes : Bytes) (author : ℕ) (rest : Bytes) : Type 0 where
  pub fits : (1 ≤ author) × IsU32 author
  pub spelled : bytes ≡ state_tag ++ u32 author ++ rest

-- where a state is refused: there is no tag, or the bytes are no text of a state, or they are one
abbrev pub RefusesState : Bytes → LoadError → Type 0
RefusesState bytes Version = has_tag bytes ≡ false
RefusesState bytes Refused = (has_tag bytes ≡ true) × ((author : ℕ) (ops : Operations) → ¬ IsState bytes author ops)
RefusesState bytes OutOfMemory = (author : ℕ) × (ops : Operations) × IsState bytes author ops

-- where the list of a state is refused
abbrev pub RefusesList : Bytes → LoadError → Type 0
RefusesList bytes Version = ⊥
RefusesList bytes Refused = (ops : List Operation) → ¬ IsDeltaText bytes ops
RefusesList bytes OutOfMemory = (ops : List Operation) × IsDeltaText bytes ops
