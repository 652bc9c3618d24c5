-- How an author's set of operations is spelled as bytes.
use Rattle.std.specs.Prelude.{◌≡◌, ℕ, ◌≤◌, ◌++◌, codes}
use Rattle.oct_ops.specs.Operations.{Operations, listed}
use Rattle.oct_ops.specs.Valid.{IsU32}
use Rattle.oct_delta.specs.Text.{Bytes, u32}
use Rattle.oct_delta.specs.Delta.{IsDeltaText}

abbrev pub state_tag : Bytes
state_tag = codes "OGS1"

-- the bytes are a text of an author and its set: the tag, the author, a text of the set's list
pub record IsState (bytes : Bytes) (author : ℕ) (ops : Operations) : Type 0 where
  pub author_fits : (1 ≤ author) × IsU32 author
  pub rest : Bytes
  pub list : IsDeltaText rest (listed ops)
  pub spelled : bytes ≡ state_tag ++ u32 author ++ rest
