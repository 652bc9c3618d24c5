-- What a delta is, in either format: a tag, and the text of a strictly rising list of operations within the limit.
use Rattle.std.specs.Prelude.{◌≡◌, ◌⊎◌, ℕ, ◌<◌, ◌^◌, List, ◌++◌, length, codes, if◌then◌else◌, IsTrue}
use Rattle.std.specs.List.{All, list_all}
use Rattle.oct_code.specs.declared.limits.TheConstants.{LIMIT, OLD_LIMIT}
use Rattle.oct_ops.specs.Body.{Operation}
use Rattle.oct_ops.specs.Limits.{keeps_limit, keeps_old_limits}
use Rattle.oct_ops.specs.Operations.{IsRising}
use Rattle.oct_ops.specs.Valid.{IsOp}
use Rattle.oct_delta.specs.Text.{Bytes, list_bytes, u32}

-- a way of writing deltas: the four bytes that they begin with, and how many places a game has
pub record Format : Type 0 where
  pub tag : Bytes
  pub limit : ℕ

abbrev pub old_format : Format
old_format = record { tag = codes "OGD1"; limit = OLD_LIMIT }

abbrev pub new_format : Format
new_format = record { tag = codes "OGD2"; limit = LIMIT }

-- an operation that has a text within the limit
pub record Fits (limit : ℕ) (o : Operation) : Type 0 where
  pub valid : IsOp o
  pub within : IsTrue (keeps_limit limit o.body)

pub record IsOpList (limit : ℕ) (ops : List Operation) : Type 0 where
  pub few : length ops < 2 ^ 32
  pub each : All (Fits limit) ops
  pub rising : IsRising ops

-- the bytes are the text of these operations, which are within the limit
pub record IsList (limit : ℕ) (bytes : Bytes) (ops : List Operation) : Type 0 where
  pub list : IsOpList limit ops
  pub spelled : bytes ≡ list_bytes ops

abbrev pub delta_bytes : Format → List Operation → Bytes
delta_bytes format ops = format.tag ++ list_bytes ops

-- the bytes are the tag, and then the text of these operations
pub record IsDelta (format : Format) (bytes : Bytes) (ops : List Operation) : Type 0 where
  pub list : IsOpList format.limit ops
  pub spelled : bytes ≡ delta_bytes format ops

-- the bytes are a text of these operations in either format
abbrev pub IsDeltaText : Bytes → List Operation → Type 0
IsDeltaText bytes ops = IsDelta old_format bytes ops ⊎ IsDelta new_format bytes ops

-- the old format where all operations keep its limits, also where there are none
abbrev pub format_of : List Operation → Format
format_of ops = if list_all keeps_old_limits ops then old_format else new_format

-- the text that is written
abbrev pub encoded : List Operation → Bytes
encoded ops = delta_bytes (format_of ops) ops

-- what stands in it in front of the operations
abbrev pub head_bytes : List Operation → Bytes
head_bytes ops = (format_of ops).tag ++ u32 (length ops)
