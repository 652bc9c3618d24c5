-- What comes whole of a text that comes in pieces.
use Rattle.std.specs.Prelude.{◌≡◌, ℕ, zero, suc, ◌<◌, ◌≤◌, ◌-◌, ◌^◌, slice_get, List, [], ◌∷◌, ◌++◌, length, Option, Some, None, Result, Ok, Err}
use Rattle.std.specs.List.{flat_map, All}
use Rattle.oct_ops.specs.Body.{Operation}
use Rattle.oct_ops.specs.Operations.{IsRising}
use Rattle.oct_delta.specs.declared.encoding.TheConstants.{MAX_OP_SIZE}
use Rattle.oct_delta.specs.declared.fault.TextFault.TheVariants.{Short, Malformed}
use Rattle.oct_delta.specs.declared.fault.ReadError.{ReadError}
use Rattle.oct_delta.specs.declared.fault.ReadError.TheVariants as errors
use Rattle.oct_delta.specs.Text.{Bytes, u32, op_bytes}
use Rattle.oct_delta.specs.Delta.{Format, Fits}
use Rattle.oct_delta.specs.Decoding.{format_at}
use Rattle.oct_delta.specs.Reading.{◌>>=◌, Read, next_op_at}

-- the last item
abbrev pub last_of : List Operation → Option Operation
last_of ops = slice_get ops (length ops - 1)

-- what follows an operation, where it is whole
abbrev pub if_whole : Bytes → (Operation × Bytes → Read (List Operation)) → Read Operation → Read (List Operation)
if_whole bytes more (Ok x) = more x
if_whole bytes more (Err Short) = Ok ([], bytes)
if_whole bytes more (Err Malformed) = Err Malformed

-- as many operations as are whole, but no more than count, and the bytes after them
unfoldable pub whole_at : ℕ → Option Operation → ℕ → Bytes → Read (List Operation)
whole_at limit before zero bytes = Ok ([], bytes)
whole_at limit before (suc count) bytes =
    if_whole bytes (λ first. whole_at limit (Some first.0) count first.1 >>= λ others. Ok (first.0 ∷ others.0, others.1)) (next_op_at limit before bytes)

-- What one step gave of an operation at the front, or that it is not whole.
abbrev pub GivesNext : Result (Option Operation) ReadError → Bytes → Bytes → Read Operation → Type 0
GivesNext (Ok (Some op)) old new read = read ≡ Ok (op, new)
GivesNext (Ok None) old new read = (read ≡ Err Short) × (new ≡ old)
GivesNext (Err errors.Memory) old new read = Unit {0}
GivesNext (Err (errors.Fault f)) old new read = (read ≡ Err Malformed) × (f ≡ Malformed)

-- the bytes begin a text of so many operations: a tag and a count, these operations, and less than a whole one, which is
-- shorter than the longest
pub record BeginsWith (bytes : Bytes) (ops : List Operation) : Type 0 where
  pub format : Format
  pub named : format_at bytes ≡ Some format
  pub count : ℕ
  pub count_fits : count < 2 ^ 32
  pub rest : Bytes
  pub spelled : bytes ≡ format.tag ++ u32 count ++ flat_map op_bytes ops ++ rest
  pub each : All (Fits format.limit) ops
  pub rising : IsRising ops
  pub few : length ops ≤ count
  pub ended : length ops ≡ count → rest ≡ []
  pub small : length rest < MAX_OP_SIZE
  pub unfinished : length ops < count → (op : Operation) (after : Bytes) → Fits format.limit op → rest ≡ op_bytes op ++ after → ⊥

-- these are the operations that are whole in the bytes that have come so far: none before the count is there
pub record AreWhole (bytes : Bytes) (ops : List Operation) : Type 0 where
  pub early : length bytes < 8 → ops ≡ []
  pub late : 8 ≤ length bytes → BeginsWith bytes ops
