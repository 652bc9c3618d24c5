-- What a reader of a text in pieces has, and what it tells of the bytes that were fed.
use Rattle.std.specs.Prelude.{◌≡◌, ℕ, ◌<◌, ◌≤◌, ◌^◌, List, [], ◌++◌, length, Option, Some, None, IsSome, Result, Ok, Err}
use denote.Ref.{Bor}
use Rattle.std.specs.List.{flat_map, All}
use Rattle.oct_ops.specs.Body.{Operation}
use Rattle.oct_ops.specs.Operations.{IsRising}
use Rattle.oct_delta.specs.declared.fault.TextFault.TheVariants.{Short}
use Rattle.oct_delta.specs.declared.encoding.TheConstants.{MAX_OP_SIZE}
use Rattle.oct_delta.specs.declared.error.DeltaError.{DeltaError}
use Rattle.oct_delta.specs.declared.error.DeltaError.TheVariants as errors
use Rattle.oct_delta.specs.declared.format.Edition.{Edition}
use Rattle.oct_delta.specs.declared.state.ReaderState.{ReaderState}
use Rattle.oct_delta.specs.declared.state.ReaderState.TheVariants.{Begun, Reading, Failed}
use Rattle.oct_delta.specs.Text.{Bytes, u32, op_bytes}
use Rattle.oct_delta.specs.Delta.{Fits, IsDeltaText}
use Rattle.oct_delta.specs.Formats.{format}
use Rattle.oct_delta.specs.Decoding.{format_at}
use Rattle.oct_delta.specs.Reading.{op_at}

-- a tag, a count, operations, and what follows
abbrev pub begun_bytes : Edition → ℕ → List Operation → Bytes → Bytes
begun_bytes e count ops rest = (format e).tag ++ (u32 count ++ (flat_map op_bytes ops ++ rest))

-- the bytes that were fed, and none after a refusal
abbrev pub fed : {A : Type 0} → ReaderState A → Option Bytes
fed (Begun bytes) = Some bytes.items
fed (Reading p) = Some (begun_bytes p.edition p.count p.ops.items p.rest.items)
fed Failed = None

-- operations that begin a list of so many
pub record BeginsList (limit count : ℕ) (ops : List Operation) : Type 0 where
  pub count_fits : count < 2 ^ 32
  pub few : length ops ≤ count
  pub each : All (Fits limit) ops
  pub rising : IsRising ops

-- less than a whole operation follows them, fewer bytes than the longest one has, and nothing the last
pub record IsPartial (limit count : ℕ) (ops : List Operation) (rest : Bytes) : Type 0 where
  pub begins : BeginsList limit count ops
  pub small : length rest < MAX_OP_SIZE
  pub short : length ops < count → op_at limit rest ≡ Err Short
  pub ended : length ops ≡ count → rest ≡ []

-- the first four bytes are those of a tag
abbrev pub HasTag : Bytes → Type 0
HasTag bytes = IsSome (format_at bytes)

abbrev pub IsReaderState : {A : Type 0} → ReaderState A → Type 0
IsReaderState (Begun bytes) = (length bytes.items < 8) × (4 ≤ length bytes.items → HasTag bytes.items)
IsReaderState (Reading p) = IsPartial (format p.edition).limit p.count p.ops.items p.rest.items
IsReaderState Failed = Unit {0}

-- no text begins with these bytes
abbrev pub IsHopeless : Bytes → Type 0
IsHopeless bytes = (more : Bytes) (ops : List Operation) → ¬ IsDeltaText (bytes ++ more) ops

-- the first four bytes are there, and are no tag
abbrev pub IsForeign : Bytes → Type 0
IsForeign bytes = (4 ≤ length bytes) × (format_at bytes ≡ None)

-- the bytes of several pieces, one after the other
abbrev pub together : List (Bor Bytes) → Bytes
together pieces = flat_map (λ (piece : Bor Bytes). piece.now) pieces

-- what a step tells of the bytes that were fed
abbrev pub Tells : {A : Type 0} → Result (ReaderState A) DeltaError → Bytes → Type 0
Tells (Ok state) bytes = IsReaderState state × (fed state ≡ Some bytes)
Tells (Err errors.Version) bytes = IsForeign bytes
Tells (Err errors.Refused) bytes = HasTag bytes × IsHopeless bytes
Tells (Err errors.OutOfMemory) bytes = Unit {0}
Tells (Err errors.Failed) bytes = ⊥
