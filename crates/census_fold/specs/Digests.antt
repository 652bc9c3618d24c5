-- The digest of the operations of a file, which is the same wherever the set is the same.
use Rattle.std.specs.Prelude.{◌≡◌, ◌⊎◌, ℕ, ◌^◌, nat_lt, length, Result, Ok, Err, if◌then◌else◌}
use Rattle.hex.specs.Hex.{encode_lower}
use Rattle.sha2.specs.Sha256.{sha256}
use Rattle.oct_delta.specs.Bytes.{IsBytes}
use Rattle.oct_delta.specs.Delta.{encoded, IsDeltaText}
use Rattle.oct_delta.specs.State.{IsState}
use Rattle.oct_delta.specs.Text.{Bytes}
use Rattle.oct_ops.specs.Operations.{Operations, listed}
use Rattle.oct_record.specs.States.{has_tag}
use Rattle.census_state.specs.States.{delta_of}
use Rattle.census_state.specs.Steps.{◌>>=◌}
use Rattle.census_state.specs.Stored.{loaded}
use Rattle.census_state.specs.declared.fault.Fault.{Fault}
use Rattle.census_state.specs.declared.fault.Fault.TheVariants.{TooMany}

-- the operations of a file: of a state where it begins as one, and else of a delta
abbrev pub operations_in : Bytes → Result Operations Fault
operations_in file = if has_tag file then (loaded file >>= λ r. Ok r.ops) else delta_of file

-- the one text that is written of a set
abbrev pub text_of : Operations → Result Bytes Fault
text_of ops = if nat_lt (length (listed ops)) (2 ^ 32) then Ok (encoded (listed ops)) else Err TooMany

-- the hexadecimal digits of the SHA-256 of a text
abbrev pub digits_of : Bytes → Bytes
digits_of text = encode_lower (sha256 text)

-- the digest of a set is that of its one text
abbrev pub digest_of_set : Operations → Result Bytes Fault
digest_of_set ops = text_of ops >>= λ text. Ok (digits_of text)

abbrev pub digest_of : Bytes → Result Bytes Fault
digest_of file = operations_in file >>= digest_of_set

-- ---- laws

-- the file is a state, of whatever author, or a delta; it has these operations
abbrev pub IsFileOf : Bytes → Operations → Type 0
IsFileOf file ops = ((author : ℕ) × IsState file author ops) ⊎ IsDeltaText file (listed ops)

-- the digest of a file is that of the one text of its operations
abbrev pub DigestIsOfSet : Type 0
DigestIsOfSet = (file : Bytes) (ops : Operations) → IsBytes file → IsFileOf file ops → digest_of file ≡ Ok (digits_of (encoded (listed ops)))

-- files with one text have one set
abbrev pub TextIsOfOneSet : Type 0
TextIsOfOneSet = (a b : Bytes) (r s : Operations) → IsFileOf a r → IsFileOf b s → encoded (listed r) ≡ encoded (listed s) → r ≡ s
