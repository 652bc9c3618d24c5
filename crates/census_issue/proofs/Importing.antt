-- The block of a JSON file, step by step.
use Rattle.std.proofs.Common.{◌≡◌, ◌≢◌, Bool, true, false, cond, Some, None, Ok, Err, refl, ap, ◌∙◌}
use Rattle.std.specs.Prelude.{IsUtf8}
use Rattle.std.specs.Str.{is_utf8}
use Rattle.std.proofs.lemmas.Str.{IsUtf8-from_is_utf8, is_utf8-from_IsUtf8}
use Rattle.oct_delta.specs.Text.{Bytes}
use Rattle.oct_ops.specs.Operation.{Block}
use Rattle.serde_json.specs.Data.{Data}
use Rattle.serde_json.specs.Read.{read}
use Rattle.census_issue.specs.Imported.{imported}
use Rattle.census_issue.specs.Issuing.{block_of, json_of}
use Rattle.census_state.specs.Refusals.{import_fault}
use Rattle.census_state.specs.Steps.{◌>>=◌, because, found}
use Rattle.census_state.specs.declared.fault.Fault.TheVariants as fault
use Rattle.census_state.specs.declared.import_error.ImportError.{ImportError}
use Rattle.census_state.specs.declared.import_error.ImportError.TheVariants as import

json_is : (file : Bytes) (d : Data) → IsUtf8 file → read file ≡ Some d → json_of file ≡ Ok d
json_is file d text is = ap (λ b. found fault.Json (cond b (read file) None)) (is_utf8-from_IsUtf8 file text) ∙ ap (found fault.Json) is

no_json : (file : Bytes) → (IsUtf8 file → read file ≡ None) → json_of file ≡ Err fault.Json
no_json file none = by (is_utf8 file) refl
  where
    by : (b : Bool) → is_utf8 file ≡ b → found fault.Json (cond b (read file) None) ≡ Err fault.Json
    by true e = ap (found fault.Json) (none (IsUtf8-from_is_utf8 file e))
    by false e = refl

pub json_refused : (file : Bytes) → (IsUtf8 file → read file ≡ None) → block_of file ≡ Err fault.Json
json_refused file none = ap (λ j. j >>= λ value. because fault.Import (imported value)) (no_json file none)

pub block_read : (file : Bytes) (d : Data) (b : Block) → IsUtf8 file → read file ≡ Some d → imported d ≡ Ok b → block_of file ≡ Ok b
block_read file d b text is made = ap (λ j. j >>= λ value. because fault.Import (imported value)) (json_is file d text is) ∙ ap (because fault.Import) made

blamed : (d : Data) (e : ImportError) → (e ≢ import.OutOfMemory → imported d ≡ Err e) → import_fault e ≢ fault.OutOfMemory → because fault.Import (imported d) ≡ Err (import_fault e)
blamed d import.OutOfMemory refused other = absurd (other refl)
blamed d e refused other = ap (because fault.Import) (refused (λ is. cc))

pub block_refused : (file : Bytes) (d : Data) (e : ImportError) → IsUtf8 file → read file ≡ Some d → (e ≢ import.OutOfMemory → imported d ≡ Err e) → import_fault e ≢ fault.OutOfMemory → block_of file ≡ Err (import_fault e)
block_refused file d e text is refused other = ap (λ j. j >>= λ value. because fault.Import (imported value)) (json_is file d text is) ∙ blamed d e refused other
