-- A delta that is merged, or refused.
use Rattle.std.proofs.Common.{◌≡◌, ◌≢◌, ℕ, Bool, true, false, cond, List, Option, Some, None, Result, Ok, Err, refl, sym, ap, ◌∙◌, codes}
use Rattle.std.specs.Prelude.{◌↔◌, IsErrOf, IsSome, is_none, is_some}
use Rattle.oct_ops.specs.Body.{Operation}
use Rattle.oct_ops.specs.Operations.{listed}
use Rattle.oct_delta.specs.Bytes.{IsBytes}
use Rattle.oct_delta.specs.Decoding.{format_at, read_as, read_delta}
use Rattle.oct_delta.specs.Delta.{Format, IsDeltaText}
use Rattle.oct_delta.specs.Taken.{operations_of}
use Rattle.oct_delta.specs.Text.{Bytes}
use Rattle.oct_delta.proofs.Deltas.{Law, read_none}
use Rattle.oct_record.specs.Content.{RecordContent}
use Rattle.oct_record.specs.Taking.{count_new, with_all}
use Rattle.oct_record.specs.declared.error.TakeError.{TakeError}
use Rattle.oct_record.specs.declared.error.TakeError.TheVariants.{Version, Refused, OutOfMemory}
use Rattle.census_state.specs.Lines.{number_line}
use Rattle.census_state.specs.Refusals.{take_fault}
use Rattle.census_state.specs.States.{delta_of, delta_refusal, merge, merged}
use Rattle.census_state.specs.Steps.{◌>>=◌}
use Rattle.census_state.specs.Stored.{loaded, saved}
use Rattle.census_state.specs.declared.fault.Fault.TheVariants as fault

refused_as : (file : Bytes) → read_delta file ≡ None → (b : Bool) → is_none (format_at file) ≡ b → delta_of file ≡ Err (fault.Merge (cond b Version Refused))
refused_as file none b named =
    ap (λ t. cond t (Ok (operations_of file)) (Err (fault.Merge (delta_refusal file)))) (ap is_some none)
    ∙ ap (λ t. Err (fault.Merge (cond t Version Refused))) named

unnamed : (file : Bytes) → format_at file ≡ None → read_delta file ≡ None
unnamed file none = ap (λ (f : Option Format). read_as f file) none

-- a refusal that is not want of memory is the one that reading gives
pub delta_refused : Law → (file : Bytes) (result : Result ℕ TakeError) (cause : TakeError) → IsBytes file → result ≡ Err cause
    → IsErrOf result Version ↔ (format_at file ≡ None)
    → IsErrOf result Refused ↔ (IsSome (format_at file) × ((ops : List Operation) → ¬ IsDeltaText file ops))
    → take_fault cause ≢ fault.OutOfMemory → delta_of file ≡ Err (take_fault cause)
delta_refused law file result Version are is version refused other = let none = version.0 is in refused_as file (unnamed file none) true (ap is_none none)
delta_refused law file result Refused are is version refused other =
    let h = refused.0 is in refused_as file (read_none law file are h.1) false (named (format_at file) h.0)
  where
    named : (o : Option Format) → IsSome o → is_none o ≡ false
    named None h = absurd cc
    named (Some f) h = refl
delta_refused law file result (OutOfMemory done) are is version refused other = absurd (other refl)

pub merge_refused : Law → (state file : Bytes) (r : RecordContent) (result : Result ℕ TakeError) (cause : TakeError) → IsBytes file → loaded state ≡ Ok r → result ≡ Err cause
    → IsErrOf result Version ↔ (format_at file ≡ None)
    → IsErrOf result Refused ↔ (IsSome (format_at file) × ((ops : List Operation) → ¬ IsDeltaText file ops))
    → take_fault cause ≢ fault.OutOfMemory → merge state file ≡ Err (take_fault cause)
merge_refused law state file r result cause are there is version refused other =
    ap (λ l. l >>= λ q. delta_of file >>= λ ops. merged q ops) there
    ∙ ap (λ d. d >>= λ ops. merged r ops) (delta_refused law file result cause are is version refused other)

pub merge_saves : (state file : Bytes) (r q : RecordContent) (text : Bytes) (new : ℕ) → loaded state ≡ Ok r → IsSome (read_delta file)
    → q ≡ with_all r (operations_of file) → new ≡ count_new r.ops (listed (operations_of file)) → text ≡ number_line (codes "new ") new
    → merge state file ≡ saved q text
merge_saves state file r q text new there read is count spelled =
    ap (λ l. l >>= λ p. delta_of file >>= λ ops. merged p ops) there
    ∙ ap (λ t. cond t (Ok (operations_of file)) (Err (fault.Merge (delta_refusal file))) >>= λ ops. merged r ops) read
    ∙ (λ i. saved (sym is i) (sym (spelled ∙ ap (number_line (codes "new ")) count) i))
