-- The name and the text that are read make a note.
use Rattle.std.proofs.Common.{◌≡◌, Bool, true, false, ◌&&◌, not, if◌then◌else◌, ℕ, Option, Some, None, Ok, refl, sym, ◌∙◌, subst}
use Rattle.oct_ops.specs.Faults.{IsFaultOrMemory, is_name, is_text, note_fault}
use Rattle.oct_ops.specs.Operation.{Note, noted}
use Rattle.oct_ops.specs.declared.error.NoteError.{NoteError}
use Rattle.oct_ops.specs.declared.error.NoteError.TheVariants as faults
use Rattle.oct_delta.specs.Reading.{◌>>=◌, Read, checked, byte_at, bytes_at, note_at}
use Rattle.oct_delta.specs.Text.{Bytes}
use Rattle.oct_delta.proofs.Codecs.{bind_ok, checked_ok}

faultless : (named worded : Bool) → (named && worded) ≡ true → (if not named then Some faults.Name else (if not worded then Some faults.Text else None)) ≡ None
faultless true true h = refl
faultless true false h = absurd cc
faultless false worded h = absurd cc

passes : (name text rest after : Bytes) (n : Note) → checked (is_name name && is_text text) (noted name text) rest ≡ Ok (n, after) → (is_name n.name && is_text n.text) ≡ true
passes name text rest after n e =
    let passed = checked_ok (is_name name && is_text text) (noted name text) rest (n, after) e in
    subst (λ (z : Note × Bytes). (is_name z.0.name && is_text z.0.text) ≡ true) passed.1 passed.0

pub note_read : (bytes after name text : Bytes) → note_at bytes ≡ Ok (noted name text, after) → note_fault (noted name text) ≡ None
unfolding note_at
note_read bytes after name text read =
    let n : Note = noted name text in
    let last : Bytes × Bytes → Bytes × Bytes → Read Note = λ name text. checked (is_name name.0 && is_text text.0) (record { name = name.0; text = text.0 }) text.1 in
    let worded : Bytes × Bytes → ℕ × Bytes → Read Note = λ name size. bytes_at size.0 size.1 >>= λ text. last name text in
    let sized : Bytes × Bytes → Read Note = λ name. byte_at name.1 >>= λ size. worded name size in
    let a = bind_ok (byte_at bytes) (λ size. bytes_at size.0 size.1 >>= λ name. sized name) (n, after) read in
    let b = bind_ok (bytes_at a.0.0 a.0.1) sized (n, after) a.2 in
    let c = bind_ok (byte_at b.0.1) (worded b.0) (n, after) b.2 in
    let d = bind_ok (bytes_at c.0.0 c.0.1) (last b.0) (n, after) c.2 in
    faultless (is_name name) (is_text text) (passes b.0.0 d.0.0 d.0.1 after n d.2)

-- where no part is at fault only memory was refused
pub only_memory : (fault : Option NoteError) (e shown : NoteError) → fault ≡ None → IsFaultOrMemory fault e → e ≡ shown → shown ≡ faults.OutOfMemory
only_memory fault e shown none told is = sym is ∙ subst (λ (f : Option NoteError). IsFaultOrMemory f e) none told
