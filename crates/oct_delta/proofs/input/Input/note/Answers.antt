use Rattle.std.proofs.Common.{◌≡◌, List, ℕ, Ok, ap, sym, ◌∙◌}
use Rattle.std.proofs.lemmas.Result.{err_from_is_err_and}
use Rattle.oct_ops.specs.Operation.{Note}
use Rattle.oct_ops.specs.declared.error.NoteError.TheVariants.{Name, Text, OutOfMemory}
use Rattle.oct_delta.proofs.Notes.{note_read, only_memory}
use Rattle.oct_delta.proofs.input.Input.note.Goals as goal

name_is_not : Name ≡ OutOfMemory → ⊥
name_is_not e = cc

text_is_not : Text ≡ OutOfMemory → ⊥
text_is_not e = cc

pub returns-in_err-words : goal.returns-in_err-words
returns-in_err-words g c =
    let p = err_from_is_err_and c.from_residual.result c.from_residual.ensures.1 in
    rw (p.1, p.2) c.in_err-words.ensures

pub returns-in-Ok : goal.returns-in-Ok
returns-in-Ok g c = c.in_ok-words.ensures ∙ ap (λ (n : Note). let w : Note × List ℕ = (n, c.words.new.self) in Ok w) (sym c.in-Ok.ensures.ok)

pub returns-in-Err-OutOfMemory : goal.returns-in-Err-OutOfMemory
returns-in-Err-OutOfMemory g c = tt

pub returns-in-Err-Name : goal.returns-in-Err-Name
returns-in-Err-Name g c =
    let none = note_read c.args.self.now c.words.new.self c.in_ok-words.words.name.now c.in_ok-words.words.text.now c.in_ok-words.ensures in
    absurd (name_is_not (only_memory _ c.in-Err-Name.field-0 Name none c.in-Err-Name.ensures.fault c.in-Err-Name.field-0-is))

pub returns-in-Err-Text : goal.returns-in-Err-Text
returns-in-Err-Text g c =
    let none = note_read c.args.self.now c.words.new.self c.in_ok-words.words.name.now c.in_ok-words.words.text.now c.in_ok-words.ensures in
    absurd (text_is_not (only_memory _ c.in-Err-Text.field-0 Text none c.in-Err-Text.ensures.fault c.in-Err-Text.field-0-is))
