-- The notes of periods in what was said.
use Rattle.std.specs.Prelude.{◌≡◌, nat_eq, Bool, false, ◌&&◌, List, Option, Some, None, if◌then◌else◌}
use Rattle.std.specs.Cmp.Lexicographic.{pointwise}
use Rattle.std.specs.List.{filter_map, list_any}
use Rattle.oct_code.specs.Code.{Code}
use Rattle.oct_mex.specs.declared.period.SeenPeriod.{SeenPeriod}
use Rattle.oct_notes.specs.Notes.{live_notes, name_of}
use Rattle.oct_ops.specs.Body as kind
use Rattle.oct_ops.specs.Body.{Body, Operation}
use Rattle.oct_ops.specs.Operation.{Dot, Note, noted}
use Rattle.oct_ops.specs.Operations.{Operations, insert, listed}
use Rattle.oct_record.specs.Content.{RecordContent}
use Rattle.oct_record.specs.Taking.{has_number, next_op}
use Rattle.oct_record.specs.declared.error.IssueError.{IssueError}
use Rattle.oct_record.specs.declared.error.IssueError.TheVariants.{LastNumber, OutOfMemory}
use Rattle.oct_text.specs.Words.{Text}
use Rattle.oct_said.specs.Lines.{period_text}
use Rattle.oct_said.specs.Names.{note_name}
use Rattle.oct_said.specs.Noting.{period_note_of, text_of}
use Rattle.oct_said.specs.declared.noting.PeriodNote.{PeriodNote}

-- ---- which there are

-- by name, and then in the order of operations
abbrev pub period_notes : Operations → List PeriodNote
period_notes ops = filter_map period_note_of (live_notes (listed ops))

-- ---- a further one

abbrev pub says : Text → Text → Operation → Bool
says name text o = pointwise nat_eq (name_of o.body) name && pointwise nat_eq (text_of o.body) text

-- a live note has this name and says this
abbrev pub has_note : Text → Text → Operations → Bool
has_note name text ops = list_any (says name text) (live_notes (listed ops))

-- a live note of the game says this period
abbrev pub is_noted : RecordContent → Code → SeenPeriod → Bool
is_noted r c seen = has_note (note_name c) (period_text c seen) r.ops

-- the note as what the author issues next
abbrev pub next_note : RecordContent → Note → Operation
next_note r n = next_op r.ops r.author (kind.Note n)

abbrev pub period_note : Code → SeenPeriod → Note
period_note c seen = noted (note_name c) (period_text c seen)

-- its dot, where it is issued
abbrev pub noted_dot : RecordContent → Code → SeenPeriod → Option Dot
noted_dot r c seen = if is_noted r c seen then None else Some (next_note r (period_note c seen)).dot

abbrev pub with_note : RecordContent → Code → SeenPeriod → RecordContent
with_note r c seen = if is_noted r c seen then r else record r { ops = insert r.ops (next_note r (period_note c seen)) }

abbrev pub IsNoteFault : RecordContent → Code → SeenPeriod → IssueError → Type 0
IsNoteFault r c seen LastNumber = (is_noted r c seen ≡ false) × (has_number r.ops r.author ≡ false)
IsNoteFault r c seen OutOfMemory = Unit {0}
