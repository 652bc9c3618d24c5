-- What a note says of a game's period.
use Rattle.std.specs.Prelude.{List, [], Option, Some, None, if◌then◌else◌}
use Rattle.std.specs.List.{filter, filter_map}
use Rattle.std.specs.Ordering.{eq_by_cmp}
use Rattle.oct_code.specs.Code.{Code, code_cmp}
use Rattle.oct_mex.specs.declared.period.SeenPeriod.{SeenPeriod}
use Rattle.oct_notes.specs.Notes.{name_of}
use Rattle.oct_ops.specs.Body as kind
use Rattle.oct_ops.specs.Body.{Body, Operation}
use Rattle.oct_ops.specs.Operation.{Dot}
use Rattle.oct_text.specs.Words.{Text}
use Rattle.oct_said.specs.Lines.{is_long, said_by}
use Rattle.oct_said.specs.Names.{game_named}
use Rattle.oct_said.specs.declared.noting.LongPeriod.{LongPeriod}
use Rattle.oct_said.specs.declared.noting.PeriodNote.{PeriodNote}

abbrev pub text_of : Body → Text
text_of (kind.Block b) = []
text_of (kind.Period p) = []
text_of (kind.Note n) = n.text
text_of (kind.Removal r) = []

-- ---- a note

abbrev pub note_by : Dot → Text → Option Code → Option PeriodNote
note_by dot text None = None
note_by dot text (Some c) = Some (record { dot = dot; code = c; said = said_by c text })

-- the game whose note this is by its name, and the period that it says
abbrev pub period_note_of : Operation → Option PeriodNote
period_note_of o = note_by o.dot (text_of o.body) (game_named (name_of o.body))

-- ---- long periods, which no claim proves

abbrev pub long_by : PeriodNote → Option SeenPeriod → Option LongPeriod
long_by note None = None
long_by note (Some seen) = if is_long note.code seen then Some (record { author = note.dot.author; code = note.code; seen = seen }) else None

abbrev pub long_of : PeriodNote → Option LongPeriod
long_of note = long_by note note.said

abbrev pub long_in : Option PeriodNote → Option LongPeriod
long_in None = None
long_in (Some note) = long_of note

-- the long period that a note says of a game
abbrev pub long_period_of : Operation → Option LongPeriod
long_period_of o = long_in (period_note_of o)

-- those that notes say of a game, in the order of the notes
abbrev pub said_of : List Operation → Code → List LongPeriod
said_of notes c = filter (λ long. eq_by_cmp code_cmp long.code c) (filter_map long_period_of notes)
