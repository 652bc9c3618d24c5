-- The texts of faults: a name, and behind it the name of the cause, where there is one.
use Rattle.std.specs.Prelude.{[], ◌++◌, codes}
use Rattle.oct_code.specs.declared.error.CodeError.{CodeError}
use Rattle.oct_code.specs.declared.error.CodeError.TheVariants as code
use Rattle.oct_ops.specs.declared.error.NoteError.{NoteError}
use Rattle.oct_ops.specs.declared.error.NoteError.TheVariants as note
use Rattle.oct_ops.specs.declared.error.PeriodError.{PeriodError}
use Rattle.oct_ops.specs.declared.error.PeriodError.TheVariants as period
use Rattle.oct_text.specs.Words.{Text, labelled}
use Rattle.oct_period.specs.declared.computing.ComputeError.{ComputeError}
use Rattle.oct_period.specs.declared.computing.ComputeError.TheVariants as compute
use Rattle.oct_record.specs.declared.error.IssueError.{IssueError}
use Rattle.oct_record.specs.declared.error.IssueError.TheVariants as issue
use Rattle.oct_record.specs.declared.error.LoadError.{LoadError}
use Rattle.oct_record.specs.declared.error.LoadError.TheVariants as load
use Rattle.oct_record.specs.declared.error.RemovalError.{RemovalError}
use Rattle.oct_record.specs.declared.error.RemovalError.TheVariants as removal
use Rattle.oct_record.specs.declared.error.TakeError.{TakeError}
use Rattle.oct_record.specs.declared.error.TakeError.TheVariants as take
use Rattle.oct_sync.specs.declared.error.SyncError.{SyncError}
use Rattle.oct_sync.specs.declared.error.SyncError.TheVariants as sync
use Rattle.oct_bfile.specs.declared.bfile_error.BfileError.{BfileError}
use Rattle.oct_bfile.specs.declared.bfile_error.BfileError.TheVariants as bfile
use Rattle.census_state.specs.declared.fault.Fault.{Fault}
use Rattle.census_state.specs.declared.fault.Fault.TheVariants as fault
use Rattle.census_state.specs.declared.import_error.ImportError.{ImportError}
use Rattle.census_state.specs.declared.import_error.ImportError.TheVariants as import
use Rattle.census_state.specs.declared.saved_error.SavedError.{SavedError}
use Rattle.census_state.specs.declared.saved_error.SavedError.TheVariants as saved

abbrev pub load_name : LoadError → Text
load_name load.Version = codes "Version"
load_name load.Refused = codes "Refused"
load_name load.OutOfMemory = codes "OutOfMemory"

abbrev pub import_name : ImportError → Text
import_name import.Shape = codes "Shape"
import_name import.Code = codes "Code"
import_name import.Start = codes "Start"
import_name import.Values = codes "Values"
import_name import.Empty = codes "Empty"
import_name import.TooMany = codes "TooMany"
import_name import.PastLimit = codes "PastLimit"
import_name import.OutOfMemory = codes "OutOfMemory"

abbrev pub code_name : CodeError → Text
code_name code.Form = codes "Form"
code_name code.Head = codes "Head"
code_name code.Digit = codes "Digit"
code_name code.Long = codes "Long"

abbrev pub compute_name : ComputeError → Text
compute_name compute.Zero = codes "Zero"
compute_name compute.TooMany = codes "TooMany"
compute_name compute.AtLimit = codes "AtLimit"
compute_name compute.OutOfMemory = codes "OutOfMemory"

abbrev pub period_name : PeriodError → Text
period_name period.Zero = codes "Zero"
period_name period.PastLimit = codes "PastLimit"

abbrev pub note_name : NoteError → Text
note_name note.Name = codes "Name"
note_name note.Text = codes "Text"
note_name note.OutOfMemory = codes "OutOfMemory"

abbrev pub removal_name : RemovalError → Text
removal_name removal.NoNote = codes "NoNote"
removal_name removal.TooMany = codes "TooMany"
removal_name removal.OutOfMemory = codes "OutOfMemory"

abbrev pub take_name : TakeError → Text
take_name take.Version = codes "Version"
take_name take.Refused = codes "Refused"
take_name (take.OutOfMemory done) = codes "OutOfMemory"

abbrev pub sync_name : SyncError → Text
sync_name sync.Frame = codes "Frame"
sync_name sync.Order = codes "Order"
sync_name sync.Clock = codes "Clock"
sync_name sync.Delta = codes "Delta"
sync_name sync.OutOfMemory = codes "OutOfMemory"
sync_name sync.Failed = codes "Failed"
sync_name sync.Cut = codes "Cut"
sync_name sync.Read = codes "Read"
sync_name sync.Write = codes "Write"
sync_name sync.Turns = codes "Turns"

abbrev pub issue_name : IssueError → Text
issue_name issue.LastNumber = codes "LastNumber"
issue_name issue.OutOfMemory = codes "OutOfMemory"

-- the name, and the number of the line
abbrev pub bfile_text : BfileError → Text
bfile_text (bfile.Form line) = labelled (codes "Form ") line
bfile_text (bfile.Order line) = labelled (codes "Order ") line
bfile_text (bfile.PastLimit line) = labelled (codes "PastLimit ") line
bfile_text bfile.Empty = codes "Empty"
bfile_text bfile.OutOfMemory = codes "OutOfMemory"

abbrev pub saved_name : SavedError → Text
saved_name saved.Version = codes "Version"
saved_name saved.Refused = codes "Refused"
saved_name saved.Game = codes "Game"

abbrev pub fault_name : Fault → Text
fault_name fault.Number = codes "Number"
fault_name fault.Words = codes "Words"
fault_name fault.Exists = codes "Exists"
fault_name fault.File = codes "File"
fault_name fault.Same = codes "Same"
fault_name fault.Occupied = codes "Occupied"
fault_name fault.TooLong = codes "TooLong"
fault_name (fault.Load cause) = codes "Load"
fault_name fault.Zero = codes "Zero"
fault_name fault.Held = codes "Held"
fault_name fault.Author = codes "Author"
fault_name fault.Apart = codes "Apart"
fault_name (fault.Authors count most) = codes "Authors"
fault_name fault.Json = codes "Json"
fault_name (fault.Import cause) = codes "Import"
fault_name (fault.Bfile cause) = codes "Bfile"
fault_name (fault.Saved cause) = codes "Saved"
fault_name (fault.Code cause) = codes "Code"
fault_name (fault.Compute cause) = codes "Compute"
fault_name (fault.Period cause) = codes "Period"
fault_name (fault.Note cause) = codes "Note"
fault_name (fault.Removal cause) = codes "Removal"
fault_name (fault.Merge cause) = codes "Merge"
fault_name (fault.Union place cause) = codes "Union"
fault_name fault.NoPage = codes "NoPage"
fault_name fault.Net = codes "Net"
fault_name (fault.Sync cause) = codes "Sync"
fault_name (fault.Issue cause) = codes "Issue"
fault_name fault.TooMany = codes "TooMany"
fault_name fault.PastValue = codes "PastValue"
fault_name fault.Read = codes "Read"
fault_name fault.Write = codes "Write"
fault_name fault.OutOfMemory = codes "OutOfMemory"

-- what stands behind the name: a cause; of a union also the place of the file, and of too many authors how many there would be and may be
abbrev pub cause_text : Fault → Text
cause_text (fault.Load cause) = codes " " ++ load_name cause
cause_text (fault.Authors count most) = labelled (codes " ") count ++ labelled (codes " ") most
cause_text (fault.Import cause) = codes " " ++ import_name cause
cause_text (fault.Bfile cause) = codes " " ++ bfile_text cause
cause_text (fault.Saved cause) = codes " " ++ saved_name cause
cause_text (fault.Code cause) = codes " " ++ code_name cause
cause_text (fault.Compute cause) = codes " " ++ compute_name cause
cause_text (fault.Period cause) = codes " " ++ period_name cause
cause_text (fault.Note cause) = codes " " ++ note_name cause
cause_text (fault.Removal cause) = codes " " ++ removal_name cause
cause_text (fault.Merge cause) = codes " " ++ take_name cause
cause_text (fault.Union place cause) = labelled (codes " ") place ++ codes " " ++ take_name cause
cause_text (fault.Sync cause) = codes " " ++ sync_name cause
cause_text (fault.Issue cause) = codes " " ++ issue_name cause
cause_text e = []

abbrev pub fault_text : Fault → Text
fault_text e = fault_name e ++ cause_text e
