-- The fault of each refusal: its cause, or want of memory.
use Rattle.oct_delta.specs.declared.error.EncodeError.{EncodeError}
use Rattle.oct_delta.specs.declared.error.EncodeError.TheVariants as encode
use Rattle.oct_ops.specs.declared.error.BlockError.{BlockError}
use Rattle.oct_ops.specs.declared.error.BlockError.TheVariants as block
use Rattle.oct_ops.specs.declared.error.NoteError.{NoteError}
use Rattle.oct_ops.specs.declared.error.NoteError.TheVariants as note
use Rattle.oct_period.specs.declared.computing.ComputeError.{ComputeError}
use Rattle.oct_period.specs.declared.computing.ComputeError.TheVariants as compute
use Rattle.oct_record.specs.declared.error.IssueError.{IssueError}
use Rattle.oct_record.specs.declared.error.IssueError.TheVariants as issue
use Rattle.oct_record.specs.declared.error.LoadError.{LoadError}
use Rattle.oct_record.specs.declared.error.LoadError.TheVariants as load
use Rattle.oct_record.specs.declared.error.RemovalError.{RemovalError}
use Rattle.oct_record.specs.declared.error.RemovalError.TheVariants as removal
use Rattle.oct_record.specs.declared.error.RenumberError.{RenumberError}
use Rattle.oct_record.specs.declared.error.RenumberError.TheVariants as renumber
use Rattle.oct_record.specs.declared.error.TakeError.{TakeError}
use Rattle.oct_record.specs.declared.error.TakeError.TheVariants as take
use Rattle.oct_window.specs.declared.seeking.SeekError.{SeekError}
use Rattle.oct_window.specs.declared.seeking.SeekError.TheVariants as seek
use Rattle.oct_saved.specs.declared.error.ReadError.{ReadError}
use Rattle.oct_saved.specs.declared.error.ReadError.TheVariants as read
use Rattle.oct_search.specs.declared.error.SearchError.{SearchError}
use Rattle.oct_search.specs.declared.error.SearchError.TheVariants as search
use Rattle.oct_sync.specs.declared.error.SyncError.{SyncError}
use Rattle.oct_sync.specs.declared.error.SyncError.TheVariants as sync
use Rattle.oct_bfile.specs.declared.bfile_error.BfileError.{BfileError}
use Rattle.oct_bfile.specs.declared.bfile_error.BfileError.TheVariants as bfile
use Rattle.census_state.specs.declared.fault.Fault.{Fault}
use Rattle.census_state.specs.declared.fault.Fault.TheVariants.{Load, Zero, Held, File, Import, Bfile, Saved, Compute, Note, Removal, Merge, Sync, Issue, TooMany, PastValue, OutOfMemory}
use Rattle.census_state.specs.declared.import_error.ImportError.{ImportError}
use Rattle.census_state.specs.declared.import_error.ImportError.TheVariants as import
use Rattle.census_state.specs.declared.saved_error.SavedError.TheVariants as saved

abbrev pub load_fault : LoadError → Fault
load_fault load.OutOfMemory = OutOfMemory
load_fault cause = Load cause

abbrev pub import_fault : ImportError → Fault
import_fault import.OutOfMemory = OutOfMemory
import_fault cause = Import cause

abbrev pub bfile_fault : BfileError → Fault
bfile_fault bfile.OutOfMemory = OutOfMemory
bfile_fault cause = Bfile cause

abbrev pub compute_fault : ComputeError → Fault
compute_fault compute.OutOfMemory = OutOfMemory
compute_fault cause = Compute cause

abbrev pub note_fault : NoteError → Fault
note_fault note.OutOfMemory = OutOfMemory
note_fault cause = Note cause

abbrev pub removal_fault : RemovalError → Fault
removal_fault removal.OutOfMemory = OutOfMemory
removal_fault cause = Removal cause

abbrev pub take_fault : TakeError → Fault
take_fault (take.OutOfMemory done) = OutOfMemory
take_fault cause = Merge cause

abbrev pub issue_fault : IssueError → Fault
issue_fault issue.OutOfMemory = OutOfMemory
issue_fault cause = Issue cause

abbrev pub renumber_fault : RenumberError → Fault
renumber_fault renumber.Zero = Zero
renumber_fault renumber.Held = Held

abbrev pub encode_fault : EncodeError → Fault
encode_fault encode.OutOfMemory = OutOfMemory
encode_fault encode.TooMany = TooMany

abbrev pub sync_fault : SyncError → Fault
sync_fault sync.OutOfMemory = OutOfMemory
sync_fault cause = Sync cause

abbrev pub seek_fault : SeekError → Fault
seek_fault seek.PastValue = PastValue
seek_fault seek.OutOfMemory = OutOfMemory
seek_fault seek.Unkept = File

abbrev pub saved_fault : ReadError → Fault
saved_fault read.Version = Saved saved.Version
saved_fault read.Refused = Saved saved.Refused
saved_fault read.OutOfMemory = OutOfMemory

abbrev pub search_fault : SearchError → Fault
search_fault search.PastValue = PastValue
search_fault search.OutOfMemory = OutOfMemory

-- the refusal of values that are no block
abbrev pub import_error : BlockError → ImportError
import_error block.Empty = import.Empty
import_error block.TooMany = import.TooMany
import_error block.PastLimit = import.PastLimit
