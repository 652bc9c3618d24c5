-- What several files hold together.
use Rattle.std.specs.Prelude.{◌≡◌, List, [], ◌∷◌, Option, Result, Ok}
use Rattle.std.specs.Io.KnownBytes.{Appends}
use Rattle.oct_delta.specs.Text.{Bytes}
use Rattle.oct_ops.specs.Operations.{Operations, empty, listed, union}
use Rattle.oct_text.specs.Words.{Text}
use Rattle.oct_pages.specs.Catalogue.{catalogue}
use Rattle.oct_log.specs.Diff.{diff_of_games, diff_text}
use Rattle.oct_log.specs.Log.{log_text}
use Rattle.oct_log.specs.declared.wanted.Wanted.{Wanted}
use Rattle.census_fold.specs.Digests.{operations_in}
use Rattle.census_state.specs.Codes.{codes_of}
use Rattle.census_state.specs.Steps.{◌>>=◌}
use Rattle.census_state.specs.declared.fault.Fault.{Fault}

-- these operations with those of all files, of which each is a state or a delta, or the fault of the first that is neither
abbrev pub held_onto : Operations → List Bytes → Result Operations Fault
held_onto ops [] = Ok ops
held_onto ops (file ∷ files) = operations_in file >>= λ more. held_onto (union ops more) files

-- the catalogue of what the files hold together
abbrev pub read_together : List Bytes → Result Text Fault
read_together files = held_onto empty files >>= λ ops. Ok (catalogue (listed ops))

-- there is a text, and it is written
abbrev pub Written : Option Bytes → Option Bytes → Result Text Fault → Type 0
Written old new answer = (text : Text) × (answer ≡ Ok text) × Appends old new text

-- the log of what the files hold together
abbrev pub log_together : {A : Type 0} → Wanted A → List Bytes → Result Text Fault
log_together wanted files = held_onto empty files >>= λ ops. Ok (log_text wanted (listed ops))

-- the lines by which two files differ, each a state or a delta, or the fault of the first that is neither
abbrev pub diff_of_files : Bytes → Bytes → Result Text Fault
diff_of_files one other = operations_in one >>= λ a. operations_in other >>= λ b. Ok (diff_text a b)

-- those of the games of these codes, or the fault of the first file that is neither, and then of the first word that is no code
abbrev pub diff_of_files_in : Bytes → Bytes → List Bytes → Result Text Fault
diff_of_files_in one other words = operations_in one >>= λ a. operations_in other >>= λ b. codes_of words >>= λ named. Ok (diff_of_games a b named)
