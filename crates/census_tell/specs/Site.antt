-- The files of a site, which any web server shows as they are: HTML, a picture, a b-file and a JSON document of each game, the index, and the
-- style sheet. A name is a code, that is digits and a point, with a word behind it, or one of three words.
use Rattle.std.specs.Prelude.{◌≡◌, ◌⊎◌, ◌++◌, List, [], ◌∷◌, codes, Result, Ok, Err}
use Rattle.std.specs.List.{flat_map}
use Rattle.oct_code.specs.CodeText.{code_text}
use Rattle.oct_delta.specs.Text.{Bytes}
use Rattle.oct_ops.specs.Operations.{listed}
use Rattle.oct_bfile.specs.Bfile.{bfile_text}
use Rattle.oct_json.specs.Json.{game_data}
use Rattle.oct_plot.specs.Plot.{plot}
use Rattle.oct_views.specs.Report.{game_html, index, style_sheet}
use Rattle.oct_views.specs.declared.site.Beside.{Beside}
use Rattle.oct_overview.specs.Line.{with_least}
use Rattle.oct_proved.specs.declared.periods.ProvedPeriod.{ProvedPeriod}
use Rattle.oct_ops.specs.Body.{Operation}
use Rattle.oct_sheet.specs.Sheet.{GameSheet, Sheet, sheet}
use Rattle.serde_json.specs.Written.{compact_text}
use Rattle.census_state.specs.Steps.{◌>>=◌}
use Rattle.census_state.specs.Stored.{loaded}
use Rattle.census_state.specs.declared.fault.Fault.{Fault}
use Rattle.census_state.specs.declared.fault.Fault.TheVariants.{OutOfMemory}

-- a file of a folder
pub record File : Type 0 where
  pub name : Bytes
  pub bytes : Bytes

-- what stands in a folder that is a site
abbrev pub marker : File
marker = record { name = codes "census-site"; bytes = codes "census site 1\n" }

abbrev pub style : File
style = record { name = codes "style.css"; bytes = style_sheet }

abbrev pub named : GameSheet → Bytes → Bytes → File
named g end bytes = record { name = code_text g.code ++ end; bytes = bytes }

abbrev pub picture_of : GameSheet → File
picture_of g = named g (codes ".svg") (plot g.code g.values g.proved)

abbrev pub bfile_of : GameSheet → File
bfile_of g = named g (codes ".txt") (bfile_text g.values)

abbrev pub json_of : List Operation → GameSheet → File
json_of notes g = named g (codes ".json") (compact_text (game_data notes g) ++ codes "\n")

abbrev pub html_of : Beside → List ProvedPeriod → List Operation → GameSheet → File
html_of beside proved notes g = named g (codes ".html") (game_html beside proved notes g)

-- the files of a game, of which HTML has its period where a search of this program proved it, and HTML and JSON have what these notes say: the names of authors, what is withdrawn, and long periods
abbrev pub files_of : Beside → List ProvedPeriod → List Operation → GameSheet → List File
files_of beside proved notes g = picture_of g ∷ bfile_of g ∷ json_of notes g ∷ html_of beside proved notes g ∷ []

-- the period that they show is the least one that its known values prove, whether or not somebody claimed it
abbrev pub shown_files : Beside → List ProvedPeriod → List Operation → GameSheet → List File
shown_files beside proved notes g = files_of beside proved notes (with_least g)

abbrev pub index_of : List ProvedPeriod → Sheet → File
index_of proved s = record { name = codes "index.html"; bytes = index proved s }

-- the files in the order in which they are written: the index comes last, so that its links lead somewhere
abbrev pub site : Beside → List ProvedPeriod → Sheet → List File
site beside proved s = marker ∷ style ∷ flat_map (shown_files beside proved s.remarks) s.games ++ index_of proved s ∷ []

-- those of a state, or why it is none
abbrev pub site_of : Beside → List ProvedPeriod → Bytes → Result (List File) Fault
site_of beside proved state = loaded state >>= λ replica. Ok (site beside proved (sheet (listed replica.ops)))

-- what became of a place by these files, put there one after another
abbrev pub Filled : {S : Type 0} → (S → Bytes → Bytes → S → Type 0) → S → List File → S → Type 0
Filled puts old [] new = new ≡ old
Filled {S} puts old (file ∷ files) new = (mid : S) × puts old file.name file.bytes mid × Filled puts mid files new

-- the files of the state, and no others, are there
pub record IsSite {S : Type 0} (puts : S → Bytes → Bytes → S → Type 0) (beside : Beside) (proved : List ProvedPeriod) (state : Bytes) (old new : S) : Type 0 where
  pub files : List File
  pub are : site_of beside proved state ≡ Ok files
  pub filled : Filled puts old files new

-- the place refused a file by this fault, or memory was refused
abbrev pub IsPutFault : (Fault → Type 0) → Fault → Type 0
IsPutFault refuses e = refuses e ⊎ (e ≡ OutOfMemory)

-- the fault is that of the state, or else one of these
abbrev pub IsSiteFault : (Fault → Type 0) → Beside → List ProvedPeriod → Bytes → Fault → Type 0
IsSiteFault refuses beside proved state e = (site_of beside proved state ≡ Err e) ⊎ IsPutFault refuses e
