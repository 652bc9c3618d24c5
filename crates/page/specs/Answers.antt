-- What the answers to a page are.
use Rattle.std.specs.Prelude.{◌≡◌, ◌≢◌, ℕ, ◌==◌, nat_lt, List, [], length, Result, Ok, Err, if◌then◌else◌}
use Rattle.oct_bfile.specs.Bfile.{bfile_text}
use Rattle.oct_code.specs.Code.{Code}
use Rattle.oct_code.specs.declared.limits.TheConstants.{LIMIT}
use Rattle.oct_delta.specs.Text.{Bytes}
use Rattle.oct_mex.specs.NimValues.{nim_values}
use Rattle.oct_ops.specs.Operations.{listed}
use Rattle.oct_pages.specs.Catalogue.{catalogue}
use Rattle.oct_text.specs.declared.form.Form.TheVariants.{Lines}
use Rattle.oct_text.specs.declared.shown.Shown.TheVariants.{Brief}
use Rattle.census_search.specs.Searching.{IsSearchFault}
use Rattle.census_search.specs.Searching as searching
use Rattle.census_search.specs.declared.searching.TheConstants.{SEARCH_LIMIT}
use Rattle.census_judge.specs.Checking.{check}
use Rattle.census_state.specs.Steps.{◌>>=◌}
use Rattle.census_state.specs.declared.input.TheConstants.{INPUT_LIMIT}
use Rattle.census_tell.specs.Viewing.{report_in}
use Rattle.census_state.specs.declared.fault.Fault.{Fault}
use Rattle.census_state.specs.declared.fault.Fault.TheVariants.{OutOfMemory, TooLong}
use Rattle.page.specs.Asked.{asked}
use Rattle.page.specs.Files.{held_in, refused_in}
use Rattle.page.specs.FirstGame as first
use Rattle.page.specs.Telling.{Answer}

-- as far as memory is not refused
abbrev pub IsRight : Answer → Answer → Type 0
IsRight right answer = answer ≢ Err OutOfMemory → answer ≡ right

-- ---- searches

-- the line of the least period that the first nim-values prove, or of none; or why there is no such line
abbrev pub IsSearchedIn : Result Code Fault → ℕ → Answer → Type 0
IsSearchedIn (Err e) count answer = IsRight (Err e) answer
IsSearchedIn (Ok c) count (Ok text) = searching.IsSearched Lines c count [] text
IsSearchedIn (Ok c) count (Err e) = IsSearchFault c count e

abbrev pub IsSearched : Bytes → ℕ → Answer → Type 0
IsSearched word count = IsSearchedIn (asked SEARCH_LIMIT count word) count

-- the first nim-values as a b-file; or why they are not computed
abbrev pub IsListedIn : Result Code Fault → ℕ → Answer → Type 0
IsListedIn (Err e) count answer = IsRight (Err e) answer
IsListedIn (Ok c) count (Ok text) = text ≡ bfile_text (nim_values c count)
IsListedIn (Ok c) count (Err e) = IsSearchFault c count e

abbrev pub IsListed : Bytes → ℕ → Answer → Type 0
IsListed word count = IsListedIn (asked SEARCH_LIMIT count word) count

-- ---- games of which the first nim-values are known

abbrev pub picture : Bytes → ℕ → Answer
picture word count = asked LIMIT count word >>= λ c. Ok (first.picture c count)

abbrev pub IsPicture : Bytes → ℕ → Answer → Type 0
IsPicture word count = IsRight (picture word count)

abbrev pub position : Bytes → ℕ → List ℕ → Answer
position word count heaps = asked LIMIT count word >>= λ c. Ok (first.position c count heaps)

abbrev pub IsPosition : Bytes → ℕ → List ℕ → Answer → Type 0
IsPosition word count heaps = IsRight (position word count heaps)

-- ---- b-files

-- what became of the values of a file, which may have so many bytes
abbrev pub checked : Bytes → Bytes → Answer
checked word file = if nat_lt INPUT_LIMIT (length file) then Err TooLong else (check word file >>= λ done. Ok done.text)

abbrev pub IsChecked : Bytes → Bytes → Answer → Type 0
IsChecked word file = IsRight (checked word file)

-- ---- files

-- the report of what a file holds
abbrev pub reported : Bytes → Answer
reported file = held_in file >>= λ ops. Ok (report_in Brief ops)

abbrev pub IsReport : Bytes → Answer → Type 0
IsReport file = IsRight (reported file)

-- and the catalogue
abbrev pub catalogued : Bytes → Answer
catalogued file = held_in file >>= λ ops. Ok (catalogue (listed ops))

abbrev pub IsCatalogue : Bytes → Answer → Type 0
IsCatalogue file = IsRight (catalogued file)

-- how many lines are said to be no deltas: none where there is no answer
abbrev pub refused_told : Bytes → ℕ → ℕ
refused_told file number = if number == 0 then refused_in file else 0
