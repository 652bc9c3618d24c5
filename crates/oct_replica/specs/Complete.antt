-- That the lines of a catalogue leave nothing out.
use Rattle.std.specs.Prelude.{◌≡◌, ◌↔◌, ◌≤◌, ◌<◌, ◌+◌, ◌++◌, ℕ, true, List, length, slice_index, Some}
use Rattle.std.specs.List.{IsAmong}
use Rattle.oct_code.specs.Code.{Code}
use Rattle.oct_mex.specs.NimValues.{nim_value}
use Rattle.oct_ops.specs.Body as kind
use Rattle.oct_ops.specs.Body.{Operation}
use Rattle.oct_ops.specs.Operation.{Dot, Block, Period, Note}
use Rattle.oct_ops.specs.Operations.{Operations, contains, listed}
use Rattle.oct_store.specs.Laws.{IsLast, IsThrough}
use Rattle.oct_store.specs.Summary as summary
use Rattle.oct_notes.specs.Laws.{IsUnremoved}
use Rattle.oct_verify.specs.Known.{IsKnownLength}
use Rattle.oct_verify.specs.declared.status.Status.{Status}
use Rattle.oct_verify.specs.declared.status.Status.TheVariants as of_block
use Rattle.oct_period.specs.Periods.{needs}
use Rattle.oct_period.specs.declared.status.PeriodStatus.{PeriodStatus}
use Rattle.oct_period.specs.declared.status.PeriodStatus.TheVariants as of_claim
use Rattle.oct_pages.specs.Catalogue.{Text, author_text, block_text, fork_text, game_lines, game_of, game_text, lines, note_text, period_text, values_text}
use Rattle.oct_replica.specs.Settled.{AreValid, blocks_in}
use Rattle.oct_replica.specs.Shown.{BlockIsSo, ClaimIsSo, Has}

-- the line is one of the game
abbrev pub HasLine : Operations → Code → Text → Type 0
HasLine ops c line = IsAmong (game_lines (listed ops) c) line

-- ---- games

-- a line of the nim-values from `first` on has that of the heap n
pub record ShowsValue (ops : Operations) (c : Code) (n : ℕ) : Type 0 where
  pub first : ℕ
  pub values : List ℕ
  pub from : first ≤ n
  pub to : n < first + length values
  pub are : (i : ℕ) → i < length values → slice_index values i ≡ nim_value c (first + i)
  pub shown : HasLine ops c (values_text first values)

-- the lines of the game stand together, one of them tells the known length, and each nim-value up to it is shown
pub record ShowsGame (ops : Operations) (c : Code) : Type 0 where
  pub before : List Text
  pub after : List Text
  pub together : lines (listed ops) ≡ before ++ game_lines (listed ops) c ++ after
  pub known : ℕ
  pub is_known : IsKnownLength (blocks_in c ops) known
  pub shown : HasLine ops c (game_text c known)
  pub values : (n : ℕ) → n < known → ShowsValue ops c n

-- each game of which the set has a block or a claim
abbrev pub GamesAreShown : Type 0
GamesAreShown = (ops : Operations) (o : Operation) (c : Code) → contains ops o ≡ true → game_of o ≡ Some c → ShowsGame ops c

-- ---- claims

-- none of the first k nim-values breaks the claim
abbrev pub IsUnbroken : ℕ → Period → Type 0
IsUnbroken k p = (n : ℕ) → p.start ≤ n → n + p.period < k → nim_value p.code (n + p.period) ≡ nim_value p.code n

-- they prove it
abbrev pub IsProvedBy : ℕ → Period → Type 0
IsProvedBy k p = (needs p ≤ k) × IsUnbroken k p

-- they are too few to prove it, and none breaks it
abbrev pub IsOpenBy : ℕ → Period → Type 0
IsOpenBy k p = (k < needs p) × IsUnbroken k p

-- the claim has its line, which says pending exactly where the known nim-values neither prove nor break it
pub record ShowsClaim (ops : Operations) (d : Dot) (p : Period) : Type 0 where
  pub known : ℕ
  pub is_known : IsKnownLength (blocks_in p.code ops) known
  pub status : PeriodStatus
  pub so : ClaimIsSo p status
  pub proved : status ≡ of_claim.Proved ↔ IsProvedBy known p
  pub pending : status ≡ of_claim.Pending (needs p) ↔ IsOpenBy known p
  pub shown : HasLine ops p.code (period_text d p status)

abbrev pub ClaimsAreShown : Type 0
ClaimsAreShown = (ops : Operations) (d : Dot) (p : Period) → AreValid ops → Has ops d (kind.Period p) → ShowsClaim ops d p

-- ---- blocks

-- the block starts beyond the first k nim-values, and they prove no claim of its game in the set
pub record IsOutOfReach (ops : Operations) (k : ℕ) (b : Block) : Type 0 where
  pub beyond : k < b.start
  pub unproved : (d : Dot) (p : Period) → Has ops d (kind.Period p) → p.code ≡ b.code → ¬ IsProvedBy k p

-- the block has its line, which says pending exactly where the known nim-values and the proved claims don't reach it
pub record ShowsBlock (ops : Operations) (d : Dot) (b : Block) : Type 0 where
  pub known : ℕ
  pub is_known : IsKnownLength (blocks_in b.code ops) known
  pub status : Status
  pub so : BlockIsSo b status
  pub pending : status ≡ of_block.Pending ↔ IsOutOfReach ops known b
  pub shown : HasLine ops b.code (block_text d b status)

abbrev pub BlocksAreShown : Type 0
BlocksAreShown = (ops : Operations) (d : Dot) (b : Block) → Has ops d (kind.Block b) → ShowsBlock ops d b

-- ---- the other lines

-- each note that no operation of the set removes
abbrev pub NotesAreShown : Type 0
NotesAreShown = (ops : Operations) (d : Dot) (n : Note) → IsUnremoved ops (record { dot = d; body = kind.Note n }) → IsAmong (lines (listed ops)) (note_text d n)

-- each dot that has two contents or more
abbrev pub ForksAreShown : Type 0
ForksAreShown = (ops : Operations) (d : Dot) → 2 ≤ summary.contents (listed ops) d → IsAmong (lines (listed ops)) (fork_text d (summary.contents (listed ops) d))

-- an author with the number through which all operations are there, and the greatest
pub record ShowsAuthor (ops : Operations) (author : ℕ) : Type 0 where
  pub through : ℕ
  pub last : ℕ
  pub is_through : IsThrough (listed ops) author through
  pub is_last : IsLast (listed ops) author last
  pub shown : IsAmong (lines (listed ops)) (author_text author through last)

-- each author of an operation
abbrev pub AuthorsAreShown : Type 0
AuthorsAreShown = (ops : Operations) (o : Operation) → contains ops o ≡ true → ShowsAuthor ops o.dot.author
