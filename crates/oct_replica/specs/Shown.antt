-- What each line of a catalogue says, and that it is so.
use Rattle.std.specs.Prelude.{◌≡◌, ◌≤◌, ◌<◌, ◌+◌, ℕ, ⊤, true, List, length, slice_index}
use Rattle.std.specs.List.{IsAmong}
use Rattle.oct_code.specs.Code.{Code}
use Rattle.oct_mex.specs.NimValues.{nim_value}
use Rattle.oct_mex.specs.Periods.{IsPeriodicFrom, IsFirstBreak}
use Rattle.oct_ops.specs.Body as kind
use Rattle.oct_ops.specs.Body.{Operation}
use Rattle.oct_ops.specs.Operation.{Dot, Block, Period, Note}
use Rattle.oct_ops.specs.Operations.{Operations, contains, listed}
use Rattle.oct_store.specs.Laws.{IsLast, IsThrough}
use Rattle.oct_store.specs.Summary as summary
use Rattle.oct_notes.specs.Laws.{IsUnremoved}
use Rattle.oct_verify.specs.Known.{IsKnownLength}
use Rattle.oct_verify.specs.Laws.{IsRight, IsLeastWrong}
use Rattle.oct_verify.specs.declared.status.Status.{Status}
use Rattle.oct_verify.specs.declared.status.Status.TheVariants as of_block
use Rattle.oct_period.specs.Periods.{needs}
use Rattle.oct_period.specs.declared.status.PeriodStatus.{PeriodStatus}
use Rattle.oct_period.specs.declared.status.PeriodStatus.TheVariants as of_claim
use Rattle.oct_pages.specs.Catalogue.{Text, author_text, block_text, ending, fork_text, game_lines, game_text, games, heading, lines, note_text, period_text, values_text}
use Rattle.oct_record.specs.Valid.{AreValid}
use Rattle.oct_replica.specs.Settled.{blocks_in}

-- the set has an operation with this dot and this body
abbrev pub Has : Operations → Dot → kind.Body → Type 0
Has ops d body = contains ops (record { dot = d; body = body }) ≡ true

-- ---- the lines of a game

-- the game's known length
pub record TellsKnown (ops : Operations) (c : Code) (line : Text) : Type 0 where
  pub known : ℕ
  pub is : IsKnownLength (blocks_in c ops) known
  pub text : line ≡ game_text c known

-- the nim-values of the heaps from `first` on
pub record TellsValues (c : Code) (line : Text) : Type 0 where
  pub first : ℕ
  pub values : List ℕ
  pub are : (i : ℕ) → i < length values → slice_index values i ≡ nim_value c (first + i)
  pub text : line ≡ values_text first values

-- a proved block is right, and a refuted one is wrong first at the place that is named, with the value claimed there and
-- the nim-value
abbrev pub BlockIsSo : Block → Status → Type 0
BlockIsSo b of_block.Proved = IsRight b
BlockIsSo b (of_block.Refuted at claimed truth) = IsLeastWrong b at claimed truth
BlockIsSo b of_block.Pending = ⊤

-- the status of a block of the set
pub record TellsBlock (ops : Operations) (c : Code) (line : Text) : Type 0 where
  pub dot : Dot
  pub block : Block
  pub held : Has ops dot (kind.Block block)
  pub game : block.code ≡ c
  pub status : Status
  pub so : BlockIsSo block status
  pub text : line ≡ block_text dot block status

-- a proved claim holds for every heap from its start on, and a refuted one breaks first at the heap that is named
abbrev pub ClaimIsSo : Period → PeriodStatus → Type 0
ClaimIsSo p of_claim.Proved = IsPeriodicFrom p.code p.start p.period
ClaimIsSo p (of_claim.Refuted at) = IsFirstBreak p.code p.start p.period at
ClaimIsSo p (of_claim.Pending count) = count ≡ needs p

-- the status of a claim of the set
pub record TellsClaim (ops : Operations) (c : Code) (line : Text) : Type 0 where
  pub dot : Dot
  pub claim : Period
  pub held : Has ops dot (kind.Period claim)
  pub game : claim.code ≡ c
  pub status : PeriodStatus
  pub so : ClaimIsSo claim status
  pub text : line ≡ period_text dot claim status

-- what a line of the game tells
pub data GameTells (ops : Operations) (c : Code) (line : Text) : Type 0 where
  tells_known : TellsKnown ops c line → GameTells ops c line
  tells_values : TellsValues c line → GameTells ops c line
  tells_block : TellsBlock ops c line → GameTells ops c line
  tells_claim : TellsClaim ops c line → GameTells ops c line

-- ---- the other lines

-- a note of the set that no operation of the set removes
pub record TellsNote (ops : Operations) (line : Text) : Type 0 where
  pub dot : Dot
  pub note : Note
  pub live : IsUnremoved ops (record { dot = dot; body = kind.Note note })
  pub text : line ≡ note_text dot note

-- how many contents a dot has, which are two or more
pub record TellsFork (ops : Operations) (line : Text) : Type 0 where
  pub dot : Dot
  pub contents : ℕ
  pub several : 2 ≤ contents
  pub are : contents ≡ summary.contents (listed ops) dot
  pub text : line ≡ fork_text dot contents

-- the number through which an author's operations are there, and its greatest
pub record TellsAuthor (ops : Operations) (line : Text) : Type 0 where
  pub author : ℕ
  pub through : ℕ
  pub last : ℕ
  pub is_through : IsThrough (listed ops) author through
  pub is_last : IsLast (listed ops) author last
  pub text : line ≡ author_text author through last

-- what a line of the catalogue tells
pub data Tells (ops : Operations) (line : Text) : Type 0 where
  heads : line ≡ heading → Tells ops line
  tells_game : (c : Code) → IsAmong (games (listed ops)) c → GameTells ops c line → Tells ops line
  tells_note : TellsNote ops line → Tells ops line
  tells_fork : TellsFork ops line → Tells ops line
  tells_author : TellsAuthor ops line → Tells ops line
  ends : line ≡ ending → Tells ops line

-- each line of a game tells what is so
abbrev pub GameLinesAreSo : Type 0
GameLinesAreSo = (ops : Operations) (c : Code) (line : Text) → AreValid ops → IsAmong (game_lines (listed ops) c) line → GameTells ops c line

-- and so does each line of the catalogue
abbrev pub LinesAreSo : Type 0
LinesAreSo = (ops : Operations) (line : Text) → AreValid ops → IsAmong (lines (listed ops)) line → Tells ops line
