-- What a replica shows after byte strings were handed to it.
use Rattle.std.specs.Prelude.{◌≡◌, ◌<◌, ℕ, List, [], ◌∷◌, slice_index}
use Rattle.std.specs.List.{All}
use Rattle.oct_code.specs.Code.{Code}
use Rattle.oct_mex.specs.NimValues.{nim_value, nim_values, IsNimSequence}
use Rattle.oct_mex.specs.Periods.{IsPeriodicFrom, IsFirstBreak}
use Rattle.oct_ops.specs.Body.{Operation}
use Rattle.oct_ops.specs.Operation.{Block, Period}
use Rattle.oct_ops.specs.Operations.{Operations, contains, empty, listed, union}
use Rattle.oct_ops.specs.Valid.{IsPeriod}
use Rattle.oct_delta.specs.Bytes.{IsBytes}
use Rattle.oct_delta.specs.Spelling.{SpellTogether}
use Rattle.oct_delta.specs.Text.{Bytes}
use Rattle.oct_delta.specs.Taken.{operations_of, operations_of_all}
use Rattle.oct_verify.specs.Laws.{IsLeastWrong}
use Rattle.oct_verify.specs.declared.status.Status.TheVariants as of_block
use Rattle.oct_period.specs.FarBlocks.{block_status}
use Rattle.oct_period.specs.Periods.{period_status}
use Rattle.oct_period.specs.declared.status.PeriodStatus.TheVariants as of_claim
use Rattle.oct_pages.specs.Catalogue.{Text, catalogue}
use Rattle.oct_replica.specs.Settled.{blocks_in, claims_in}

-- what a replica holds after it took in each of the strings in turn
abbrev pub handed : Operations → List Bytes → Operations
handed ops [] = ops
handed ops (bytes ∷ rest) = handed (union ops (operations_of bytes)) rest

-- what it then prints
abbrev pub printed : List Bytes → Text
printed strings = catalogue (listed (handed empty strings))

-- it prints the catalogue of the union of the strings' operations
abbrev pub UnionIsPrinted : Type 0
UnionIsPrinted = (strings : List Bytes) → printed strings ≡ catalogue (listed (operations_of_all strings))

-- the strings spell the same operations
abbrev pub SpellSame : List Bytes → List Bytes → Type 0
SpellSame strings others = (o : Operation) → contains (operations_of_all strings) o ≡ contains (operations_of_all others) o

-- then the bytes printed are the same, whatever their order, batching and repetition
abbrev pub SameIsPrinted : Type 0
SameIsPrinted = (strings others : List Bytes) → SpellSame strings others → printed strings ≡ printed others

-- and whichever set has exactly the operations that the strings spell, it prints the catalogue of that set
abbrev pub SpelledIsPrinted : Type 0
SpelledIsPrinted = (strings : List Bytes) (ops : Operations) → All IsBytes strings → SpellTogether strings ops → printed strings ≡ catalogue (listed ops)

-- the values shown are those of the game's nim-sequence
abbrev pub ShownValuesAreNimValues : Type 0
ShownValuesAreNimValues = (c : Code) (known n : ℕ) → n < known → slice_index (nim_values c known) n ≡ nim_value c n

abbrev pub NimValuesAreTheSequence : Type 0
NimValuesAreTheSequence = (c : Code) → IsNimSequence c (nim_value c)

-- a block is refuted at its first wrong place
abbrev pub RefutedAtFirstWrong : Type 0
RefutedAtFirstWrong = (ops : Operations) (c : Code) (b : Block) (at claimed truth : ℕ) → block_status (blocks_in c ops) (claims_in c ops) b ≡ of_block.Refuted at claimed truth → IsLeastWrong b at claimed truth

-- a period claim is refuted at the first heap that breaks it
abbrev pub RefutedAtFirstBreak : Type 0
RefutedAtFirstBreak = (ops : Operations) (c : Code) (p : Period) (at : ℕ) → period_status (blocks_in c ops) p ≡ of_claim.Refuted at → IsFirstBreak p.code p.start p.period at

-- a proved period holds for all heaps
abbrev pub ProvedPeriodsHold : Type 0
ProvedPeriodsHold = (ops : Operations) (c : Code) (p : Period) → IsPeriod p → period_status (blocks_in c ops) p ≡ of_claim.Proved → IsPeriodicFrom p.code p.start p.period
