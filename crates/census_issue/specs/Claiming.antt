-- What the command gives that claims the values of a b-file.
use Rattle.std.specs.Prelude.{ℕ, ◌+◌, ◌*◌, ◌-◌, ◌/◌, ◌==◌, List, [], ◌∷◌, ◌++◌, length, map, take, drop, codes, Option, Some, None, Result, Ok, if◌then◌else◌}
use Rattle.std.specs.List.{range_with_len}
use Rattle.std.specs.Option.{option_or}
use Rattle.oct_code.specs.Code.{Code}
use Rattle.oct_delta.specs.Text.{Bytes}
use Rattle.oct_ops.specs.Body as kind
use Rattle.oct_ops.specs.Operation.{Dot, Block, claimed}
use Rattle.oct_ops.specs.declared.limits.TheConstants.{MAX_ITEMS}
use Rattle.oct_text.specs.Words.{Text, dot_text}
use Rattle.oct_record.specs.Content.{RecordContent}
use Rattle.oct_record.specs.Taking.{next_op}
use Rattle.oct_bfile.specs.Bfile.{Bfile, bfile_of}
use Rattle.census_state.specs.Codes.{code_of}
use Rattle.census_issue.specs.Issuing.{issued_line, with_body}
use Rattle.census_state.specs.Replies.{Answer}
use Rattle.census_state.specs.Steps.{◌>>=◌, because}
use Rattle.census_state.specs.Stored.{loaded, saved}
use Rattle.census_state.specs.declared.fault.Fault.{Fault}
use Rattle.census_state.specs.declared.fault.Fault.TheVariants as fault

-- how many blocks of 1,024 values hold so many, where the last may hold fewer
abbrev pub block_count : ℕ → ℕ
block_count values = (values + (MAX_ITEMS - 1)) / MAX_ITEMS

-- the i-th of the blocks of the values from a heap on
abbrev pub block_at : Code → Bfile → ℕ → Block
block_at c file i = claimed c (file.start + MAX_ITEMS * i) (take MAX_ITEMS (drop (MAX_ITEMS * i) file.values))

abbrev pub blocks_of : Code → Bfile → List Block
blocks_of c file = map (block_at c file) (range_with_len 0 (block_count (length file.values)))

-- a replica, and the first and the last dot of what was issued on the way to it
pub record Claimed : Type 0 where
  pub replica : RecordContent
  pub first : Option Dot
  pub last : Option Dot

abbrev pub next_dot : RecordContent → Block → Dot
next_dot r b = let o = next_op r.ops r.author (kind.Block b) in o.dot

-- once the author issued one block more
abbrev pub with_block : Claimed → Block → Result Claimed Fault
with_block so_far b =
    with_body so_far.replica (kind.Block b)
    >>= λ next. Ok (record { replica = next; first = option_or so_far.first (Some (next_dot so_far.replica b)); last = Some (next_dot so_far.replica b) })

abbrev pub with_blocks : Claimed → List Block → Result Claimed Fault
with_blocks so_far [] = Ok so_far
with_blocks so_far (b ∷ blocks) = with_block so_far b >>= λ next. with_blocks next blocks

-- once the author issued the blocks of the file
abbrev pub claimed_by : RecordContent → Code → Bfile → Result Claimed Fault
claimed_by r c file = with_blocks (record { replica = r; first = None; last = None }) (blocks_of c file)

-- which operations were issued
abbrev pub range_line : Dot → Dot → Text
range_line first last = if first.number == last.number then issued_line first else codes "issued " ++ dot_text first ++ codes " to " ++ dot_text last ++ codes "\n"

abbrev pub claimed_line : Option Dot → Option Dot → Text
claimed_line None last = []
claimed_line (Some first) None = []
claimed_line (Some first) (Some last) = range_line first last

-- ---- the command

abbrev pub claim : Bytes → Bytes → Bytes → Result Answer Fault
claim state word bytes = do
  replica ← loaded state
  code ← code_of word
  file ← because fault.Bfile (bfile_of bytes)
  done ← claimed_by replica code file
  saved done.replica (claimed_line done.first done.last)
