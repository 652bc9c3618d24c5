-- What the command gives that names a winning move.
use Rattle.std.specs.Prelude.{ℕ, ◌==◌, ◌++◌, List, slice_index, codes, Option, Some, None, Result, Ok, Err, if◌then◌else◌}
use Rattle.oct_code.specs.Code.{Code}
use Rattle.oct_delta.specs.Text.{Bytes}
use Rattle.oct_ops.specs.Operations.{Operations}
use Rattle.oct_text.specs.Words.{Text, labelled}
use Rattle.oct_period.specs.Claims.{claims_in}
use Rattle.oct_period.specs.GameContent.{GameContent}
use Rattle.oct_period.specs.Moving.{winning_move}
use Rattle.oct_period.specs.declared.moving.Move.{Move}
use Rattle.oct_period.specs.declared.unknown.Unknown.{Unknown}
use Rattle.oct_pages.specs.GamesIn.{content_in}
use Rattle.oct_verify.specs.Filing.{blocks_in}
use Rattle.oct_text.specs.declared.form.Form.{Form}
use Rattle.oct_text.specs.declared.form.Form.TheVariants.{Lines, Json}
use Rattle.census_tell.specs.Asking.{unknown_text}
use Rattle.census_state.specs.Codes.{code_of}
use Rattle.census_tell.specs.JsonLines.{lost_object, move_object}
use Rattle.census_state.specs.Replies.{Answer, text_alone}
use Rattle.census_state.specs.Steps.{◌>>=◌}
use Rattle.census_state.specs.Stored.{loaded}
use Rattle.census_state.specs.declared.fault.Fault.{Fault}

-- the first winning move of a position, by the blocks and claims of its game
abbrev pub move_of : GameContent → List ℕ → Result (Option Move) Unknown
move_of game heaps = winning_move game.code (blocks_in game.blocks) (claims_in game.claims) heaps

-- by those that the set has of it
abbrev pub move_in : Operations → Code → List ℕ → Result (Option Move) Unknown
move_in ops c heaps = move_of (content_in ops c) heaps

-- the heaps that are left: none, one, or two, the smaller one first
abbrev pub left_text : ℕ → ℕ → Text
left_text less more =
    if more == 0 then codes ", leave nothing"
    else (if less == 0 then labelled (codes ", leave ") more
    else labelled (codes ", leave ") less ++ labelled (codes " and ") more)

-- a move in a heap of so many beans
abbrev pub move_line : Move → ℕ → Text
move_line m beans = labelled (codes "heap ") m.index ++ labelled (codes " of ") beans ++ labelled (codes ": remove ") m.removed ++ left_text m.left.0 m.left.1 ++ codes "\n"

-- the same in words and numbers, or as an object of JSON
abbrev pub move_told : Form → Move → ℕ → Text
move_told Lines = move_line
move_told Json = move_object

-- no move wins
abbrev pub lost_text : Form → Text
lost_text Lines = codes "none: the player to move loses\n"
lost_text Json = lost_object

abbrev pub found_text : Form → List ℕ → Option Move → Text
found_text form heaps None = lost_text form
found_text form heaps (Some m) = move_told form m (slice_index heaps m.index)

-- the move, or that there is none, or the first heap whose nim-value is not known
abbrev pub move_text : Form → List ℕ → Result (Option Move) Unknown → Text
move_text form heaps (Ok found) = found_text form heaps found
move_text form heaps (Err unknown) = unknown_text form unknown.index

-- ---- the command

abbrev pub winning : Form → Bytes → Bytes → List ℕ → Result Answer Fault
winning form state word heaps = do
  replica ← loaded state
  code ← code_of word
  Ok (text_alone (move_text form heaps (move_in replica.ops code heaps)))
