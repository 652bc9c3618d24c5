-- The catalogue of a set of operations, line by line. The operations are listed in their order.
use Rattle.std.specs.Prelude.{ℕ, ◌*◌, Bool, true, false, nat_lt, List, [], ◌∷◌, ◌++◌, map, length, take, drop, codes, Option, Some, None}
use Rattle.std.specs.List.{filter_map, flat_map, concat, range_with_len}
use Rattle.std.specs.Int.{div_ceil}
use Rattle.oct_code.specs.Code.{Code, code_cmp, code_eq}
use Rattle.oct_code.specs.CodeText.{code_text}
use Rattle.oct_mex.specs.NimValues.{nim_values}
use Rattle.oct_ops.specs.Arranged.{arranged}
pub use Rattle.oct_ops.specs.Games.{game_of, game_of_body}
use Rattle.oct_ops.specs.Operation.{Dot, Block, Period, Note}
use Rattle.oct_ops.specs.Body as kind
use Rattle.oct_ops.specs.Body.{Body, Operation}
use Rattle.oct_store.specs.Summary as summary
use Rattle.oct_notes.specs.Notes.{live_notes}
use Rattle.oct_verify.specs.Known.{known}
use Rattle.oct_verify.specs.declared.status.Status.{Status}
use Rattle.oct_verify.specs.declared.status.Status.TheVariants as of_block
use Rattle.oct_period.specs.FarBlocks.{block_status}
use Rattle.oct_period.specs.Periods.{period_status}
use Rattle.oct_period.specs.declared.status.PeriodStatus.{PeriodStatus}
use Rattle.oct_period.specs.declared.status.PeriodStatus.TheVariants as of_claim
pub use Rattle.oct_text.specs.Words.{Text, labelled, dot_text}

-- ---- games

-- the games that have a block or a claim, by head, then by k, then by the digits
abbrev pub games : List Operation → List Code
games ops = arranged code_cmp (filter_map game_of ops)

-- the value, where the test is true
abbrev pub if_some : {A : Type 0} → Bool → A → Option A
if_some true x = Some x
if_some false x = None

-- a block of the game
abbrev pub block_of_game : Code → Body → Option Block
block_of_game c (kind.Block b) = if_some (code_eq b.code c) b
block_of_game c (kind.Period p) = None
block_of_game c (kind.Note n) = None
block_of_game c (kind.Removal r) = None

-- a claim of the game
abbrev pub claim_of_game : Code → Body → Option Period
claim_of_game c (kind.Block b) = None
claim_of_game c (kind.Period p) = if_some (code_eq p.code c) p
claim_of_game c (kind.Note n) = None
claim_of_game c (kind.Removal r) = None

-- what is there, under its dot
abbrev pub under : {A : Type 0} → Dot → Option A → Option (Dot × A)
under d None = None
under d (Some x) = Some (d, x)

abbrev pub block_in : Code → Operation → Option (Dot × Block)
block_in c o = under o.dot (block_of_game c o.body)

abbrev pub claim_in : Code → Operation → Option (Dot × Period)
claim_in c o = under o.dot (claim_of_game c o.body)

-- the blocks of the game, each under its dot, and its claims, in operation order
abbrev pub blocks_of : Code → List Operation → List (Dot × Block)
blocks_of c ops = filter_map (block_in c) ops

abbrev pub claims_of : Code → List Operation → List (Dot × Period)
claims_of c ops = filter_map (claim_in c) ops

-- ---- the lines of a game

abbrev pub refutation_text : ℕ → ℕ → ℕ → Text
refutation_text place claimed truth = labelled (codes " refuted at ") place ++ labelled (codes " claimed ") claimed ++ labelled (codes " true ") truth

abbrev pub status_text : Status → Text
status_text of_block.Proved = codes " proved"
status_text (of_block.Refuted place claimed truth) = refutation_text place claimed truth
status_text of_block.Pending = codes " pending"

-- where the block begins, and how many values it has
abbrev pub block_head_text : Dot → ℕ → ℕ → Text
block_head_text d start count = codes "block " ++ dot_text d ++ labelled (codes " at ") start ++ labelled (codes " count ") count

abbrev pub block_text : Dot → Block → Status → Text
block_text d b s = block_head_text d b.start (length b.values) ++ status_text s ++ codes "\n"

abbrev pub block_line : List Block → List Period → Dot × Block → Text
block_line blocks claims b = block_text b.0 b.1 (block_status blocks claims b.1)

abbrev pub period_status_text : PeriodStatus → Text
period_status_text of_claim.Proved = codes " proved"
period_status_text (of_claim.Refuted place) = labelled (codes " refuted at ") place
period_status_text (of_claim.Pending count) = labelled (codes " pending needs ") count

abbrev pub period_head_text : Dot → Period → Text
period_head_text d p = codes "period " ++ dot_text d ++ labelled (codes " from ") p.start ++ labelled (codes " by ") p.period

abbrev pub period_text : Dot → Period → PeriodStatus → Text
period_text d p s = period_head_text d p ++ period_status_text s ++ codes "\n"

abbrev pub period_line : List Block → Dot × Period → Text
period_line blocks p = period_text p.0 p.1 (period_status blocks p.1)

-- a space, and then the number
abbrev pub value_text : ℕ → Text
value_text v = labelled (codes " ") v

abbrev pub values_text : ℕ → List ℕ → Text
values_text first values = labelled (codes "values ") first ++ flat_map value_text values ++ codes "\n"

-- how many values stand in a line
abbrev pub values_per_line : ℕ
values_per_line = 16

-- the values of a line, after the first one's place
abbrev pub values_line : List ℕ → ℕ → Text
values_line all i = values_text (values_per_line * i) (take values_per_line (drop (values_per_line * i) all))

abbrev pub values_lines : List ℕ → List Text
values_lines all = map (values_line all) (range_with_len 0 (div_ceil (length all) values_per_line))

abbrev pub game_text : Code → ℕ → Text
game_text c k = codes "game " ++ code_text c ++ labelled (codes " known ") k ++ codes "\n"

-- a game's known nim-values, its blocks and its claims, both in the order of the operations
abbrev pub game_lines : List Operation → Code → List Text
game_lines ops c =
    let pairs = blocks_of c ops in
    let blocks = map (λ (b : Dot × Block). b.1) pairs in
    let claims = map (λ (p : Dot × Period). p.1) (claims_of c ops) in
    game_text c (known blocks)
    ∷ values_lines (nim_values c (known blocks)) ++ map (block_line blocks claims) pairs ++ map (period_line blocks) (claims_of c ops)

-- ---- notes, forks, authors

-- a note without text ends with the space after its dot
abbrev pub note_text : Dot → Note → Text
note_text d n = codes "note " ++ n.name ++ codes " " ++ dot_text d ++ codes " " ++ n.text ++ codes "\n"

abbrev pub note_line : Operation → Text
note_line o = elim o.body [ kind.Block b ↦ [] | kind.Period p ↦ [] | kind.Note n ↦ note_text o.dot n | kind.Removal r ↦ [] ]

abbrev pub fork_text : Dot → ℕ → Text
fork_text d contents = codes "fork " ++ dot_text d ++ labelled (codes " contents ") contents ++ codes "\n"

abbrev pub fork_line : List Operation → Dot → Text
fork_line ops d = fork_text d (summary.contents ops d)

abbrev pub author_text : ℕ → ℕ → ℕ → Text
author_text author through last = labelled (codes "author ") author ++ labelled (codes " through ") through ++ labelled (codes " last ") last ++ codes "\n"

abbrev pub author_line : List Operation → ℕ → Text
author_line ops a = author_text a (summary.through ops a) (summary.last ops a)

-- ---- the whole

-- the first line, which names the rules of the text
abbrev pub heading : Text
heading = codes "census 2\n"

abbrev pub ending : Text
ending = codes "end\n"

-- what is said of a part of the operations, and the authors of the whole
abbrev pub lines_among : List Operation → List Operation → List Text
lines_among part whole =
    heading
    ∷ flat_map (game_lines part) (games part)
    ++ map note_line (live_notes part)
    ++ map (fork_line part) (summary.forks part)
    ++ map (author_line whole) (summary.authors whole)
    ++ ending ∷ []

abbrev pub lines : List Operation → List Text
lines ops = lines_among ops ops

abbrev pub catalogue : List Operation → Text
catalogue ops = concat (lines ops)

-- the catalogue of a part, with the authors of the whole
abbrev pub catalogue_among : List Operation → List Operation → Text
catalogue_among part whole = concat (lines_among part whole)

-- ---- pages

-- how many lines a page has
abbrev pub page_length : ℕ
page_length = 64

-- whether there is a page i, counted from 0
abbrev pub has_page : List Operation → ℕ → Bool
has_page ops i = nat_lt (page_length * i) (length (lines ops))

abbrev pub page_lines : List Operation → ℕ → List Text
page_lines ops i = take page_length (drop (page_length * i) (lines ops))

-- the lines from 64 i on, at most 64 of them
abbrev pub page : List Operation → ℕ → Text
page ops i = concat (page_lines ops i)
