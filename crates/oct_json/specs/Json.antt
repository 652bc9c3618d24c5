-- A sheet as JSON. The members of an object are in the order of their keys.
use Rattle.std.specs.Prelude.{ℕ, Bool, true, false, List, [], ◌∷◌, length, map, codes, Option, Some, None}
use Rattle.oct_code.specs.CodeText.{code_text}
use Rattle.oct_ops.specs.Body as kind
use Rattle.oct_ops.specs.Body.{Operation}
use Rattle.oct_ops.specs.Operation.{Dot, Note}
use Rattle.oct_period.specs.declared.status.PeriodStatus.{PeriodStatus}
use Rattle.oct_period.specs.declared.status.PeriodStatus.TheVariants as of_claim
use Rattle.oct_store.specs.declared.author.Author.{Author}
use Rattle.oct_store.specs.declared.fork.Fork.{Fork}
use Rattle.oct_verify.specs.declared.status.Status.{Status}
use Rattle.oct_verify.specs.declared.status.Status.TheVariants as of_block
use Rattle.oct_overview.specs.Line.{period_of}
use Rattle.oct_overview.specs.declared.line.LeastPeriod.{LeastPeriod}
use Rattle.oct_said.specs.Dots.{is_withdrawn}
use Rattle.oct_said.specs.Noting.{said_of}
use Rattle.oct_said.specs.declared.noting.LongPeriod.{LongPeriod}
use Rattle.oct_sheet.specs.Names.{Called, author_name}
use Rattle.oct_sheet.specs.Sheet.{GameSheet, Sheet}
use Rattle.oct_pages.specs.declared.statuses.BlockRow.{BlockRow}
use Rattle.oct_pages.specs.declared.statuses.PeriodRow.{PeriodRow}
use Rattle.oct_json.specs.Said.{SaidPeriod}
use Rattle.oct_json.specs.declared.marked.MarkedBlock.{MarkedBlock}
use Rattle.oct_json.specs.declared.marked.MarkedPeriod.{MarkedPeriod}
use Rattle.serde_json.specs.Data.{Data, Members, null, boolean, number, string, array, no_items, object, member, no_members, put, unsigned}
use Rattle.serde_json.specs.View.{items_of}

abbrev pub count : ℕ → Data
count n = number (unsigned n)

abbrev pub word : List ℕ → Data
word text = string text

-- each item, in its order
abbrev pub list : {X : Type 0} → (X → Data) → List X → Data
list form xs = array (items_of (map form xs))

-- the object with this member too; what is none stays
abbrev pub with_member : List ℕ → Data → Data → Data
with_member key value (object members) = object (put key value members)
with_member key value other = other

-- what somebody said, withdrawn or not
abbrev pub withdrawn_if : Bool → Data → Data
withdrawn_if true row = with_member (codes "withdrawn") (boolean true) row
withdrawn_if false row = row

-- with the name of its author, where there is one
abbrev pub named : List ℕ → Data → Data
named [] row = row
named (b ∷ name) row = with_member (codes "name") (word (b ∷ name)) row

-- ---- blocks

-- a block, and whether it is withdrawn by these notes
abbrev pub marked_block : List Operation → BlockRow → MarkedBlock
marked_block notes b = record { row = b; is_withdrawn = is_withdrawn notes b.dot }

-- a block of which no more is known than a word says
abbrev pub plain_block : BlockRow → Data → Data
plain_block b status =
    object
    (member (codes "author") (count b.dot.author)
    (member (codes "count") (count b.count)
    (member (codes "number") (count b.dot.number)
    (member (codes "start") (count b.start)
    (member (codes "status") status no_members)))))

-- a block with its least wrong place, the value that it claims there, and the nim-value
abbrev pub refuted_block : BlockRow → ℕ → ℕ → ℕ → Data
refuted_block b place claimed truth =
    object
    (member (codes "at") (count place)
    (member (codes "author") (count b.dot.author)
    (member (codes "claimed") (count claimed)
    (member (codes "count") (count b.count)
    (member (codes "number") (count b.dot.number)
    (member (codes "start") (count b.start)
    (member (codes "status") (word (codes "refuted"))
    (member (codes "true") (count truth) no_members))))))))

abbrev pub block_by : BlockRow → Status → Data
block_by b of_block.Proved = plain_block b (word (codes "proved"))
block_by b (of_block.Refuted place claimed truth) = refuted_block b place claimed truth
block_by b of_block.Pending = plain_block b (word (codes "pending"))

abbrev pub block_data : MarkedBlock → Data
block_data b = withdrawn_if b.is_withdrawn (block_by b.row b.row.status)

-- ---- period claims

-- a claim, and whether it is withdrawn by these notes
abbrev pub marked_period : List Operation → PeriodRow → MarkedPeriod
marked_period notes p = record { row = p; is_withdrawn = is_withdrawn notes p.dot }

abbrev pub proved_period : PeriodRow → Data
proved_period p =
    object
    (member (codes "author") (count p.dot.author)
    (member (codes "number") (count p.dot.number)
    (member (codes "period") (count p.period.period)
    (member (codes "start") (count p.period.start)
    (member (codes "status") (word (codes "proved")) no_members)))))

-- a claim with the least heap that breaks it
abbrev pub refuted_period : PeriodRow → ℕ → Data
refuted_period p place =
    object
    (member (codes "at") (count place)
    (member (codes "author") (count p.dot.author)
    (member (codes "number") (count p.dot.number)
    (member (codes "period") (count p.period.period)
    (member (codes "start") (count p.period.start)
    (member (codes "status") (word (codes "refuted")) no_members))))))

-- a claim with how many known nim-values would decide it
abbrev pub pending_period : PeriodRow → ℕ → Data
pending_period p needs =
    object
    (member (codes "author") (count p.dot.author)
    (member (codes "needs") (count needs)
    (member (codes "number") (count p.dot.number)
    (member (codes "period") (count p.period.period)
    (member (codes "start") (count p.period.start)
    (member (codes "status") (word (codes "pending")) no_members))))))

abbrev pub period_by : PeriodRow → PeriodStatus → Data
period_by p of_claim.Proved = proved_period p
period_by p (of_claim.Refuted place) = refuted_period p place
period_by p (of_claim.Pending needs) = pending_period p needs

abbrev pub period_data : MarkedPeriod → Data
period_data p = withdrawn_if p.is_withdrawn (period_by p.row p.row.status)

-- ---- long periods that somebody says

-- with the name of who says it, by these notes
abbrev pub said_row : List Operation → LongPeriod → SaidPeriod
said_row notes long = record { long = long; name = author_name notes long.author }

abbrev pub long_data : LongPeriod → Data
long_data long =
    object
    (member (codes "author") (count long.author)
    (member (codes "period") (count long.seen.period)
    (member (codes "start") (count long.seen.start) no_members)))

abbrev pub said_data : SaidPeriod → Data
said_data s = named s.name (long_data s.long)

-- ---- the rest

-- the least period that the known nim-values prove, the least heap from which on they prove it, and whether a claim says just this
abbrev pub least_data : Option LeastPeriod → Data
least_data None = null
least_data (Some least) =
    object
    (member (codes "claimed") (boolean least.is_claimed)
    (member (codes "period") (count least.period.period)
    (member (codes "start") (count least.period.start) no_members)))

-- what somebody says of the game, where somebody does, and then its values
abbrev pub said_and_values : List SaidPeriod → Data → Members
said_and_values [] values = member (codes "values") values no_members
said_and_values (s ∷ said) values = member (codes "said") (list said_data (s ∷ said)) (member (codes "values") values no_members)

-- `known` is how many values there are
abbrev pub game_of : Data → GameSheet → Data → Data → List SaidPeriod → Data → Data
game_of blocks g least periods said values =
    object
    (member (codes "blocks") blocks
    (member (codes "code") (word (code_text g.code))
    (member (codes "known") (count (length g.values))
    (member (codes "least_period") least
    (member (codes "periods") periods (said_and_values said values))))))

-- with what these notes say of it, and with this as its values
abbrev pub game_by : List Operation → GameSheet → Option LeastPeriod → Data → Data
game_by notes g least values =
    game_of (list block_data (map (marked_block notes) g.blocks)) g (least_data least) (list period_data (map (marked_period notes) g.periods)) (map (said_row notes) (said_of notes g.code)) values

abbrev pub no_values : Data
no_values = array no_items

-- the same with none of its values, though `known` counts them
abbrev pub bare_game : List Operation → GameSheet → Option LeastPeriod → Data
bare_game notes g least = game_by notes g least no_values

abbrev pub game_data : List Operation → GameSheet → Data
game_data notes g = game_by notes g (period_of g) (list count g.values)

abbrev pub note_data : Dot → Note → Data
note_data d n =
    object
    (member (codes "author") (count d.author)
    (member (codes "name") (word n.name)
    (member (codes "number") (count d.number)
    (member (codes "text") (word n.text) no_members))))

-- a note; what is none, as no live note is, stands as null
abbrev pub op_data : Operation → Data
op_data o = elim o.body [ kind.Block b ↦ null | kind.Period p ↦ null | kind.Note n ↦ note_data o.dot n | kind.Removal r ↦ null ]

abbrev pub fork_data : Fork → Data
fork_data f =
    object
    (member (codes "author") (count f.dot.author)
    (member (codes "contents") (count f.contents)
    (member (codes "number") (count f.dot.number) no_members)))

abbrev pub numbers_of : Author → Data
numbers_of a =
    object
    (member (codes "author") (count a.author)
    (member (codes "last") (count a.last)
    (member (codes "through") (count a.through) no_members)))

abbrev pub author_data : Called → Data
author_data a = named a.name (numbers_of a.author)

-- `census` is the edition of the catalogue
abbrev pub document_of : Data → Data → Data → Data → Data
document_of authors forks games notes =
    object
    (member (codes "authors") authors
    (member (codes "census") (count 2)
    (member (codes "forks") forks
    (member (codes "games") games
    (member (codes "notes") notes no_members)))))

abbrev pub document : Sheet → Data
document s = document_of (list author_data s.authors) (list fork_data s.forks) (list (game_data s.remarks) s.games) (list op_data s.notes)
