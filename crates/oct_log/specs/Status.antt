-- What a set of operations holds, in a few lines. The operations are listed in their order.
use Rattle.std.specs.Prelude.{ℕ, ◌==◌, List, ◌++◌, length, codes, if◌then◌else◌, unwrap_or, count_by}
use Rattle.std.specs.List.{flat_map}
use Rattle.std.specs.BTreeMap as tree
use Rattle.std.specs.BTreeMap.{BTreeMap}
use Rattle.std.specs.Ordering.{nat_cmp}
use Rattle.oct_notes.specs.Notes.{live_notes}
use Rattle.oct_ops.specs.Body.{Operation}
use Rattle.oct_pages.specs.Catalogue.{games}
use Rattle.oct_sheet.specs.Names.{author_name}
use Rattle.oct_sheet.specs.Sheet.{names_of}
use Rattle.oct_store.specs.Rows.{author_rows, fork_rows}
use Rattle.oct_store.specs.declared.author.Author.{Author}
use Rattle.oct_text.specs.Words.{Text, labelled}
use Rattle.oct_log.specs.Log.{name_words}

-- ---- how many operations an author has

-- one of them is by this author, and counts
abbrev pub counted : ℕ → ℕ → ℕ
counted author by = if by == author then 1 else 0

abbrev pub said_by : List Operation → ℕ → ℕ
said_by ops author = count_by (λ o. o.dot.author == author) ops

-- by a table
abbrev pub count_in : BTreeMap ℕ ℕ → ℕ → ℕ
count_in table author = unwrap_or (tree.get nat_cmp table author) 0

-- ---- lines

-- whose it is
abbrev pub own_line : Text → ℕ → Text
own_line name author = labelled (codes "author ") author ++ name_words name ++ codes "\n"

abbrev pub count_line : Text → ℕ → Text
count_line label count = labelled label count ++ codes "\n"

abbrev pub author_line : Text → ℕ → ℕ → Text
author_line name author count = labelled (codes "by ") author ++ name_words name ++ labelled (codes " ") count ++ codes "\n"

-- a line for each author, of these names and with so many operations
abbrev pub authors_part : (ℕ → Text) → (ℕ → ℕ) → List Author → Text
authors_part names counts authors = flat_map (λ (a : Author). author_line (names a.author) a.author (counts a.author)) authors

-- whose the state is, how many operations there are, and by whom
abbrev pub people_by : (ℕ → Text) → (ℕ → ℕ) → ℕ → List Operation → Text
people_by names counts author ops =
    own_line (names author) author
    ++ count_line (codes "operations ") (length ops)
    ++ authors_part names counts (author_rows ops)

abbrev pub people_part : ℕ → List Operation → Text
people_part author ops = people_by (author_name (names_of ops)) (said_by ops) author ops

abbrev pub games_line : List Operation → Text
games_line ops = count_line (codes "games ") (length (games ops))

-- of the notes that nobody took back
abbrev pub notes_line : List Operation → Text
notes_line ops = count_line (codes "notes ") (length (live_notes ops))

-- of the numbers that were used twice
abbrev pub forks_line : List Operation → Text
forks_line ops = count_line (codes "forks ") (length (fork_rows ops))

-- the status of the state of this author
abbrev pub status_text : ℕ → List Operation → Text
status_text author ops = people_part author ops ++ games_line ops ++ notes_line ops ++ forks_line ops
