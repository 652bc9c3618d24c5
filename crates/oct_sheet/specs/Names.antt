-- The names of authors. An author is called by the text of its last live note of the name `author-name`, in the order of operations.
use Rattle.std.specs.Prelude.{◌≡◌, ℕ, ◌==◌, ◌&&◌, Bool, if◌then◌else◌, List, [], codes, Option, Some, None}
use Rattle.std.specs.List.{filter, fold}
use Rattle.std.specs.BTreeMap as tree
use Rattle.std.specs.BTreeMap.{BTreeMap}
use Rattle.std.specs.Ordering.{nat_cmp}
use Rattle.std.specs.Str.{IsAscii}
use Rattle.oct_ops.specs.Body as kind
use Rattle.oct_ops.specs.Body.{Body, Operation}
use Rattle.oct_notes.specs.Notes.{is_named}
use Rattle.oct_text.specs.Words.{Text}
use Rattle.oct_store.specs.declared.author.Author.{Author}

abbrev pub text_of : Body → Text
text_of (kind.Block b) = []
text_of (kind.Period p) = []
text_of (kind.Note n) = n.text
text_of (kind.Removal r) = []

-- the note names its author
abbrev pub is_naming : Operation → Bool
is_naming o = is_named (codes "author-name") o

-- those of the notes that name authors
abbrev pub naming : List Operation → List Operation
naming notes = filter is_naming notes

-- the note names this author
abbrev pub names : ℕ → Operation → Bool
names author o = (o.dot.author == author) && is_naming o

-- the name that an author has once the note is read too
abbrev pub renamed : ℕ → Text → Operation → Text
renamed author name o = if names author o then text_of o.body else name

-- the name by the live notes, which are listed by name and then in the order of operations; empty where there is none
abbrev pub author_name : List Operation → ℕ → Text
author_name notes author = fold (renamed author) [] notes

-- the name that is found, and the empty one where none is
abbrev pub name_at : {R : Type 0} → (R → Text) → Option R → Text
name_at text None = []
name_at text (Some name) = text name

-- the name of an author in a table
abbrev pub name_in : {R : Type 0} → (R → Text) → BTreeMap ℕ R → ℕ → Text
name_in text table author = name_at text (tree.get nat_cmp table author)

-- the table has the names by these notes
pub record HasNames {R : Type 0} (text : R → Text) (table : BTreeMap ℕ R) (notes : List Operation) : Type 0 where
  pub names : (author : ℕ) → name_in text table author ≡ author_name notes author
  pub ascii : (author : ℕ) → IsAscii (name_in text table author)

-- an author with its name
pub record Called : Type 0 where
  pub author : Author
  pub name : Text

abbrev pub called : List Operation → Author → Called
called notes a = record { author = a; name = author_name notes a.author }
