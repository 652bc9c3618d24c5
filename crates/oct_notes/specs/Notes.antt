-- Which notes are live. The operations are listed in their order.
use Rattle.std.specs.Prelude.{◌≡◌, ℕ, nat_eq, Bool, true, false, not, ◌&&◌, List, [], map, IsTrue}
use Rattle.std.specs.List.{list_any, list_all, filter}
use Rattle.std.specs.declared.cmp.Ordering.{Ordering}
use Rattle.std.specs.Ordering.{nat_cmp, then_cmp, on, eq_by_cmp}
use Rattle.std.specs.Cmp.Lexicographic.{slice_cmp, pointwise}
use Rattle.oct_ops.specs.Arranged.{arranged}
use Rattle.oct_ops.specs.Body.{Body, Operation}
use Rattle.oct_ops.specs.Body as kind
use Rattle.oct_ops.specs.DotOrder.{dot_cmp}
use Rattle.oct_ops.specs.Operation.{Dot}
use Rattle.oct_ops.specs.Operations.{Operations, keep, listed}
use Rattle.oct_ops.specs.Order.{op_cmp}

abbrev pub is_note : Body → Bool
is_note (kind.Block b) = false
is_note (kind.Period p) = false
is_note (kind.Note n) = true
is_note (kind.Removal r) = false

-- a note or a removal
abbrev pub concerns_notes : Body → Bool
concerns_notes (kind.Block b) = false
concerns_notes (kind.Period p) = false
concerns_notes (kind.Note n) = true
concerns_notes (kind.Removal r) = true

-- the notes and removals of a set
abbrev pub notes_of : Operations → Operations
notes_of ops = keep (λ o. concerns_notes o.body) ops

-- all of the set are notes and removals
abbrev pub AreNotes : Operations → Type 0
AreNotes ops = IsTrue (list_all (λ o. concerns_notes o.body) (listed ops))

-- the name of a note; others have none
abbrev pub name_of : Body → List ℕ
name_of (kind.Block b) = []
name_of (kind.Period p) = []
name_of (kind.Note n) = n.name
name_of (kind.Removal r) = []

-- a removal that names the dot
abbrev pub names_dot : Dot → Body → Bool
names_dot d (kind.Block b) = false
names_dot d (kind.Period p) = false
names_dot d (kind.Note n) = false
names_dot d (kind.Removal r) = list_any (eq_by_cmp dot_cmp d) r.dots

abbrev pub is_removed : List Operation → Dot → Bool
is_removed ops d = list_any (λ o. names_dot d o.body) ops

-- these are the dots that removals name
abbrev pub AreRemoved : List Operation → List Dot → Type 0
AreRemoved ops dots = (d : Dot) → list_any (eq_by_cmp dot_cmp d) dots ≡ is_removed ops d

-- a note whose dot is none of these
abbrev pub leaves : List Dot → Operation → Bool
leaves dots o = is_note o.body && not (list_any (eq_by_cmp dot_cmp o.dot) dots)

-- a note that no removal names
abbrev pub is_live : List Operation → Operation → Bool
is_live ops o = is_note o.body && not (is_removed ops o.dot)

-- by name, byte by byte, so that a name comes before those that it begins, and then as operations
abbrev pub note_order : Operation → Operation → Ordering
note_order = then_cmp (on (λ o. name_of o.body) (slice_cmp nat_cmp)) op_cmp

-- the live notes, by name
abbrev pub live_notes : List Operation → List Operation
live_notes ops = arranged note_order (filter (is_live ops) ops)

abbrev pub is_named : List ℕ → Operation → Bool
is_named name o = pointwise nat_eq (name_of o.body) name

-- the dots of the live notes of a name, rising, each once
abbrev pub live_dots : List Operation → List ℕ → List Dot
live_dots ops name = arranged dot_cmp (map (λ o. o.dot) (filter (λ o. is_live ops o && is_named name o) ops))
