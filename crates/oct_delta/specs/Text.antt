-- How operations are spelled as bytes. All numbers are big-endian.
use Rattle.std.specs.Prelude.{ℕ, List, ◌∷◌, ◌++◌, length}
use Rattle.std.specs.List.{flat_map}
use Rattle.std.specs.Int.{w16, w32, to_be_bytes}
use Rattle.oct_code.specs.Code.{Code}
use Rattle.oct_ops.specs.Operation.{Dot, Block, Period, Note, Removal}
use Rattle.oct_ops.specs.Order.{kind_of}
use Rattle.oct_ops.specs.Body.{Body, Operation}
use Rattle.oct_ops.specs.Body as kind

abbrev pub Bytes : Type 0
Bytes = List ℕ

abbrev pub u16 : ℕ → Bytes
u16 = to_be_bytes w16

abbrev pub u32 : ℕ → Bytes
u32 = to_be_bytes w32

-- head, k, digits
abbrev pub code_bytes : Code → Bytes
code_bytes c = c.head ∷ length c.digits ∷ c.digits

abbrev pub dot_bytes : Dot → Bytes
dot_bytes d = u32 d.author ++ u32 d.number

abbrev pub block_bytes : Block → Bytes
block_bytes b = code_bytes b.code ++ u32 b.start ++ u16 (length b.values) ++ flat_map u32 b.values

abbrev pub period_bytes : Period → Bytes
period_bytes p = code_bytes p.code ++ u32 p.start ++ u32 p.period

-- name and text, each after its length
abbrev pub note_bytes : Note → Bytes
note_bytes n = length n.name ∷ n.name ++ length n.text ∷ n.text

abbrev pub removal_bytes : Removal → Bytes
removal_bytes r = u16 (length r.dots) ++ flat_map dot_bytes r.dots

abbrev pub body_bytes : Body → Bytes
body_bytes (kind.Block b) = block_bytes b
body_bytes (kind.Period p) = period_bytes p
body_bytes (kind.Note n) = note_bytes n
body_bytes (kind.Removal r) = removal_bytes r

abbrev pub op_bytes : Operation → Bytes
op_bytes o = dot_bytes o.dot ++ kind_of o.body ∷ body_bytes o.body

-- how many there are, and then each
abbrev pub list_bytes : List Operation → Bytes
list_bytes ops = u32 (length ops) ++ flat_map op_bytes ops
