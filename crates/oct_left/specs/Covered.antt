-- Which games lack blocks.
use Rattle.std.specs.Prelude.{ℕ, zero, suc, ◌+◌, ◌&&◌, ◌||◌, ◌==◌, Bool, true, false, not, nat_le, nat_lt, List, length}
use Rattle.std.specs.List.{filter, list_any}
use Rattle.oct_code.specs.Code.{Code}
use Rattle.oct_ops.specs.Body.{Body, Operation}
use Rattle.oct_ops.specs.Body as kind
use Rattle.oct_ops.specs.Operations.{Operations, listed}
use Rattle.oct_store.specs.Summary.{of_game}

-- the body is a block that has the heap
abbrev pub body_tells : ℕ → Body → Bool
body_tells heap (kind.Block b) = nat_le b.start heap && nat_lt heap (b.start + length b.values)
body_tells heap (kind.Period p) = false
body_tells heap (kind.Note n) = false
body_tells heap (kind.Removal r) = false

abbrev pub tells : ℕ → Operation → Bool
tells heap o = body_tells heap o.body

-- what passes for each number below this one
abbrev pub all_below : (ℕ → Bool) → ℕ → Bool
all_below p zero = true
all_below p (suc n) = p n && all_below p n

-- the heap is empty, or one of the operations is a block that has it
abbrev pub is_said : List Operation → ℕ → Bool
is_said ops heap = (heap == 0) || list_any (tells heap) ops

-- that is so of each of the first heaps
abbrev pub is_covered_by : List Operation → ℕ → Bool
is_covered_by ops count = all_below (is_said ops) count

-- each of the first heaps of the game but the empty one lies in a block of it
abbrev pub is_covered : Operations → Code → ℕ → Bool
is_covered ops code count = is_covered_by (listed (of_game ops code)) count

-- the games of the list of which that is not so
abbrev pub left : Operations → ℕ → List Code → List Code
left ops count codes = filter (λ code. not (is_covered ops code count)) codes
