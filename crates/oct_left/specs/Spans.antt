-- The heaps of a block.
use Rattle.std.specs.Prelude.{ℕ, ◌&&◌, Bool, nat_le, nat_lt}
use Rattle.oct_left.specs.declared.span.Span.{Span}

-- the heap is one of these
abbrev pub has_heap : ℕ → Span → Bool
has_heap heap span = nat_le span.start heap && nat_lt heap span.end
