use Rattle.std.proofs.Common.{◌≡◌, length}
use Rattle.chunked.specs.Left.{left}
use Rattle.chunked.proofs.iter.IterIterator.next.Given as goal

abbrev pub invariant-loop-self : goal.invariant-loop-self
invariant-loop-self g l = (left l.self-inside.chunk.now l.self-inside.chunks.now ≡ left l.initial.self-inside.chunk.now l.initial.self-inside.chunks.now) × (l.self-inside.len ≡ l.initial.self-inside.len)

abbrev pub decreases-loop-self : goal.decreases-loop-self
decreases-loop-self g l = length l.self-inside.chunks.now
