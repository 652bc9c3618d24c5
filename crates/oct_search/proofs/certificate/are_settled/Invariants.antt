use Rattle.std.proofs.Common.{◌≡◌, ◌<◌, ◌≤◌, ℕ, IfSome, length}
use Rattle.oct_mex.specs.Windows.{IsSettled}
use Rattle.oct_search.specs.BySets.{ServeFor}
use Rattle.oct_search.proofs.certificate.are_settled.Given as goal

abbrev pub invariant-loop-heap : goal.invariant-loop-heap
invariant-loop-heap g l = record {
  size : length l.marks ≡ length l.fn.marks;
  serve : IfSome l.sets (ServeFor l.code l.row l.heap);
  settled : (n : ℕ) → l.start ≤ n → n < l.heap → IsSettled l.code l.row.rare.mask l.reach n;
}
