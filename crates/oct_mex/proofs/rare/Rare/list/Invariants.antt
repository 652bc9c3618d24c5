use Rattle.std.proofs.Common.{◌≡◌, map}
use Rattle.oct_mex.specs.Rare.{Lists}
use Rattle.oct_mex.proofs.rare.Rare.list.Given as goal

abbrev pub invariant-loop-heap : goal.invariant-loop-heap
invariant-loop-heap g l = record {
  parity : l.self.mask.parity ≡ l.initial.self.mask.parity;
  turn : l.self.mask.turn ≡ l.initial.self.mask.turn;
  listed : Lists l.self.mask (map g.T.Cell.number l.values) l.heap l.self.heaps.items (map g.T.Cell.number l.self.values.items);
}
