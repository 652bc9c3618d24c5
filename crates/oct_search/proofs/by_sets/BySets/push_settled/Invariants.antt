use Rattle.std.proofs.Common.{◌≡◌, ◌-◌, ◌≤◌, max, vec_len, vec_capacity}
use Rattle.oct_mex.specs.Row.{IsRow}
use Rattle.oct_sets.specs.Sets.{limit_of}
use Rattle.oct_search.specs.BySets.{AreSetsOf}
use Rattle.oct_search.proofs.by_sets.BySets.push_settled.Given as goal

abbrev pub invariant-loop-self : goal.invariant-loop-self
invariant-loop-self g l = record {
  row : IsRow g.T.Cell.number l.code l.row;
  right : AreSetsOf l.code (vec_len l.row.values) l.self;
  wide : l.row.used ≤ limit_of l.self.sets;
  same : l.row.rare.mask ≡ l.self.mask;
  room : vec_capacity l.row.values ≡ vec_capacity l.initial.row.values;
  more : vec_len l.initial.row.values ≤ vec_len l.row.values;
  most : vec_len l.row.values ≤ max l.end (vec_len l.initial.row.values);
}

abbrev pub decreases-loop-self : goal.decreases-loop-self
decreases-loop-self g l = l.end - vec_len l.row.values
