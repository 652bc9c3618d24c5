use Rattle.std.proofs.Common.{◌-◌, map, length}
use Rattle.std.specs.Int.{div_ceil}
use Rattle.std.specs.List.{range_with_len}
use Rattle.oct_pages.specs.Catalogue.{values_line, values_lines, values_per_line}
use Rattle.oct_ops.specs.Growth.{Extends}
use Rattle.oct_pages.proofs.Pagers.{Showing}
use Rattle.oct_pages.proofs.values.append_values.Given as goal

abbrev pub invariant-loop-line : goal.invariant-loop-line
invariant-loop-line g l = record {
  shown : Showing l.fn.pager l.pager l.fn.out.items l.out.items (values_lines l.values) (map (values_line l.values) (range_with_len l.line (div_ceil (length l.values) values_per_line - l.line)));
  grown : Extends l.fn.out.items l.out.items;
}
