use Rattle.std.proofs.Common.{◌%◌, ◌<◌, arith, length, map}
use Rattle.std.proofs.lemmas.List.{length-set}
use Rattle.std.proofs.lemmas.List.Elements.{All-set}
use Rattle.oct_mex.specs.Totals.{IsLong, IsTable}
use Rattle.oct_mex.proofs.totals.mark_total.Goals as goal

pub mark_sums-requires : goal.mark_sums-requires
mark_sums-requires g c =
    let tables = c.args.tables.now in
    let at = c.args.total % length tables in
    let low : at < length tables = omega (arith, c.requires.some) in
    record {
      held = c.requires.held;
      listed = c.requires.listed;
      table = c.requires.table;
      long = c.requires.long at c.index-tables-total.result low;
      kept = c.requires.kept at c.index-tables-total.result low;
    }

pub returns : goal.returns
returns g c =
    let all = map g.T.Cell.number c.args.values.now in
    let tables = c.args.tables.now in
    let at = c.args.total % length tables in
    let table = c.mark_sums.new.self in
    record {
      count = length-set tables at table;
      long = All-set (IsLong (length c.args.marks.now)) tables at table c.mark_sums.ensures.long c.requires.long;
      kept = All-set (IsTable c.args.mask all) tables at table c.mark_sums.ensures.kept c.requires.kept;
      marked = c.mark_sums.ensures.marked;
    }
