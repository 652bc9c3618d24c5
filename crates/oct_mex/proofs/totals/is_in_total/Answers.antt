use Rattle.std.proofs.Common.{List, ℕ, subst₂, ◌%◌, ◌<◌, arith, length, map, IsTrue, ◌↔◌, slice_index_or, subst, sym}
use Rattle.std.proofs.lemmas.List.{length-set}
use Rattle.std.proofs.lemmas.List.Elements.{All-set}
use Rattle.oct_mex.specs.Marks.{IsTableFor}
use Rattle.oct_mex.specs.Totals.{IsLong, IsSum, IsTable}
use Rattle.oct_mex.proofs.Cells.{same_len}
use Rattle.oct_mex.proofs.totals.is_in_total.Goals as goal

pub turn_to-requires : goal.turn_to-requires
turn_to-requires g c =
    let all = map g.T.Cell.number c.args.values.now in
    let tables = c.args.tables.now in
    let size = c.args.size in
    let at = c.args.total % length tables in
    let low : at < length tables = omega (arith, c.requires.some) in
    let old = slice_index_or tables at c.index-tables-total.result in
    let long : IsLong size old = c.requires.long at c.index-tables-total.result low in
    record {
      held = c.requires.held;
      listed = c.requires.listed;
      table = subst (IsTableFor all) (sym long.marks) c.requires.table;
      kept = c.requires.kept at c.index-tables-total.result low;
    }

pub has_sum-requires : goal.has_sum-requires
has_sum-requires g c =
    let all = map g.T.Cell.number c.args.values.now in
    let tables = c.args.tables.now in
    let size = c.args.size in
    let at = c.args.total % length tables in
    let low : at < length tables = omega (arith, c.requires.some) in
    let old = slice_index_or tables at c.index-tables-total.result in
    let long : IsLong size old = c.requires.long at c.index-tables-total.result low in
    let longer = c.turn_to.ensures.long size long in
    record {
      some = c.turn_to.ensures.kept.some;
      held = omega (arith, c.turn_to.ensures.total, c.requires.held, same_len g.N.Cell.number g.T.Cell.number c.args.compared.now c.args.values.now c.requires.same);
      marks = omega (arith, longer.marks, c.requires.inside);
      misses = omega (arith, longer.misses, c.requires.inside);
    }

pub returns : goal.returns
returns g c =
    let all = map g.T.Cell.number c.args.values.now in
    let tables = c.args.tables.now in
    let size = c.args.size in
    let at = c.args.total % length tables in
    let low : at < length tables = omega (arith, c.requires.some) in
    let old = slice_index_or tables at c.index-tables-total.result in
    let long : IsLong size old = c.requires.long at c.index-tables-total.result low in
    let mask = c.args.mask in
    let table = c.has_sum.new.self in
    let longer : IsLong size table = c.has_sum.ensures.long size (c.turn_to.ensures.long size long) in
    let same = c.requires.same in
    let before = subst (λ (xs : List ℕ). IsTable mask xs c.turn_to.new.self) (sym same) c.turn_to.ensures.kept in
    let known : IsTable mask all table = subst (λ (xs : List ℕ). IsTable mask xs table) same (c.has_sum.ensures.kept mask before) in
    record {
      count = length-set tables at table;
      long = All-set (IsLong size) tables at table longer c.requires.long;
      kept = All-set (IsTable mask all) tables at table known c.requires.kept;
      is = subst₂ (λ (xs : List ℕ) (t : ℕ). IsTrue c.has_sum.result ↔ IsSum xs t (g.N.Cell.number c.args.value)) same c.turn_to.ensures.total (c.has_sum.ensures.is mask before);
    }
