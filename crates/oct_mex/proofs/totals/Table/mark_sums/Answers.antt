use Rattle.std.proofs.Common.{ℕ, Bool, List, arith, length, map, ap, subst, sym, ◌∙◌}
use Rattle.oct_mex.specs.Marks.{AddsMarks, IsMarked, IsTableFor}
use Rattle.oct_mex.specs.Totals.{IsLong, IsTable, Knows}
use Rattle.oct_mex.proofs.totals.Table.mark_sums.Goals as goal

pub turn_to-requires : goal.turn_to-requires
turn_to-requires g c = record {
  held = c.requires.held;
  listed = c.requires.listed;
  table = subst (IsTableFor (map g.T.Cell.number c.args.values.now)) (sym c.requires.long.marks) c.requires.table;
  kept = c.requires.kept;
}

pub mark_to-requires : goal.mark_to-requires
mark_to-requires g c = record {
  some = c.turn_to.ensures.kept.some;
  held = omega (arith, c.turn_to.ensures.total, c.requires.held);
  table = subst (IsTableFor (map g.T.Cell.number c.args.values.now)) (sym (c.turn_to.ensures.long (length c.args.marks.now) c.requires.long).marks) c.requires.table;
}

pub add_marks-requires : goal.add_marks-requires
add_marks-requires g c =
    let size = length c.args.marks.now in
    ap length c.deref.ensures.value ∙ (c.mark_to.ensures.long size (c.turn_to.ensures.long size c.requires.long)).marks

pub returns : goal.returns
returns g c =
    let all = map g.T.Cell.number c.args.values.now in
    let size = length c.args.marks.now in
    let mask = c.args.mask in
    let table = c.mark_to.new.self in
    let longer : IsLong size table = c.mark_to.ensures.long size (c.turn_to.ensures.long size c.requires.long) in
    let known : IsTable mask all table = c.mark_to.ensures.kept mask c.turn_to.ensures.kept in
    record {
      long = longer;
      kept = known;
      marked = record {
        far = table.end;
        marks = table.marks.items;
        misses = table.misses.items;
        wide = c.mark_to.ensures.end;
        long = longer.marks;
        knows = subst (λ (t : ℕ). Knows mask all t table.end table.marks.items table.misses.items) (c.mark_to.ensures.total ∙ c.turn_to.ensures.total) known;
        adds = subst (λ (x : List Bool). AddsMarks c.args.marks.now c.add_marks.new.marks (IsMarked x)) c.deref.ensures.value c.add_marks.ensures;
      };
    }
