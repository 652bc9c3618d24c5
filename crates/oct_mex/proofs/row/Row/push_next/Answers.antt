use Rattle.std.proofs.Common.{map, slice_index, subst₂, vec_len}
use Rattle.oct_mex.specs.Mex.{IsMex}
use Rattle.oct_mex.specs.NimValues.{IsOptionValue}
use Rattle.oct_mex.proofs.Pushed.{next_is}
use Rattle.oct_mex.proofs.row.Row.push_next.Goals as goal

pub push_value-requires-clause-value : goal.push_value-requires-clause-value
push_value-requires-clause-value g c =
    let number = g.T.Cell.number in
    let code = c.args.code.now in
    let row = c.args.self.now in
    let value = c.next_by_marks-value.result in
    let mex = subst₂ (λ xs k. IsMex (IsOptionValue code (slice_index (map number xs)) k) value) c.deref.ensures.value c.deref.ensures.len c.next_by_marks-value.ensures.value in
    next_is code (vec_len row.values) value (map number row.values.items) c.requires.row.values mex
