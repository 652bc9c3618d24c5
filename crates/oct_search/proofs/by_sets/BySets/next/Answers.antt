use Rattle.std.proofs.Common.{◌≡◌, ◌^◌, ◌<◌, ◌≤◌, false, ap, sym, ◌∙◌, subst, subst₂, arith, map, vec_len}
use Rattle.oct_mex.specs.NimValues.{nim_value}
use Rattle.oct_mex.specs.Rare.{is_rare}
use Rattle.oct_mex.specs.Windows.{IsSettled, window}
use Rattle.oct_sets.specs.Plans.{AreLast, IsParted}
use Rattle.oct_sets.specs.Sets.{limit_of, reach_of, IsShaped}
use Rattle.oct_sets.proofs.Forms.{least_is}
use Rattle.oct_search.proofs.BySets.{if_held}
use Rattle.oct_search.proofs.by_sets.BySets.next.Goals as goal

pub last_values-last-requires-clause-within : goal.last_values-last-requires-clause-within
last_values-last-requires-clause-within g c =
    let is = c.requires.right in
    let least = least_is (reach_of c.args.self.now.sets) (window c.args.code.now (reach_of c.args.self.now.sets)) c.args.self.now.sets is.shaped in
    omega (arith, least, is.heap, c.reach.ensures)

pub settle-requires-clause-shaped : goal.settle-requires-clause-shaped
settle-requires-clause-shaped g c =
    subst (λ width. IsShaped (reach_of c.args.self.now.sets) width c.args.self.now.sets) (sym (c.last_values-last.ensures.len ∙ ap (window c.args.code.now) c.reach.ensures)) c.requires.right.shaped

pub settle-requires-clause-low : goal.settle-requires-clause-low
settle-requires-clause-low g c = c.last_values-last.ensures.low (limit_of c.args.self.now.sets) c.requires.wide

pub returns-then-value-row-clause-value : goal.returns-then-value-row-clause-value
returns-then-value-row-clause-value g c =
    let code = c.args.code.now in
    let row = c.args.row.now in
    let by = c.args.self.now in
    let are = c.requires.right in
    let heap = are.heap in
    let last = subst (λ n. AreLast code n (map g.T.Cell.number c.last_values-last.result.now)) (c.len.ensures ∙ sym heap) c.last_values-last.ensures.last in
    let parted = subst (IsParted code by.mask are.heaps (reach_of by.sets)) (sym heap) are.parted in
    let value : c.in_ok-value.value ≡ nim_value code (vec_len row.values) =
    c.in_ok-value.ensures.value code are.heaps (reach_of by.sets) are.right last parted ∙ ap (nim_value code) heap in
    if_held g.T.Cell.number c.from_number.result c.in_ok-value.value (g.T.Cell.bound ≤ c.in_ok-value.value) (λ cell. g.T.Cell.number cell ≡ nim_value code (vec_len row.values)) (λ cell. c.in_ok-value.value < 2 ^ 32)
    c.from_number.ensures (λ cell is. is ∙ value)

pub returns-then-value-row-clause-common : goal.returns-then-value-row-clause-common
returns-then-value-row-clause-common g c =
    let code = c.args.code.now in
    let row = c.args.row.now in
    let by = c.args.self.now in
    let are = c.requires.right in
    let heap = are.heap in
    let last = subst (λ n. AreLast code n (map g.T.Cell.number c.last_values-last.result.now)) (c.len.ensures ∙ sym heap) c.last_values-last.ensures.last in
    let parted = subst (IsParted code by.mask are.heaps (reach_of by.sets)) (sym heap) are.parted in
    let n = vec_len row.values in
    let value : c.in_ok-value.value ≡ nim_value code n = c.in_ok-value.ensures.value code are.heaps (reach_of by.sets) are.right last parted ∙ ap (nim_value code) heap in
    let settled = subst (IsSettled code by.mask (reach_of by.sets)) heap (c.in_ok-value.ensures.settled code are.heaps (reach_of by.sets) are.right last parted) in
    let same = c.requires.same in
    if_held g.T.Cell.number c.from_number.result c.in_ok-value.value (g.T.Cell.bound ≤ c.in_ok-value.value) (λ cell. is_rare row.rare.mask n (g.T.Cell.number cell) ≡ false) (λ cell. c.in_ok-value.value < 2 ^ 32)
    c.from_number.ensures (λ cell is. subst₂ (λ mask v. is_rare mask n v ≡ false) (sym same) (sym (is ∙ value)) settled.common)

pub returns-then-value-row-clause-settled : goal.returns-then-value-row-clause-settled
returns-then-value-row-clause-settled g c =
    let code = c.args.code.now in
    let row = c.args.row.now in
    let by = c.args.self.now in
    let are = c.requires.right in
    let heap = are.heap in
    let last = subst (λ n. AreLast code n (map g.T.Cell.number c.last_values-last.result.now)) (c.len.ensures ∙ sym heap) c.last_values-last.ensures.last in
    let parted = subst (IsParted code by.mask are.heaps (reach_of by.sets)) (sym heap) are.parted in
    let n = vec_len row.values in
    let settled = subst (IsSettled code by.mask (reach_of by.sets)) heap (c.in_ok-value.ensures.settled code are.heaps (reach_of by.sets) are.right last parted) in
    if_held g.T.Cell.number c.from_number.result c.in_ok-value.value (g.T.Cell.bound ≤ c.in_ok-value.value) (λ cell. is_rare by.mask n (nim_value code n) ≡ false) (λ cell. c.in_ok-value.value < 2 ^ 32)
    c.from_number.ensures (λ cell is. settled.common)

pub returns-then-value-row-clause-within : goal.returns-then-value-row-clause-within
returns-then-value-row-clause-within g c =
    if_held g.T.Cell.number c.from_number.result c.in_ok-value.value (g.T.Cell.bound ≤ c.in_ok-value.value) (λ cell. g.T.Cell.number cell < c.args.row.now.used) (λ cell. c.in_ok-value.value < 2 ^ 32)
    c.from_number.ensures (λ cell is. omega (arith, is, c.if-value-row.true))
