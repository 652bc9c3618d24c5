use Rattle.std.proofs.Common.{◌≡◌, ◌+◌, ◌-◌, ◌++◌, ◌∷◌, ◌<◌, [], length, map, slice_index, slice_index_or, sym, subst, subst₂, ap, ◌∙◌, arith, vec_len}
use Rattle.oct_mex.specs.Marks.{IsTableFor}
use Rattle.oct_mex.specs.NimValues.{nim_values}
use Rattle.oct_mex.specs.Rare.{Lists}
use Rattle.oct_mex.proofs.Cells.{as_many, at}
use Rattle.oct_mex.proofs.Marking.{table_stays}
use Rattle.oct_mex.proofs.NimValues.{nim_values-length}
use Rattle.oct_mex.proofs.Pushed.{numbers_push}
use Rattle.oct_mex.proofs.SeenPeriods.{nim_values-copied}
use Rattle.oct_mex.proofs.row.Row.push_again.Goals as goal

pub returns-clause-row : goal.returns-clause-row
returns-clause-row g c =
    let number = g.T.Cell.number in
    let code = c.args.code.now in
    let row = c.args.self.now in
    let kept = c.requires.row in
    let all = map number row.values.items in
    let n = vec_len row.values in
    let cell = c.index-cell.result.now in
    let size : length all ≡ n = ap length kept.values ∙ nim_values-length code n in
    let behind : n - c.args.period < length row.values.items = omega (arith, size, as_many number row.values.items, c.requires.on.0, c.requires.some) in
    let is : number cell ≡ slice_index all (n - c.args.period) =
    at number row.values.items (n - c.args.period) cell behind (c.index-cell.ensures ∙ ap (λ k. slice_index_or row.values.items (k - c.args.period) cell) c.len.ensures) in
    let more : map number c.push_reserved.new.self.items ≡ all ++ number cell ∷ [] = numbers_push number row.values.items c.push_reserved.new.self.items cell c.push_reserved.ensures.items in
    let len : vec_len c.push_reserved.new.self ≡ n + 1 = c.push_reserved.ensures.len in
    let small : number cell < row.used =
    omega (arith, is, kept.used.power, kept.used.small (n - c.args.period) 0 (omega (arith, behind, as_many number row.values.items))) in
    record {
      values = more ∙ nim_values-copied code all n c.args.period (number cell) kept.values c.requires.some c.requires.on is ∙ ap (nim_values code) (sym len);
      limited = omega (arith, len, c.requires.limited);
      used = subst (λ xs. IsTableFor xs row.used) (sym more) (table_stays all row.used (number cell) kept.used small);
      fit = c.follow.ensures.fit;
      listed = subst₂ (λ xs k. Lists c.follow.new.self.mask (map number xs) k c.follow.new.self.heaps.items (map number c.follow.new.self.values.items)) c.deref.ensures.value c.deref.ensures.len c.follow.ensures.listed;
    }
