use Rattle.std.proofs.Common.{◌≡◌, ◌+◌, ◌++◌, ◌∷◌, [], length, map, sym, subst, subst₂, ap, ◌∙◌, arith, vec_len}
use Rattle.oct_mex.specs.Marks.{IsTableFor}
use Rattle.oct_mex.specs.NimValues.{nim_values}
use Rattle.oct_mex.specs.Rare.{Lists}
use Rattle.oct_mex.proofs.Marking.{table_stays}
use Rattle.oct_mex.proofs.NimValues.{nim_values-length}
use Rattle.oct_mex.proofs.Pushed.{numbers_push, values_push}
use Rattle.oct_search.proofs.BySets.{lists_more}
use Rattle.oct_search.proofs.by_sets.push_unlisted.Goals as goal

pub returns-clause-row : goal.returns-clause-row
returns-clause-row g c code kept is within not_rare =
    let number = g.T.Cell.number in
    let row = c.args.row.now in
    let cell = c.args.cell in
    let all = map number row.values.items in
    let n = vec_len row.values in
    let size : length all ≡ n = ap length kept.values ∙ nim_values-length code n in
    let more : map number c.push_reserved.new.self.items ≡ all ++ number cell ∷ [] = numbers_push number row.values.items c.push_reserved.new.self.items cell c.push_reserved.ensures.items in
    let len : vec_len c.push_reserved.new.self ≡ n + 1 = c.push_reserved.ensures.len in
    record {
      values = more ∙ values_push code n (number cell) all kept.values is ∙ ap (nim_values code) (sym len);
      limited = omega (arith, len, c.requires.limited);
      used = subst (λ xs. IsTableFor xs row.used) (sym more) (table_stays all row.used (number cell) kept.used within);
      fit = kept.fit;
      listed = subst₂ (λ xs k. Lists row.rare.mask xs k row.rare.heaps.items (map number row.rare.values.items)) (sym more) (sym len)
          (lists_more row.rare.mask all (number cell) n row.rare.heaps.items (map number row.rare.values.items) size not_rare kept.listed);
    }
