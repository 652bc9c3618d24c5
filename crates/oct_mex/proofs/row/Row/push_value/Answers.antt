use Rattle.std.proofs.Common.{◌≡◌, ◌+◌, ◌*◌, ◌++◌, ◌∷◌, [], map, sym, subst, subst₂, ap, ◌∙◌, arith, vec_len}
use Rattle.oct_mex.specs.Marks.{IsTableFor}
use Rattle.oct_mex.specs.NimValues.{nim_values}
use Rattle.oct_mex.specs.Rare.{Lists}
use Rattle.oct_mex.proofs.Marking.{table_grows, table_stays}
use Rattle.oct_mex.proofs.Pushed.{numbers_push, values_push}
use Rattle.oct_mex.proofs.row.Row.push_value.Goals as goal

pub returns-then-value-self-clause-row : goal.returns-then-value-self-clause-row
returns-then-value-self-clause-row g c =
    let number = g.T.Cell.number in
    let code = c.args.code.now in
    let row = c.args.self.now in
    let kept = c.requires.row in
    let all = map number row.values.items in
    let n = vec_len row.values in
    let cell = c.in-Some.cell in
    let is : number cell ≡ c.args.value = c.in-Some.ensures.0 in
    let more : map number c.push_reserved.new.self.items ≡ all ++ number cell ∷ [] = numbers_push number row.values.items c.push_reserved.new.self.items cell c.push_reserved.ensures.items in
    let len : vec_len c.push_reserved.new.self ≡ n + 1 = c.push_reserved.ensures.len in
    record {
      values = more ∙ values_push code n (number cell) all kept.values (is ∙ c.requires.value) ∙ ap (nim_values code) (sym len);
      limited = omega (arith, len, c.requires.limited);
      used = subst (λ xs. IsTableFor xs (row.used * 2)) (sym more) (table_grows all row.used (number cell) kept.used (omega (arith, is, c.if-value-self.true)));
      fit = c.follow.ensures.fit;
      listed = subst₂ (λ xs k. Lists c.follow.new.self.mask (map number xs) k c.follow.new.self.heaps.items (map number c.follow.new.self.values.items)) c.deref.ensures.value c.deref.ensures.len c.follow.ensures.listed;
    }

pub returns-else-value-self-clause-row : goal.returns-else-value-self-clause-row
returns-else-value-self-clause-row g c =
    let number = g.T.Cell.number in
    let code = c.args.code.now in
    let row = c.args.self.now in
    let kept = c.requires.row in
    let all = map number row.values.items in
    let n = vec_len row.values in
    let cell = c.in-Some.cell in
    let is : number cell ≡ c.args.value = c.in-Some.ensures.0 in
    let more : map number c.push_reserved.new.self.items ≡ all ++ number cell ∷ [] = numbers_push number row.values.items c.push_reserved.new.self.items cell c.push_reserved.ensures.items in
    let len : vec_len c.push_reserved.new.self ≡ n + 1 = c.push_reserved.ensures.len in
    record {
      values = more ∙ values_push code n (number cell) all kept.values (is ∙ c.requires.value) ∙ ap (nim_values code) (sym len);
      limited = omega (arith, len, c.requires.limited);
      used = subst (λ xs. IsTableFor xs row.used) (sym more) (table_stays all row.used (number cell) kept.used (omega (arith, is, c.requires.within, c.if-value-self.false)));
      fit = c.follow.ensures.fit;
      listed = subst₂ (λ xs k. Lists c.follow.new.self.mask (map number xs) k c.follow.new.self.heaps.items (map number c.follow.new.self.values.items)) c.deref.ensures.value c.deref.ensures.len c.follow.ensures.listed;
    }
