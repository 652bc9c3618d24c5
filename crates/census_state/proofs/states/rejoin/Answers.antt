use Rattle.std.proofs.Common.{arith, ◌≡◌, ◌≤◌, Ok, length, sym, ap, subst, ◌∙◌, eq-eqb}
use Rattle.std.specs.Prelude.{option_map}
use Rattle.std.proofs.lemmas.Result.{err_from_is_err_and}
use Rattle.oct_ops.specs.Operations.{listed}
use Rattle.oct_record.specs.Numbers.{foreign_of}
use Rattle.census_state.specs.Steps.{◌>>=◌}
use Rattle.census_state.proofs.Rejoining.{rejoin_saves}
use Rattle.census_state.proofs.Uniting.{length-union}
use Rattle.census_state.proofs.states.rejoin.Goals as goal

pub overflow_sub-all : goal.overflow_sub-all
overflow_sub-all c =
    let before = c.in_ok-kept.kept.ops in
    let more : length (listed before) ≤ length (listed c.join.new.self.ops) = subst (λ s. length (listed before) ≤ length (listed s)) (sym c.in_ok-join.ensures.ok) (length-union before c.args.held.now.ops) in
    omega (arith, more, c.len-before.ensures, c.len-all.ensures)

pub returns-clause-ok : goal.returns-clause-ok
returns-clause-ok c =
    let kept = c.in_ok-kept.kept in
    let held = c.args.held.now in
    let same : kept.author ≡ held.author = sym c.author.ensures.value ∙ c.if-author.false ∙ c.author-2.ensures.value in
    rejoin_saves c.args.state.now held kept c.join.new.self c.in_ok-text.text.items c.len-before.result c.len-all.result c.in_ok-kept.ensures.ok (eq-eqb _ _ same) c.in_ok-join.ensures.ok c.in_ok-join.ensures.author c.len-before.ensures c.len-all.ensures c.in_ok-text.ensures ∙ c.in_ok-reply.ensures.ok

pub returns-clause-foreign : goal.returns-clause-foreign
returns-clause-foreign c = ap (λ read. read >>= λ kept. Ok (option_map (λ o. o.dot) (foreign_of kept.ops c.args.held.now.ops kept.author))) c.in_ok-kept.ensures.ok ∙ ap Ok (sym c.first_foreign-foreign.ensures)

pub returns-in_err-reply-clause-err : goal.returns-in_err-reply-clause-err
returns-in_err-reply-clause-err c =
    let kept = c.in_ok-kept.kept in
    let held = c.args.held.now in
    let same : kept.author ≡ held.author = sym c.author.ensures.value ∙ c.if-author.false ∙ c.author-2.ensures.value in
    let p = err_from_is_err_and c.from_residual-in_err-reply.result c.from_residual-in_err-reply.ensures.1 in
    rw (p.1, p.2) (λ other. rejoin_saves c.args.state.now held kept c.join.new.self c.in_ok-text.text.items c.len-before.result c.len-all.result c.in_ok-kept.ensures.ok (eq-eqb _ _ same) c.in_ok-join.ensures.ok c.in_ok-join.ensures.author c.len-before.ensures c.len-all.ensures c.in_ok-text.ensures ∙ c.in_err-reply.ensures.err other)
