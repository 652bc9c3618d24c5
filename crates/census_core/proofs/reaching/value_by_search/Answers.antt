use Rattle.std.proofs.Common.{◌≡◌, ℕ, List, Result, Ok, Err, sym, ap, subst, ◌∙◌}
use Rattle.std.specs.Prelude.{IfErr, IfOk}
use Rattle.oct_code.specs.Code.{Code}
use Rattle.oct_mex.specs.NimValues.{position_value as nim_sum}
use Rattle.oct_period.specs.declared.unknown.Unknown.{Unknown}
use Rattle.census_search.specs.Positions.{IsReached}
use Rattle.census_state.proofs.Stepping.{then_with}
use Rattle.census_state.specs.Steps.{◌>>=◌, because}
use Rattle.census_state.specs.declared.fault.Fault.TheVariants as fault
use Rattle.census_tell.specs.Asking.{value_of}
use Rattle.census_core.proofs.reaching.value_by_search.Goals as goal
use Rattle.census_core.proofs.reaching.value_by_search.Goals.{in-Ok, in-Err+in_ok-position-in-Err}

-- what the answer is, by what the state gives
record IsTold (c : Code) (count : ℕ) (heaps : List ℕ) (given told : Result ℕ Unknown) : Type 0 where
  known : IfOk given (λ value. told ≡ Ok value)
  reached : IfErr given (λ unknown. IsReached c count heaps told)
  right : IfOk told (λ value. value ≡ nim_sum c heaps)

-- the state gives it
told_given : (c : Code) (count : ℕ) (heaps : List ℕ) (given told : Result ℕ Unknown) (value : ℕ) → given ≡ Ok value → told ≡ Ok value → IfOk given (λ v. v ≡ nim_sum c heaps) → IsTold c count heaps given told
told_given c count heaps given told value is same right = record {
  known = subst (λ x. IfOk x (λ v. told ≡ Ok v)) (sym is) same;
  reached = subst (λ x. IfErr x (λ unknown. IsReached c count heaps told)) (sym is) tt;
  right = subst (λ x. IfOk x (λ v. v ≡ nim_sum c heaps)) (is ∙ sym same) right;
}

-- a search gives it
told_reached : (c : Code) (count : ℕ) (heaps : List ℕ) (given told found : Result ℕ Unknown) (unknown : Unknown) → given ≡ Err unknown → told ≡ found → IsReached c count heaps found → IfOk found (λ v. v ≡ nim_sum c heaps)
    → IsTold c count heaps given told
told_reached c count heaps given told found unknown is same reached right = record {
  known = subst (λ x. IfOk x (λ v. told ≡ Ok v)) (sym is) tt;
  reached = subst (λ x. IfErr x (λ u. IsReached c count heaps told)) (sym is) (subst (IsReached c count heaps) (sym same) reached);
  right = subst (λ x. IfOk x (λ v. v ≡ nim_sum c heaps)) (sym same) right;
}

pub returns-clause-ok : goal.returns-clause-ok
returns-clause-ok g c =
    let replica = c.in_ok-held.held in
    let code = c.in_ok-code.code in
    let heaps = c.args.heaps.now in
    let told = c.match-position_value.position in
    let valued = c.position_value.ensures.value ∙ ap (λ game. value_of game heaps) c.in_ok-game.ensures in
    let same = ap (λ game. game.code) c.in_ok-game.ensures in
    let right = subst (λ d. IfOk c.position_value.result (λ v. v ≡ nim_sum d heaps)) same c.position_value.ensures.right in
    let coded = sym c.read_code.ensures ∙ c.in_ok-code.was in
    let placed : IsTold code c.args.count heaps c.position_value.result told =
    elim c.match-position_value.branch [
      | in-Ok w ↦ told_given code c.args.count heaps c.position_value.result told w.in-Ok.value w.in-Ok.is w.position-is right
      | in-Err+in_ok-position-in-Err w ↦
          told_reached code c.args.count heaps c.position_value.result told _ w.in-Err.field-0 w.in-Err.is w.position-is w.in_ok-position-in-Err.ensures.ok w.in_ok-position-in-Err.ensures.right
    ] in
    record {
      replica = replica;
      code = code;
      asked = then_with _ _ _ c.in_ok-check_searchable.ensures.ok ∙ then_with _ _ _ c.in_ok-held.ensures.ok ∙ ap (λ d. because fault.Code d >>= λ e. Ok (replica, e)) coded;
      told = told;
      known = subst (λ x. IfOk x (λ v. told ≡ Ok v)) valued placed.known;
      reached = subst (λ x. IfErr x (λ unknown. IsReached code c.args.count heaps told)) valued placed.reached;
      right = placed.right;
      is = c.in_ok-position_text.ensures;
    }

pub returns-clause-err : goal.returns-clause-err
returns-clause-err g c = tt
