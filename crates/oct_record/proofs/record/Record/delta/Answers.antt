use Rattle.std.proofs.Common.{arith, ◌≡◌, ◌↔◌, ℕ, ◌++◌, ◌^◌, ◌<◌, ◌≤◌, length, refl, subst, Result, Ok, Err, IsErrOf}
use Rattle.std.proofs.lemmas.Result.{err_from_is_err_and}
use Rattle.std.specs.Prelude.{OnOk}
use Rattle.oct_delta.specs.Delta.{encoded}
use Rattle.oct_delta.specs.declared.error.EncodeError.{EncodeError}
use Rattle.oct_delta.specs.declared.error.EncodeError.TheVariants.{TooMany}
use Rattle.oct_record.proofs.record.Record.delta.Goals as goal

-- what was written has few operations
written_few : {T : Type 0} (r : Result T EncodeError) (n : ℕ) → IsErrOf r TooMany ↔ (2 ^ 32 ≤ n) → OnOk r (n < 2 ^ 32)
written_few (Err e) n many = tt
written_few {T} (Ok t) n many =
    let none : 2 ^ 32 ≤ n → ⊥ = λ h. no_error (many.1 h) in
    omega (arith, none)
  where
    no_error : IsErrOf {T = T} (Ok t) TooMany → ⊥
    no_error is = cc

pub returns-clause-ok : goal.returns-clause-ok
returns-clause-ok g c = subst (λ list. OnOk c.encode.result (c.encode.new.out.items ≡ c.args.out.now.items ++ encoded list)) c.in_ok-list.ensures c.encode.ensures.ok

pub returns-clause-err : goal.returns-clause-err
returns-clause-err g c = c.encode.ensures.err

pub returns-in_err-list-clause-ok : goal.returns-in_err-list-clause-ok
returns-in_err-list-clause-ok g c = rw (err_from_is_err_and c.from_residual.result c.from_residual.ensures.1).1 tt

pub returns-in_err-list-clause-few : goal.returns-in_err-list-clause-few
returns-in_err-list-clause-few g c = rw (err_from_is_err_and c.from_residual.result c.from_residual.ensures.1).1 tt

pub returns-in_err-list-clause-err : goal.returns-in_err-list-clause-err
returns-in_err-list-clause-err g c = rw (err_from_is_err_and c.from_residual.result c.from_residual.ensures.1).1 refl

pub returns-clause-too_many : goal.returns-clause-too_many
returns-clause-too_many g c = λ many. subst (λ list. 2 ^ 32 ≤ length list) c.in_ok-list.ensures (c.encode.ensures.too_many.0 many)

pub returns-clause-few : goal.returns-clause-few
returns-clause-few g c = subst (λ list. OnOk c.encode.result (length list < 2 ^ 32)) c.in_ok-list.ensures (written_few c.encode.result _ c.encode.ensures.too_many)

pub returns-in_err-list-clause-too_many : goal.returns-in_err-list-clause-too_many
returns-in_err-list-clause-too_many g c =
    let p = err_from_is_err_and c.from_residual.result c.from_residual.ensures.1 in
    rw (p.1, p.2) (λ e. cc)
