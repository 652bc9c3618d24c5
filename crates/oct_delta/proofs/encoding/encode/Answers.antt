use Rattle.std.proofs.Common.{◌≡◌, ◌++◌, List, Err, OnOk, IsErrOf, length, sym, ap, subst, refl, ◌∙◌, arith}
use Rattle.oct_ops.specs.Body.{Operation}
use Rattle.oct_delta.specs.declared.error.EncodeError.TheVariants.{TooMany, OutOfMemory}
use Rattle.oct_delta.specs.Delta.{encoded}
use Rattle.oct_ops.proofs.Growing.{cut_back}
use Rattle.oct_delta.proofs.Written.{written}
use Rattle.oct_delta.proofs.encoding.encode.Goals as goal

other_error : {T : Type 0} → IsErrOf {T = T} (Err OutOfMemory) TooMany → ⊥
other_error h = cc

pub put_delta-requires : goal.put_delta-requires
put_delta-requires g c = let same = ap length c.as_slice.ensures.value in omega (arith, same, c.if-len.false, c.len.ensures)

pub returns-then-len-clause-ok : goal.returns-then-len-clause-ok
returns-then-len-clause-ok g c = tt

pub returns-then-len-clause-too_many : goal.returns-then-len-clause-too_many
returns-then-len-clause-too_many g c = (λ _. omega (arith, c.if-len.true, c.len.ensures), λ _. refl)

pub returns-then-len-clause-err : goal.returns-then-len-clause-err
returns-then-len-clause-err g c = refl

pub returns-then-is_err-clause-ok : goal.returns-then-is_err-clause-ok
returns-then-is_err-clause-ok g c = tt

pub returns-then-is_err-clause-too_many : goal.returns-then-is_err-clause-too_many
returns-then-is_err-clause-too_many g c = (λ e. absurd (other_error e), λ le. absurd (omega (arith, le, c.if-len.false, c.len.ensures)))

pub returns-then-is_err-clause-err : goal.returns-then-is_err-clause-err
returns-then-is_err-clause-err g c =
    cut_back c.len-length.result c.args.out.now.items c.put_delta.new.out.items c.truncate.new.self.items (omega (arith, c.len-length.ensures, c.args.out.now.ok)) c.put_delta.ensures.kept c.truncate.ensures.items

pub returns-clause-ok : goal.returns-clause-ok
returns-clause-ok g c =
    written c.put_delta.result _ (sym c.is_err.ensures.value ∙ c.if-is_err.false)
    (subst (λ (list : List Operation). OnOk c.put_delta.result (c.put_delta.new.out.items ≡ c.args.out.now.items ++ encoded list)) c.as_slice.ensures.value c.put_delta.ensures.ok)

pub returns-clause-too_many : goal.returns-clause-too_many
returns-clause-too_many g c = (λ e. absurd cc, λ le. absurd (omega (arith, le, c.if-len.false, c.len.ensures)))

pub returns-clause-err : goal.returns-clause-err
returns-clause-err g c = tt
