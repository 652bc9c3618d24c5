use Rattle.std.proofs.Common.{◌≡◌, true, inl, inr, [], ◌∷◌, List, sym, ap, ◌∙◌, ◌⊎◌, subst}
use Rattle.std.proofs.lemmas.Bool.{or_cases, false≢true}
use Rattle.std.specs.Cmp.{Equal-is}
use Rattle.std.specs.List.{list_any}
use Rattle.std.specs.Ordering.{eq_by_cmp}
use Rattle.oct_ops.specs.Body.{Operation}
use Rattle.oct_ops.specs.Operations.{Operations, contains}
use Rattle.oct_ops.specs.Order.{op_cmp}
use Rattle.oct_ops.specs.OrderLaws.{op_cmp_exact}
use Rattle.oct_ops.specs.SetLaws.{contains-listed}
use Rattle.oct_ops.specs.Valid.{IsOp}
use Rattle.oct_record.specs.Valid.{AreValid}
use Rattle.oct_record.proofs.valid.are_valid.Goals as goal

-- the operation is one of the list
abbrev IsOneOf : List Operation → Operation → Type 0
IsOneOf ops o = list_any (eq_by_cmp op_cmp o) ops ≡ true

module _ (s : Operations) (rest : List Operation) (before : (o : Operation) → contains s o ≡ true → IsOneOf rest o ⊎ IsOp o) where
  next : (later : List Operation) (p : Operation) → rest ≡ p ∷ later → IsOp p → (o : Operation) → contains s o ≡ true → IsOneOf later o ⊎ IsOp o
  next later p steps is o held = elim (before o held) [
    | inl to_come ↦ elim (or_cases (eq_by_cmp op_cmp o p) (list_any (eq_by_cmp op_cmp o) later) (subst (λ (ops : List Operation). IsOneOf ops o) steps to_come)) [
      | inl tie ↦ inr (subst IsOp (sym (op_cmp_exact o p ((Equal-is (op_cmp o p)).0 tie))) is)
      | inr still ↦ inl still
    ]
    | inr valid ↦ inr valid
  ]

  all : rest ≡ [] → AreValid s
  all none o held = elim (before o held) [ inl to_come ↦ absurd (false≢true (subst (λ (ops : List Operation). IsOneOf ops o) none to_come)) | inr valid ↦ valid ]

pub loop-op-init : goal.loop-op-init
loop-op-init g c o held =
    inl (ap (list_any (eq_by_cmp op_cmp o)) (c.into_iter-op-iterator.ensures.into_iter_gives ∙ c.iter-op-items.ensures) ∙ sym (contains-listed c.args.store.now o) ∙ held)

pub loop-op-preserved : goal.loop-op-preserved
loop-op-preserved g c = next c.args.store.now c.loop-op.op-iterator c.loop-op.invariant c.next.new.self c.in-Some.op.now c.in-Some.ensures.steps c.dot-dot.ensures.valid

pub returns-clause-valid : goal.returns-clause-valid
returns-clause-valid g c = all c.args.store.now c.loop-op.op-iterator c.loop-op.invariant c.in-None.ensures.steps.0
