use Rattle.std.proofs.Common.{◌≡◌, Bool, true, false, not, cond, List, [], ◌∷◌, ◌++◌, append_assoc, sym, ap, ◌∙◌}
use Rattle.std.specs.List.{filter}
use Rattle.oct_join.specs.Clock.{covers}
use Rattle.oct_ops.specs.Body.{Operation}
use Rattle.oct_store.specs.Summary.{not_covered}
use Rattle.oct_store.proofs.Kept.{those_kept, rising_as}
use Rattle.oct_store.proofs.store.Store.beyond.Goals as goal

module _ (p : Operation → Bool) (done all rest whole : List Operation) (o : Operation) (next : all ≡ o ∷ rest) (before : done ++ filter p all ≡ whole) where
  passes : (more : List Operation) → p o ≡ true → more ≡ done ++ (o ∷ []) → more ++ filter p rest ≡ whole
  passes more is grown =
      ap (λ l. l ++ filter p rest) grown ∙ append_assoc done (o ∷ []) (filter p rest)
      ∙ sym (ap (λ l. done ++ l) (ap (filter p) next ∙ ap (λ b. cond b (o ∷ filter p rest) (filter p rest)) is)) ∙ before

  fails : p o ≡ false → done ++ filter p rest ≡ whole
  fails is = sym (ap (λ l. done ++ l) (ap (filter p) next ∙ ap (λ b. cond b (o ∷ filter p rest) (filter p rest)) is)) ∙ before

pub loop-op-preserved-in_ok-push : goal.loop-op-preserved-in_ok-push
loop-op-preserved-in_ok-push g c =
    let is : covers c.args.clock.now c.in-Some.op.now.dot ≡ false = cc in
    passes (not_covered c.args.clock.now) _ _ _ _ c.in-Some.op.now c.in-Some.ensures.steps c.loop-op.invariant _ (ap not is)
    (c.in_ok-push.ensures.items ∙ ap (λ o. c.loop-op.list.items ++ (o ∷ [])) c.in_ok-copy.ensures)

pub loop-op-preserved : goal.loop-op-preserved
loop-op-preserved g c =
    let is : covers c.args.clock.now c.in-Some.op.now.dot ≡ true = cc in
    fails (not_covered c.args.clock.now) _ _ _ _ c.in-Some.op.now c.in-Some.ensures.steps c.loop-op.invariant (ap not is)

pub of_rising-requires : goal.of_rising-requires
of_rising-requires g c = rising_as _ _ (those_kept _ _ _ _ c.in-None.ensures.steps.0 c.loop-op.invariant)

pub returns : goal.returns
returns g c = c.of_rising.ensures ∙ those_kept _ _ _ _ c.in-None.ensures.steps.0 c.loop-op.invariant
