use Rattle.std.proofs.Common.{Some, sym, ap, ◌∙◌}
use Rattle.std.specs.Option.{option_eq}
use Rattle.oct_code.specs.Code.{code_eq}
use Rattle.oct_ops.specs.Games.{is_of_game, of_code}
use Rattle.oct_store.proofs.Kept.{one_passes, one_fails, those_kept, rising_as}
use Rattle.oct_store.proofs.store.Store.of_game.Goals as goal

pub loop-op-preserved-in_ok-push : goal.loop-op-preserved-in_ok-push
loop-op-preserved-in_ok-push g c =
    one_passes _ _ c.in-Some.op.now c.in-Some.ensures.steps _ _ _ c.in_ok-push.ensures.items c.in_ok-copy.ensures (of_code c.args.code) _ c.loop-op.invariant
    (sym (ap (is_of_game c.args.code) c.body.ensures.value) ∙ sym (ap (λ game. option_eq code_eq game (Some c.args.code)) c.code.ensures) ∙ sym c.eq.ensures ∙ c.if-eq.true)

pub loop-op-preserved : goal.loop-op-preserved
loop-op-preserved g c =
    one_fails _ _ c.in-Some.op.now c.in-Some.ensures.steps _ (of_code c.args.code) _ c.loop-op.invariant
    (sym (ap (is_of_game c.args.code) c.body.ensures.value) ∙ sym (ap (λ game. option_eq code_eq game (Some c.args.code)) c.code.ensures) ∙ sym c.eq.ensures ∙ c.if-eq.false)

pub of_rising-requires : goal.of_rising-requires
of_rising-requires g c = rising_as _ _ (those_kept _ _ _ _ c.in-None.ensures.steps.0 c.loop-op.invariant)

pub returns : goal.returns
returns g c = c.of_rising.ensures ∙ those_kept _ _ _ _ c.in-None.ensures.steps.0 c.loop-op.invariant
