use Rattle.std.proofs.Common.{◌≡◌, Bool, true, false, List, ◌∷◌, ◌||◌, ap, ◌∙◌, sym}
use Rattle.oct_ops.specs.Operation.{Period}
use Rattle.oct_ops.specs.Sets as sets
use Rattle.oct_period.specs.Claims.{Claim, is_claimed, is_same, periods_of}
use Rattle.oct_period.proofs.game.Game.claims_period.Goals as goal

-- what the first claim says of the rest
first_says : (xs rest : List Claim) (x : Claim) (p : Period) (all same : Bool) → xs ≡ x ∷ rest → is_claimed (periods_of xs) p ≡ all → is_same x.1 p ≡ same → (same || is_claimed (periods_of rest) p) ≡ all
first_says xs rest x p all same are known is = ap (λ b. b || is_claimed (periods_of rest) p) (sym is) ∙ sym (ap (λ ys. is_claimed (periods_of ys) p) are) ∙ known

pub loop-claim-init : goal.loop-claim-init
loop-claim-init g c = ap (λ xs. is_claimed (periods_of xs) c.args.period.now) (c.into_iter-claim-iterator.ensures.into_iter_gives ∙ c.claims-claim-items.ensures.value)

pub loop-claim-preserved : goal.loop-claim-preserved
loop-claim-preserved g c =
    let claim : Claim = c.in-Some.claim.now in
    first_says c.loop-claim.claim-iterator c.next.new.self claim c.args.period.now (is_claimed (periods_of (sets.listed c.args.self.now.claims)) c.args.period.now) false c.in-Some.ensures.steps c.loop-claim.invariant
    (ap (λ (d : Claim). is_same d.1 c.args.period.now) (sym c.claim.view_is) ∙ sym c.if-eq.ensures)

pub returns-then-eq : goal.returns-then-eq
returns-then-eq g c =
    let claim : Claim = c.in-Some.claim.now in
    first_says c.loop-claim.claim-iterator c.next.new.self claim c.args.period.now (is_claimed (periods_of (sets.listed c.args.self.now.claims)) c.args.period.now) true c.in-Some.ensures.steps c.loop-claim.invariant
    (ap (λ (d : Claim). is_same d.1 c.args.period.now) (sym c.claim.view_is) ∙ sym c.if-eq.ensures)

pub returns : goal.returns
returns g c = sym (ap (λ xs. is_claimed (periods_of xs) c.args.period.now) c.in-None.ensures.steps.0) ∙ c.loop-claim.invariant
