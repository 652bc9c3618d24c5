use Rattle.std.proofs.Common.{Some, refl, sym, ap, ◌∙◌, subst}
use Rattle.std.specs.Option.{IsSome}
use Rattle.oct_ops.specs.Body.{Operation}
use Rattle.oct_ops.specs.Views.{content}
use Rattle.oct_verify.specs.Filing.{block_of}
use Rattle.oct_period.specs.GameContent.{GameContent}
use Rattle.oct_period.proofs.Added.{block_shared}
use Rattle.oct_period.proofs.game.Game.share.Goals as goal

pub invariant_of-self : goal.invariant_of-self
invariant_of-self g c =
    let block : IsSome (block_of c.args.op.now.value.body) = subst (λ body. IsSome (block_of body)) (ap content (sym c.in-Block.is) ∙ c.body.ensures.value ∙ ap (λ (o : Operation). o.body) c.deref.ensures) refl in
    let game = c.requires ∙ sym (ap (λ (h : GameContent). Some h.code) c.self.view_is) in
    let added = block_shared c.share.result c.self.inside.ledger c.share.new.self c.args.op.now.value block game c.share.ensures.ok c.share.ensures.err in
    record {
      sorted = c.self.invariant.sorted;
      blocks = added.1 c.self.invariant.blocks;
      claims = λ d here. c.self.invariant.claims d here ∙ sym added.0;
    }
