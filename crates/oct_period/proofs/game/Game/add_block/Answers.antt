use Rattle.std.proofs.Common.{sym, ap, ◌∙◌}
use Rattle.oct_period.proofs.Added.{block_added}
use Rattle.oct_period.specs.GameContent.{GameContent}
use Rattle.oct_period.proofs.game.Game.add_block.Goals as goal

pub invariant_of-self : goal.invariant_of-self
invariant_of-self g c =
    let game = c.requires ∙ sym (ap (λ (h : GameContent). h.code) c.self.view_is) in
    let added = block_added c.add.result c.self.inside.ledger c.add.new.self (c.args.dot, c.args.block) game c.add.ensures.ok c.add.ensures.err in
    record {
      sorted = c.self.invariant.sorted;
      blocks = added.1 c.self.invariant.blocks;
      claims = λ d here. c.self.invariant.claims d here ∙ sym added.0;
    }
