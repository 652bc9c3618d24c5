use Rattle.std.proofs.Common.{◌-◌, ◌+◌, drop, ap, ◌∙◌, ◌++◌, rules}
use Rattle.census_codes.specs.Parts.{each_nth}
use Rattle.census_codes.proofs.Listing.{dealt, skipped}
use Rattle.census_codes.proofs.part.part_of.Goals as goal

pub loop-item-preserved-then-before-gt0 : goal.loop-item-preserved-then-before-gt0
loop-item-preserved-then-before-gt0 g c =
    skipped c.args.part.of c.loop-item.before c.args.list.now c.loop-item.item-index c.item-item.result c.loop-item.items.items c.loop-item-test.true c.item-item.is c.if-before-gt0.true ∙ c.loop-item.invariant

pub loop-item-preserved : goal.loop-item-preserved
loop-item-preserved g c =
    ap (λ others. c.push.new.self.items ++ each_nth c.args.part.of (others - 1) (drop (c.loop-item.item-index + 1) c.args.list.now)) c.of-others.ensures.value
    ∙ dealt c.args.part.of c.loop-item.before c.args.list.now c.loop-item.item-index c.item-item.result c.loop-item.items.items c.push.new.self.items c.loop-item-test.true c.item-item.is c.if-before-gt0.false (search rules)
    ∙ c.loop-item.invariant
