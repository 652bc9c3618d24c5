use Rattle.std.proofs.Common.{rules, ◌≡◌, true}
use Rattle.census_fold.proofs.Owning.{is_by, own_done, own_next}
use Rattle.census_fold.proofs.lacking.said_by_its_author.Goals as goal

pub loop-op-preserved-in_ok-share : goal.loop-op-preserved-in_ok-share
loop-op-preserved-in_ok-share c =
    let own_is : is_by c.args.held.now.author c.in-Some.op.now.value ≡ true = search rules in
    own_next c.args.held.now.author c.args.held.now.ops c.loop-op.own c.share.new.self c.loop-op.op-iterator c.in-Some.op.now.value c.next.new.self
    c.in-Some.ensures.steps own_is c.in_ok-share.ensures.ok c.loop-op.invariant

pub returns : goal.returns
returns c = own_done c.args.held.now.author c.args.held.now.ops c.loop-op.own c.loop-op.op-iterator c.in-None.ensures.steps.0 c.loop-op.invariant
