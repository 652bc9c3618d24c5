use Rattle.std.proofs.Common.{arith}
use Rattle.oct_window.specs.Trails.{AreSettled}
use Rattle.oct_window.proofs.Trails.{right_further, trail_further}
use Rattle.oct_window.proofs.trail.Trail.pass.Goals as goal

pub returns-then-len-clause-of : goal.returns-then-len-clause-of
returns-then-len-clause-of g c listed behind trail =
    c.keep.ensures.of listed (omega (arith, c.forget.ensures.count)) (trail_further listed c.args.window.now c.forget.new.self c.args.self.now c.forget.ensures.same (omega (arith, c.forget.ensures.count)) trail)

pub returns-then-len-clause-right : goal.returns-then-len-clause-right
returns-then-len-clause-right g c known trail =
    let settled : AreSettled c.args.window.now.count c.forget.new.self = λ n high low. absurd (omega (arith, c.forget.ensures.count)) in
    c.keep.ensures.right (c.forget.ensures.known known) (right_further c.args.window.now c.forget.new.self c.args.self.now c.forget.ensures.same settled trail)

pub returns-else-window-self-clause-right : goal.returns-else-window-self-clause-right
returns-else-window-self-clause-right g c known trail =
    let settled : AreSettled c.args.window.now.count c.forget.new.self = λ n high low. absurd (omega (arith, c.forget.ensures.count)) in
    right_further c.args.window.now c.forget.new.self c.args.self.now c.forget.ensures.same settled trail
