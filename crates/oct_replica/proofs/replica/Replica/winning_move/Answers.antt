use Rattle.std.proofs.Common.{IfOk, ap, subst, ◌∙◌}
use Rattle.oct_verify.specs.Filing.{blocks_in}
use Rattle.oct_period.specs.Claims.{claims_in}
use Rattle.oct_period.specs.GameContent.{GameContent}
use Rattle.oct_period.specs.Moving.{winning_move, IsWinningAnswer}
use Rattle.oct_replica.proofs.Beside.{found_is, none_is}
use Rattle.oct_replica.proofs.replica.Replica.winning_move.Goals as goal

pub returns-in-Some-clause-value : goal.returns-in-Some-clause-value
returns-in-Some-clause-value g c =
    c.winning_move.ensures.value
    ∙ ap (λ (h : GameContent). winning_move h.code (blocks_in h.blocks) (claims_in h.claims) c.args.heaps.now) (found_is c.args.self.now.ops c.args.code c.in-Some.game.now c.in-Some.ensures)

pub returns-in-Some-clause-play : goal.returns-in-Some-clause-play
returns-in-Some-clause-play g c =
    subst (λ (h : GameContent). IfOk c.winning_move.result (IsWinningAnswer h.code c.args.heaps.now))
    (found_is c.args.self.now.ops c.args.code c.in-Some.game.now c.in-Some.ensures) c.winning_move.ensures.play

pub returns-in-None-clause-value : goal.returns-in-None-clause-value
returns-in-None-clause-value g c =
    c.winning_move-in-None.ensures.value
    ∙ ap (λ (h : GameContent). winning_move h.code (blocks_in h.blocks) (claims_in h.claims) c.args.heaps.now) (c.new-game.ensures ∙ none_is c.args.self.now.ops c.args.code c.in-None.ensures)

pub returns-in-None-clause-play : goal.returns-in-None-clause-play
returns-in-None-clause-play g c =
    subst (λ (h : GameContent). IfOk c.winning_move-in-None.result (IsWinningAnswer h.code c.args.heaps.now))
    (c.new-game.ensures ∙ none_is c.args.self.now.ops c.args.code c.in-None.ensures) c.winning_move-in-None.ensures.play
