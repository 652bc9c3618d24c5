use Rattle.std.proofs.Common.{IfSome, ap, subst, ◌∙◌}
use Rattle.oct_mex.specs.Periods.{IsPeriodicFrom}
use Rattle.oct_verify.specs.Filing.{blocks_in}
use Rattle.oct_period.specs.Found.{found_period, IsFoundPeriod}
use Rattle.oct_period.specs.GameContent.{GameContent}
use Rattle.oct_replica.proofs.Beside.{found_is, none_is}
use Rattle.oct_replica.proofs.replica.Replica.find_period.Goals as goal

pub returns-in-Some-clause-value : goal.returns-in-Some-clause-value
returns-in-Some-clause-value g c =
    c.find_period.ensures.value
    ∙ ap (λ (h : GameContent). found_period h.code (blocks_in h.blocks)) (found_is c.args.self.now.ops c.args.code c.in-Some.game.now c.in-Some.ensures)

pub returns-in-Some-clause-found : goal.returns-in-Some-clause-found
returns-in-Some-clause-found g c =
    subst (λ (h : GameContent). IsFoundPeriod h.code (blocks_in h.blocks) c.find_period.result)
    (found_is c.args.self.now.ops c.args.code c.in-Some.game.now c.in-Some.ensures) c.find_period.ensures.found

pub returns-in-Some-clause-holds : goal.returns-in-Some-clause-holds
returns-in-Some-clause-holds g c =
    subst (λ (h : GameContent). IfSome c.find_period.result (λ found. IsPeriodicFrom h.code found.start found.period))
    (found_is c.args.self.now.ops c.args.code c.in-Some.game.now c.in-Some.ensures) c.find_period.ensures.holds

pub returns-in-None-clause-value : goal.returns-in-None-clause-value
returns-in-None-clause-value g c =
    c.find_period-in-None.ensures.value
    ∙ ap (λ (h : GameContent). found_period h.code (blocks_in h.blocks)) (c.new-game.ensures ∙ none_is c.args.self.now.ops c.args.code c.in-None.ensures)

pub returns-in-None-clause-found : goal.returns-in-None-clause-found
returns-in-None-clause-found g c =
    subst (λ (h : GameContent). IsFoundPeriod h.code (blocks_in h.blocks) c.find_period-in-None.result)
    (c.new-game.ensures ∙ none_is c.args.self.now.ops c.args.code c.in-None.ensures) c.find_period-in-None.ensures.found

pub returns-in-None-clause-holds : goal.returns-in-None-clause-holds
returns-in-None-clause-holds g c =
    subst (λ (h : GameContent). IfSome c.find_period-in-None.result (λ found. IsPeriodicFrom h.code found.start found.period))
    (c.new-game.ensures ∙ none_is c.args.self.now.ops c.args.code c.in-None.ensures) c.find_period-in-None.ensures.holds
