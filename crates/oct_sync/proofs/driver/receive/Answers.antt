use Rattle.oct_sync.proofs.driver.receive.Goals as goal

pub returns-in-Ok-eq0-clause-outside : goal.returns-in-Ok-eq0-clause-outside
returns-in-Ok-eq0-clause-outside g c = tt
