use Rattle.std.proofs.Common.{◌≡◌, rules, subst}
use Rattle.std.specs.List.{All}
use Rattle.oct_mex.specs.Totals.{IsTable}
use Rattle.oct_mex.specs.declared.mask.Mask.{Mask}
use Rattle.oct_mex.proofs.totals.follow_mask.Goals as goal

same_mask : (m k : Mask) → m.bits ≡ k.bits → m.parity ≡ k.parity → m.turn ≡ k.turn → m ≡ k
same_mask m k p q r = λ i. record { bits = p i; parity = q i; turn = r i }

pub returns-else-old-new-3-clause-kept : goal.returns-else-old-new-3-clause-kept
returns-else-old-new-3-clause-kept g c = λ all kept.
    let parity : c.args.old.parity ≡ c.args.new.parity = search rules in
    subst (λ (m : Mask). All (IsTable m all) c.args.tables.now) (same_mask c.args.old c.args.new c.if-old-new.false parity c.if-old-new-3.false) kept
