use Rattle.std.proofs.Common.{◌^◌, ◌<◌, ◌≤◌}
use Rattle.std.specs.List.{AllWithin}
use Rattle.oct_saved.proofs.lists.used_for.Given as goal

abbrev pub invariant-loop-value : goal.invariant-loop-value
invariant-loop-value l = (l.greatest < 2 ^ 16) × AllWithin (λ v. v ≤ l.greatest) l.values 0 l.value-index
