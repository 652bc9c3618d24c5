use Rattle.std.proofs.Common.{◌++◌, ℕ, List, None, Some, Option, ap, ◌∙◌}
use Rattle.std.specs.Io.KnownBytes.{Appends, Keeps}
use Rattle.std.proofs.KnownBytes.{Keeps-refl}
use Rattle.written.proofs.write_some.Goals as goal

-- what is appended to what was kept
kept_appends : (a b c : Option (List ℕ)) (bs : List ℕ) → Keeps a b → Appends b c bs → Appends a c bs
kept_appends None b c bs kept more = tt
kept_appends (Some xs) None c bs kept more = absurd kept
kept_appends (Some xs) (Some ys) None bs kept more = more
kept_appends (Some xs) (Some ys) (Some zs) bs kept more = more ∙ ap (λ s. s ++ bs) kept

pub loop-init : goal.loop-init
loop-init g c = Keeps-refl _

pub returns-in-Ok-clause-ok : goal.returns-in-Ok-clause-ok
returns-in-Ok-clause-ok g c = kept_appends _ _ _ _ c.loop.invariant c.in-Ok.ensures.bytes
