-- Which bodies keep a limit on the places of a game.
use Rattle.std.specs.Prelude.{ℕ, ◌+◌, Bool, true, ◌&&◌, nat_le, length}
use Rattle.oct_code.specs.declared.limits.TheConstants.{OLD_LIMIT}
use Rattle.oct_ops.specs.Body.{Body, Operation}
use Rattle.oct_ops.specs.Body as kind

-- a block ends at or below the limit, and a claim's start and period are at most the limit
abbrev pub keeps_limit : ℕ → Body → Bool
keeps_limit limit (kind.Block b) = nat_le (b.start + length b.values) limit
keeps_limit limit (kind.Period p) = nat_le p.start limit && nat_le p.period limit
keeps_limit limit (kind.Note n) = true
keeps_limit limit (kind.Removal r) = true

-- the operation could be spelled in the first edition of the formats
abbrev pub keeps_old_limits : Operation → Bool
keeps_old_limits o = keeps_limit OLD_LIMIT o.body
