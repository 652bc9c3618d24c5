-- `Leader` as its fields hold it.
use Rattle.std.specs.Prelude.{◌≡◌}
use Rattle.std.specs.Vec.{vec_len}
use Rattle.oct_mex.specs.Following.{Leading}
use Rattle.oct_mex.specs.NimValues.{nim_values}
use Rattle.oct_mex.specs.declared.following.Leader.TheInside.{Inside}

abbrev pub leading_of : {A : Type 0} → Inside A → Leading
leading_of l = record { code = l.code; len = vec_len l.values }

abbrev pub IsLeading : {A : Type 0} → Inside A → Type 0
IsLeading l = l.values.items ≡ nim_values l.code (vec_len l.values)
