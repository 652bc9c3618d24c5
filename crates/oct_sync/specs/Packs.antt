-- Operations that one frame holds, as they are gathered.
use Rattle.std.specs.Prelude.{◌≡◌, ◌≤◌, ◌-◌, Bool, true, ◌&&◌, nat_le, List, [], ◌∷◌, length}
use Rattle.std.specs.List.{flat_map, list_all}
use mathlib.Core.Bool.{beq}
use Rattle.oct_delta.specs.Delta.{encoded}
use Rattle.oct_delta.specs.Text.{Bytes, op_bytes}
use Rattle.oct_ops.specs.Body.{Operation}
use Rattle.oct_ops.specs.Limits.{keeps_old_limits}
use Rattle.oct_sync.specs.Frames.{frame_bytes, delta_tag, pack_room}

-- a frame of these operations, or none
abbrev pub pack_frame : List Operation → Bytes
pack_frame [] = []
pack_frame (o ∷ ops) = frame_bytes delta_tag (encoded (o ∷ ops))

-- the operation fits into a frame after these, and keeps the old limits exactly where they do
abbrev pub may_follow : List Operation → Operation → Bool
may_follow [] o = true
may_follow (p ∷ pack) o = beq (keeps_old_limits o) (keeps_old_limits p) && nat_le (length (op_bytes o)) (pack_room - length (flat_map op_bytes (p ∷ pack)))

-- all keep the old limits, or all exceed them
abbrev pub AreAlike : List Operation → Type 0
AreAlike [] = Unit {0}
AreAlike (o ∷ ops) = list_all (λ p. beq (keeps_old_limits p) (keeps_old_limits o)) ops ≡ true

-- one frame can hold them
pub record IsPack (pack : List Operation) : Type 0 where
  pub fits : length (flat_map op_bytes pack) ≤ pack_room
  pub alike : AreAlike pack
