-- What a client is still to be sent.
use Rattle.std.specs.Prelude.{◌≡◌, ◌≤◌, ℕ, Bool, true, false, List, [], ◌++◌, drop, length, filter}
use Rattle.std.specs.List.{flat_map}
use Rattle.oct_delta.specs.Text.{Bytes, op_bytes}
use Rattle.oct_join.specs.Clock.{Clock}
use Rattle.oct_ops.specs.Body.{Operation}
use Rattle.oct_ops.specs.Operations.{Operations, IsRising, listed}
use Rattle.oct_store.specs.Summary.{not_covered}
use Rattle.oct_sync.specs.Frames.{delta_frames, end_frame, pack_room}
use Rattle.oct_sync.specs.Packs.{pack_frame}

-- the operations of a set that a clock does not cover, behind the first so many of the set
abbrev pub lacking : Operations → Clock → ℕ → List Operation
lacking held t at = filter (not_covered t) (drop at (listed held))

-- the frames of these and an end, or nothing behind the end
abbrev pub left : Operations → Clock → ℕ → Bool → Bytes
left held t at false = delta_frames (lacking held t at) ++ end_frame
left held t at true = []

-- The next frame has these operations, whose texts have so many bytes, and behind it stand those behind the first so many of the set. It has none only where none are left.
pub record IsNext (held : Operations) (t : Clock) (at : ℕ) (ops : List Operation) (size end : ℕ) : Type 0 where
  pub rising : IsRising ops
  pub sized : size ≡ length (flat_map op_bytes ops)
  pub fits : size ≤ pack_room
  pub frames : delta_frames (lacking held t at) ≡ pack_frame ops ++ delta_frames (lacking held t end)
  pub none : ops ≡ [] → lacking held t at ≡ []
