-- Frames, and how operations are packed into them.
use Rattle.std.specs.Prelude.{ℕ, zero, suc, ◌+◌, ◌-◌, Bool, true, false, ◌&&◌, nat_le, min, List, [], ◌∷◌, ◌++◌, length, take, drop, slice_index}
use mathlib.Core.Bool.{beq}
use Rattle.std.specs.Int.{w32, from_be_bytes}
use Rattle.std.specs.List.{flat_map, prefix_len}
use Rattle.oct_ops.specs.Body.{Operation}
use Rattle.oct_ops.specs.Limits.{keeps_old_limits}
use Rattle.oct_delta.specs.Delta.{encoded}
use Rattle.oct_delta.specs.Text.{Bytes, u32, op_bytes}

pub record Frame : Type 0 where
  pub tag : ℕ
  pub payload : Bytes

-- the greatest length of a frame, which counts its tag and its payload
abbrev pub max_frame : ℕ
max_frame = 1048576

abbrev pub clock_tag : ℕ
clock_tag = 1

abbrev pub delta_tag : ℕ
delta_tag = 2

abbrev pub end_tag : ℕ
end_tag = 3

abbrev pub frame_bytes : ℕ → Bytes → Bytes
frame_bytes tag payload = u32 (1 + length payload) ++ tag ∷ payload

abbrev pub end_frame : Bytes
end_frame = frame_bytes end_tag []

-- ---- packs of operations

-- how many operations, from the first on, fit into so many bytes
abbrev pub fitting : ℕ → List Operation → ℕ
fitting room [] = 0
fitting room (o ∷ ops) = elim (nat_le (length (op_bytes o)) room) [ true ↦ suc (fitting (room - length (op_bytes o)) ops) | false ↦ 0 ]

-- how many operations, from the first on, keep the old limits if it does, or exceed them if it does
abbrev pub alike : List Operation → ℕ
alike [] = 0
alike (o ∷ ops) = suc (prefix_len (λ p. beq (keeps_old_limits p) (keeps_old_limits o)) ops)

-- how many bytes of operations a delta may have in one frame
abbrev pub pack_room : ℕ
pack_room = max_frame - 1 - length (encoded [])

-- as many of the operations as one frame may hold
abbrev pub pack_length : List Operation → ℕ
pack_length ops = min (fitting pack_room ops) (alike ops)

abbrev pub packs_within : ℕ → List Operation → List (List Operation)
packs_within zero ops = []
packs_within (suc fuel) [] = []
packs_within (suc fuel) (o ∷ ops) =
    let n = pack_length (o ∷ ops) in
    take n (o ∷ ops) ∷ packs_within fuel (drop n (o ∷ ops))

-- the operations in packs, of which each has as many of those that are left as one frame may hold
abbrev pub packs : List Operation → List (List Operation)
packs ops = packs_within (length ops) ops

abbrev pub delta_frames : List Operation → Bytes
delta_frames ops = flat_map (λ pack. frame_bytes delta_tag (encoded pack)) (packs ops)

-- ---- frames in a string of bytes

abbrev pub length_field : Bytes → ℕ
length_field bytes = from_be_bytes w32 (take 4 bytes)

abbrev pub tag_field : Bytes → ℕ
tag_field bytes = slice_index bytes 4

abbrev pub is_length : ℕ → Bool
is_length n = nat_le 1 n && nat_le n max_frame

-- whether the bytes begin with a whole frame
abbrev pub begins_whole : Bytes → Bool
begins_whole bytes = nat_le 5 (length bytes) && is_length (length_field bytes) && nat_le (4 + length_field bytes) (length bytes)

abbrev pub first_frame : Bytes → Frame
first_frame bytes = record { tag = tag_field bytes; payload = take (length_field bytes - 1) (drop 5 bytes) }

-- whole frames, and a rest that begins with none
pub record Split : Type 0 where
  pub frames : List Frame
  pub rest : Bytes

abbrev pub split_within : ℕ → Bytes → Split
split_within zero bytes = record { frames = []; rest = bytes }
split_within (suc fuel) bytes = elim (begins_whole bytes) [
  | true ↦ let later = split_within fuel (drop (4 + length_field bytes) bytes) in record { frames = first_frame bytes ∷ later.frames; rest = later.rest }
  | false ↦ record { frames = []; rest = bytes }
]

abbrev pub split_frames : Bytes → Split
split_frames bytes = split_within (length bytes) bytes
