-- A frame at the front of a string of bytes is its first frame.
use Rattle.std.proofs.Common.{◌≡◌, ℕ, suc, ◌+◌, ◌-◌, ◌≤◌, ◌++◌, length, take, drop, leb, ap, ◌∙◌, arith}
use Rattle.std.proofs.Math.Seq.{take-append_seam, drop-append_seam}
use Rattle.std.proofs.lemmas.Bool.{and_from, le-leb}
use Rattle.std.proofs.lemmas.List.{length-append}
use Rattle.std.proofs.lemmas.Nat.{from_be_bytes-to_be_bytes_4}
use Rattle.oct_delta.specs.Text.{Bytes}
use Rattle.oct_sync.specs.Frames.{Frame, max_frame, frame_bytes, length_field, first_frame, split_within, split_frames}
use Rattle.oct_sync.proofs.Splitting.{IsWhole, parts_whole, step, with_first, split_is, same_split}

abbrev pub framed : ℕ → Bytes → Frame
framed tag payload = record { tag = tag; payload = payload }

module _ (tag : ℕ) (payload y : Bytes) (short : 1 + length payload ≤ max_frame) where
  abbrev front : Bytes
  front = frame_bytes tag payload ++ y

  field : length_field front ≡ 1 + length payload
  field = from_be_bytes-to_be_bytes_4 (1 + length payload) (omega (arith, short))

  size : length front ≡ suc (suc (suc (suc (suc (length payload + length y)))))
  size = ap (λ n. suc (suc (suc (suc (suc n))))) (length-append payload y)

  whole : IsWhole front
  whole =
      let is = field in
      let count = size in
      record {
        long = omega (arith, count);
        is = and_from (leb 1 (length_field front)) (leb (length_field front) max_frame) (le-leb 1 (length_field front) (omega (arith, is))) (le-leb (length_field front) max_frame (omega (arith, is, short)));
        some = omega (arith, is);
        fits = omega (arith, is, count);
      }

  first : first_frame front ≡ framed tag payload
  first =
      let is = field in
      let count : length_field front - 1 ≡ length payload = omega (arith, is) in
      λ i. record { tag = tag; payload = (ap (λ n. take n (payload ++ y)) count ∙ take-append_seam payload y) i }

  after : drop (4 + length_field front) front ≡ y
  after =
      let is = field in
      let count : 4 + length_field front ≡ suc (suc (suc (suc (suc (length payload))))) = omega (arith, is) in
      ap (λ n. drop n front) count ∙ drop-append_seam payload y

  pub split_frame : split_frames front ≡ with_first (framed tag payload) (split_frames y)
  split_frame =
      let count = size in
      split_is front ∙ ap (step (length front) front) (parts_whole front whole)
      ∙ (λ i. with_first (first i) (split_within (length front) (after i)))
      ∙ ap (with_first (framed tag payload)) (same_split (length front) (length y) y (omega (arith, count)) (omega arith))
