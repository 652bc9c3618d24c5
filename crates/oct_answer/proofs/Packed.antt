-- Frames of operations that are left, one after another.
use Rattle.std.proofs.Common.{◌≡◌, ℕ, zero, suc, ◌-◌, ◌≤◌, List, [], ◌∷◌, ◌++◌, length, take, drop, refl, ap, arith}
use Rattle.std.proofs.lemmas.List.{length-drop}
use Rattle.std.proofs.lemmas.List.Elements.{All-head, All-drop}
use Rattle.std.specs.List.{All}
use Rattle.oct_delta.specs.Delta.{encoded}
use Rattle.oct_ops.specs.Body.{Operation}
use Rattle.oct_sync.specs.Frames.{delta_frames, delta_tag, frame_bytes, pack_length}
use Rattle.oct_sync.proofs.Gathering.{frames_of}
use Rattle.oct_sync.proofs.Packing.{FitsAlone, some_packed}

-- more steps than there are operations make no more frames
frames_twice : (f g : ℕ) (ops : List Operation) → All FitsAlone ops → length ops ≤ f → length ops ≤ g → frames_of f ops ≡ frames_of g ops
unfolding frames_of
frames_twice zero zero ops fit few more = refl
frames_twice zero (suc g) [] fit few more = refl
frames_twice zero (suc g) (o ∷ ops) fit few more = absurd (omega (arith, few))
frames_twice (suc f) zero [] fit few more = refl
frames_twice (suc f) zero (o ∷ ops) fit few more = absurd (omega (arith, more))
frames_twice (suc f) (suc g) [] fit few more = refl
frames_twice (suc f) (suc g) (o ∷ ops) fit few more =
    let n : ℕ = pack_length (o ∷ ops) in
    let some : 1 ≤ pack_length (o ∷ ops) = some_packed o ops (All-head FitsAlone o ops fit) in
    let rest : length (drop (pack_length (o ∷ ops)) (o ∷ ops)) ≡ length (o ∷ ops) - pack_length (o ∷ ops) = length-drop (pack_length (o ∷ ops)) (o ∷ ops) in
    ap (λ bytes. frame_bytes delta_tag (encoded (take n (o ∷ ops))) ++ bytes)
    (frames_twice f g (drop n (o ∷ ops)) (All-drop FitsAlone n (o ∷ ops) fit) (omega (arith, rest, some, few)) (omega (arith, rest, some, more)))

pub frames_are : (f : ℕ) (ops : List Operation) → All FitsAlone ops → length ops ≤ f → frames_of f ops ≡ delta_frames ops
unfolding frames_of
frames_are f ops fit few = frames_twice f (length ops) ops fit few (omega arith)
