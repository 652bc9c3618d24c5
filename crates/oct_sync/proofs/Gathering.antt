-- Operations that are gathered, and sent whenever one more may not follow.
use Rattle.std.proofs.Common.{◌≡◌, ℕ, zero, suc, ◌+◌, ◌-◌, ◌≤◌, Bool, true, false, ◌&&◌, List, [], ◌∷◌, ◌++◌, length, take, drop, leb, cond, refl, sym, ap, ◌∙◌, subst, append_assoc, arith}
use Rattle.std.proofs.Math.Seq.{take-append_seam, drop-append_seam}
use Rattle.std.proofs.lemmas.Bool.{le-leb, leb-true, and_from}
use Rattle.std.proofs.lemmas.List.{append-nil, length-append}
use Rattle.std.proofs.lemmas.List.Concat.{flat_map-append}
use Rattle.std.proofs.lemmas.List.Folds.{list_all-append}
use Rattle.std.specs.Ordering.{is_lt}
use Rattle.std.specs.List.{flat_map, list_all, prefix_len}
use Rattle.std.specs.Cmp.{first_so, second_so}
use mathlib.Core.Bool.{beq}
use Rattle.oct_delta.specs.Delta.{encoded}
use Rattle.oct_delta.specs.Text.{Bytes, op_bytes}
use Rattle.oct_ops.specs.Growth.{Extends}
use Rattle.oct_ops.proofs.Growing.{extends_by, extends_equal, extends_trans}
use Rattle.oct_ops.specs.Body.{Operation}
use Rattle.oct_ops.specs.Limits.{keeps_old_limits}
use Rattle.oct_ops.specs.Operations.{IsRising}
use Rattle.oct_ops.specs.Order.{op_cmp}
use Rattle.oct_ops.specs.Sets.{rises}
use Rattle.oct_sync.specs.Frames.{fitting, alike, pack_room, pack_length, packs_within, frame_bytes, delta_tag, delta_frames}
use Rattle.oct_sync.specs.Packs.{pack_frame, may_follow, AreAlike, IsPack}

abbrev pub size_of : List Operation → ℕ
size_of ops = length (flat_map op_bytes ops)

-- ---- how many of the operations one frame holds

pub size_of-cons : (o : Operation) (ops : List Operation) → size_of (o ∷ ops) ≡ length (op_bytes o) + size_of ops
size_of-cons o ops = length-append (op_bytes o) (flat_map op_bytes ops)

fitting-append : (room : ℕ) (pack rest : List Operation) → size_of pack ≤ room → fitting room (pack ++ rest) ≡ length pack + fitting (room - size_of pack) rest
fitting-append room [] rest h = let same : room - 0 ≡ room = omega arith in sym (ap (λ r. fitting r rest) same)
    ∙ (let zero_more : 0 + fitting (room - 0) rest ≡ fitting (room - 0) rest = omega arith in sym zero_more)
fitting-append room (o ∷ pack) rest h =
    let parts = size_of-cons o pack in
    let first : length (op_bytes o) ≤ room = omega (arith, parts, h) in
    let left : room - length (op_bytes o) - size_of pack ≡ room - size_of (o ∷ pack) = omega (arith, parts) in
    let count : suc (length pack + fitting (room - length (op_bytes o) - size_of pack) rest) ≡ length (o ∷ pack) + fitting (room - length (op_bytes o) - size_of pack) rest = omega arith in
    ap (λ b. elim b [ true ↦ suc (fitting (room - length (op_bytes o)) (pack ++ rest)) | false ↦ 0 ]) (le-leb (length (op_bytes o)) room first)
    ∙ ap suc (fitting-append (room - length (op_bytes o)) pack rest (omega (arith, parts, h)))
    ∙ count
    ∙ ap (λ r. length (o ∷ pack) + fitting r rest) left

prefix-append : (test : Operation → Bool) (pack rest : List Operation) → list_all test pack ≡ true → prefix_len test (pack ++ rest) ≡ length pack + prefix_len test rest
prefix-append test [] rest h = omega arith
prefix-append test (o ∷ pack) rest h =
    let more = prefix-append test pack rest (second_so (test o) (list_all test pack) h) in
    let one : test o ≡ true = first_so (test o) (list_all test pack) h in
    let count : 1 + (length pack + prefix_len test rest) ≡ length (o ∷ pack) + prefix_len test rest = omega arith in
    ap (λ b. cond b (1 + prefix_len test (pack ++ rest)) 0) one ∙ ap (λ n. 1 + n) more ∙ count

abbrev as_first : Operation → Operation → Bool
as_first p q = beq (keeps_old_limits q) (keeps_old_limits p)

alike-append : (p : Operation) (pack rest : List Operation) → AreAlike (p ∷ pack) → alike ((p ∷ pack) ++ rest) ≡ length (p ∷ pack) + prefix_len (as_first p) rest
alike-append p pack rest h =
    let more = prefix-append (as_first p) pack rest h in
    omega (arith, more)

-- what follows begins with no operation of the frame
ends_pack : (p : Operation) (pack rest : List Operation) → IsPack (p ∷ pack) → (fitting (pack_room - size_of (p ∷ pack)) rest ≡ 0) → pack_length ((p ∷ pack) ++ rest) ≡ length (p ∷ pack)
ends_pack p pack rest is none =
    let fit = fitting-append pack_room (p ∷ pack) rest is.fits in
    let same = alike-append p pack rest is.alike in
    omega (arith, fit, same, none)

ends_alike : (p : Operation) (pack rest : List Operation) → IsPack (p ∷ pack) → (prefix_len (as_first p) rest ≡ 0) → pack_length ((p ∷ pack) ++ rest) ≡ length (p ∷ pack)
ends_alike p pack rest is none =
    let fit = fitting-append pack_room (p ∷ pack) rest is.fits in
    let same = alike-append p pack rest is.alike in
    omega (arith, fit, same, none)

may_not : (p : Operation) (pack : List Operation) (o : Operation) (rest : List Operation) → IsPack (p ∷ pack) → may_follow (p ∷ pack) o ≡ false → pack_length ((p ∷ pack) ++ o ∷ rest) ≡ length (p ∷ pack)
may_not p pack o rest is h =
    elim (as_first p o) as (λ b. as_first p o ≡ b → (b && leb (length (op_bytes o)) (pack_room - size_of (p ∷ pack))) ≡ false → pack_length ((p ∷ pack) ++ o ∷ rest) ≡ length (p ∷ pack)) [
      | false ↦ λ differs _. ends_alike p pack (o ∷ rest) is (ap (λ b. cond b (1 + prefix_len (as_first p) rest) 0) differs)
      | true ↦ λ _ long. ends_pack p pack (o ∷ rest) is (ap (λ b. elim b [ true ↦ suc (fitting (pack_room - size_of (p ∷ pack) - length (op_bytes o)) rest) | false ↦ 0 ]) long)
    ] refl h

-- ---- packs of operations

unfoldable pub frames_of : ℕ → List Operation → Bytes
frames_of fuel ops = flat_map (λ pack. frame_bytes delta_tag (encoded pack)) (packs_within fuel ops)

-- where the first pack has these operations
first_pack : (fuel : ℕ) (p : Operation) (pack rest : List Operation) → pack_length ((p ∷ pack) ++ rest) ≡ length (p ∷ pack) → frames_of (suc fuel) ((p ∷ pack) ++ rest) ≡ pack_frame (p ∷ pack) ++ frames_of fuel rest
unfolding frames_of
first_pack fuel p pack rest e =
    (λ i. frame_bytes delta_tag (encoded (take (e i) ((p ∷ pack) ++ rest))) ++ frames_of fuel (drop (e i) ((p ∷ pack) ++ rest)))
    ∙ (λ i. frame_bytes delta_tag (encoded (take-append_seam (p ∷ pack) rest i)) ++ frames_of fuel (drop-append_seam (p ∷ pack) rest i))

no_pack : (fuel : ℕ) → frames_of fuel [] ≡ []
unfolding frames_of
no_pack zero = refl
no_pack (suc fuel) = refl

-- ---- rising lists in parts

pub rises_first : (xs ys : List Operation) → IsRising (xs ++ ys) → IsRising xs
rises_first [] ys h = refl
rises_first (x ∷ xs) ys h =
    let below : list_all (λ y. is_lt (op_cmp x y)) (xs ++ ys) ≡ true = first_so _ (rises op_cmp (xs ++ ys)) h in
    and_from (list_all (λ y. is_lt (op_cmp x y)) xs) (rises op_cmp xs)
    (first_so _ (list_all (λ y. is_lt (op_cmp x y)) ys) (sym (list_all-append (λ y. is_lt (op_cmp x y)) xs ys) ∙ below))
    (rises_first xs ys (second_so (list_all (λ y. is_lt (op_cmp x y)) (xs ++ ys)) (rises op_cmp (xs ++ ys)) h))

pub rises_second : (xs ys : List Operation) → IsRising (xs ++ ys) → IsRising ys
rises_second [] ys h = h
rises_second (x ∷ xs) ys h = rises_second xs ys (second_so (list_all (λ y. is_lt (op_cmp x y)) (xs ++ ys)) (rises op_cmp (xs ++ ys)) h)

-- ---- the loop

-- these operations are gathered, those are still to come, and what is there now and their frames are what there was and the frames of all
pub record Gathering (ops pack rest : List Operation) (old now : Bytes) : Type 0 where
  pub fuel : ℕ
  pub enough : length (pack ++ rest) ≤ fuel
  pub rising : IsRising (pack ++ rest)
  pub is : IsPack pack
  pub written : now ++ frames_of fuel (pack ++ rest) ≡ old ++ delta_frames ops
  pub kept : Extends old now

pub begin : (ops pack rest : List Operation) (old : Bytes) → pack ≡ [] → rest ≡ ops → IsRising ops → Gathering ops pack rest old old
unfolding frames_of
begin ops pack rest old none all rising =
    let both : pack ++ rest ≡ ops = ap (λ xs. xs ++ rest) none ∙ all in
    record {
      fuel = length ops;
      enough = let count : length (pack ++ rest) ≡ length ops = ap length both in omega (arith, count);
      rising = subst IsRising (sym both) rising;
      is = subst IsPack (sym none) (record { fits = omega arith; alike = tt });
      written = ap (λ xs. old ++ frames_of (length ops) xs) both;
      kept = extends_equal old old refl;
    }

-- one more operation is gathered
pub gathered : (ops pack rest more : List Operation) (o : Operation) (old now : Bytes) → more ≡ o ∷ rest → may_follow pack o ≡ true → length (op_bytes o) ≤ pack_room → Gathering ops pack more old now → Gathering ops (pack ++ o ∷ []) rest old now
gathered ops pack rest more o old now next may short g =
    let same : pack ++ more ≡ (pack ++ o ∷ []) ++ rest = ap (λ xs. pack ++ xs) next ∙ sym (append_assoc pack (o ∷ []) rest) in
    record {
      fuel = g.fuel;
      enough = subst (λ xs. length xs ≤ g.fuel) same g.enough;
      rising = subst IsRising same g.rising;
      is = grows pack o g.is may short;
      written = ap (λ xs. now ++ frames_of g.fuel xs) (sym same) ∙ g.written;
      kept = g.kept;
    }
  where
    sized : (pack : List Operation) (o : Operation) → size_of (pack ++ o ∷ []) ≡ size_of pack + length (op_bytes o)
    sized pack o = ap length (flat_map-append op_bytes pack (o ∷ []) ∙ ap (λ z. flat_map op_bytes pack ++ z) (append-nil (op_bytes o))) ∙ length-append (flat_map op_bytes pack) (op_bytes o)

    grows : (pack : List Operation) (o : Operation) → IsPack pack → may_follow pack o ≡ true → length (op_bytes o) ≤ pack_room → IsPack (pack ++ o ∷ [])
    grows [] o is may short = record { fits = let size = sized [] o in omega (arith, size, short); alike = refl }
    grows (p ∷ pack) o is may short =
        let room : length (op_bytes o) ≤ pack_room - size_of (p ∷ pack) = leb-true (length (op_bytes o)) (pack_room - size_of (p ∷ pack)) (second_so (as_first p o) _ may) in
        let size = sized (p ∷ pack) o in
        let fits = is.fits in
        record {
          fits = omega (arith, size, room, fits);
          alike = list_all-append (as_first p) pack (o ∷ []) ∙ and_from (list_all (as_first p) pack) (list_all (as_first p) (o ∷ [])) is.alike (and_from (as_first p o) true (first_so (as_first p o) _ may) refl);
        }

-- what is gathered is sent, since the next operation may not follow
pub flushed : (ops pack rest more empty : List Operation) (o : Operation) (old now new : Bytes) → more ≡ o ∷ rest → may_follow pack o ≡ false → empty ≡ [] → new ≡ now ++ pack_frame pack → Gathering ops pack more old now → Gathering ops empty more old new
flushed ops [] rest more empty o old now new next may none sent g = cc
flushed ops (p ∷ pack) rest more empty o old now new next may none sent g = flush g.fuel g.enough g.written
  where
    flush : (fuel : ℕ) → length ((p ∷ pack) ++ more) ≤ fuel → now ++ frames_of fuel ((p ∷ pack) ++ more) ≡ old ++ delta_frames ops → Gathering ops empty more old new
    flush zero few written = absurd (omega (arith, few))
    flush (suc fuel) few written =
        let length_is : pack_length ((p ∷ pack) ++ more) ≡ length (p ∷ pack) = ap (λ xs. pack_length ((p ∷ pack) ++ xs)) next ∙ may_not p pack o rest g.is may in
        let count : length ((p ∷ pack) ++ more) ≡ length (p ∷ pack) + length more = length-append (p ∷ pack) more in
        let both : empty ++ more ≡ more = ap (λ xs. xs ++ more) none in
        record {
          fuel = fuel;
          enough = subst (λ xs. length xs ≤ fuel) (sym both) (omega (arith, count, few));
          rising = subst IsRising (sym both) (rises_second (p ∷ pack) more g.rising);
          is = subst IsPack (sym none) (record { fits = omega arith; alike = tt });
          written = (λ i. sent i ++ frames_of fuel (both i)) ∙ append_assoc now (pack_frame (p ∷ pack)) (frames_of fuel more)
              ∙ ap (λ z. now ++ z) (sym (first_pack fuel p pack more length_is)) ∙ written;
          kept = extends_trans old now new g.kept (extends_by now new (pack_frame (p ∷ pack)) sent);
        }

-- the last operations are sent
pub all_sent : (ops pack rest : List Operation) (old now new : Bytes) → rest ≡ [] → new ≡ now ++ pack_frame pack → Gathering ops pack rest old now → new ≡ old ++ delta_frames ops
all_sent ops pack rest old now new none sent g = sent ∙ end pack g.fuel g.is g.enough (ap (λ xs. now ++ frames_of g.fuel (pack ++ xs)) (sym none) ∙ g.written)
  where
    end : (pack : List Operation) (fuel : ℕ) → IsPack pack → length (pack ++ rest) ≤ fuel → now ++ frames_of fuel (pack ++ []) ≡ old ++ delta_frames ops → now ++ pack_frame pack ≡ old ++ delta_frames ops
    end [] fuel is few written = ap (λ z. now ++ z) (sym (no_pack fuel)) ∙ written
    end (p ∷ pack) zero is few written = absurd (omega (arith, few))
    end (p ∷ pack) (suc fuel) is few written =
        let length_is : pack_length ((p ∷ pack) ++ []) ≡ length (p ∷ pack) = ends_pack p pack [] is refl in
        ap (λ z. now ++ z) (sym (append-nil (pack_frame (p ∷ pack))) ∙ ap (λ z. pack_frame (p ∷ pack) ++ z) (sym (no_pack fuel)) ∙ sym (first_pack fuel p pack [] length_is)) ∙ written

pub pack_rises : (ops pack rest : List Operation) (old now : Bytes) → Gathering ops pack rest old now → IsRising pack
pack_rises ops pack rest old now g = rises_first pack rest g.rising

-- what is gathered, where this operation may follow
pub record Ready (ops pack more : List Operation) (o : Operation) (old now : Bytes) (size : ℕ) : Type 0 where
  pub gathering : Gathering ops pack more old now
  pub may : may_follow pack o ≡ true
  pub sized : size ≡ size_of pack

pub ready_after : (ops pack rest more pack' : List Operation) (o : Operation) (old now now' : Bytes) (size' : ℕ) → more ≡ o ∷ rest → may_follow pack o ≡ false → pack' ≡ [] → now' ≡ now ++ pack_frame pack → size' ≡ 0
    → Gathering ops pack more old now → Ready ops pack' more o old now' size'
ready_after ops pack rest more pack' o old now now' size' next may none sent zeroed g = record {
  gathering = flushed ops pack rest more pack' o old now now' next may none sent g;
  may = ap (λ xs. may_follow xs o) none;
  sized = zeroed ∙ sym (ap size_of none);
}

pub ready_still : (ops pack more pack' : List Operation) (o : Operation) (old now now' : Bytes) (size size' : ℕ) → may_follow pack o ≡ true → pack' ≡ pack → now' ≡ now → size' ≡ size → size ≡ size_of pack
    → Gathering ops pack more old now → Ready ops pack' more o old now' size'
ready_still ops pack more pack' o old now now' size size' may same still as_before sized g = record {
  gathering = subst (λ xs. Gathering ops xs more old now') (sym same) (subst (λ xs. Gathering ops pack more old xs) (sym still) g);
  may = ap (λ xs. may_follow xs o) same ∙ may;
  sized = as_before ∙ sized ∙ sym (ap size_of same);
}

-- the sizes of what is gathered with one more operation
pub size_of-end : (pack : List Operation) (o : Operation) (size more : ℕ) → size ≡ size_of pack → more ≡ length (op_bytes o) → size + more ≡ size_of (pack ++ o ∷ [])
size_of-end pack o size more sized is =
    let all : size_of (pack ++ o ∷ []) ≡ size_of pack + length (op_bytes o) = ap length (flat_map-append op_bytes pack (o ∷ []) ∙ ap (λ z. flat_map op_bytes pack ++ z) (append-nil (op_bytes o))) ∙ length-append (flat_map op_bytes pack) (op_bytes o) in
    omega (arith, sized, is, all)
