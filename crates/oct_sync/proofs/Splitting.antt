-- The frames of a string of bytes, and those of the bytes after it.
use Rattle.std.proofs.Common.{◌≡◌, ℕ, zero, suc, ◌+◌, ◌-◌, ◌≤◌, Bool, true, false, ◌&&◌, [], ◌∷◌, ◌++◌, length, take, drop, leb, refl, sym, ap, ◌∙◌, subst, arith}
use Rattle.std.proofs.lemmas.Bool.{and_parts, and_from, leb-true, le-leb}
use Rattle.std.proofs.lemmas.List.{take-append-le, drop-append-le, length-append, length-drop, get_or_append_left}
use Rattle.std.specs.Int.{w32, from_be_bytes}
use Rattle.oct_delta.specs.Text.{Bytes}
use Rattle.oct_sync.specs.Frames.{Frame, Split, max_frame, length_field, tag_field, is_length, begins_whole, first_frame, split_within, split_frames}

pub record IsWhole (bytes : Bytes) : Type 0 where
  pub long : 5 ≤ length bytes
  pub is : is_length (length_field bytes) ≡ true
  pub some : 1 ≤ length_field bytes
  pub fits : 4 + length_field bytes ≤ length bytes

pub whole_parts : (bytes : Bytes) → begins_whole bytes ≡ true → IsWhole bytes
whole_parts bytes h =
    let all = and_parts (leb 5 (length bytes) && is_length (length_field bytes)) (leb (4 + length_field bytes) (length bytes)) h in
    let front = and_parts (leb 5 (length bytes)) (is_length (length_field bytes)) all.0 in
    let some = and_parts (leb 1 (length_field bytes)) (leb (length_field bytes) max_frame) front.1 in
    record { long = leb-true 5 (length bytes) front.0; is = front.1; some = leb-true 1 (length_field bytes) some.0; fits = leb-true (4 + length_field bytes) (length bytes) all.1 }

pub parts_whole : (bytes : Bytes) → IsWhole bytes → begins_whole bytes ≡ true
parts_whole bytes w =
    and_from (leb 5 (length bytes) && is_length (length_field bytes)) (leb (4 + length_field bytes) (length bytes))
    (and_from (leb 5 (length bytes)) (is_length (length_field bytes)) (le-leb 5 (length bytes) w.long) w.is) (le-leb (4 + length_field bytes) (length bytes) w.fits)

-- ---- bytes with more bytes after them

pub longer : (x y : Bytes) (n : ℕ) → n ≤ length x → n ≤ length (x ++ y)
longer x y n h = let whole : length (x ++ y) ≡ length x + length y = length-append x y in omega (arith, whole, h)

pub field-append : (x y : Bytes) → 4 ≤ length x → length_field (x ++ y) ≡ length_field x
field-append x y h = ap (from_be_bytes w32) (take-append-le 4 x y h)

pub tag-append : (x y : Bytes) → 5 ≤ length x → tag_field (x ++ y) ≡ tag_field x
tag-append x y h = get_or_append_left x y 0 4 (omega (arith, h))

module _ (x y : Bytes) (w : IsWhole x) where
  same_field : length_field (x ++ y) ≡ length_field x
  same_field = field-append x y (let long = w.long in omega (arith, long))

  whole-append : IsWhole (x ++ y)
  whole-append = record {
    long = longer x y 5 w.long;
    is = ap is_length same_field ∙ w.is;
    some = subst (λ n. 1 ≤ n) (sym same_field) w.some;
    fits = subst (λ n. 4 + n ≤ length (x ++ y)) (sym same_field) (longer x y (4 + length_field x) w.fits);
  }

  first-append : first_frame (x ++ y) ≡ first_frame x
  first-append =
      let long = w.long in
      let fits = w.fits in
      let some = w.some in
      let left : length (drop 5 x) ≡ length x - 5 = length-drop 5 x in
      let payload : take (length_field (x ++ y) - 1) (drop 5 (x ++ y)) ≡ take (length_field x - 1) (drop 5 x) =
      (λ i. take (same_field i - 1) (drop-append-le 5 x y long i)) ∙ take-append-le (length_field x - 1) (drop 5 x) y (omega (arith, left, fits, long, some)) in
      λ i. record { tag = tag-append x y long i; payload = payload i }

  rest-append : drop (4 + length_field (x ++ y)) (x ++ y) ≡ drop (4 + length_field x) x ++ y
  rest-append = ap (λ n. drop (4 + n) (x ++ y)) same_field ∙ drop-append-le (4 + length_field x) x y w.fits

-- ---- splits

abbrev pub with_first : Frame → Split → Split
with_first f later = record { frames = f ∷ later.frames; rest = later.rest }

abbrev unsplit : Bytes → Split
unsplit bytes = record { frames = []; rest = bytes }

abbrev pub step : ℕ → Bytes → Bool → Split
step fuel bytes whole = elim whole [ true ↦ with_first (first_frame bytes) (split_within fuel (drop (4 + length_field bytes) bytes)) | false ↦ unsplit bytes ]

shorter : (bytes : Bytes) (fuel : ℕ) → IsWhole bytes → length bytes ≤ suc fuel → length (drop (4 + length_field bytes) bytes) ≤ fuel
shorter bytes fuel w h =
    let left : length (drop (4 + length_field bytes) bytes) ≡ length bytes - (4 + length_field bytes) = length-drop (4 + length_field bytes) bytes in
    omega (arith, left, h)

not_whole : (bytes : Bytes) → length bytes ≤ 0 → begins_whole bytes ≡ false
not_whole bytes h = elim (begins_whole bytes) as (λ b. begins_whole bytes ≡ b → b ≡ false) [
  | true ↦ λ e. let w = whole_parts bytes e in let long = w.long in absurd (omega (arith, long, h))
  | false ↦ λ _. refl
] refl

-- fuel that is enough makes no difference
pub same_split : (f g : ℕ) (bytes : Bytes) → length bytes ≤ f → length bytes ≤ g → split_within f bytes ≡ split_within g bytes
same_split zero zero bytes h k = refl
same_split zero (suc g) bytes h k = sym (ap (step g bytes) (not_whole bytes h))
same_split (suc f) zero bytes h k = ap (step f bytes) (not_whole bytes k)
same_split (suc f) (suc g) bytes h k = elim (begins_whole bytes) as (λ b. begins_whole bytes ≡ b → step f bytes b ≡ step g bytes b) [
  | true ↦ λ e.
      let w = whole_parts bytes e in
      ap (with_first (first_frame bytes)) (same_split f g (drop (4 + length_field bytes) bytes) (shorter bytes f w h) (shorter bytes g w k))
  | false ↦ λ _. refl
] refl

-- a string begins with a whole frame, or is a rest
pub split_is : (bytes : Bytes) → split_frames bytes ≡ step (length bytes) bytes (begins_whole bytes)
split_is bytes = same_split (length bytes) (suc (length bytes)) bytes (omega arith) (omega arith)

-- a split with more bytes after its rest
abbrev pub joined : Split → Bytes → Split
joined s y = let later = split_frames (s.rest ++ y) in record { frames = s.frames ++ later.frames; rest = later.rest }

split_on : (f g : ℕ) (x y : Bytes) → length x ≤ f → length (x ++ y) ≤ g → split_within g (x ++ y) ≡ joined (split_within f x) y
split_on zero g x y h k = same_split g (length (x ++ y)) (x ++ y) k (omega arith)
split_on (suc f) g x y h k =
    elim (begins_whole x) as (λ b. begins_whole x ≡ b → split_within g (x ++ y) ≡ joined (step f x b) y) [
      | true ↦ λ e.
          let w = whole_parts x e in
          let fits : length (drop (4 + length_field x) x ++ y) ≤ length (x ++ y) =
          let left : length (drop (4 + length_field x) x) ≡ length x - (4 + length_field x) = length-drop (4 + length_field x) x in
          let one : length (drop (4 + length_field x) x ++ y) ≡ length (drop (4 + length_field x) x) + length y = length-append (drop (4 + length_field x) x) y in
          let other : length (x ++ y) ≡ length x + length y = length-append x y in
          omega (arith, left, one, other) in
          same_split g (suc (length (x ++ y))) (x ++ y) k (omega arith)
          ∙ ap (step (length (x ++ y)) (x ++ y)) (parts_whole (x ++ y) (whole-append x y w))
          ∙ (λ i. with_first (first-append x y w i) (split_within (length (x ++ y)) (rest-append x y w i)))
          ∙ ap (with_first (first_frame x)) (split_on f (length (x ++ y)) (drop (4 + length_field x) x) y (shorter x f w h) fits)
      | false ↦ λ _. same_split g (length (x ++ y)) (x ++ y) k (omega arith)
    ] refl

pub split_append : (x y : Bytes) → split_frames (x ++ y) ≡ joined (split_frames x) y
split_append x y = split_on (length x) (length (x ++ y)) x y (omega arith) (omega arith)
