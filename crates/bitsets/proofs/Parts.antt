-- A block whose sets are made part by part.
use Rattle.std.proofs.Common.{List, length, map, slice_index, ◌≡◌, ℕ, ◌+◌, ◌-◌, ◌<◌, ◌≤◌, ap, arith, inl, inr, subst, subst₂, sym, ◌∙◌}
use Rattle.std.proofs.lemmas.Bool.{cases_lt}
use Rattle.std.specs.List.{slice_range}
use borrow.Rule.Slice.PartMut.{put_mid}
use Rattle.bitsets.specs.Sets.{AddsSmall, IsMadeBehind}
use Rattle.bitsets.proofs.Words.{in_range, put_before, put_here}

module _ {W : Type 0} (number : W → ℕ) (d : ℕ) (sets : List ℕ) (place : ℕ) (offsets values : List ℕ) where
  -- from one set to another, at a place
  abbrev pub IsMade : ℕ → ℕ → ℕ → Type 0
  IsMade at old new = AddsSmall d old new (IsMadeBehind sets at offsets values (length offsets))

  -- one more part is made
  pub part_made : (old block part : List W) (from to : ℕ) → from ≤ to → to ≤ length block → length part ≡ to - from
      → ((i : ℕ) → i < from → IsMade (place + i) (slice_index (map number old) i) (slice_index (map number block) i))
      → ((i : ℕ) → from ≤ i → slice_index (map number block) i ≡ slice_index (map number old) i)
      → ((i : ℕ) → i < length part → IsMade (place + from + i) (slice_index (map number (slice_range block from to)) i) (slice_index (map number part) i))
      → (i : ℕ) → i < to → IsMade (place + i) (slice_index (map number old) i) (slice_index (map number (put_mid from (to - from) block part)) i)
  part_made old block part from to some low full before left made i within =
      let room : from + (to - from) ≤ length block = omega (arith, some, low) in
      let was = slice_index (map number old) i in
      elim (cases_lt i from) [
        | inl less ↦ subst (IsMade (place + i) was) (sym (put_before number block from (to - from) part room full i less)) (before i less)
        | inr more ↦
            let at = i - from in
            let same : from + at ≡ i = omega (arith, more) in
            let old_is : slice_index (map number (slice_range block from to)) at ≡ was =
            in_range number block from to at (omega (arith, more, within)) ∙ ap (slice_index (map number block)) same ∙ left i more in
            let new_is : slice_index (map number part) at ≡ slice_index (map number (put_mid from (to - from) block part)) i =
            sym (put_here number block from (to - from) part room full i more (omega (arith, more, within))) in
            subst (λ p. IsMade p was (slice_index (map number (put_mid from (to - from) block part)) i)) (let e : place + from + at ≡ place + i = omega (arith, same) in e)
            (subst₂ (IsMade (place + from + at)) old_is new_is (made at (omega (arith, more, within, full))))
      ]
