-- What a table of marks has on the way to a settled value.
use Rattle.std.proofs.Common.{◌≡◌, ℕ, ◌+◌, ◌<◌, ◌≤◌, Bool, false, List, length, min, replicate, inl, inr, sym, ◌∙◌, arith}
use Rattle.std.proofs.lemmas.Bool.{false≢true}
use Rattle.std.proofs.Math.ListN.{get_or-replicate, length-replicate}
use Rattle.oct_code.specs.Code.{Code, len}
use Rattle.oct_mex.specs.Marks.{AddsMarks, IsBelow, IsMarked, IsPairBy, IsRareBy}
use Rattle.oct_mex.specs.Windows.{IsNear, Settles}
use Rattle.oct_mex.proofs.Moves.{move_of}

-- only values of near options are marked, and those of the options of at most one heap or of a listed heap
pub record HasReached (c : Code) (g : ℕ → ℕ) (n : ℕ) (heaps : List ℕ) (reach : ℕ) (marks : List Bool) : Type 0 where
  pub sound : (v : ℕ) → v < length marks → IsMarked marks v → IsNear c g n heaps reach v
  pub listed : (v r : ℕ) → v < length marks → IsRareBy c g n heaps r v → IsMarked marks v

module _ (c : Code) (g : ℕ → ℕ) (n : ℕ) (heaps : List ℕ) (reach : ℕ) where
  near_rare : (r v : ℕ) → IsRareBy c g n heaps r v → IsNear c g n heaps reach v
  near_rare r v (o, rare) = record {
    option = record { a = o.a; b = o.b; move = move_of c n r o.a o.b o.parts; is = o.is };
    near = elim rare [ inl none ↦ inl (omega arith) | inr listed ↦ inr listed ];
  }

  near_pair : (from end r v : ℕ) → end ≤ reach + 1 → IsPairBy c g n from end r v → IsNear c g n heaps reach v
  near_pair from end r v far (o, high, low) = record {
    option = record { a = o.a; b = o.b; move = move_of c n r o.a o.b o.parts; is = o.is };
    near = inl (omega arith);
  }

  -- the options of at most one heap or of a listed heap are marked first
  pub reached_first : (size : ℕ) (marks : List Bool) → AddsMarks (replicate size false) marks (IsBelow (IsRareBy c g n heaps) (min (len c) n + 1)) → HasReached c g n heaps reach marks
  reached_first size marks adds =
      let sized : length marks ≡ size = adds.size ∙ length-replicate size false in
      let same : length (replicate size false) ≡ size = length-replicate size false in
      record {
        sound = λ v l m. elim ((adds.marked v (omega arith)).0 m) [
          | inl old ↦ absurd (false≢true (sym (get_or-replicate size v false false (omega arith)) ∙ old))
          | inr o ↦ near_rare o.0 v o.2
        ];
        listed = λ v r l o. (adds.marked v (omega arith)).1 (inr (r, omega (arith, o.0.parts.few, o.0.parts.total), o));
      }

  -- then a round of pairs
  pub reached_round : (end next : ℕ) (x y : List Bool) → next ≤ reach + 1 → HasReached c g n heaps reach x
      → AddsMarks x y (IsBelow (IsPairBy c g n end next) (min (len c) n + 1)) → HasReached c g n heaps reach y
  reached_round end next x y far has adds =
      let size : length y ≡ length x = adds.size in
      record {
        sound = λ v l m. elim ((adds.marked v (omega arith)).0 m) [ inl old ↦ has.sound v (omega arith) old | inr o ↦ near_pair end next o.0 v far o.2 ];
        listed = λ v r l o. (adds.marked v (omega arith)).1 (inl (has.listed v r (omega arith) o));
      }

  -- the first value that is not marked
  pub settles : (least : ℕ) (marks : List Bool) → HasReached c g n heaps reach marks → least ≤ length marks → ((v : ℕ) → v < least → IsMarked marks v)
      → (least < length marks → IsMarked marks least → ⊥) → Settles c g n heaps reach (length marks) least
  settles least marks has within marked unmarked = record {
    reached = λ u less. has.sound u (omega arith) (marked u less);
    unlisted = λ low r o. unmarked low (has.listed least r low o);
  }
