-- A clock that takes in the entries of another, one after the other.
use Rattle.std.specs.Prelude.{◌≡◌, ℕ, ◌<◌, max, true, false, cond, ◌&&◌, ◌==◌, List, [], ◌∷◌, Option, Some, None, refl}
use Rattle.std.proofs.Common.{sym, ap, ◌∙◌, subst, arith}
use Rattle.std.specs.Option.{unwrap_or}
use Rattle.std.specs.Ordering.{nat_cmp, eq_by_cmp, is_eq, is_lt}
use Rattle.std.specs.Cmp.{Equal-is, nat_cmp_total, tied_itself}
use Rattle.std.specs.FinMap as map
use Rattle.std.specs.FinMap.{nat_cmp-IsAntisymmetric}
use Rattle.std.specs.FinMap.Entries.{find, below_all}
use lib.Dec.{T}
use Rattle.std.specs.declared.cmp.Ordering.TheVariants.{Less, Equal, Greater}
use Rattle.std.proofs.lemmas.Bool.Decides.{nat_tests}
use Rattle.oct_join.specs.Order.{IsBetween}
use Rattle.oct_join.specs.Clock.{Clock, through, raised, IsAtMost, IsBelow, joined}
use Rattle.oct_join.specs.ClockLaws.{greater, greater-left, IsAtMost-refl, IsAtMost-trans, get-joined, joined_bound, same_clock}

-- a clock of no entries is the empty one
pub from_nothing : (es : List (ℕ × ℕ)) → es ≡ [] → map.from_sorted {R = nat_cmp} es ≡ map.empty
from_nothing es none = ap map.from_sorted none ∙ same_clock _ _ (λ author. map.get-from_sorted nat_cmp [] author tt ∙ sym (map.get-empty nat_cmp author))

-- `now` grew from `old`, and with `rest`, which is still to come, it is the bound of `old` and `other`
pub record MergesAlong (old other now : Clock) (rest : List (ℕ × ℕ)) : Type 0 where
  pub grown : IsBelow old now
  pub completes : (author : ℕ) → greater (map.get now author) (find nat_cmp author rest) ≡ greater (map.get old author) (map.get other author)

pub get-raised : (now : Clock) (author n : ℕ) → 0 < n → (q : ℕ) → map.get (raised now author n) q ≡ cond (eq_by_cmp nat_cmp q author) (Some (max n (through now author))) (map.get now q)
get-raised now author n positive q =
    let apart : (n == 0) ≡ false = grind (arith, nat_tests) in
    ap (λ b. map.get (cond b now (map.insert now author (max n (through now author)))) q) apart
    ∙ map.get-insert nat_cmp_total now author (max n (through now author)) q

greater-through : (x : Option ℕ) (n : ℕ) → Some (max n (unwrap_or x 0)) ≡ greater x (Some n)
greater-through None n = ap Some (omega arith)
greater-through (Some m) n = ap Some (omega arith)

greater-none : (x : Option ℕ) → greater x None ≡ x
greater-none None = refl
greater-none (Some m) = refl

-- an author below all those of a list is not in it
find_below : (author : ℕ) (es : List (ℕ × ℕ)) → T (below_all nat_cmp author es) → find nat_cmp author es ≡ None
find_below author [] below = refl
find_below author (e ∷ es) below =
    elim (nat_cmp author e.0) as (λ r. T (is_lt r && below_all nat_cmp author es) → cond (is_eq r) (Some e.1) (find nat_cmp author es) ≡ None) [
      | Less ↦ λ h. find_below author es h
      | Equal ↦ λ h. absurd h
      | Greater ↦ λ h. absurd h
    ] below

-- raising one number is taking in one entry
pub greater-raised : (now : Clock) (author n : ℕ) → 0 < n → (rest : List (ℕ × ℕ)) → T (below_all nat_cmp author rest) → (q : ℕ) → greater (map.get (raised now author n) q) (find nat_cmp q rest) ≡ greater (map.get now q) (find nat_cmp q ((author, n) ∷ rest))
greater-raised now author n positive rest below q =
    ap (λ x. greater x (find nat_cmp q rest)) (get-raised now author n positive q)
    ∙ elim (eq_by_cmp nat_cmp q author) as (λ b. eq_by_cmp nat_cmp q author ≡ b → greater (cond b (Some (max n (through now author))) (map.get now q)) (find nat_cmp q rest) ≡ greater (map.get now q) (cond b (Some n) (find nat_cmp q rest))) [
      | true ↦ λ tied.
          let same : author ≡ q = sym (nat_cmp-IsAntisymmetric q author ((Equal-is (nat_cmp q author)).0 tied)) in
          ap (greater (Some (max n (through now author)))) (ap (λ x. find nat_cmp x rest) (sym same) ∙ find_below author rest below)
          ∙ greater-through (map.get now author) n
          ∙ ap (λ x. greater (map.get now x) (Some n)) same
      | false ↦ λ _. refl
    ] refl

IsAtMost-raised : (now : Clock) (author n : ℕ) → 0 < n → IsBelow now (raised now author n)
IsAtMost-raised now author n positive q =
    subst (IsAtMost (map.get now q)) (sym (get-raised now author n positive q))
    (elim (eq_by_cmp nat_cmp q author) as (λ b. eq_by_cmp nat_cmp q author ≡ b → IsAtMost (map.get now q) (cond b (Some (max n (through now author))) (map.get now q))) [
      | true ↦ λ tied.
          let same : author ≡ q = sym (nat_cmp-IsAntisymmetric q author ((Equal-is (nat_cmp q author)).0 tied)) in
          subst (λ x. IsAtMost (map.get now x) (Some (max n (through now author)))) same (subst (IsAtMost (map.get now author)) (sym (greater-through (map.get now author) n)) (greater-left _ _))
      | false ↦ λ _. IsAtMost-refl _
    ] refl)

pub merges_next : (old other now new : Clock) (all : List (ℕ × ℕ)) (author n : ℕ) (rest : List (ℕ × ℕ)) → all ≡ (author, n) ∷ rest → 0 < n → T (below_all nat_cmp author rest) → new ≡ raised now author n → MergesAlong old other now all → MergesAlong old other new rest
merges_next old other now new all author n rest next positive below is_raised along = record {
  grown = λ q. IsAtMost-trans _ _ _ (along.grown q) (subst (λ p. IsAtMost (map.get now q) (map.get p q)) (sym is_raised) (IsAtMost-raised now author n positive q));
  completes = λ q.
      ap (λ p. greater (map.get p q) (find nat_cmp q rest)) is_raised ∙ greater-raised now author n positive rest below q
      ∙ ap (λ es. greater (map.get now q) (find nat_cmp q es)) (sym next) ∙ along.completes q;
}

pub merges_done : (old other now : Clock) (all : List (ℕ × ℕ)) → all ≡ [] → MergesAlong old other now all → now ≡ joined old other
merges_done old other now all none along = same_clock _ _ (λ q.
    sym (greater-none (map.get now q)) ∙ ap (λ es. greater (map.get now q) (find nat_cmp q es)) (sym none) ∙ along.completes q ∙ sym (get-joined old other q))

pub merges_between : (old other now : Clock) (rest : List (ℕ × ℕ)) → MergesAlong old other now rest → IsBetween IsBelow old now (joined old other)
merges_between old other now rest along = record {
  lower = along.grown;
  upper = λ q. subst (IsAtMost (map.get now q)) (along.completes q ∙ sym (get-joined old other q)) (greater-left _ _);
}

absent_is_less : (x : Option ℕ) (n : ℕ) → 0 < n → unwrap_or x 0 ≡ 0 → ¬ IsAtMost (Some n) x
absent_is_less None n positive none most = most
absent_is_less (Some m) n positive none most = omega (arith, positive, none, most)

-- an entry still to come, of an author who counts as 0, is no part of the old clock
pub merges_lack : (old other now : Clock) (all : List (ℕ × ℕ)) (author n : ℕ) (rest : List (ℕ × ℕ)) → all ≡ (author, n) ∷ rest → 0 < n → T (below_all nat_cmp author rest) → through now author ≡ 0 → MergesAlong old other now all → ¬ IsBelow other old
merges_lack old other now all author n rest next positive below none along within =
    let bound = joined_bound old other in
    let grown = merges_next old other now (raised now author n) all author n rest next positive below refl along in
    let upper = (merges_between old other (raised now author n) rest grown).upper author in
    let held = IsAtMost-trans _ _ _ (IsAtMost-trans _ _ _ upper (bound.least old (λ a. IsAtMost-refl _) within author)) (along.grown author) in
    absent_is_less (map.get now author) (max n (through now author)) (omega arith) none (subst (λ x. IsAtMost x (map.get now author)) (get-raised now author n positive author ∙ ap (λ o. cond (is_eq o) (Some (max n (through now author))) (map.get now author)) (tied_itself nat_cmp_total author)) held)

pub merges_start : (old other : Clock) (all : List (ℕ × ℕ)) → all ≡ map.entries other → MergesAlong old other old all
merges_start old other all is_all = record {
  grown = λ q. IsAtMost-refl _;
  completes = λ q. ap (λ es. greater (map.get old q) (find nat_cmp q es)) is_all ∙ ap (greater (map.get old q)) (sym (map.get-entries other q));
}
