-- What a search in a list of rising keys finds, and what the set of its keys is after an insertion and a removal.
use Rattle.std.proofs.Common.{◌≡◌, ◌≢◌, ℕ, zero, suc, ◌<◌, Bool, true, false, not, cond, ◌&&◌, ◌||◌, List, [], ◌∷◌, ◌++◌, map, length, take, drop, get_or, Result, Ok, Err, is_ok, MatchResult, refl, sym, ap, subst, ◌∙◌, arith, inl, inr}
use Rattle.std.specs.List.{insert, remove, list_all, list_any, filter}
use Rattle.std.specs.List.Sorted.{IsPartitionedBy}
use Rattle.std.specs.Ordering.{is_eq, is_lt, eq_by_cmp, match_ordering, ordering_reverse}
use Rattle.std.specs.Cmp.{IsTotalOrder, Equal-is, first_so, second_so}
use Rattle.std.specs.FinMap.{IsAntisymmetric}
use Rattle.std.specs.BTreeSet.{insert_key}
use Rattle.std.specs.declared.cmp.Ordering.{Ordering}
use Rattle.std.specs.declared.cmp.Ordering.TheVariants.{Less, Equal, Greater}
use Rattle.std.proofs.lemmas.List.{map-append, take-map, drop-map}
use Rattle.std.proofs.lemmas.Bool.{cases_lt, true≢false, or_right}
use Rattle.oct_code.specs.Tests.{less_from_lt}
use Rattle.oct_ops.specs.Sets as sets
use Rattle.oct_ops.specs.Sets.{Set, contains, listed, rises, set_of}
use Rattle.oct_ops.specs.SetLaws.{same_set, contains-remove, contains-set_of, listed-insert, listed-rises, listed-keep, listed-set_of, set_of-listed}
use Rattle.chunked.specs.Chunked.{IsFound, IsGapAt}
use Rattle.chunked.proofs.Lists.{map-insert}

one_less : (a b : Bool) → (a ≡ true → b ≡ false) → (not a && b) ≡ b
one_less true b h = sym (h refl)
one_less false b h = refl

greater_from_not : (r : Ordering) → is_lt r ≡ false → r ≢ Equal → r ≡ Greater
greater_from_not Less e ne = absurd (true≢false e)
greater_from_not Equal e ne = absurd (ne refl)
greater_from_not Greater e ne = refl

-- f is the key of an element
module _ {E K : Type 0} (f : E → K) where
  all_at : (p : K → Bool) (es : List E) (i : ℕ) (d : E) → list_all p (map f es) ≡ true → i < length es → p (f (get_or es i d)) ≡ true
  all_at p [] i d h lt = absurd (omega arith)
  all_at p (e ∷ es) zero d h lt = first_so _ _ h
  all_at p (e ∷ es) (suc i) d h lt = all_at p es i d (second_so _ _ h) (omega arith)

  any_at : (p : K → Bool) (es : List E) (i : ℕ) → ((d : E) → p (f (get_or es i d)) ≡ true) → i < length es → list_any p (map f es) ≡ true
  any_at p [] i h lt = absurd (omega arith)
  any_at p (e ∷ es) zero h lt = ap (λ b. b || list_any p (map f es)) (h e)
  any_at p (e ∷ es) (suc i) h lt = or_right (p (f e)) _ (any_at p es i h (omega arith))

  none_at : (p : K → Bool) (es : List E) → ((i : ℕ) (d : E) → i < length es → p (f (get_or es i d)) ≡ false) → list_any p (map f es) ≡ false
  none_at p [] h = refl
  none_at p (e ∷ es) h = (λ i. h 0 e (omega arith) i || list_any p (map f es)) ∙ none_at p es (λ i d lt. h (suc i) d (omega arith))

  pub map-remove : (es : List E) (at : ℕ) → map f (remove es at) ≡ remove (map f es) at
  map-remove es at = map-append f (take at es) (drop (suc at) es) ∙ (λ i. sym (take-map f at es) i ++ sym (drop-map f (suc at) es) i)

  module _ {R : K → K → Ordering} (total : IsTotalOrder R) (exact : IsAntisymmetric R) where
    pub less_at : (es : List E) → rises R (map f es) ≡ true → (i j : ℕ) (d : E) → i < j → j < length es → R (f (get_or es i d)) (f (get_or es j d)) ≡ Less
    less_at [] h i j d lt hi = absurd (omega arith)
    less_at (e ∷ es) h i zero d lt hi = absurd (omega arith)
    less_at (e ∷ es) h zero (suc j) d lt hi = less_from_lt _ (all_at (λ k. is_lt (R (f e) k)) es j d (first_so _ _ h) (omega arith))
    less_at (e ∷ es) h (suc i) (suc j) d lt hi = less_at es (second_so _ _ h) i j d (omega arith) (omega arith)

    -- no element that is less than x comes after one that is not
    pub parted : (es : List E) (x : K) → rises R (map f es) ≡ true → IsPartitionedBy (λ e. is_lt (R (f e) x)) es
    parted es x h i j d le lt passes = elim (cases_lt i j) [
      | inr same ↦ ap (λ k. is_lt (R (f (get_or es k d)) x)) (let e : i ≡ j = omega arith in e) ∙ passes
      | inl earlier ↦ ap is_lt (total.trans _ _ _ (less_at es h i j d earlier lt) (less_from_lt _ passes))
    ]

    turned : (k l : K) (r : Ordering) → R k l ≡ r → R l k ≡ ordering_reverse r
    turned k l r e = total.antisymm l k ∙ ap ordering_reverse e

    module _ (es : List E) (x : K) (rising : rises R (map f es) ≡ true) where
      abbrev keys : Set R
      keys = set_of (map f es)

      -- ---- what is found

      found_at : (at : ℕ) → IsFound (λ e. R (f e) x) es at → list_any (eq_by_cmp R x) (map f es) ≡ true
      found_at at found = any_at (eq_by_cmp R x) es at (λ d. ap is_eq (turned (f (get_or es at d)) x Equal (found.1 d))) found.0

      pub contains_found : (at : ℕ) → IsFound (λ e. R (f e) x) es at → contains keys x ≡ true
      contains_found at found = contains-set_of total exact (map f es) x ∙ found_at at found

      -- ---- what has a gap

      greater_at : (at : ℕ) → IsGapAt (λ e. R (f e) x) es at → (d : E) → at < length es → R x (f (get_or es at d)) ≡ Less
      greater_at at gap d lt = turned (f (get_or es at d)) x Greater (greater_from_not _ (gap.1.1 at d (omega arith) lt) (gap.2 d lt))

      apart_at : (at : ℕ) → IsGapAt (λ e. R (f e) x) es at → (k : ℕ) (d : E) → k < length es → eq_by_cmp R x (f (get_or es k d)) ≡ false
      apart_at at gap k d lt = elim (cases_lt k at) [
        | inl before ↦ ap is_eq (turned (f (get_or es k d)) x Less (gap.1.0 k d (omega arith) before))
        | inr from ↦ elim (cases_lt at k) [
          | inr same ↦ ap is_eq (ap (λ i. R x (f (get_or es i d))) (let e : k ≡ at = omega arith in e) ∙ greater_at at gap d (omega arith))
          | inl after ↦ ap is_eq (total.trans x (f (get_or es at d)) (f (get_or es k d)) (greater_at at gap d (omega arith)) (less_at es rising at k d after lt))
        ]
      ]

      pub contains_missing : (at : ℕ) → IsGapAt (λ e. R (f e) x) es at → contains keys x ≡ false
      contains_missing at gap = contains-set_of total exact (map f es) x ∙ none_at (eq_by_cmp R x) es (apart_at at gap)

      insert_keys : listed (sets.insert keys x) ≡ insert_key R (map f es) x
      insert_keys = listed-insert total exact keys x ∙ ap (λ ks. insert_key R ks x) (listed-set_of total exact (map f es) rising)

    insert_gap : (es : List E) (x : K) (at : ℕ) → IsGapAt (λ e. R (f e) x) es at → insert (map f es) at x ≡ insert_key R (map f es) x
    insert_gap [] x zero gap = refl
    insert_gap [] x (suc at) gap = absurd (omega (arith, gap.0))
    insert_gap (e ∷ es) x zero gap =
        let less : R x (f e) ≡ Less = turned (f e) x Greater (greater_from_not _ (gap.1.1 0 e (omega arith) (omega arith)) (gap.2 e (omega arith))) in
        ap (λ r. match_ordering r (x ∷ f e ∷ map f es) (f e ∷ map f es) (f e ∷ insert_key R (map f es) x)) (sym less)
    insert_gap (e ∷ es) x (suc at) gap =
        let greater : R x (f e) ≡ Greater = turned (f e) x Less (gap.1.0 0 e (omega arith) (omega arith)) in
        let rest : IsGapAt (λ e'. R (f e') x) es at = (omega (arith, gap.0), ((λ k d lo hi. gap.1.0 (suc k) d (omega arith) (omega arith)), (λ k d lo hi. gap.1.1 (suc k) d (omega arith) (omega arith))), (λ d lt. gap.2 d (omega arith))) in
        ap (λ ks. f e ∷ ks) (insert_gap es x at rest)
        ∙ ap (λ r. match_ordering r (x ∷ f e ∷ map f es) (f e ∷ map f es) (f e ∷ insert_key R (map f es) x)) (sym greater)

    module _ (es : List E) (at : ℕ) (y : E) (rising : rises R (map f es) ≡ true) (gap : IsGapAt (λ e. R (f e) (f y)) es at) where
      inserted_keys : map f (insert es at y) ≡ listed (sets.insert (set_of {R = R} (map f es)) (f y))
      inserted_keys = map-insert es at y gap.0 f ∙ insert_gap es (f y) at gap ∙ sym (insert_keys es (f y) rising)

      pub set_inserted : set_of {R = R} (map f (insert es at y)) ≡ sets.insert (set_of (map f es)) (f y)
      set_inserted = ap set_of inserted_keys ∙ set_of-listed total exact _

      pub rises_inserted : rises R (map f (insert es at y)) ≡ true
      rises_inserted = ap (rises R) inserted_keys ∙ listed-rises R _

    -- the list `new` has y, which has the key x, in a gap of `es`
    pub rises_grown : (es new : List E) (at : ℕ) (y : E) (x : K) → f y ≡ x → rises R (map f es) ≡ true → IsGapAt (λ e. R (f e) x) es at → new ≡ insert es at y → rises R (map f new) ≡ true
    rises_grown es new at y x is rising gap grown = ap (λ l. rises R (map f l)) grown ∙ rises_inserted es at y rising (subst (λ k. IsGapAt (λ e. R (f e) k) es at) (sym is) gap)

    pub set_grown : (es new : List E) (at : ℕ) (y : E) (x : K) → f y ≡ x → rises R (map f es) ≡ true → IsGapAt (λ e. R (f e) x) es at → new ≡ insert es at y → set_of {R = R} (map f new) ≡ sets.insert (set_of (map f es)) x
    set_grown es new at y x is rising gap grown =
        ap (λ l. set_of (map f l)) grown ∙ set_inserted es at y rising (subst (λ k. IsGapAt (λ e. R (f e) k) es at) (sym is) gap)
        ∙ ap (sets.insert (set_of (map f es))) is

    -- ---- what is removed

    abbrev other : K → K → Bool
    other x k = not (eq_by_cmp R k x)

    all_others : (x : K) (ks : List K) → list_all (λ k. is_lt (R x k)) ks ≡ true → filter (other x) ks ≡ ks
    all_others x [] h = refl
    all_others x (k ∷ ks) h =
        let apart : eq_by_cmp R k x ≡ false = ap is_eq (turned x k Less (less_from_lt _ (first_so _ _ h))) in
        ap (λ b. cond (not b) (k ∷ filter (other x) ks) (filter (other x) ks)) apart ∙ ap (λ l. k ∷ l) (all_others x ks (second_so _ _ h))

    remove_found : (es : List E) (x : K) (at : ℕ) → rises R (map f es) ≡ true → IsFound (λ e. R (f e) x) es at → remove (map f es) at ≡ filter (other x) (map f es)
    remove_found [] x at rising found = absurd (omega (arith, found.0))
    remove_found (e ∷ es) x zero rising found =
        let same : f e ≡ x = exact (f e) x (found.1 e) in
        let tied : eq_by_cmp R (f e) x ≡ true = ap is_eq (found.1 e) in
        sym (ap (λ b. cond (not b) (f e ∷ filter (other x) (map f es)) (filter (other x) (map f es))) tied
        ∙ all_others x (map f es) (subst (λ k. list_all (λ l. is_lt (R k l)) (map f es) ≡ true) same (first_so _ _ rising)))
    remove_found (e ∷ es) x (suc at) rising found =
        let less : R (f e) x ≡ Less = subst (λ k. R (f e) k ≡ Less) (exact (f (get_or es at e)) x (found.1 e)) (less_at (e ∷ es) rising 0 (suc at) e (omega arith) found.0) in
        ap (λ ks. f e ∷ ks) (remove_found es x at (second_so _ _ rising) (omega (arith, found.0), λ d. found.1 d))
        ∙ ap (λ b. cond (not b) (f e ∷ filter (other x) (map f es)) (filter (other x) (map f es))) (sym (ap is_eq less))

    and_false : (b : Bool) → (b && false) ≡ false
    and_false true = refl
    and_false false = refl

    held_apart : (a b : Bool) → (not a && b) ≡ (not a && (a || b))
    held_apart true b = refl
    held_apart false b = refl

    one_apart : (a b c : Bool) → (a ≡ true → b ≡ false) → (a || (not b && c)) ≡ (not b && (a || c))
    one_apart true b c h = sym (ap (λ d. not d && true) (h refl))
    one_apart false b c h = refl

    -- an equal key is gone, and no other
    any_others : (x y : K) (ks : List K) → list_any (eq_by_cmp R y) (filter (other x) ks) ≡ (not (eq_by_cmp R y x) && list_any (eq_by_cmp R y) ks)
    any_others x y [] = sym (and_false (not (eq_by_cmp R y x)))
    any_others x y (k ∷ ks) = elim (eq_by_cmp R k x) as (λ b. eq_by_cmp R k x ≡ b → list_any (eq_by_cmp R y) (cond (not b) (k ∷ filter (other x) ks) (filter (other x) ks)) ≡ (not (eq_by_cmp R y x) && (eq_by_cmp R y k || list_any (eq_by_cmp R y) ks))) [
      | true ↦ λ e.
          let same : k ≡ x = exact k x ((Equal-is (R k x)).0 e) in
          any_others x y ks ∙ held_apart (eq_by_cmp R y x) _ ∙ ap (λ z. not (eq_by_cmp R y x) && (eq_by_cmp R y z || list_any (eq_by_cmp R y) ks)) (sym same)
      | false ↦ λ e. ap (λ b. eq_by_cmp R y k || b) (any_others x y ks) ∙ one_apart (eq_by_cmp R y k) (eq_by_cmp R y x) _ (λ h. ap (λ z. eq_by_cmp R z x) (exact y k ((Equal-is (R y k)).0 h)) ∙ e)
    ] refl

    module _ (es : List E) (x : K) (at : ℕ) (rising : rises R (map f es) ≡ true) (found : IsFound (λ e. R (f e) x) es at) where
      removed_keys : map f (remove es at) ≡ filter (other x) (map f es)
      removed_keys = map-remove es at ∙ remove_found es x at rising found

      pub rises_removed : rises R (map f (remove es at)) ≡ true
      rises_removed =
          ap (rises R) (removed_keys ∙ ap (filter (other x)) (sym (listed-set_of total exact (map f es) rising)) ∙ sym (listed-keep total exact (other x) (set_of (map f es))))
          ∙ listed-rises R _

      pub set_removed : set_of {R = R} (map f (remove es at)) ≡ sets.remove (set_of (map f es)) x
      set_removed = ap set_of removed_keys ∙ same_set total exact _ _ (λ y.
          contains-set_of total exact (filter (other x) (map f es)) y ∙ any_others x y (map f es)
          ∙ ap (λ b. not (eq_by_cmp R y x) && b) (sym (contains-set_of total exact (map f es) y)) ∙ sym (contains-remove total exact (set_of (map f es)) x y))

module _ {K : Type 0} {R : K → K → Ordering} (total : IsTotalOrder R) (exact : IsAntisymmetric R) where
  -- a removal of what is not there changes nothing
  pub remove_missing : (s : Set R) (x : K) → contains s x ≡ false → sets.remove s x ≡ s
  remove_missing s x missing = same_set total exact _ _ (λ y. contains-remove total exact s x y ∙ one_less (eq_by_cmp R y x) (contains s y) (λ tied. ap (contains s) (exact y x ((Equal-is (R y x)).0 tied)) ∙ missing))

-- whether a search found what is searched
pub is_found : {P Q : Type 0} {Yes : P → Type 0} {No : Q → Type 0} (r : Result P Q) (b : Bool) → ((p : P) → Yes p → b ≡ true) → ((q : Q) → No q → b ≡ false) → MatchResult r Yes No → is_ok r ≡ b
is_found (Ok p) b found missing h = sym (found p h)
is_found (Err q) b found missing h = sym (missing q h)
