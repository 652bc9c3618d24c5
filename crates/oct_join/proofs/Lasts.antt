-- The last operation of an author, in a list of operations in their order.
use Rattle.std.proofs.Common.{◌≡◌, ◌⊎◌, ℕ, ◌+◌, ◌<◌, ◌≤◌, Bool, true, false, List, [], ◌∷◌, map, length, get_or, refl, sym, ap, subst, ◌∙◌, arith, inl, inr}
use Rattle.std.specs.Prelude.{nat_le}
use Rattle.std.specs.List.{All, Any}
use Rattle.std.specs.List.Sorted.{IsPartitionedBy, IsPartitionPoint}
use Rattle.std.specs.Ordering.{nat_cmp, ordering_then, MatchOrdering}
use Rattle.std.specs.Cmp.{ranks}
use Rattle.std.specs.declared.cmp.Ordering.{Ordering}
use Rattle.std.specs.declared.cmp.Ordering.TheVariants.{Less, Equal, Greater}
use Rattle.std.proofs.lemmas.Bool.{cases_lt}
use Rattle.std.proofs.lemmas.Bool.Decides.{nat_tests}
use Rattle.std.proofs.lemmas.List.{get_or-map, length-map}
use Rattle.oct_ops.specs.Body.{Operation}
use Rattle.oct_ops.specs.Order.{op_cmp}
use Rattle.oct_ops.specs.OrderLaws.{op_cmp_total, op_cmp_exact}
use Rattle.oct_ops.specs.Operations.{Operations, listed, set_of}
use Rattle.oct_ops.specs.SetLaws.{listed-set_of}
use Rattle.oct_ops.specs.Sets.{rises}
use Rattle.oct_join.proofs.Searching.{less_at}

-- the earlier of two operations has a lesser author, or the same and no greater number
before : (a b m n : ℕ) (r : Ordering) → ordering_then (ordering_then (nat_cmp a b) (nat_cmp m n)) r ≡ Less → (a < b) ⊎ (a ≡ b) × (m ≤ n)
before a b m n r less = elim (nat_cmp a b) as (λ o. MatchOrdering o (a < b) (a ≡ b) (b < a) → ordering_then (ordering_then o (nat_cmp m n)) r ≡ Less → (a < b) ⊎ (a ≡ b) × (m ≤ n)) [
  | Less ↦ λ is _. inl is
  | Equal ↦ λ is h. inr (is, upto h)
  | Greater ↦ λ is h. cc
] (ranks a b) less
  where
    upto : ordering_then (nat_cmp m n) r ≡ Less → m ≤ n
    upto h = elim (nat_cmp m n) as (λ o. MatchOrdering o (m < n) (m ≡ n) (n < m) → ordering_then o r ≡ Less → m ≤ n) [
      | Less ↦ λ is _. omega (arith, is)
      | Equal ↦ λ is _. omega (arith, is)
      | Greater ↦ λ is e. cc
    ] (ranks m n) h

pub earlier : (o p : Operation) → op_cmp o p ≡ Less → (o.dot.author < p.dot.author) ⊎ (o.dot.author ≡ p.dot.author) × (o.dot.number ≤ p.dot.number)
earlier o p less = before o.dot.author p.dot.author o.dot.number p.dot.number _ less

-- f is the operation of an element
module _ {E : Type 0} (f : E → Operation) (author : ℕ) (es : List E) (rising : rises op_cmp (map f es) ≡ true) where
  -- its author is at most this one
  abbrev pub passes : E → Bool
  passes e = nat_le (f e).dot.author author

  pub parted_by_author : IsPartitionedBy passes es
  parted_by_author i j d le lt h = elim (cases_lt i j) [
    | inr same ↦ ap (λ k. passes (get_or es k d)) (let e : i ≡ j = omega arith in e) ∙ h
    | inl sooner ↦ elim (earlier (f (get_or es i d)) (f (get_or es j d)) (less_at f op_cmp_total op_cmp_exact es rising i j d sooner lt)) [
      | inl lesser ↦ grind (arith, nat_tests, lesser, h)
      | inr same ↦ grind (arith, nat_tests, same.0, h)
    ]
  ]

  pub listed_is : (s : Operations) → set_of (map f es) ≡ s → map f es ≡ listed s
  listed_is s is = sym (listed-set_of op_cmp_total op_cmp_exact (map f es) rising) ∙ ap listed is

  -- k is the index after the operations up to the author's
  module _ (k : ℕ) (point : IsPartitionPoint (λ e. passes e ≡ true) (λ e. passes e ≡ false) es k) where
    later : (i : ℕ) (d : E) → k ≤ i → i < length es → author < (f (get_or es i d)).dot.author
    later i d from lt = let h = point.1 i d from lt in grind (arith, nat_tests, h)

    pub none_before : (n : ℕ) → k ≡ 0 → All (λ o. o.dot.author ≡ author → o.dot.number ≤ n) (map f es)
    none_before n none i d lt own = absurd (no_own i d lt own)
      where
        no_own : (i : ℕ) (d : Operation) → i < length (map f es) → (get_or (map f es) i d).dot.author ≡ author → ⊥
        no_own i d lt own =
            let in_list : i < length es = omega (arith, lt, length-map es f) in
            elim es as (λ l. es ≡ l → ⊥) [
              | [] ↦ λ e. omega (arith, in_list, ap length e)
              | x ∷ xs ↦ λ _. omega (arith, later i x (omega (arith, none)) in_list, own, ap (λ o. o.dot.author) (get_or-map f es i x d in_list))
            ] refl

    module _ (e : E) (at : ℕ) (next : at + 1 ≡ k) (in_list : at < length es) (is : get_or es at e ≡ e) where
      -- an operation of the author comes no later than the last one, which is then the author's too
      own_upto : (i : ℕ) → i < length es → (f (get_or es i e)).dot.author ≡ author → ((f e).dot.author ≡ author) × ((f (get_or es i e)).dot.number ≤ (f e).dot.number)
      own_upto i lt own = elim (cases_lt i k) [
        | inr from ↦ absurd (omega (arith, later i e from lt, own))
        | inl below ↦ elim (cases_lt i at) [
          | inr here ↦ let same : get_or es i e ≡ e = ap (λ j. get_or es j e) (let j : i ≡ at = omega (arith, below, here, next) in j) ∙ is in (
            sym (ap (λ x. (f x).dot.author) same) ∙ own,
            omega (arith, ap (λ x. (f x).dot.number) same),
          )
          | inl sooner ↦
              let passed : nat_le (f e).dot.author author ≡ true = subst (λ x. passes x ≡ true) is (point.0 at e (omega arith) (omega (arith, next))) in
              elim (earlier (f (get_or es i e)) (f e) (subst (λ x. op_cmp (f (get_or es i e)) (f x) ≡ Less) is (less_at f op_cmp_total op_cmp_exact es rising i at e sooner in_list))) [
                | inl lesser ↦ absurd (grind (arith, nat_tests, lesser, passed, own))
                | inr same ↦ (sym same.0 ∙ own, same.1)
              ]
        ]
      ]

      upto_last : All (λ o. o.dot.author ≡ author → ((f e).dot.author ≡ author) × (o.dot.number ≤ (f e).dot.number)) (map f es)
      upto_last i d lt =
          let here : i < length es = omega (arith, lt, length-map es f) in
          subst (λ o. o.dot.author ≡ author → ((f e).dot.author ≡ author) × (o.dot.number ≤ (f e).dot.number)) (sym (get_or-map f es i e d here)) (own_upto i here)

      pub own_last : All (λ o. o.dot.author ≡ author → o.dot.number ≤ (f e).dot.number) (map f es)
      own_last i d lt own = (upto_last i d lt own).1

      pub other_last : ((f e).dot.author ≡ author → ⊥) → (n : ℕ) → All (λ o. o.dot.author ≡ author → o.dot.number ≤ n) (map f es)
      other_last other n i d lt own = absurd (other (upto_last i d lt own).0)

      pub has_last : (f e).dot.author ≡ author → Any (λ o. (o.dot.author ≡ author) × (o.dot.number ≡ (f e).dot.number)) (map f es)
      has_last own = (at, f e, omega (arith, in_list, length-map es f), get_or-map f es at e (f e) in_list ∙ ap f is, (own, refl))
