-- The lists of the rare heaps and of their values.
use Rattle.std.proofs.Common.{◌≡◌, ℕ, ◌+◌, ◌<◌, ◌≤◌, ◌++◌, ◌∷◌, [], true, List, length, length-append, slice_index, subst, sym, refl, ap, ◌∙◌, arith, inl, inr}
use Rattle.std.specs.List.{Contains}
use Rattle.std.proofs.lemmas.Bool.{cases_eq, cases_lt}
use Rattle.oct_mex.specs.declared.mask.Mask.{Mask}
use Rattle.oct_mex.specs.Rare.{is_rare, AreBeside, Lists, ListsRare}
use Rattle.oct_mex.proofs.NimValues.{get-before, get-end}

-- no heap is in an empty list
pub AreBeside-none : (values : List ℕ) → AreBeside values [] []
AreBeside-none values = record { size = refl; within = λ i low. absurd (omega arith); each = λ i low. absurd (omega arith) }

-- a further value changes nothing of the earlier ones
pub AreBeside-push : (values heaps beside : List ℕ) (v : ℕ) → AreBeside values heaps beside → AreBeside (values ++ v ∷ []) heaps beside
AreBeside-push values heaps beside v h = record {
  size = h.size;
  within = λ i low. omega (arith, h.within i low, length-append values (v ∷ []));
  each = λ i low. h.each i low ∙ sym (get-before values (v ∷ []) (slice_index heaps i) (h.within i low));
}

-- a further heap, and its value beside it
pub AreBeside-list : (values heaps beside : List ℕ) (heap v : ℕ) → heap < length values → v ≡ slice_index values heap → AreBeside values heaps beside
    → AreBeside values (heaps ++ heap ∷ []) (beside ++ v ∷ [])
AreBeside-list values heaps beside heap v held is h =
    let long = length-append heaps (heap ∷ []) in
    let size = h.size in
    record {
      size = omega (arith, length-append beside (v ∷ []), long);
      within = λ i low. elim (cases_lt i (length heaps)) [
        | inl less ↦ omega (arith, get-before heaps (heap ∷ []) i less, h.within i less)
        | inr more ↦ let last : length heaps ≡ i = omega (arith, low, long) in omega (arith, get-end heaps heap i last)
      ];
      each = λ i low. elim (cases_lt i (length heaps)) [
        | inl less ↦ get-before beside (v ∷ []) i (omega arith) ∙ h.each i less ∙ ap (slice_index values) (sym (get-before heaps (heap ∷ []) i less))
        | inr more ↦
            let last : length heaps ≡ i = omega (arith, low, long) in
            get-end beside v i (omega arith) ∙ is ∙ ap (slice_index values) (sym (get-end heaps heap i last))
      ];
    }

pub ListsRare-unmasked : (mask : Mask) (values : List ℕ) (end : ℕ) (heaps : List ℕ) → mask.bits ≡ 0 → ListsRare mask values end heaps
ListsRare-unmasked mask values end heaps none some a low high rare = absurd (omega arith)

-- the next heap is not rare, or listed
pub ListsRare-next : (mask : Mask) (values : List ℕ) (end : ℕ) (heaps more : List ℕ) → ListsRare mask values end heaps
    → ((a : ℕ) → Contains heaps a → Contains more a)
    → (0 < mask.bits → 1 ≤ end → is_rare mask end (slice_index values end) ≡ true → Contains more end)
    → ListsRare mask values (end + 1) more
ListsRare-next mask values end heaps more listed kept next some a low high rare = elim (cases_eq a end) [
  | inl e ↦ subst (Contains more) (sym e) (next some (omega arith) (subst (λ b. is_rare mask b (slice_index values b) ≡ true) e rare))
  | inr ne ↦ kept a (listed some a low (omega arith) rare)
]

pub ListsRare-push : (mask : Mask) (values : List ℕ) (v : ℕ) (heaps : List ℕ) → ListsRare mask values (length values) heaps → ListsRare mask (values ++ v ∷ []) (length values) heaps
ListsRare-push mask values v heaps listed some a low high rare =
    listed some a low high (subst (λ x. is_rare mask a x ≡ true) (get-before values (v ∷ []) a high) rare)

-- both lists
pub Lists-push : (mask : Mask) (values : List ℕ) (v : ℕ) (heaps beside : List ℕ) → Lists mask values (length values) heaps beside → Lists mask (values ++ v ∷ []) (length values) heaps beside
Lists-push mask values v heaps beside h = record {
  rare = ListsRare-push mask values v heaps h.rare;
  beside = AreBeside-push values heaps beside v h.beside;
}
