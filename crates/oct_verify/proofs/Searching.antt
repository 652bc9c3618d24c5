-- What a binary search among rising entries finds.
use Rattle.std.proofs.Common.{◌≡◌, ◌≢◌, ℕ, ◌<◌, ◌≤◌, true, false, List, length, get_or, refl, sym, ap, subst, ◌∙◌, arith, inl, inr}
use Rattle.std.specs.List.{AllPairs, AllWithin}
use Rattle.std.specs.List.Sorted.{IsPartitionedBy}
use Rattle.std.specs.Ordering.{is_lt, ordering_reverse}
use Rattle.std.specs.declared.cmp.Ordering.{Ordering}
use Rattle.std.specs.declared.cmp.Ordering.TheVariants.{Less, Equal, Greater}
use Rattle.std.proofs.lemmas.List.{length-map, get_or-map}
use Rattle.chunked.specs.Chunked.{IsFound, IsGapAt}
use Rattle.oct_ops.specs.Sets.{contains}
use Rattle.oct_verify.specs.Filing.{Filing, filing_cmp}
use Rattle.oct_verify.specs.Kept.{IsGap, IsPlaceOf, filing_of, listed, filings_of}
use Rattle.oct_verify.specs.Filed.{Filed}
use Rattle.oct_verify.specs.declared.status.Status.TheVariants.{Pending}
use Rattle.std.specs.Cmp.{tied_itself}
use Rattle.std.proofs.lemmas.Bool.{cases_lt, true≢false}
use Rattle.oct_code.specs.Tests.{less_from_lt}
use Rattle.oct_verify.proofs.Filings.{contains_from_filed, filed_from_contains}
use Rattle.oct_verify.specs.FilingLaws.{filing_cmp_total, filing_cmp_exact}

entry_of : Filing → Filed
entry_of f = record { dot = f.0; block = f.1; status = Pending }

-- what holds of what entries file holds in the list of that
pub AllWithin-listed : (P : Filing → Type 0) (es : List Filed) (low high : ℕ) → high ≤ length es → AllWithin (λ e. P (filing_of e)) es low high → AllWithin P (listed es) low high
AllWithin-listed P es low high le h k d lo hi = subst P (sym (get_or-map filing_of es k (entry_of d) d (omega arith))) (h k (entry_of d) lo hi)

turned : (f g : Filing) (r : Ordering) → filing_cmp g f ≡ r → filing_cmp f g ≡ ordering_reverse r
turned f g r e = filing_cmp_total.antisymm f g ∙ ap ordering_reverse e

greater_from_not : (r : Ordering) → is_lt r ≡ false → r ≢ Equal → r ≡ Greater
greater_from_not Less e ne = absurd (true≢false e)
greater_from_not Equal e ne = absurd (ne refl)
greater_from_not Greater e ne = refl

module _ (es : List Filed) (rising : AllPairs (λ f g. filing_cmp f g ≡ Less) (listed es)) (f : Filing) where
  less_at : (i j : ℕ) (d : Filed) → i < j → j < length es → filing_cmp (filing_of (get_or es i d)) (filing_of (get_or es j d)) ≡ Less
  less_at i j d lt hi =
      let less = rising i j (filing_of d) lt (omega (arith, length-map es filing_of)) in
      let less' = subst (λ g. filing_cmp g (get_or (listed es) j (filing_of d)) ≡ Less) (get_or-map filing_of es i d (filing_of d) (omega arith)) less in
      subst (λ g. filing_cmp (filing_of (get_or es i d)) g ≡ Less) (get_or-map filing_of es j d (filing_of d) hi) less'

  abbrev order : Filed → Ordering
  order e = filing_cmp (filing_of e) f

  -- no entry that is before f comes after one that is not
  pub parted_before : IsPartitionedBy (λ e. is_lt (order e)) es
  parted_before i j d le lt passes = elim (cases_lt i j) [
    | inr same ↦ ap (λ k. is_lt (order (get_or es k d))) (let e : i ≡ j = omega arith in e) ∙ passes
    | inl earlier ↦ ap is_lt (filing_cmp_total.trans (filing_of (get_or es i d)) (filing_of (get_or es j d)) f (less_at i j d earlier lt) (less_from_lt _ passes))
  ]

  -- where f is not, it has a gap
  pub gap_at : (at : ℕ) → IsGapAt order es at → IsGap es f at
  gap_at at found =
      let le = found.0 in
      let point = found.1 in
      let here : (d : Filed) → at < length es → filing_cmp f (filing_of (get_or es at d)) ≡ Less = λ d lt. turned f (filing_of (get_or es at d)) Greater (greater_from_not _ (point.1 at d (omega arith) lt) (found.2 d lt)) in (
        AllWithin-listed (λ g. filing_cmp g f ≡ Less) es 0 at le (λ k d lo hi. point.0 k d lo hi),
        subst (λ n. AllWithin (λ g. filing_cmp f g ≡ Less) (listed es) at n) (sym (length-map es filing_of))
            (AllWithin-listed (λ g. filing_cmp f g ≡ Less) es at (length es) (omega arith) (λ k d lo hi. elim (cases_lt at k) [
              | inr same ↦ ap (λ i. filing_cmp f (filing_of (get_or es i d))) (let e : k ≡ at = omega arith in e) ∙ here d (omega arith)
              | inl later ↦ filing_cmp_total.trans f (filing_of (get_or es at d)) (filing_of (get_or es k d)) (here d (omega arith)) (less_at at k d later hi)
            ])),
      )

  pub place_at : (at : ℕ) → IsFound order es at → IsPlaceOf es f at
  place_at at found = record { within = found.0; is = λ d. filing_cmp_exact _ f (found.1 d) }

  pub filed_at : (at : ℕ) → IsPlaceOf es f at → contains (filings_of es) f ≡ true
  filed_at at h = filed_from_contains (listed es) f (at, omega (arith, h.within, length-map es filing_of), get_or-map filing_of es at (entry_of f) f h.within ∙ h.is (entry_of f))

-- what has a gap is not here
pub gap_not_filed : (es : List Filed) (f : Filing) (at : ℕ) → IsGap es f at → contains (filings_of es) f ≡ true → ⊥
gap_not_filed es f at gap filed =
    let h = contains_from_filed (listed es) f filed in
    let itself = tied_itself filing_cmp_total f in
    elim (cases_lt h.0 at) [
      | inl lt ↦ let less = subst (λ g. filing_cmp g f ≡ Less) h.2 (gap.0 h.0 f (omega arith) lt) in cc
      | inr le ↦ let less = subst (λ g. filing_cmp f g ≡ Less) h.2 (gap.1 h.0 f le h.1) in cc
    ]
