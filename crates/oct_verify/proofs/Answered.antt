-- What a shelf that is kept answers.
use Rattle.std.proofs.Common.{◌≡◌, ℕ, ◌<◌, ◌≤◌, zero, suc, Bool, true, false, cond, List, [], ◌∷◌, length, map, get_or, count_by, nat_le, refl, sym, ap, subst, ◌∙◌, arith, inl, inr}
use Rattle.std.specs.List.{AllWithin}
use Rattle.std.proofs.lemmas.Bool.{cases_lt, le-leb, lt-leb}
use Rattle.std.proofs.lemmas.List.{length-map}
use Rattle.std.proofs.lemmas.List.Sums.{sum_by-cons}
use Rattle.oct_code.specs.Code.{Code}
use Rattle.oct_ops.specs.Operation.{Block}
use Rattle.oct_ops.specs.Sets as set
use Rattle.oct_verify.specs.Filed.{Filed}
use Rattle.oct_verify.specs.Filing.{Filing}
use Rattle.oct_verify.specs.Kept.{filing_of, listed, blocks_of, IsPlaceOf}
use Rattle.oct_verify.specs.Known.{IsKnownLength, known, status}
use Rattle.chunked.specs.Chunked.{chunked}
use Rattle.oct_verify.specs.Shelf.{shelved, IsKept}
use Rattle.oct_verify.specs.declared.shelf.Shelf.{Shelf}
use Rattle.oct_verify.proofs.Filings.{listed_again}
use Rattle.oct_verify.proofs.Keeping.{known_settled}
use Rattle.oct_verify.proofs.KnownLaws.{known_one, status_by, waits, settled}
use Rattle.oct_verify.proofs.Searching.{AllWithin-listed}

-- the first n pass, and the others do not
count_by-split : {X : Type 0} (p : X → Bool) (xs : List X) (n : ℕ) → n ≤ length xs → AllWithin (λ x. p x ≡ true) xs 0 n → AllWithin (λ x. p x ≡ false) xs n (length xs) → count_by p xs ≡ n
count_by-split p [] n le pass fail = omega arith
count_by-split p (x ∷ xs) zero le pass fail = rw (sum_by-cons (λ x. cond (p x) 1 0) x xs, fail 0 x (omega arith) (omega arith)) (omega (arith, count_by-split p xs 0 (omega arith) (λ k d lo hi. absurd (omega arith)) (λ k d lo hi. fail (suc k) d (omega arith) (omega arith))))
count_by-split p (x ∷ xs) (suc n) le pass fail = rw (sum_by-cons (λ x. cond (p x) 1 0) x xs, pass 0 x (omega arith) (omega arith)) (omega (arith, count_by-split p xs n (omega arith) (λ k d lo hi. pass (suc k) d (omega arith) (omega arith)) (λ k d lo hi. fail (suc k) d (omega arith) (omega arith))))

blocks-listed : (es : List Filed) → map (λ (f : Filing). f.1) (listed es) ≡ blocks_of es
blocks-listed [] = refl
blocks-listed (e ∷ es) = ap (λ bs. e.block ∷ bs) (blocks-listed es)

module _ {A : Type 0} (s : Shelf A) (kept : IsKept s) where
  abbrev es : List Filed
  es = chunked s.entries

  abbrev code : Code
  code = s.comparer.values.code

  -- the set lists what the entries file, in their order
  pub listed_is : set.listed (shelved s) ≡ listed es
  listed_is = listed_again (listed es) kept.halfway.settling.rising

  abbrev pub shelved_blocks : List Block
  shelved_blocks = map (λ (f : Filing). f.1) (set.listed (shelved s))

  blocks_are : shelved_blocks ≡ blocks_of es
  blocks_are = ap (map (λ (f : Filing). f.1)) listed_is ∙ blocks-listed es

  pub is_known : IsKnownLength shelved_blocks s.known
  is_known = subst (λ bs. IsKnownLength bs s.known) (sym blocks_are) (known_settled code es s.comparer.checks s.known s.comparer.values.room kept.halfway.settling kept.parked)

  pub known_is : s.known ≡ known shelved_blocks
  known_is = known_one shelved_blocks s.known is_known

  status_at : (k : ℕ) (d : Filed) → k < length es → (get_or es k d).status ≡ status_by s.known (get_or es k d).block
  status_at k d lt = elim (cases_lt k s.comparer.checks) [
    | inl done ↦ let e = kept.halfway.settling.done k d (omega arith) done in e.judged ∙ sym (settled s.known (get_or es k d).block e.reached)
    | inr after ↦ kept.halfway.settling.waiting k d after lt ∙ sym (waits s.known (get_or es k d).block (kept.parked k d after lt))
  ]

  -- the status beside an entry is that of its block
  pub status_is : (f : Filing) (at : ℕ) (d : Filed) → IsPlaceOf es f at → (get_or es at d).status ≡ status shelved_blocks f.1
  status_is f at d place = status_at at d place.within ∙ (λ i. status_by (known_is i) (place.is d i).1)

  -- as many were compared as start at or below the known length
  pub checks_are : s.comparer.checks ≡ count_by (λ (f : Filing). nat_le f.1.start (known shelved_blocks)) (set.listed (shelved s))
  checks_are =
      let settling = kept.halfway.settling in
      let p : Filing → Bool = λ f. nat_le f.1.start s.known in
      let count : count_by p (listed es) ≡ s.comparer.checks =
      count_by-split p (listed es) s.comparer.checks (omega (arith, settling.mark, length-map es filing_of))
      (AllWithin-listed (λ f. p f ≡ true) es 0 s.comparer.checks settling.mark (λ k d lo hi. le-leb _ _ (settling.done k d lo hi).reached))
      (subst (λ n. AllWithin (λ f. p f ≡ false) (listed es) s.comparer.checks n) (sym (length-map es filing_of)) (AllWithin-listed (λ f. p f ≡ false) es s.comparer.checks (length es) (omega arith) (λ k d lo hi. lt-leb _ _ (kept.parked k d lo hi)))) in
      sym count ∙ (λ i. count_by (λ (f : Filing). nat_le f.1.start (known_is i)) (sym listed_is i))
