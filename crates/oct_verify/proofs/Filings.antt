-- Sets of blocks under their dots, and rising lists of them.
use Rattle.std.proofs.Common.{◌≡◌, ℕ, ◌<◌, suc, Bool, true, ◌||◌, List, [], ◌∷◌, length, get_or, refl, sym, ap, subst, ◌∙◌, arith}
use Rattle.std.specs.Ordering.{eq_by_cmp, is_eq, is_lt}
use Rattle.std.specs.declared.cmp.Ordering.TheVariants.{Less}
use Rattle.std.specs.Cmp.{Equal-is, tied_itself}
use Rattle.std.specs.List.{AllPairs, Contains, insert, list_all}
use Rattle.std.proofs.lemmas.List.Folds.{list_any_at, Any-from_list_any}
use Rattle.std.proofs.lemmas.List.Sorted.{list_any-IsPermutation, IsPermutation-insert}
use Rattle.std.proofs.lemmas.Bool.{and_from}
use Rattle.oct_ops.specs.SetLaws.{same_set, contains-set_of, contains-insert, listed-set_of, insert_held}
use Rattle.oct_ops.specs.Sets as set
use Rattle.oct_verify.specs.Filing.{Filing, Filings, filing_cmp}
use Rattle.oct_verify.specs.FilingLaws.{filing_cmp_total, filing_cmp_exact}

-- a filing of the list is one of its set, and the other way round
pub filed_from_contains : (fs : List Filing) (f : Filing) → Contains fs f → set.contains (set.set_of {R = filing_cmp} fs) f ≡ true
filed_from_contains fs f h =
    contains-set_of filing_cmp_total filing_cmp_exact fs f
    ∙ list_any_at (eq_by_cmp filing_cmp f) fs h.0 f h.1 (ap (λ g. eq_by_cmp filing_cmp f g) h.2 ∙ ap is_eq (tied_itself filing_cmp_total f))

pub contains_from_filed : (fs : List Filing) (f : Filing) → set.contains (set.set_of {R = filing_cmp} fs) f ≡ true → Contains fs f
contains_from_filed fs f h =
    let found = Any-from_list_any (eq_by_cmp filing_cmp f) fs (sym (contains-set_of filing_cmp_total filing_cmp_exact fs f) ∙ h) in
    let same : f ≡ found.1 = filing_cmp_exact f found.1 ((Equal-is (filing_cmp f found.1)).0 found.4) in
    (found.0, found.2, subst (λ g. get_or fs found.0 g ≡ g) (sym same) found.3)

-- an insert into the list is one into the set
pub set_of-insert : (fs : List Filing) (i : ℕ) (f : Filing) → set.set_of {R = filing_cmp} (insert fs i f) ≡ set.insert (set.set_of fs) f
set_of-insert fs i f = same_set filing_cmp_total filing_cmp_exact _ _ (λ q.
    contains-set_of filing_cmp_total filing_cmp_exact _ q
    ∙ sym (list_any-IsPermutation (eq_by_cmp filing_cmp q) (f ∷ fs) (insert fs i f) (IsPermutation-insert fs i f))
    ∙ sym (contains-insert filing_cmp_total filing_cmp_exact _ f q ∙ ap (λ b. eq_by_cmp filing_cmp q f || b) (contains-set_of filing_cmp_total filing_cmp_exact fs q)))

-- what is filed already may be filed again
pub insert_filed : (s : Filings) (f : Filing) → set.contains s f ≡ true → set.insert s f ≡ s
insert_filed = insert_held filing_cmp_total filing_cmp_exact

all-from : {X : Type 0} (p : X → Bool) (xs : List X) → ((k : ℕ) (d : X) → k < length xs → p (get_or xs k d) ≡ true) → list_all p xs ≡ true
all-from p [] h = refl
all-from p (x ∷ xs) h = and_from (p x) (list_all p xs) (h 0 x (omega arith)) (all-from p xs (λ k d lt. h (suc k) d (omega arith)))

rises-pairs : (fs : List Filing) → AllPairs (λ f g. filing_cmp f g ≡ Less) fs → set.rises filing_cmp fs ≡ true
rises-pairs [] h = refl
rises-pairs (f ∷ fs) h =
    and_from (list_all (λ g. is_lt (filing_cmp f g)) fs) (set.rises filing_cmp fs)
    (all-from (λ g. is_lt (filing_cmp f g)) fs (λ k d lt. ap is_lt (h 0 (suc k) d (omega arith) (omega arith))))
    (rises-pairs fs (λ i j d lt within. h (suc i) (suc j) d (omega arith) (omega arith)))

-- a rising list is that of its set
pub listed_again : (fs : List Filing) → AllPairs (λ f g. filing_cmp f g ≡ Less) fs → set.listed (set.set_of {R = filing_cmp} fs) ≡ fs
listed_again fs rising = listed-set_of filing_cmp_total filing_cmp_exact fs (rises-pairs fs rising)

-- what was filed last is here
pub filed_itself : (s : Filings) (f : Filing) → set.contains (set.insert s f) f ≡ true
filed_itself s f = contains-insert filing_cmp_total filing_cmp_exact s f f ∙ ap (λ b. b || set.contains s f) (ap is_eq (tied_itself filing_cmp_total f))
