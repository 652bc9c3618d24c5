-- The whole numbers of an array, one after another.
use Rattle.std.proofs.Common.{◌≡◌, ℕ, suc, ◌+◌, ◌<◌, List, [], ◌∷◌, ◌++◌, length, drop, get_or, Option, Some, None, refl, sym, ap, ◌∙◌, append_assoc, append-nil, add-one}
use Rattle.std.specs.Prelude.{option_map}
use Rattle.std.proofs.Math.Seq.{drop-cons}
use Rattle.serde_json.specs.View.{view, items_view}
use Rattle.serde_json.specs.declared.value.Value.{Value}
use Rattle.census_issue.specs.Imported.{cons_if, whole, wholes}

-- before the first
pub none_yet : (numbers : List ℕ) (rest : Option (List ℕ)) → numbers ≡ [] → rest ≡ option_map (λ ns. numbers ++ ns) rest
none_yet numbers None is = refl
none_yet numbers (Some ns) is = ap (λ front. Some (front ++ ns)) (sym is)

one_more : (numbers : List ℕ) (n : ℕ) (rest : Option (List ℕ)) → option_map (λ ns. numbers ++ ns) (cons_if (Some n) rest) ≡ option_map (λ ns. (numbers ++ n ∷ []) ++ ns) rest
one_more numbers n None = refl
one_more numbers n (Some ns) = ap Some (sym (append_assoc numbers (n ∷ []) ns))

-- the next item, and those behind it
from_next : (vs : List Value) (i : ℕ) (v other : Value) → i < length vs → v ≡ get_or vs i other → wholes (items_view (drop i vs)) ≡ cons_if (whole (view v)) (wholes (items_view (drop (i + 1) vs)))
from_next vs i v other within is =
    let parted : drop i vs ≡ v ∷ drop (i + 1) vs = rw add-one (drop-cons vs i other within ∙ ap (λ y. y ∷ drop (suc i) vs) (sym is)) in
    ap (λ l. wholes (items_view l)) parted

pub next_number : (vs : List Value) (i : ℕ) (v other : Value) (numbers more : List ℕ) (n : ℕ) → i < length vs → v ≡ get_or vs i other → whole (view v) ≡ Some n → more ≡ numbers ++ n ∷ []
    → wholes (items_view vs) ≡ option_map (λ ns. numbers ++ ns) (wholes (items_view (drop i vs)))
    → wholes (items_view vs) ≡ option_map (λ ns. more ++ ns) (wholes (items_view (drop (i + 1) vs)))
next_number vs i v other numbers more n within is found grown so_far =
    let rest = wholes (items_view (drop (i + 1) vs)) in
    so_far
    ∙ ap (option_map (λ ns. numbers ++ ns)) (from_next vs i v other within is ∙ ap (λ w. cons_if w rest) found)
    ∙ one_more numbers n rest
    ∙ ap (λ front. option_map (λ ns. front ++ ns) rest) (sym grown)

-- an item that is none
pub no_number : (vs : List Value) (i : ℕ) (v other : Value) (numbers : List ℕ) → i < length vs → v ≡ get_or vs i other → whole (view v) ≡ None
    → wholes (items_view vs) ≡ option_map (λ ns. numbers ++ ns) (wholes (items_view (drop i vs))) → wholes (items_view vs) ≡ None
no_number vs i v other numbers within is none so_far =
    so_far ∙ ap (option_map (λ ns. numbers ++ ns)) (from_next vs i v other within is ∙ ap (λ w. cons_if w (wholes (items_view (drop (i + 1) vs)))) none)

-- behind the last
pub all_numbers : (vs : List Value) (i : ℕ) (numbers : List ℕ) → drop i vs ≡ [] → wholes (items_view vs) ≡ option_map (λ ns. numbers ++ ns) (wholes (items_view (drop i vs)))
    → wholes (items_view vs) ≡ Some numbers
all_numbers vs i numbers end so_far = so_far ∙ ap (λ l. option_map (λ ns. numbers ++ ns) (wholes (items_view l))) end ∙ ap Some (append-nil numbers)
