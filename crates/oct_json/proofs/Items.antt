-- The items of an array, written one after another.
use Rattle.std.proofs.Common.{◌≡◌, ℕ, ◌+◌, ◌<◌, get_or, Bool, true, false, List, [], ◌∷◌, ◌++◌, drop, length, map, sym, ap, ◌∙◌, append_assoc}
use Rattle.std.proofs.lemmas.List.{drop_more}
use Rattle.serde_json.specs.Data.{Data, array}
use Rattle.serde_json.specs.View.{items_of}
use Rattle.serde_json.specs.Written.{comma_if, compact_text, items_text}

-- a text and the bracket are written, and no item yet
pub array_begun : (left whole : List Data) (old before labelled out : List ℕ) → left ≡ whole → labelled ≡ old ++ before → out ≡ labelled ++ 91 ∷ []
    → out ++ items_text false (items_of left) ≡ old ++ (before ++ compact_text (array (items_of whole)))
array_begun left whole old before labelled out same e f =
    let items = items_text false (items_of whole) in
    ap (λ ds. out ++ items_text false (items_of ds)) same ∙ ap (λ t. t ++ items) (f ∙ ap (λ t. t ++ 91 ∷ []) e)
    ∙ append_assoc (old ++ before) (91 ∷ []) items ∙ append_assoc old before (91 ∷ items)

-- one item more is written, so that one fewer is left
pub item_written : {X : Type 0} (form : X → Data) (later : Bool) (x : X) (rest : List X) (out next whole : List ℕ)
    → next ≡ out ++ (comma_if later ++ compact_text (form x)) → out ++ items_text later (items_of (map form (x ∷ rest))) ≡ whole
    → next ++ items_text true (items_of (map form rest)) ≡ whole
item_written form later x rest out next whole e so_far =
    let left = items_text true (items_of (map form rest)) in
    ap (λ t. t ++ left) e ∙ append_assoc out (comma_if later ++ compact_text (form x)) left
    ∙ ap (λ t. out ++ t) (append_assoc (comma_if later) (compact_text (form x)) left) ∙ so_far

-- the same of the item at a place
pub item_written_at : {X : Type 0} (form : X → Data) (later : Bool) (xs : List X) (i : ℕ) (x other : X) (out next whole : List ℕ)
    → i < length xs → x ≡ get_or xs i other → next ≡ out ++ (comma_if later ++ compact_text (form x))
    → out ++ items_text later (items_of (map form (drop i xs))) ≡ whole → next ++ items_text true (items_of (map form (drop (i + 1) xs))) ≡ whole
item_written_at form later xs i x other out next whole within is e so_far =
    let here = drop_more xs i other within ∙ ap (λ y. y ∷ drop (i + 1) xs) (sym is) in
    item_written form later x (drop (i + 1) xs) out next whole e (ap (λ ys. out ++ items_text later (items_of (map form ys))) (sym here) ∙ so_far)

-- none is left, and the bracket closes it
pub array_ended : {X : Type 0} (form : X → Data) (later : Bool) (rest : List X) (out next whole : List ℕ)
    → rest ≡ [] → next ≡ out ++ 93 ∷ [] → out ++ items_text later (items_of (map form rest)) ≡ whole → next ≡ whole
array_ended form later rest out next whole none e so_far = e ∙ ap (λ xs. out ++ items_text later (items_of (map form xs))) (sym none) ∙ so_far
