-- Lists that a loop makes of those items that yield something.
use Rattle.std.proofs.Common.{◌≡◌, ℕ, List, [], ◌∷◌, ◌++◌, map, ap, ◌∙◌, append_assoc}
use Rattle.std.specs.List.{flat_map}
use Rattle.std.proofs.lemmas.List.{map-append}

-- each item yields something
pub row_pushed : {X Y Z : Type 0} (f : X → Y) (g : Z → Y) (x : X) (z : Z) (rest : List Z) (old new : List X) (all : List Y) → f x ≡ g z → new ≡ old ++ x ∷ []
    → map f old ++ map g (z ∷ rest) ≡ all → map f new ++ map g rest ≡ all
row_pushed f g x z rest old new all same pushed so_far =
    ap (λ l. map f l ++ map g rest) pushed ∙ ap (λ l. l ++ map g rest) (map-append f old (x ∷ [])) ∙ append_assoc (map f old) (f x ∷ []) (map g rest)
    ∙ ap (λ y. map f old ++ y ∷ map g rest) same ∙ so_far

-- each item has a text
pub text_pushed : {Z : Type 0} (text : Z → List ℕ) (z : Z) (rest : List Z) (old new all : List ℕ) → new ≡ old ++ text z → old ++ flat_map text (z ∷ rest) ≡ all
    → new ++ flat_map text rest ≡ all
text_pushed text z rest old new all pushed so_far = ap (λ l. l ++ flat_map text rest) pushed ∙ append_assoc old (text z) (flat_map text rest) ∙ so_far

-- each item makes one
pub one_pushed : {X Z : Type 0} (make : Z → X) (z : Z) (rest : List Z) (old new all : List X) → new ≡ old ++ make z ∷ [] → old ++ map make (z ∷ rest) ≡ all
    → new ++ map make rest ≡ all
one_pushed make z rest old new all pushed so_far = ap (λ l. l ++ map make rest) pushed ∙ append_assoc old (make z ∷ []) (map make rest) ∙ so_far
