-- Lists that a loop makes of those items that yield something.
use Rattle.std.proofs.Common.{◌≡◌, List, [], ◌∷◌, ◌++◌, map, Option, Some, sym, ap, ◌∙◌, append_assoc}
use Rattle.std.specs.List.{cons_option}
use Rattle.oct_code.specs.Code.{Code}

-- the item yields something
pub one_pushed : {X Y : Type 0} (f : X → Y) (m : Option X) (x : X) (y : Y) (rest : List X) (old new all : List Y) → Some x ≡ m → y ≡ f x → new ≡ old ++ y ∷ []
    → old ++ map f (cons_option m rest) ≡ all → new ++ map f rest ≡ all
one_pushed f m x y rest old new all some is pushed so_far =
    ap (λ l. l ++ map f rest) pushed ∙ append_assoc old (y ∷ []) (map f rest)
    ∙ (λ i. old ++ is i ∷ map f rest) ∙ ap (λ o. old ++ map f (cons_option o rest)) some ∙ so_far

-- one code more, of a game with whatever is held of it
pub code_pushed : {V : Type 0} (codes : List Code) (entry : Code × V) (rest entries : List (Code × V)) (pushed all : List Code) → entries ≡ entry ∷ rest
    → pushed ≡ codes ++ entry.0 ∷ [] → codes ++ map (λ (e : Code × V). e.0) entries ≡ all → pushed ++ map (λ (e : Code × V). e.0) rest ≡ all
code_pushed {V} codes entry rest entries pushed all steps more is =
    ap (λ t. t ++ map (λ (e : Code × V). e.0) rest) more
    ∙ append_assoc codes (entry.0 ∷ []) (map (λ (e : Code × V). e.0) rest)
    ∙ ap (λ es. codes ++ map (λ (e : Code × V). e.0) es) (sym steps) ∙ is
