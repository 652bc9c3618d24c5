-- The games of a set of operations are those of its operations.
use Rattle.std.proofs.Common.{◌≡◌, true, List, [], ◌∷◌, Option, Some, None, inl, inr, refl, sym, ap, ◌∙◌, subst}
use Rattle.std.specs.List.{cons_option, filter_map}
use Rattle.std.specs.declared.cmp.Ordering.{Ordering}
use Rattle.std.specs.Ordering.{eq_by_cmp, is_eq}
use Rattle.std.specs.Cmp.{IsTotalOrder, Equal-is}
use Rattle.std.specs.FinMap.{IsAntisymmetric}
use Rattle.std.proofs.lemmas.Cmp.{tied_itself}
use Rattle.oct_code.specs.Code.{Code}
use Rattle.oct_code.specs.CodeOrder.{code_cmp_total, code_cmp_exact}
use Rattle.oct_ops.specs.Arranged.{arranged}
use Rattle.oct_ops.specs.Sets as sets
use Rattle.oct_ops.specs.SetLaws as laws
use Rattle.oct_ops.specs.Body.{Operation}
use Rattle.oct_ops.specs.Games.{game_of}
use Rattle.oct_ops.proofs.Members.{In, any_source, any-In}
use Rattle.oct_pages.specs.Catalogue.{games}

In-cons_option : {Y : Type 0} (o : Option Y) (ys : List Y) (y : Y) → In y ys → In y (cons_option o ys)
In-cons_option None ys y i = i
In-cons_option (Some v) ys y i = inr i

pub In-filter_map : {X Y : Type 0} (f : X → Option Y) (xs : List X) (x : X) (y : Y) → In x xs → f x ≡ Some y → In y (filter_map f xs)
In-filter_map f [] x y h k = absurd h
In-filter_map f (z ∷ xs) x y h k = elim h [
  | inl e ↦ subst (λ o. In y (cons_option o (filter_map f xs))) (sym (ap f (sym e) ∙ k)) (inl refl)
  | inr t ↦ In-cons_option (f z) (filter_map f xs) y (In-filter_map f xs x y t k)
]

pub In-filter_map_source : {X Y : Type 0} (f : X → Option Y) (xs : List X) (y : Y) → In y (filter_map f xs) → (x : X) × In x xs × (f x ≡ Some y)
In-filter_map_source f [] y h = absurd h
In-filter_map_source f (z ∷ xs) y h =
    elim (f z) as (λ o. f z ≡ o → In y (cons_option o (filter_map f xs)) → (x : _) × In x (z ∷ xs) × (f x ≡ Some y)) [
      | None ↦ λ e i. let s = In-filter_map_source f xs y i in (s.0, inr s.1, s.2)
      | Some v ↦ λ e i. elim i [ inl same ↦ (z, inl refl, e ∙ ap Some (sym same)) | inr t ↦ let s = In-filter_map_source f xs y t in (s.0, inr s.1, s.2) ]
    ] refl h

-- a list in order has what the list has
pub In-arranged : {K : Type 0} {R : K → K → Ordering} (total : IsTotalOrder R) (exact : IsAntisymmetric R) (xs : List K) (x : K) → In x xs → In x (arranged R xs)
In-arranged {K} {R} total exact xs x h =
    let has : sets.contains (sets.set_of {R = R} xs) x ≡ true = laws.contains-set_of total exact xs x ∙ any-In (eq_by_cmp R x) xs x h (ap is_eq (tied_itself total x)) in
    let s = any_source (eq_by_cmp R x) (sets.listed (sets.set_of {R = R} xs)) (sym (laws.contains-listed (sets.set_of {R = R} xs) x) ∙ has) in
    let same : x ≡ s.0 = exact x s.0 ((Equal-is (R x s.0)).0 s.2) in
    subst (In x) (laws.listed-arranged total exact xs) (subst (λ y. In y (sets.listed (sets.set_of {R = R} xs))) (sym same) s.1)

-- the game of an operation is one of them
pub In-games : (c : Code) (ops : List Operation) (o : Operation) → In o ops → game_of o ≡ Some c → In c (games ops)
In-games c ops o h is = In-arranged code_cmp_total code_cmp_exact (filter_map game_of ops) c (In-filter_map game_of ops o c h is)
