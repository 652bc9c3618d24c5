use Rattle.std.proofs.Common.{◌≡◌, ℕ, ◌<◌, Bool, true, ◌||◌, List, [], ◌∷◌, map, length, get_or, refl, ap, sym, ◌∙◌}
use Rattle.std.specs.List.{list_any}
use Rattle.std.proofs.lemmas.List.Folds.{list_any_at}
use Rattle.census_noted.specs.Noting.{says}
use Rattle.census_noted.proofs.noting.are_any.Goals as goal

any-map : {X Y : Type 0} (f : X → Y) (p : Y → Bool) (xs : List X) → list_any p (map f xs) ≡ list_any (λ x. p (f x)) xs
any-map f p [] = refl
any-map f p (x ∷ xs) = ap (λ t. p (f x) || t) (any-map f p xs)

any_at : {X Y : Type 0} (f : X → Y) (p : Y → Bool) (xs : List X) (i : ℕ) (d : X) → i < length xs → p (f (get_or xs i d)) ≡ true → list_any p (map f xs) ≡ true
any_at f p xs i d within passes = any-map f p xs ∙ list_any_at (λ x. p (f x)) xs i d within passes

pub returns-then-says : goal.returns-then-says
returns-then-says g c =
    let item = c.op-item.result in
    let p = says c.args.name.now c.args.text.now in
    sym (any_at (λ op. op.now) p c.args.live.now c.loop-op.op-index item c.loop-op-test.true (sym (ap (λ op. p op.now) c.op-item.is) ∙ sym c.says.ensures ∙ c.if-says.true))
