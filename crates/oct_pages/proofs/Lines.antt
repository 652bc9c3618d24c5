-- Lines of rows.
use Rattle.std.proofs.Common.{◌≡◌, ℕ, suc, ◌<◌, ◌+◌, add-one, get_or, sym, List, [], ◌∷◌, map, length, drop, ap, ◌∙◌}
use Rattle.std.proofs.Math.Seq.{drop-cons}
use Rattle.oct_pages.specs.Catalogue.{Text}
use Rattle.oct_pages.specs.Pager.{AreShown}
use Rattle.oct_pages.specs.declared.pager.Pager.{Pager}
use Rattle.oct_pages.proofs.Pagers.{Showing, showing_next}

-- the first of those that are left
pub row_next : {X : Type 0} (xs : List X) (i : ℕ) (x other : X) → i < length xs → x ≡ get_or xs i other → drop i xs ≡ x ∷ drop (i + 1) xs
row_next xs i x other within is = rw add-one (drop-cons xs i other within ∙ ap (λ y. y ∷ drop (suc i) xs) (sym is))

-- a loop over rows, after the line of one more
pub rows_next : {X : Type 0} (line : X → Text) (w v u : Pager) (old new next : Text) (rows : List X) (i : ℕ) (x other : X)
    → i < length rows → x ≡ get_or rows i other → Showing w v old new (map line rows) (map line (drop i rows)) → AreShown v u new next (line x ∷ [])
    → Showing w u old next (map line rows) (map line (drop (i + 1) rows))
rows_next line w v u old new next rows i x other within is so_far shown =
    showing_next w v u old new next (map line rows) (map line (drop i rows)) (line x ∷ []) (map line (drop (i + 1) rows)) (ap (map line) (row_next rows i x other within is)) so_far shown
