-- Games that are kept beside the set that they are of.
use Rattle.std.proofs.Common.{◌≡◌, Bool, true, false, cond, Some, refl, sym, ap, ◌∙◌, subst}
use Rattle.std.specs.Prelude.{IfSome}
use Rattle.std.specs.BTreeMap as tree
use Rattle.std.specs.BTreeMap.{BTreeMap}
use Rattle.std.specs.Ordering.{eq_by_cmp}
use Rattle.std.specs.Cmp.{Equal-is}
use Rattle.oct_code.specs.Code.{Code, code_cmp}
use Rattle.oct_code.specs.CodeOrder.{code_cmp_exact}
use Rattle.oct_ops.specs.Operations.{Operations}
use Rattle.oct_pages.specs.GamesIn.{AreGamesIn, content_in}
use Rattle.oct_period.specs.GameContent.{GameContent}

-- one game more is kept
pub kept_more : (ops : Operations) (old new : BTreeMap Code GameContent) (code : Code) (game : GameContent)
    → ((q : Code) → tree.get code_cmp new q ≡ cond (eq_by_cmp code_cmp code q) (Some game) (tree.get code_cmp old q))
    → game ≡ content_in ops code → AreGamesIn ops old → AreGamesIn ops new
kept_more ops old new code game updates is are q =
    subst (λ m. IfSome m (λ held. held ≡ content_in ops q)) (sym (updates q)) (by (eq_by_cmp code_cmp code q) refl)
  where
    by : (b : Bool) → eq_by_cmp code_cmp code q ≡ b → IfSome (cond b (Some game) (tree.get code_cmp old q)) (λ held. held ≡ content_in ops q)
    by true e = is ∙ ap (content_in ops) (code_cmp_exact code q ((Equal-is (code_cmp code q)).0 e))
    by false e = are q
