-- The keys of a map that has the games of a set.
use Rattle.std.proofs.Common.{◌≡◌, ℕ, suc, Bool, true, false, ◌||◌, List, [], ◌∷◌, cond, Some, refl, sym, ap, ◌∙◌}
use Rattle.std.specs.Prelude.{is_some, slice_get}
use Rattle.std.specs.List.{AllByRecursion, list_any, filter_map, cons_option}
use Rattle.std.specs.Ordering.{eq_by_cmp}
use Rattle.std.specs.Cmp.{eq_by_cmp_equiv}
use Rattle.std.specs.Map.{lookup, keys_of}
use Rattle.std.specs.BTreeMap as tree
use Rattle.std.specs.BTreeMap.{BTreeMap}
use Rattle.oct_code.specs.Code.{Code, code_cmp}
use Rattle.oct_code.specs.CodeOrder.{code_cmp_total, code_cmp_exact}
use Rattle.oct_ops.specs.Body as kind
use Rattle.oct_ops.specs.Body.{Body, Operation}
use Rattle.oct_ops.specs.Operation.{Dot}
use Rattle.oct_ops.specs.Operations.{Operations, listed}
use Rattle.oct_ops.specs.Sets as sets
use Rattle.oct_ops.specs.SetLaws.{contains-set_of, listed-arranged, listed-set_of, rises-sorted, same_set}
use Rattle.oct_ops.specs.Games.{game_of, of_code}
use Rattle.oct_record.specs.Index.{has_game}
use Rattle.oct_pages.specs.Catalogue.{games}

pub each_of : {X : Type 0} (P : X → Type 0) (xs : List X) → ((i : ℕ) (x : X) → slice_get xs i ≡ Some x → P x) → AllByRecursion P xs
each_of P [] h = tt
each_of P (x ∷ xs) h = (h 0 x refl, each_of P xs (λ i y. h (suc i) y))

any_key : {V : Type 0} (x : Code) (es : List (Code × V)) → list_any (eq_by_cmp code_cmp x) (keys_of es) ≡ is_some (lookup (tree.is_at (code_cmp x)) es)
any_key x [] = refl
any_key x (e ∷ es) = ap (λ b. eq_by_cmp code_cmp x e.0 || b) (any_key x es) ∙ by (eq_by_cmp code_cmp x e.0)
  where
    by : (t : Bool) → (t || is_some (lookup (tree.is_at (code_cmp x)) es)) ≡ is_some (cond t (Some e.1) (lookup (tree.is_at (code_cmp x)) es))
    by true = refl
    by false = refl

-- a game that an operation is of is one of the games
any_game : (x : Code) (ops : List Operation) → list_any (of_code x) ops ≡ list_any (eq_by_cmp code_cmp x) (filter_map game_of ops)
any_game x [] = refl
any_game x (o ∷ ops) = by (any_game x ops) o.dot o.body
  where
    turn : (a : Code) → eq_by_cmp code_cmp a x ≡ eq_by_cmp code_cmp x a
    turn a = (eq_by_cmp_equiv code_cmp_total).symm a x

    by : list_any (of_code x) ops ≡ list_any (eq_by_cmp code_cmp x) (filter_map game_of ops) → (d : Dot) (body : Body) → (of_code x (record { dot = d; body = body }) || list_any (of_code x) ops)
        ≡ list_any (eq_by_cmp code_cmp x) (cons_option (game_of (record { dot = d; body = body })) (filter_map game_of ops))
    by rest d (kind.Block b) = λ i. turn b.code i || rest i
    by rest d (kind.Period p) = λ i. turn p.code i || rest i
    by rest d (kind.Note n) = rest
    by rest d (kind.Removal r) = rest

-- a map with something at each game of the set, and nothing elsewhere
module _ {V : Type 0} (ops : Operations) (m : BTreeMap Code V) (ordered : tree.IsOrdered code_cmp m) (there : (c : Code) → is_some (tree.get code_cmp m c) ≡ has_game ops c) where
  same_keys : sets.set_of {R = code_cmp} (tree.keys m) ≡ sets.set_of (filter_map game_of (listed ops))
  same_keys = same_set code_cmp_total code_cmp_exact _ _ (λ x.
      contains-set_of code_cmp_total code_cmp_exact (tree.keys m) x
      ∙ any_key x m.entries ∙ there x ∙ any_game x (listed ops)
      ∙ sym (contains-set_of code_cmp_total code_cmp_exact (filter_map game_of (listed ops)) x))

  pub keys_are : tree.keys m ≡ games (listed ops)
  keys_are =
      sym (listed-set_of code_cmp_total code_cmp_exact (tree.keys m) (rises-sorted code_cmp (tree.keys m) ordered))
      ∙ ap sets.listed same_keys ∙ listed-arranged code_cmp_total code_cmp_exact (filter_map game_of (listed ops))
