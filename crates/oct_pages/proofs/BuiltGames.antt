-- Games that are built one after another, each from its operations.
use Rattle.std.proofs.Common.{◌≡◌, Bool, true, false, List, [], ◌∷◌, cond, Some, None, refl, sym, ap, ◌∙◌, subst}
use Rattle.std.specs.Prelude.{IfSome, is_some}
use Rattle.std.specs.Map.{lookup}
use Rattle.std.specs.List.{AllByRecursion}
use Rattle.std.specs.BTreeMap as tree
use Rattle.std.specs.BTreeMap.{BTreeMap}
use Rattle.std.proofs.lemmas.Map.Entries.{btree_map_get_place}
use Rattle.oct_code.specs.Code.{Code, code_cmp}
use Rattle.oct_code.specs.CodeOrder.{code_cmp_total}
use Rattle.oct_ops.specs.Operations.{Operations, listed}
use Rattle.oct_period.specs.GameContent.{GameContent}
use Rattle.oct_store.specs.Summary as summary
use Rattle.oct_record.specs.Index.{has_game, index_of}
use Rattle.oct_pages.specs.Catalogue.{games}
use Rattle.oct_pages.specs.GamesIn.{AreGamesIn, IsGameOf, content_in}
use Rattle.oct_pages.proofs.Keys.{each_of, keys_are}

-- ---- the games of a set, each with its operations

-- each entry has what the set has of its game
abbrev pub AreHeld : Operations → List (Code × Operations) → Type 0
AreHeld ops entries = AllByRecursion (λ (e : Code × Operations). e.1 ≡ summary.of_game ops e.0) entries

held_is : (ops : Operations) (c : Code) (held : Operations) → Some held ≡ index_of ops c → held ≡ summary.of_game ops c
held_is ops c held found = by (has_game ops c) found
  where
    by : (b : Bool) → Some held ≡ cond b (Some (summary.of_game ops c)) None → held ≡ summary.of_game ops c
    by true e = cc
    by false e = cc

there : (ops : Operations) (c : Code) (b : Bool) → is_some (cond b (Some (summary.of_game ops c)) None) ≡ b
there ops c true = refl
there ops c false = refl

module _ (ops : Operations) (m : BTreeMap Code Operations) (ordered : tree.IsOrdered code_cmp m) (index : (c : Code) → tree.get code_cmp m c ≡ index_of ops c) where
  pub codes_are : tree.keys m ≡ games (listed ops)
  codes_are = keys_are ops m ordered (λ c. ap is_some (index c) ∙ there ops c (has_game ops c))

  pub all_held : AreHeld ops m.entries
  all_held = each_of (λ (e : Code × Operations). e.1 ≡ summary.of_game ops e.0) m.entries (λ i e at. held_is ops e.0 e.1 (sym (btree_map_get_place code_cmp_total m i e.0 e.1 ordered at) ∙ index e.0))

module _ (ops : Operations) (entries rest : List (Code × Operations)) (code : Code) (held : Operations) (steps : entries ≡ (code, held) ∷ rest) (each : AreHeld ops entries) where
  pub next_is : held ≡ summary.of_game ops code
  next_is = (subst (AreHeld ops) steps each).0

  pub rest_held : AreHeld ops rest
  rest_held = (subst (AreHeld ops) steps each).1

-- ---- a game that was built

pub built_is_of : (ops : Operations) (c : Code) (game : GameContent) → game ≡ content_in ops c → IsGameOf (listed ops) c game
built_is_of ops c game is = record {
  code = ap (λ (h : GameContent). h.code) is;
  blocks = ap (λ (h : GameContent). h.blocks) is;
  claims = ap (λ (h : GameContent). h.claims) is;
}

-- ---- a game that is kept

pub kept_is : (ops : Operations) (kept : BTreeMap Code GameContent) (c : Code) (game : GameContent) → AreGamesIn ops kept → Some game ≡ tree.get code_cmp kept c → game ≡ content_in ops c
kept_is ops kept c game are found = subst (λ m. IfSome m (λ held. held ≡ content_in ops c)) (sym found) (are c)

-- none has to be
pub none_kept : (ops : Operations) (kept : BTreeMap Code GameContent) → kept.entries ≡ [] → AreGamesIn ops kept
none_kept ops kept none c = subst (λ es. IfSome (lookup (tree.is_at (code_cmp c)) es) (λ held. held ≡ content_in ops c)) (sym none) tt
