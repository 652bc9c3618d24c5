-- Games that are built from their operations, one after another.
use Rattle.std.proofs.Common.{◌≡◌, Bool, true, false, List, [], ◌∷◌, cond, Option, Some, None, refl, sym, ap, ◌∙◌}
use Rattle.std.specs.Prelude.{filter, unwrap_or}
use Rattle.std.specs.List.{cons_option, list_all}
use Rattle.std.specs.Option.{option_eq}
use Rattle.std.specs.Cmp.{Equal-is, IsTotalOrder, first_so, second_so}
use Rattle.std.specs.FinSet.{IsAntisymmetric}
use Rattle.std.specs.declared.cmp.Ordering.{Ordering}
use Rattle.oct_code.specs.Code.{Code, code_cmp, code_eq}
use Rattle.oct_code.specs.CodeOrder.{code_cmp_exact}
use Rattle.oct_ops.specs.Body as kind
use Rattle.oct_ops.specs.Body.{Body, Operation}
use Rattle.oct_ops.specs.Operation.{Dot}
use Rattle.oct_ops.specs.Operations.{Operations, empty, listed}
use Rattle.oct_ops.specs.OrderLaws.{op_cmp_total, op_cmp_exact}
use Rattle.oct_ops.specs.Sets as sets
use Rattle.oct_ops.specs.SetLaws.{insert_comm, listed-empty, listed-keep}
use Rattle.oct_ops.specs.Games.{game_of, is_of_game, of_code}
use Rattle.oct_store.specs.Summary.{of_game}
use Rattle.oct_verify.specs.FilingLaws.{filing_cmp_total, filing_cmp_exact}
use Rattle.oct_period.specs.ClaimLaws.{claim_cmp_total, claim_cmp_exact}
use Rattle.oct_period.specs.GameContent.{GameContent, with_body}
use Rattle.oct_pages.specs.Catalogue.{blocks_of, claims_of, if_some, under}
use Rattle.oct_pages.specs.GamesIn.{content_in, new_game}
use Rattle.oct_pages.proofs.GroupLaws.{blocks_of-among, claims_of-among}

-- ---- a game with operations more

abbrev pub built : GameContent → List Operation → GameContent
built game [] = game
built game (o ∷ ops) = built (with_body game o.dot o.body) ops

insert-more : {K : Type 0} {R : K → K → Ordering} (total : IsTotalOrder R) (exact : IsAntisymmetric R) (s : sets.Set R) (x : K) (xs : List K) → sets.insert_all (sets.insert s x) xs ≡ sets.insert (sets.insert_all s xs) x
insert-more total exact s x [] = refl
insert-more total exact s x (y ∷ xs) = ap (λ t. sets.insert t y) (insert-more total exact s x xs) ∙ insert_comm total exact (sets.insert_all s xs) x y

-- with the blocks and claims among the operations
abbrev with_all : Code → GameContent → List Operation → GameContent
with_all c game ops = record { code = game.code; blocks = sets.insert_all game.blocks (blocks_of c ops); claims = sets.insert_all game.claims (claims_of c ops) }

with_next : (c : Code) (game : GameContent) (d : Dot) (body : Body) (ops : List Operation) → is_of_game c body ≡ true → with_all c (with_body game d body) ops ≡ with_all c game (record { dot = d; body = body } ∷ ops)
with_next c game d (kind.Block b) ops same = λ i. record {
  code = game.code;
  blocks =
      (insert-more filing_cmp_total filing_cmp_exact game.blocks (d, b) (blocks_of c ops)
      ∙ ap (λ t. sets.insert_all game.blocks (cons_option (under d (if_some t b)) (blocks_of c ops))) (sym same)) i;
  claims = sets.insert_all game.claims (claims_of c ops);
}
with_next c game d (kind.Period p) ops same = λ i. record {
  code = game.code;
  blocks = sets.insert_all game.blocks (blocks_of c ops);
  claims =
      (insert-more claim_cmp_total claim_cmp_exact game.claims (d, p) (claims_of c ops)
      ∙ ap (λ t. sets.insert_all game.claims (cons_option (under d (if_some t p)) (claims_of c ops))) (sym same)) i;
}
with_next c game d (kind.Note n) ops same = cc
with_next c game d (kind.Removal r) ops same = cc

built_is : (c : Code) (game : GameContent) (ops : List Operation) → list_all (of_code c) ops ≡ true → built game ops ≡ with_all c game ops
built_is c game [] h = refl
built_is c game (o ∷ ops) h =
    built_is c (with_body game o.dot o.body) ops (second_so (of_code c o) (list_all (of_code c) ops) h)
    ∙ with_next c game o.dot o.body ops (first_so (of_code c o) (list_all (of_code c) ops) h)

-- ---- one operation after another

-- what is still to come leads to what all of them lead to
pub record Building (c : Code) (ops rest : List Operation) (game : GameContent) : Type 0 where
  pub is : built game rest ≡ built (new_game c) ops
  pub code : game.code ≡ c
  pub each : list_all (of_code c) rest ≡ true

pub begins : (c : Code) (ops rest : List Operation) (game : GameContent) → rest ≡ ops → game ≡ new_game c → list_all (of_code c) ops ≡ true → Building c ops rest game
begins c ops rest game all new each = record {
  is = λ i. built (new i) (all i);
  code = ap (λ (h : GameContent). h.code) new;
  each = ap (list_all (of_code c)) all ∙ each;
}

its_game : (c : Code) (found : Option Code) → option_eq code_eq found (Some c) ≡ true → found ≡ Some c
its_game c None h = cc
its_game c (Some x) h = ap Some (code_cmp_exact x c ((Equal-is (code_cmp x c)).0 h))

same_code : (game : GameContent) (d : Dot) (body : Body) → (with_body game d body).code ≡ game.code
same_code game d (kind.Block b) = refl
same_code game d (kind.Period p) = refl
same_code game d (kind.Note n) = refl
same_code game d (kind.Removal r) = refl

module _ (c : Code) (ops rest next : List Operation) (game : GameContent) (o : Operation) (step : rest ≡ o ∷ next) (building : Building c ops rest game) where
  here : list_all (of_code c) (o ∷ next) ≡ true
  here = ap (list_all (of_code c)) (sym step) ∙ building.each

  pub next_game : game_of o ≡ Some game.code
  next_game = its_game c (game_of o) (first_so (of_code c o) (list_all (of_code c) next) here) ∙ ap Some (sym building.code)

  pub builds_next : (new : GameContent) → new ≡ with_body game o.dot o.body → Building c ops next new
  builds_next new grown = record {
    is = ap (λ g. built g next) grown ∙ ap (built game) (sym step) ∙ building.is;
    code = ap (λ (h : GameContent). h.code) grown ∙ same_code game o.dot o.body ∙ building.code;
    each = second_so (of_code c o) (list_all (of_code c) next) here;
  }

pub built_all : (c : Code) (ops : Operations) (rest : List Operation) (game : GameContent) → rest ≡ [] → list_all (of_code c) (listed ops) ≡ true → Building c (listed ops) rest game → game ≡ content_in ops c
built_all c ops rest game none each building = ap (built game) (sym none) ∙ building.is ∙ built_is c (new_game c) (listed ops) each

-- ---- the operations of a game

all_pass : (p : Operation → Bool) (ops : List Operation) → list_all p (filter p ops) ≡ true
all_pass p [] = refl
all_pass p (o ∷ ops) = by (p o) refl (all_pass p ops)
  where
    by : (t : Bool) → p o ≡ t → list_all p (filter p ops) ≡ true → list_all p (cond t (o ∷ filter p ops) (filter p ops)) ≡ true
    by true e rest = rw e rest
    by false e rest = rest

listed_of_game : (ops : Operations) (c : Code) → listed (of_game ops c) ≡ filter (of_code c) (listed ops)
listed_of_game ops c = listed-keep op_cmp_total op_cmp_exact (of_code c) ops

pub each_of_game : (ops : Operations) (c : Code) → list_all (of_code c) (listed (of_game ops c)) ≡ true
each_of_game ops c = ap (list_all (of_code c)) (listed_of_game ops c) ∙ all_pass (of_code c) (listed ops)

-- they have all that the set has of the game
pub blocks_of_game : (ops : Operations) (c : Code) → blocks_of c (listed (of_game ops c)) ≡ blocks_of c (listed ops)
blocks_of_game ops c = ap (blocks_of c) (listed_of_game ops c) ∙ blocks_of-among c (listed ops)

pub claims_of_game : (ops : Operations) (c : Code) → claims_of c (listed (of_game ops c)) ≡ claims_of c (listed ops)
claims_of_game ops c = ap (claims_of c) (listed_of_game ops c) ∙ claims_of-among c (listed ops)

content_of_game : (ops : Operations) (c : Code) → content_in (of_game ops c) c ≡ content_in ops c
content_of_game ops c = λ i. record { code = c; blocks = sets.set_of (blocks_of_game ops c i); claims = sets.set_of (claims_of_game ops c i) }

content-nothing : (c : Code) → content_in empty c ≡ new_game c
content-nothing c = λ i. record {
  code = c;
  blocks = sets.set_of (blocks_of c (listed-empty op_cmp_total op_cmp_exact i));
  claims = sets.set_of (claims_of c (listed-empty op_cmp_total op_cmp_exact i));
}

-- what is found of a game, or that nothing is
pub found_each : (ops : Operations) (c : Code) (found : Option Operations) (held : Operations) → unwrap_or found empty ≡ of_game ops c → Some held ≡ found → list_all (of_code c) (listed held) ≡ true
found_each ops c found held is some = ap (λ s. list_all (of_code c) (listed s)) (ap (λ o. unwrap_or o empty) some ∙ is) ∙ each_of_game ops c

pub found_content : (ops : Operations) (c : Code) (found : Option Operations) (held : Operations) → unwrap_or found empty ≡ of_game ops c → Some held ≡ found → content_in held c ≡ content_in ops c
found_content ops c found held is some = ap (λ s. content_in s c) (ap (λ o. unwrap_or o empty) some ∙ is) ∙ content_of_game ops c

pub none_content : (ops : Operations) (c : Code) (found : Option Operations) → unwrap_or found empty ≡ of_game ops c → None ≡ found → new_game c ≡ content_in ops c
none_content ops c found is none = sym (content-nothing c) ∙ ap (λ s. content_in s c) (ap (λ o. unwrap_or o empty) none ∙ is) ∙ content_of_game ops c
