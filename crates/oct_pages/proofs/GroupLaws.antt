-- The blocks and claims of a game are among the operations of the game.
use Rattle.std.proofs.Common.{◌≡◌, Bool, true, false, List, [], ◌∷◌, cond, None, refl, sym, ap, ◌∙◌}
use Rattle.std.specs.Prelude.{filter}
use Rattle.std.specs.List.{cons_option}
use Rattle.oct_code.specs.Code.{Code}
use Rattle.oct_ops.specs.Body.{Body, Operation}
use Rattle.oct_ops.specs.Body as kind
use Rattle.oct_ops.specs.Operation.{Dot}
use Rattle.oct_ops.specs.Games.{is_of_game, of_code}
use Rattle.oct_pages.specs.Catalogue.{block_in, block_of_game, blocks_of, claim_in, claim_of_game, claims_of, if_some, under}

-- the blocks and claims of the game
abbrev among : Code → List Operation → List Operation
among c ops = filter (of_code c) ops

blocks_next : (c : Code) (o : Operation) (group ops : List Operation) (t : Bool) → of_code c o ≡ t → blocks_of c group ≡ blocks_of c ops → blocks_of c (cond t (o ∷ group) group) ≡ cons_option (block_in c o) (blocks_of c ops)
blocks_next c o group ops true is rest = ap (cons_option (block_in c o)) rest
blocks_next c o group ops false is rest = rest ∙ ap (λ m. cons_option m (blocks_of c ops)) (sym (no_block c o.dot o.body is))
  where
    no_block : (c : Code) (d : Dot) (body : Body) → is_of_game c body ≡ false → under d (block_of_game c body) ≡ None
    no_block c d (kind.Block b) is = ap (λ t. under d (if_some t b)) is
    no_block c d (kind.Period p) is = refl
    no_block c d (kind.Note n) is = refl
    no_block c d (kind.Removal r) is = refl

pub blocks_of-among : (c : Code) (ops : List Operation) → blocks_of c (among c ops) ≡ blocks_of c ops
blocks_of-among c [] = refl
blocks_of-among c (o ∷ ops) = blocks_next c o (among c ops) ops (of_code c o) refl (blocks_of-among c ops)

claims_next : (c : Code) (o : Operation) (group ops : List Operation) (t : Bool) → of_code c o ≡ t → claims_of c group ≡ claims_of c ops → claims_of c (cond t (o ∷ group) group) ≡ cons_option (claim_in c o) (claims_of c ops)
claims_next c o group ops true is rest = ap (cons_option (claim_in c o)) rest
claims_next c o group ops false is rest = rest ∙ ap (λ m. cons_option m (claims_of c ops)) (sym (no_claim c o.dot o.body is))
  where
    no_claim : (c : Code) (d : Dot) (body : Body) → is_of_game c body ≡ false → under d (claim_of_game c body) ≡ None
    no_claim c d (kind.Block b) is = refl
    no_claim c d (kind.Period p) is = ap (λ t. under d (if_some t p)) is
    no_claim c d (kind.Note n) is = refl
    no_claim c d (kind.Removal r) is = refl

pub claims_of-among : (c : Code) (ops : List Operation) → claims_of c (among c ops) ≡ claims_of c ops
claims_of-among c [] = refl
claims_of-among c (o ∷ ops) = claims_next c o (among c ops) ops (of_code c o) refl (claims_of-among c ops)
