-- Games beside a set, after an insertion.
use Rattle.std.proofs.Common.{◌≡◌, Bool, true, false, ◌||◌, cond, List, [], ◌∷◌, Option, Some, None, IsSome, refl, sym, ap, ◌∙◌, subst}
use Rattle.std.specs.Prelude.{IfSome}
use Rattle.std.specs.List.{list_any, filter, filter_map, cons_option}
use Rattle.std.specs.Ordering.{eq_by_cmp, is_eq}
use Rattle.std.specs.Cmp.{Equal-is, tied_itself}
use Rattle.std.specs.BTreeMap as tree
use Rattle.std.specs.BTreeMap.{BTreeMap}
use Rattle.std.specs.BTreeSet.{insert_key}
use Rattle.oct_code.specs.Code.{Code, code_cmp, code_eq}
use Rattle.oct_code.specs.CodeOrder.{code_cmp_exact, code_cmp_total}
use Rattle.oct_ops.specs.Body as kind
use Rattle.oct_ops.specs.Body.{Body, Operation}
use Rattle.oct_ops.specs.Operation.{Dot, Block, Period}
use Rattle.oct_ops.specs.Operations.{Operations, empty, insert, listed}
use Rattle.oct_ops.specs.OrderLaws.{op_cmp_total, op_cmp_exact}
use Rattle.oct_ops.specs.Sets as sets
use Rattle.oct_ops.specs.SetLaws.{listed-empty, listed-insert}
use Rattle.oct_ops.specs.Games.{of_code}
use Rattle.oct_verify.specs.Filing.{filing_cmp}
use Rattle.oct_verify.specs.FilingLaws.{filing_cmp_total, filing_cmp_exact}
use Rattle.oct_period.specs.Claims.{claim_cmp}
use Rattle.oct_period.specs.ClaimLaws.{claim_cmp_total, claim_cmp_exact}
use Rattle.oct_period.specs.GameContent.{GameContent}
use Rattle.oct_pages.specs.Catalogue.{blocks_of, block_in, claims_of, claim_in, if_some, under}
use Rattle.oct_pages.specs.GamesIn.{AreGamesIn}
use Rattle.oct_replica.specs.Beside.{Games, content_in, has_game, game_in, AreBeside, HasOwnCode, new_game, game_at, after, with_block, with_period, filed}
use Rattle.oct_replica.proofs.Inserting.{insert_option, filter_map-insert, any-insert}

-- ---- the empty set

no_blocks : (c : Code) → has_game empty c ≡ false
no_blocks c = ap (list_any (of_code c)) (listed-empty op_cmp_total op_cmp_exact)

pub beside_nothing : (found : Games) → ((c : Code) → found c ≡ None) → AreBeside empty found
beside_nothing found none c = none c ∙ ap (λ b. cond b (Some (content_in empty c)) None) (sym (no_blocks c))

-- ---- the code of a game

own_code : (ops : Operations) (c : Code) (b : Bool) → IfSome (cond b (Some (content_in ops c)) None) (λ (game : GameContent). game.code ≡ c)
own_code ops c true = refl
own_code ops c false = tt

pub own_codes : (ops : Operations) (found : Games) → AreBeside ops found → HasOwnCode found
own_codes ops found beside c = subst (λ o. IfSome o (λ (game : GameContent). game.code ≡ c)) (sym (beside c)) (own_code ops c (has_game ops c))

pub own_code_at : (found : Games) (code : Code) (held : GameContent) → HasOwnCode found → Some held ≡ found code → held.code ≡ code
own_code_at found code held own is = subst (λ o. IfSome o (λ (game : GameContent). game.code ≡ code)) (sym is) (own code)

-- ---- a game that is changed where it is found

pub put_back : (old : Games) (code : Code) (held new : GameContent) → Some held ≡ old code → new ≡ held → (q : Code) → cond (eq_by_cmp code_cmp code q) (Some new) (old q) ≡ old q
put_back old code held new found same q =
    elim (eq_by_cmp code_cmp code q) as (λ b. eq_by_cmp code_cmp code q ≡ b → cond b (Some new) (old q) ≡ old q) [
      | true ↦ λ tied. ap Some same ∙ found ∙ ap old (code_cmp_exact code q ((Equal-is (code_cmp code q)).0 tied))
      | false ↦ λ _. refl
    ] refl

pub put_in : (old : Games) (code of : Code) (held new : GameContent) (more : GameContent → GameContent) → Some held ≡ old code → code ≡ of → new ≡ more held → (q : Code) → after old code new q ≡ after old of (more (game_at old of)) q
put_in old code of held new more found is grown q =
    let at : held ≡ game_at old of = ap (λ o. Rattle.std.specs.Prelude.unwrap_or o (new_game code)) found ∙ ap (game_at old) is in
    (λ i. after old (is i) ((grown ∙ ap more at) i) q)

-- ---- a game that is made empty, and then changed

made_at : (old mid : Games) (code of : Code) (made : GameContent) → code ≡ of → made ≡ new_game code → ((q : Code) → mid q ≡ after old code made q) → mid of ≡ Some (new_game of)
made_at old mid code of made same is step =
    step of ∙ ap (λ k. cond (eq_by_cmp code_cmp k of) (Some made) (old of)) same
    ∙ ap (λ b. cond b (Some made) (old of)) (ap is_eq (tied_itself code_cmp_total of)) ∙ ap Some (is ∙ ap new_game same)

pub is_made : (old mid : Games) (code of : Code) (made : GameContent) → code ≡ of → made ≡ new_game code → ((q : Code) → mid q ≡ after old code made q) → IsSome (mid of)
is_made old mid code of made same is step = subst IsSome (sym (made_at old mid code of made same is step)) refl

pub own_made : (old mid : Games) (code : Code) (made : GameContent) → made ≡ new_game code → HasOwnCode old → ((q : Code) → mid q ≡ after old code made q) → HasOwnCode mid
own_made old mid code made is own step c =
    subst (λ o. IfSome o (λ (game : GameContent). game.code ≡ c)) (sym (step c))
    (elim (eq_by_cmp code_cmp code c) as (λ b. eq_by_cmp code_cmp code c ≡ b → IfSome (cond b (Some made) (old c)) (λ (game : GameContent). game.code ≡ c)) [
      | true ↦ λ tied. ap (λ (game : GameContent). game.code) is ∙ code_cmp_exact code c ((Equal-is (code_cmp code c)).0 tied)
      | false ↦ λ _. own c
    ] refl)

pub put_made : (old mid new : Games) (code of : Code) (made : GameContent) (more : GameContent → GameContent) → code ≡ of → made ≡ new_game code → old of ≡ None → ((q : Code) → mid q ≡ after old code made q)
    → ((q : Code) → new q ≡ after mid of (more (game_at mid of)) q) → (q : Code) → new q ≡ after old of (more (game_at old of)) q
put_made old mid new code of made more same is none step last q =
    let at : game_at mid of ≡ game_at old of =
    ap (λ o. Rattle.std.specs.Prelude.unwrap_or o (new_game of)) (made_at old mid code of made same is step) ∙ sym (ap (λ o. Rattle.std.specs.Prelude.unwrap_or o (new_game of)) none) in
    let put = more (game_at old of) in
    last q ∙ ap (λ game. after mid of (more game) q) at
    ∙ ap (λ o. cond (eq_by_cmp code_cmp of q) (Some put) o) (step q ∙ ap (λ k. cond (eq_by_cmp code_cmp k q) (Some made) (old q)) same)
    ∙ elim (eq_by_cmp code_cmp of q) as (λ b. cond b (Some put) (cond b (Some made) (old q)) ≡ cond b (Some put) (old q)) [ true ↦ refl | false ↦ refl ]

pub put_away : (old mid last new : Games) (code of : Code) (made : GameContent) → code ≡ of → old of ≡ None → ((q : Code) → mid q ≡ after old code made q) → ((q : Code) → last q ≡ mid q)
    → ((q : Code) → new q ≡ cond (eq_by_cmp code_cmp code q) None (last q)) → (q : Code) → new q ≡ old q
put_away old mid last new code of made same none step kept removed q =
    removed q ∙ ap (λ o. cond (eq_by_cmp code_cmp code q) None o) (kept q ∙ step q)
    ∙ elim (eq_by_cmp code_cmp code q) as (λ b. eq_by_cmp code_cmp code q ≡ b → cond b None (cond b (Some made) (old q)) ≡ old q) [
      | true ↦ λ tied. sym (ap old (sym (code_cmp_exact code q ((Equal-is (code_cmp code q)).0 tied))) ∙ ap old same ∙ none)
      | false ↦ λ _. refl
    ] refl

-- ---- the games of a set

left_false : (a b : Bool) → (a || b) ≡ false → a ≡ false
left_false true b h = cc
left_false false b h = refl

right_false : (a b : Bool) → (a || b) ≡ false → b ≡ false
right_false true b h = cc
right_false false b h = h

-- an operation of no part in the game
no_block : (c : Code) (o : Operation) → of_code c o ≡ false → block_in c o ≡ None
no_block c o h = by o.dot o.body h
  where
    test : (d : Dot) (b : Block) (t : Bool) → t ≡ false → under d (if_some t b) ≡ None
    test d b true e = cc
    test d b false e = refl

    by : (d : Dot) (body : Body) → of_code c (record { dot = d; body = body }) ≡ false → block_in c (record { dot = d; body = body }) ≡ None
    by d (kind.Block b) e = test d b (code_eq b.code c) e
    by d (kind.Period p) e = refl
    by d (kind.Note n) e = refl
    by d (kind.Removal r) e = refl

no_claim : (c : Code) (o : Operation) → of_code c o ≡ false → claim_in c o ≡ None
no_claim c o h = by o.dot o.body h
  where
    test : (d : Dot) (p : Period) (t : Bool) → t ≡ false → under d (if_some t p) ≡ None
    test d p true e = cc
    test d p false e = refl

    by : (d : Dot) (body : Body) → of_code c (record { dot = d; body = body }) ≡ false → claim_in c (record { dot = d; body = body }) ≡ None
    by d (kind.Block b) e = refl
    by d (kind.Period p) e = test d p (code_eq p.code c) e
    by d (kind.Note n) e = refl
    by d (kind.Removal r) e = refl

none_of : {X : Type 0} (c : Code) (f : Operation → Option X) → ((o : Operation) → of_code c o ≡ false → f o ≡ None) → (ops : List Operation) → list_any (of_code c) ops ≡ false → filter_map f ops ≡ []
none_of c f none [] h = refl
none_of c f none (o ∷ ops) h =
    (λ i. cons_option (none o (left_false (of_code c o) (list_any (of_code c) ops) h) i) (none_of c f none ops (right_false (of_code c o) (list_any (of_code c) ops) h) i))

no_game : (ops : Operations) (c : Code) → has_game ops c ≡ false → content_in ops c ≡ new_game c
no_game ops c none = λ i. record {
  code = c;
  blocks = sets.set_of (none_of c (block_in c) (no_block c) (listed ops) none i);
  claims = sets.set_of (none_of c (claim_in c) (no_claim c) (listed ops) none i);
}

game_at-in : (ops : Operations) (c : Code) → game_at (game_in ops) c ≡ content_in ops c
game_at-in ops c = by (has_game ops c) refl
  where
    by : (b : Bool) → has_game ops c ≡ b → Rattle.std.specs.Prelude.unwrap_or (cond b (Some (content_in ops c)) None) (new_game c) ≡ content_in ops c
    by true e = refl
    by false e = sym (no_game ops c e)

-- ---- a game after an insertion

abbrev grown : Operations → Operation → Code → GameContent
grown ops o c = record {
  code = c;
  blocks = insert_option (sets.set_of (blocks_of c (listed ops))) (block_in c o);
  claims = insert_option (sets.set_of (claims_of c (listed ops))) (claim_in c o);
}

pub content-insert : (ops : Operations) (o : Operation) (c : Code) → content_in (insert ops o) c ≡ grown ops o c
content-insert ops o c =
    let rows = listed-insert op_cmp_total op_cmp_exact ops o in
    let blocks : sets.set_of {R = filing_cmp} (blocks_of c (listed (insert ops o))) ≡ insert_option (sets.set_of (blocks_of c (listed ops))) (block_in c o) =
    ap (λ xs. sets.set_of (blocks_of c xs)) rows ∙ filter_map-insert op_cmp_exact filing_cmp_total filing_cmp_exact (block_in c) (listed ops) o in
    let claims : sets.set_of {R = claim_cmp} (claims_of c (listed (insert ops o))) ≡ insert_option (sets.set_of (claims_of c (listed ops))) (claim_in c o) =
    ap (λ xs. sets.set_of (claims_of c xs)) rows ∙ filter_map-insert op_cmp_exact claim_cmp_total claim_cmp_exact (claim_in c) (listed ops) o in
    λ i. record { code = c; blocks = blocks i; claims = claims i }

has_game-insert : (ops : Operations) (o : Operation) (c : Code) → has_game (insert ops o) c ≡ (of_code c o || has_game ops c)
has_game-insert ops o c = ap (list_any (of_code c)) (listed-insert op_cmp_total op_cmp_exact ops o) ∙ any-insert op_cmp_exact (of_code c) (listed ops) o

game_in-insert : (ops : Operations) (o : Operation) (c : Code) → game_in (insert ops o) c ≡ cond (of_code c o || has_game ops c) (Some (grown ops o c)) None
game_in-insert ops o c = λ i. cond (has_game-insert ops o c i) (Some (content-insert ops o c i)) None

-- what was put in, by whether it is of the game
block_next : (ops : Operations) (d : Dot) (b : Block) (q : Code) (t : Bool) → code_eq b.code q ≡ t
    → cond t (Some (with_block (game_at (game_in ops) b.code) d b)) (game_in ops q)
    ≡ cond (t || has_game ops q) (Some (record { code = q; blocks = insert_option (sets.set_of (blocks_of q (listed ops))) (under d (if_some t b)); claims = sets.set_of (claims_of q (listed ops)) })) None
block_next ops d b q true tied =
    let same : b.code ≡ q = code_cmp_exact b.code q ((Equal-is (code_cmp b.code q)).0 tied) in
    ap (λ game. Some (with_block game d b)) (game_at-in ops b.code) ∙ ap (λ c. Some (with_block (content_in ops c) d b)) same
block_next ops d b q false apart = refl

claim_next : (ops : Operations) (d : Dot) (p : Period) (q : Code) (t : Bool) → code_eq p.code q ≡ t
    → cond t (Some (with_period (game_at (game_in ops) p.code) d p)) (game_in ops q)
    ≡ cond (t || has_game ops q) (Some (record { code = q; blocks = sets.set_of (blocks_of q (listed ops)); claims = insert_option (sets.set_of (claims_of q (listed ops))) (under d (if_some t p)) })) None
claim_next ops d p q true tied =
    let same : p.code ≡ q = code_cmp_exact p.code q ((Equal-is (code_cmp p.code q)).0 tied) in
    ap (λ game. Some (with_period game d p)) (game_at-in ops p.code) ∙ ap (λ c. Some (with_period (content_in ops c) d p)) same
claim_next ops d p q false apart = refl

filed_next : (ops : Operations) (d : Dot) (body : Body) (q : Code) → filed (game_in ops) d body q ≡ cond (of_code q (record { dot = d; body = body }) || has_game ops q) (Some (grown ops (record { dot = d; body = body }) q)) None
filed_next ops d (kind.Block b) q = block_next ops d b q (code_eq b.code q) refl
filed_next ops d (kind.Period p) q = claim_next ops d p q (code_eq p.code q) refl
filed_next ops d (kind.Note n) q = refl
filed_next ops d (kind.Removal r) q = refl

-- games after an operation was put into each of the two
pub beside_more : (ops : Operations) (old new : Games) (o : Operation) → AreBeside ops old → ((q : Code) → new q ≡ filed old o.dot o.body q) → AreBeside (insert ops o) new
beside_more ops old new o beside games q =
    let are : old ≡ game_in ops = λ i c. beside c i in
    games q ∙ ap (λ found. filed found o.dot o.body q) are ∙ filed_next ops o.dot o.body q ∙ sym (game_in-insert ops o q)

-- ---- the game that is found

pub found_is : (ops : Operations) (c : Code) (game : GameContent) → Some game ≡ game_in ops c → game ≡ content_in ops c
found_is ops c game found = by (has_game ops c) found
  where
    by : (b : Bool) → Some game ≡ cond b (Some (content_in ops c)) None → game ≡ content_in ops c
    by true e = cc
    by false e = cc

pub none_is : (ops : Operations) (c : Code) → None ≡ game_in ops c → new_game c ≡ content_in ops c
none_is ops c none = by (has_game ops c) refl
  where
    by : (b : Bool) → has_game ops c ≡ b → new_game c ≡ content_in ops c
    by false e = sym (no_game ops c e)
    by true e = let clash : None ≡ Some (content_in ops c) = none ∙ ap (λ b. cond b (Some (content_in ops c)) None) e in cc

-- the games that are kept are those of the set
pub are_in : (ops : Operations) (games : BTreeMap Code GameContent) → AreBeside ops (tree.get code_cmp games) → AreGamesIn ops games
are_in ops games beside c = subst (λ m. IfSome m (λ game. game ≡ content_in ops c)) (sym (beside c)) (by (has_game ops c))
  where
    by : (b : Bool) → IfSome (cond b (Some (content_in ops c)) None) (λ game. game ≡ content_in ops c)
    by true = refl
    by false = tt
