-- The lines of blocks and claims that are not pending stay in the catalogue.
use Rattle.std.proofs.Common.{◌≡◌, Bool, true, false, List, [], ◌∷◌, ◌++◌, map, Some, inr, refl, ap, subst}
use Rattle.std.specs.List.{filter_map, flat_map}
use Rattle.std.specs.Cmp.{Equal-is}
use Rattle.oct_code.specs.Code.{Code, code_cmp, code_eq}
use Rattle.oct_code.specs.CodeOrder.{code_cmp_exact}
use Rattle.oct_mex.specs.NimValues.{nim_values}
use Rattle.oct_code.proofs.Members as members
use Rattle.oct_ops.specs.Operation.{Dot, Block, Period}
use Rattle.oct_ops.specs.Operations.{listed}
use Rattle.oct_ops.specs.Sets as sets
use Rattle.oct_ops.specs.SetLaws as laws
use Rattle.oct_ops.specs.Body.{Body, Operation}
use Rattle.oct_ops.specs.Body as kind
use Rattle.oct_ops.specs.Games.{game_of}
use Rattle.oct_store.specs.Summary as summary
use Rattle.oct_notes.specs.Notes.{live_notes}
use Rattle.oct_verify.specs.Known.{known}
use Rattle.oct_period.proofs.FarLaws as far
use Rattle.oct_period.proofs.Statuses.{settled_claims_stay}
use Rattle.oct_pages.specs.Catalogue.{Text, games, if_some, under, block_in, claim_in, blocks_of, claims_of, block_line, period_line, block_text, period_text, values_lines, game_text, heading, ending, game_lines, note_line, fork_line, author_line, lines}
use Rattle.oct_replica.specs.Settled.{blocks_in, claims_in, BlockLinesStay, ClaimLinesStay}
use Rattle.oct_ops.proofs.Members.{In, In-among, among-In, In-map, In-listed, Has-listed}
use Rattle.oct_pages.proofs.InGames.{In-filter_map, In-filter_map_source, In-games}
use Rattle.oct_replica.proofs.Settled.{blocks_grow, claims_grow, claims_later, start_some}

-- ---- the game of a block and of a claim

taken : {A : Type 0} (d : Dot) (t : Bool) (x : A) (y : Dot × A) → under d (if_some t x) ≡ Some y → t ≡ true
taken d true x y h = refl
taken d false x y h = cc

pub same_code : (a c : Code) → code_eq a c ≡ true → a ≡ c
same_code a c e = code_cmp_exact a c ((Equal-is (code_cmp a c)).0 e)

block_game : (c : Code) (d : Dot) (body : Body) (b : Dot × Block) → block_in c (record { dot = d; body = body }) ≡ Some b → game_of (record { dot = d; body = body }) ≡ Some c
block_game c d (kind.Block x) b h = ap Some (same_code x.code c (taken d (code_eq x.code c) x b h))
block_game c d (kind.Period x) b h = cc
block_game c d (kind.Note x) b h = cc
block_game c d (kind.Removal x) b h = cc

claim_game : (c : Code) (d : Dot) (body : Body) (p : Dot × Period) → claim_in c (record { dot = d; body = body }) ≡ Some p → game_of (record { dot = d; body = body }) ≡ Some c
claim_game c d (kind.Block x) p h = cc
claim_game c d (kind.Period x) p h = ap Some (same_code x.code c (taken d (code_eq x.code c) x p h))
claim_game c d (kind.Note x) p h = cc
claim_game c d (kind.Removal x) p h = cc

-- ---- lines

game_line_in : (ops : List Operation) (c : Code) (text : Text) → In c (games ops) → In text (game_lines ops c) → In text (lines ops)
game_line_in ops c text game h =
    let part = members.In-flat_map (game_lines ops) c text (games ops) game h in
    let all = heading ∷ flat_map (game_lines ops) (games ops) in
    let notes = map note_line (live_notes ops) in
    let forks = map (fork_line ops) (summary.forks ops) in
    let authors = map (author_line ops) (summary.authors ops) in
    members.In-append_left text (all ++ notes ++ forks ++ authors) (ending ∷ [])
    (members.In-append_left text (all ++ notes ++ forks) authors
    (members.In-append_left text (all ++ notes) forks
    (members.In-append_left text all notes (inr part))))

game_blocks : Code → List Operation → List Block
game_blocks c ops = map (λ (b : Dot × Block). b.1) (blocks_of c ops)

game_claims : Code → List Operation → List Period
game_claims c ops = map (λ (p : Dot × Period). p.1) (claims_of c ops)

first_lines : List Operation → Code → List Text
first_lines ops c = game_text c (known (game_blocks c ops)) ∷ values_lines (nim_values c (known (game_blocks c ops)))

block_line_in : (ops : List Operation) (c : Code) (b : Dot × Block) → In b (blocks_of c ops) → In (block_line (game_blocks c ops) (game_claims c ops) b) (game_lines ops c)
unfolding game_blocks game_claims first_lines
block_line_in ops c b h =
    members.In-append_left (block_line (game_blocks c ops) (game_claims c ops) b) (first_lines ops c ++ map (block_line (game_blocks c ops) (game_claims c ops)) (blocks_of c ops)) (map (period_line (game_blocks c ops)) (claims_of c ops))
    (members.In-append_right (block_line (game_blocks c ops) (game_claims c ops) b) (first_lines ops c) (map (block_line (game_blocks c ops) (game_claims c ops)) (blocks_of c ops)) (In-map (block_line (game_blocks c ops) (game_claims c ops)) b (blocks_of c ops) h))

claim_line_in : (ops : List Operation) (c : Code) (p : Dot × Period) → In p (claims_of c ops) → In (period_line (game_blocks c ops) p) (game_lines ops c)
unfolding game_blocks game_claims first_lines
claim_line_in ops c p h =
    members.In-append_right (period_line (game_blocks c ops) p) (first_lines ops c ++ map (block_line (game_blocks c ops) (game_claims c ops)) (blocks_of c ops)) (map (period_line (game_blocks c ops)) (claims_of c ops))
    (In-map (period_line (game_blocks c ops)) p (claims_of c ops) h)

pub block_lines_stay : BlockLinesStay
unfolding game_blocks game_claims
block_lines_stay ops more c b valid sub among settled =
    let op = In-filter_map_source (block_in c) (listed ops) b (In-among (blocks_of c (listed ops)) b among) in
    let later : In op.0 (listed more) = In-listed more op.0 (sub op.0 (Has-listed ops op.0 op.1)) in
    let game = In-games c (listed more) op.0 later (block_game c op.0.dot op.0.body b op.2) in
    let stays = far.settled_blocks_stay (blocks_in c ops) (blocks_in c more) (claims_in c ops) (claims_in c more) b.1 (blocks_grow c ops more sub) (claims_grow c ops more sub) (claims_later c ops valid) settled in
    let same : block_line (blocks_in c more) (claims_in c more) b ≡ block_line (blocks_in c ops) (claims_in c ops) b =
    ap (block_text b.0 b.1) stays in
    among-In (lines (listed more)) (block_line (blocks_in c ops) (claims_in c ops) b)
    (subst (λ t. In t (lines (listed more))) same
    (game_line_in (listed more) c (block_line (blocks_in c more) (claims_in c more) b) game (block_line_in (listed more) c b (In-filter_map (block_in c) (listed more) op.0 b later op.2))))

pub claim_lines_stay : ClaimLinesStay
unfolding game_blocks game_claims
claim_lines_stay ops more c p valid sub among settled =
    let op = In-filter_map_source (claim_in c) (listed ops) p (In-among (claims_of c (listed ops)) p among) in
    let later : In op.0 (listed more) = In-listed more op.0 (sub op.0 (Has-listed ops op.0 op.1)) in
    let game = In-games c (listed more) op.0 later (claim_game c op.0.dot op.0.body p op.2) in
    let stays = settled_claims_stay (blocks_in c ops) (blocks_in c more) p.1 (blocks_grow c ops more sub) (start_some p.1 valid) settled in
    let same : period_line (blocks_in c more) p ≡ period_line (blocks_in c ops) p =
    ap (period_text p.0 p.1) stays in
    among-In (lines (listed more)) (period_line (blocks_in c ops) p)
    (subst (λ t. In t (lines (listed more))) same
    (game_line_in (listed more) c (period_line (blocks_in c more) p) game (claim_line_in (listed more) c p (In-filter_map (claim_in c) (listed more) op.0 p later op.2))))
