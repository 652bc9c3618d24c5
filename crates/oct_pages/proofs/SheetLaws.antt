-- A game's sheet is what is known of the game.
use Rattle.std.proofs.Common.{◌≡◌, ℕ, ◌+◌, ◌-◌, true, false, not, ◌&&◌, List, [], ◌∷◌, ◌++◌, map, cond, length, Some, refl, sym, ap, ◌∙◌, subst}
use Rattle.std.specs.Prelude.{nat_lt, option_map}
use Rattle.std.specs.Cmp.{first_so, second_so}
use Rattle.std.specs.List.{cons_option, find, list_all}
use Rattle.std.specs.Ordering.{is_lt}
use Rattle.std.proofs.lemmas.Bool.{and_from}
use Rattle.std.proofs.lemmas.Simd.{map-map}
use Rattle.oct_code.specs.Code.{Code, code_eq}
use Rattle.oct_mex.specs.NimValues.{nim_values}
use Rattle.oct_mex.proofs.NimValues.{nim_values-length}
use Rattle.oct_ops.specs.Body.{Body, Operation}
use Rattle.oct_ops.specs.Body as kind
use Rattle.oct_ops.specs.Operation.{Dot, Block, Period}
use Rattle.oct_ops.specs.Operations.{Operations, listed}
use Rattle.oct_ops.specs.Order.{op_cmp}
use Rattle.oct_ops.specs.Sets as sets
use Rattle.oct_ops.specs.Sets.{rises}
use Rattle.oct_ops.specs.SetLaws.{listed-rises, listed-set_of}
use Rattle.oct_pages.proofs.Building.{blocks_of_game}
use Rattle.oct_pages.proofs.BuiltGames.{built_is_of}
use Rattle.oct_pages.proofs.GameParts.{blocks_held, same_known, same_proved}
use Rattle.oct_pages.specs.Catalogue.{blocks_of, claim_of_game, claims_of, game_lines, game_text, if_some, under, values_lines}
use Rattle.oct_pages.specs.GamesIn.{IsGameOf, claims_set, content_in}
use Rattle.oct_period.specs.Claims.{Claim, claim_cmp, first_proved}
use Rattle.oct_period.specs.ClaimLaws.{claim_cmp_exact, claim_cmp_total}
use Rattle.oct_period.specs.GameContent.{GameContent}
use Rattle.oct_period.specs.Periods.{first_break, is_proved, period_status, status_at}
use Rattle.oct_period.specs.declared.status.PeriodStatus.{PeriodStatus}
use Rattle.oct_store.specs.Summary.{of_game}
use Rattle.oct_verify.specs.Filing.{Filing}
use Rattle.oct_verify.specs.Known.{known, verdict}
use Rattle.oct_verify.specs.declared.status.Status.TheVariants.{Pending}
use Rattle.oct_pages.specs.Sheet.{block_row, block_row_text, claim_of, game_sheet, period_row, period_row_text, sheet_by, sheet_lines}

-- ---- the claims of a game, in the order of the operations

-- what is below all operations that follow is below their claims
below_claims : (c : Code) (d : Dot) (p : Period) (ops : List Operation) → list_all (λ o. is_lt (op_cmp (record { dot = d; body = kind.Period p }) o)) ops ≡ true
    → list_all (λ x. is_lt (claim_cmp (d, p) x)) (claims_of c ops) ≡ true
below_claims c d p [] below = refl
below_claims c d p (o ∷ ops) below = by o.dot o.body (first_so _ _ below) (below_claims c d p ops (second_so _ _ below))
  where
    by : (e : Dot) (body : Body) → is_lt (op_cmp (record { dot = d; body = kind.Period p }) (record { dot = e; body = body })) ≡ true
        → list_all (λ x. is_lt (claim_cmp (d, p) x)) (claims_of c ops) ≡ true
        → list_all (λ x. is_lt (claim_cmp (d, p) x)) (cons_option (under e (claim_of_game c body)) (claims_of c ops)) ≡ true
    by e (kind.Block b) lt rest = rest
    by e (kind.Period q) lt rest = elim (code_eq q.code c) as (λ t. list_all (λ x. is_lt (claim_cmp (d, p) x)) (cons_option (under e (if_some t q)) (claims_of c ops)) ≡ true) [
      | true ↦ and_from _ _ lt rest
      | false ↦ rest
    ]
    by e (kind.Note n) lt rest = rest
    by e (kind.Removal r) lt rest = rest

rises-claims_of : (c : Code) (ops : List Operation) → rises op_cmp ops ≡ true → rises claim_cmp (claims_of c ops) ≡ true
rises-claims_of c [] rising = refl
rises-claims_of c (o ∷ ops) rising = by o.dot o.body (first_so _ _ rising) (rises-claims_of c ops (second_so _ _ rising))
  where
    by : (d : Dot) (body : Body) → list_all (λ q. is_lt (op_cmp (record { dot = d; body = body }) q)) ops ≡ true → rises claim_cmp (claims_of c ops) ≡ true
        → rises claim_cmp (cons_option (under d (claim_of_game c body)) (claims_of c ops)) ≡ true
    by d (kind.Block b) below rest = rest
    by d (kind.Period p) below rest = elim (code_eq p.code c) as (λ t. rises claim_cmp (cons_option (under d (if_some t p)) (claims_of c ops)) ≡ true) [
      | true ↦ and_from _ _ (below_claims c d p ops below) rest
      | false ↦ rest
    ]
    by d (kind.Note n) below rest = rest
    by d (kind.Removal r) below rest = rest

-- the set of a game's claims lists them as they come
listed-claims_set : (c : Code) (ops : List Operation) → rises op_cmp ops ≡ true → sets.listed (claims_set ops c) ≡ claims_of c ops
listed-claims_set c ops rising = listed-set_of claim_cmp_total claim_cmp_exact (claims_of c ops) (rises-claims_of c ops rising)

-- ---- the lines of a sheet

lines_of_sheet : (ops : List Operation) (c : Code) → sheet_lines (game_sheet ops c) ≡ game_lines ops c
lines_of_sheet ops c =
    let pairs = blocks_of c ops in
    let blocks = map (λ (b : Filing). b.1) pairs in
    let claims = map (λ (p : Claim). p.1) (claims_of c ops) in
    λ i. game_text c (nim_values-length c (known blocks) i)
    ∷ values_lines (nim_values c (known blocks))
    ++ map-map block_row_text (block_row blocks claims) pairs i
    ++ map-map period_row_text (period_row blocks) (claims_of c ops) i

-- the first row that is proved is that of the first claim that is proved
pub first_row : (blocks : List Block) (claims : List Claim) → option_map claim_of (find (λ row. is_proved row.status) (map (period_row blocks) claims)) ≡ first_proved blocks claims
first_row blocks [] = refl
first_row blocks (p ∷ claims) = elim (is_proved (period_status blocks p.1)) as (λ b. option_map claim_of (cond b (Some (period_row blocks p)) (find (λ row. is_proved row.status) (map (period_row blocks) claims))) ≡ cond b (Some p) (first_proved blocks claims)) [
  | true ↦ refl
  | false ↦ first_row blocks claims
]

-- ---- the sheet of a game

-- the status of a claim by the known length alone
abbrev by_known : ℕ → Period → PeriodStatus
by_known k p = status_at k p (first_break p.code p.period (k - (p.start + p.period)) p.start)

module _ (ops : Operations) (c : Code) (game : GameContent) (group : Operations) (built : game ≡ content_in ops c) (its : group ≡ of_game ops c) where
  is_game : IsGameOf (listed ops) c game
  is_game = built_is_of ops c game built

  same_blocks : blocks_of game.code (listed group) ≡ blocks_of c (listed ops)
  same_blocks = (λ i. blocks_of (is_game.code i) (listed (its i))) ∙ blocks_of_game ops c

  -- a game that is built has the blocks of its operations
  pub group_held : list_all (sets.contains game.blocks) (blocks_of game.code (listed group)) ≡ true
  group_held = subst (λ pairs. list_all (sets.contains game.blocks) pairs ≡ true) (sym same_blocks) (blocks_held (listed ops) c game is_game)

  -- and its sheet is that of the game
  pub sheet_by-is : sheet_by game (listed group) ≡ game_sheet (listed ops) c
  sheet_by-is =
      let known_here = same_known (listed ops) c game is_game in
      let proved_here = same_proved (listed ops) c game is_game in
      let listed_here = ap sets.listed is_game.claims ∙ listed-claims_set c (listed ops) (listed-rises op_cmp ops) in
      λ i. record {
        code = is_game.code i;
        values = nim_values (is_game.code i) (known_here i);
        blocks = map (λ (f : Filing). record { dot = f.0; start = f.1.start; count = length f.1.values; status = elim (nat_lt (known_here i) f.1.start && not (proved_here i)) [ true ↦ Pending | false ↦ verdict f.1 ] }) (same_blocks i);
        periods = map (λ (p : Claim). record { dot = p.0; period = p.1; status = by_known (known_here i) p.1 }) (listed_here i);
        proved = option_map (λ (p : Claim). p.1) (find (λ (p : Claim). is_proved (by_known (known_here i) p.1)) (listed_here i));
      }

  -- the lines of its sheet are those of the game
  pub sheet_by-lines : sheet_lines (sheet_by game (listed group)) ≡ game_lines (listed ops) c
  sheet_by-lines = ap sheet_lines sheet_by-is ∙ lines_of_sheet (listed ops) c
