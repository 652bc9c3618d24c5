-- What a game says is what its blocks and claims among the operations say.
use Rattle.std.proofs.Common.{◌≡◌, ℕ, ◌+◌, ◌-◌, Bool, true, List, [], ◌∷◌, ◌++◌, map, Option, Some, None, refl, sym, ap, ◌∙◌, subst}
use Rattle.std.specs.Prelude.{IsTrue}
use Rattle.std.specs.List.{flat_map, list_all, list_any, cons_option}
use Rattle.std.specs.Cmp.{second_so}
use Rattle.std.specs.Map.{keys_of}
use Rattle.oct_code.specs.Code.{Code}
use Rattle.oct_ops.specs.Body.{Operation}
use Rattle.oct_ops.specs.Operation.{Block, Period}
use Rattle.oct_ops.specs.Sets as sets
use Rattle.oct_verify.specs.Filing.{Filing, blocks_in}
use Rattle.oct_verify.specs.FilingLaws.{filing_cmp_total, filing_cmp_exact}
use Rattle.oct_verify.specs.Known.{known, shows, is_shown}
use Rattle.oct_verify.proofs.KnownLaws.{known_is, known_one}
use Rattle.oct_period.specs.Claims.{Claim, claims_in}
use Rattle.oct_period.specs.ClaimLaws.{claim_cmp_total, claim_cmp_exact}
use Rattle.oct_period.specs.FarBlocks.{has_proved}
use Rattle.oct_period.specs.GameContent.{GameContent}
use Rattle.oct_period.specs.Periods.{first_break, is_proved, status_at}
use Rattle.oct_period.specs.declared.status.PeriodStatus.{PeriodStatus}
use Rattle.oct_pages.specs.Catalogue.{Text, blocks_of, claims_of, game_lines}
use Rattle.oct_pages.specs.GamesIn.{IsGameOf, claims_set, filings_of}
use Rattle.oct_pages.proofs.Held.{each_held}
use Rattle.oct_pages.proofs.Members.{any-map, any-listed}

pub held_rest : {X : Type 0} (p : X → Bool) (m : Option X) (rest : List X) → list_all p (cons_option m rest) ≡ true → list_all p rest ≡ true
held_rest p None rest h = h
held_rest p (Some x) rest h = second_so (p x) (list_all p rest) h

-- the status of a claim by the known length alone
abbrev by_known : ℕ → Period → PeriodStatus
by_known k p = status_at k p (first_break p.code p.period (k - (p.start + p.period)) p.start)

module _ (ops : List Operation) (c : Code) (game : GameContent) (is : IsGameOf ops c game) where
  pub blocks_held : list_all (sets.contains game.blocks) (blocks_of c ops) ≡ true
  blocks_held = subst (λ s. list_all (sets.contains s) (blocks_of c ops) ≡ true) (sym is.blocks) (each_held filing_cmp_total filing_cmp_exact (blocks_of c ops))

  game_blocks : List Block
  game_blocks = map (λ (f : Filing). f.1) (blocks_of c ops)

  same_shown : (n : ℕ) → is_shown (blocks_in game.blocks) n ≡ is_shown game_blocks n
  unfolding game_blocks
  same_shown n =
      ap (λ s. is_shown (map (λ (f : Filing). f.1) (sets.listed s)) n) is.blocks
      ∙ any-map (shows n) (λ (f : Filing). f.1) (sets.listed (filings_of ops c))
      ∙ any-listed filing_cmp_total filing_cmp_exact (λ (f : Filing). shows n f.1) (blocks_of c ops)
      ∙ sym (any-map (shows n) (λ (f : Filing). f.1) (blocks_of c ops))

  -- the game knows what the game's blocks make known
  pub same_known : known (blocks_in game.blocks) ≡ known (map (λ (f : Filing). f.1) (blocks_of c ops))
  unfolding game_blocks
  same_known =
      let mine = known_is (blocks_in game.blocks) in
      known_one game_blocks (known (blocks_in game.blocks)) (record {
        some = mine.some;
        shown = λ n a b. subst IsTrue (same_shown n) (mine.shown n a b);
        greatest = sym (same_shown (known (blocks_in game.blocks))) ∙ mine.greatest;
      })

  -- and proves the claims that they prove
  pub same_proved : has_proved (blocks_in game.blocks) (claims_in game.claims) ≡ has_proved (map (λ (f : Filing). f.1) (blocks_of c ops)) (map (λ (p : Claim). p.1) (claims_of c ops))
  same_proved =
      let proves = λ (k : ℕ) (p : Period). is_proved (by_known k p) in
      let mine = known (map (λ (f : Filing). f.1) (blocks_of c ops)) in
      (λ i. list_any (proves (same_known i)) (map (λ (p : Claim). p.1) (sets.listed (is.claims i))))
      ∙ any-map (proves mine) (λ (p : Claim). p.1) (sets.listed (claims_set ops c))
      ∙ any-listed claim_cmp_total claim_cmp_exact (λ (p : Claim). proves mine p.1) (claims_of c ops)
      ∙ sym (any-map (proves mine) (λ (p : Claim). p.1) (claims_of c ops))

-- the lines of the games of these entries
abbrev pub entries_lines : {V : Type 0} → List Operation → List (Code × V) → List Text
entries_lines ops entries = flat_map (λ e. game_lines ops e.0) entries

pub entries_games : {V : Type 0} (ops : List Operation) (entries : List (Code × V)) → entries_lines ops entries ≡ flat_map (game_lines ops) (keys_of entries)
entries_games ops [] = refl
entries_games ops (e ∷ entries) = ap (λ l. game_lines ops e.0 ++ l) (entries_games ops entries)
