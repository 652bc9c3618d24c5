-- Blocks of the next nim-values, put in one after another, and what follows from the known length alone.
use Rattle.std.proofs.Common.{arith, ◌≡◌, ℕ, ◌+◌, ◌-◌, ◌<◌, ◌≤◌, ◌||◌, Bool, true, false, List, [], ◌∷◌, length, map, min, Option, Some, is_none, nat_lt, refl, sym, ap, subst, ◌∙◌, inl, inr, length-drop}
use Rattle.std.proofs.lemmas.Bool.{cases_lt, false_from_ne_true, or_left, or_right}
use Rattle.std.specs.List.{find, list_any}
use Rattle.oct_code.specs.Code.{Code}
use Rattle.oct_mex.specs.NimValues.{nim_value, nim_values}
use Rattle.oct_mex.proofs.NimValues.{nim_values-at, nim_values-length}
use Rattle.oct_ops.specs.Operation.{Block, Dot, Period, claimed}
use Rattle.oct_ops.specs.Sets as sets
use Rattle.oct_ops.specs.SetLaws.{listed-empty, listed-insert, set_of-listed}
use Rattle.oct_ops.specs.declared.limits.TheConstants.{MAX_ITEMS}
use Rattle.std.specs.BTreeSet.{insert_key}
use Rattle.oct_period.specs.ClaimLaws.{claim_cmp_total, claim_cmp_exact}
use Rattle.oct_period.specs.Claims.{claim_cmp, claims_in, periods_of}
use Rattle.oct_period.specs.GameContent.{GameContent}
use Rattle.oct_verify.specs.Filing.{Filing, Filings, blocks_in, filing_cmp}
use Rattle.oct_verify.specs.FilingLaws.{filing_cmp_total, filing_cmp_exact}
use Rattle.oct_verify.specs.Known.{end, is_shown, is_true, known, shows}
use Rattle.oct_verify.specs.Next.{next_values}
use Rattle.oct_verify.proofs.KnownLaws.{known_is, known_one, shown-by, shows-place}
use Rattle.oct_verify.proofs.Verdicts.{next_is_true, none_wrong}
use Rattle.oct_period.specs.Found.{claims_up_to, found_period}
use Rattle.oct_period.specs.Moving.{winning_move, winning_move_by}
use Rattle.oct_period.specs.Periods.{first_break, is_proved, position_value, position_value_from, status_at, value_by}
use Rattle.census_search.specs.FirstGames.{EndsAtKnown, IsFirstGame, IsKnownTo, first_move, first_value, first_values, listed_if, proved_claims}
use Rattle.oct_text.proofs.Members.{any-listed, any-map}

-- a place is shown by a set with one filing more where it is shown by that or by the set
shown_more : (blocks : Filings) (f : Filing) (n : ℕ) → is_shown (blocks_in (sets.insert blocks f)) n ≡ (shows n f.1 || is_shown (blocks_in blocks) n)
shown_more blocks f n =
    any-map (shows n) (λ (g : Filing). g.1) (sets.listed (sets.insert blocks f))
    ∙ ap (λ (s : Filings). list_any (λ (g : Filing). shows n g.1) (sets.listed (sets.insert s f))) (sym (set_of-listed filing_cmp_total filing_cmp_exact blocks))
    ∙ any-listed filing_cmp_total filing_cmp_exact (λ (g : Filing). shows n g.1) (f ∷ sets.listed blocks)
    ∙ ap (λ b. shows n f.1 || b) (sym (any-map (shows n) (λ (g : Filing). g.1) (sets.listed blocks)))

-- a block shows no place past its end
not_past : (b : Block) (n : ℕ) → end b ≤ n → shows n b ≡ false
not_past b n past = false_from_ne_true (shows n b) (λ shown. let below : n < end b = (shown-by b n shown).1 in omega arith)

none_of : (a b : Bool) → a ≡ false → b ≡ false → (a || b) ≡ false
none_of a b p q = ap (λ x. x || b) p ∙ q

module _ (c : Code) (blocks : Filings) (d : Dot) (room : ℕ) (ends : EndsAtKnown (blocks_in blocks)) where
  abbrev pub next : Block
  next = claimed c (known (blocks_in blocks)) (next_values c (blocks_in blocks) room)

  abbrev pub more : List Block
  more = blocks_in (sets.insert blocks (d, next))

  next_end : end next ≡ known (blocks_in blocks) + room
  next_end =
      let k = known (blocks_in blocks) in
      let dropped = length-drop k (nim_values c (k + room)) in
      let all = nim_values-length c (k + room) in
      omega (arith, dropped, all)

  none_past : (n : ℕ) → known (blocks_in blocks) + room ≤ n → is_shown more n ≡ false
  none_past n past =
      let last = next_end in
      shown_more blocks (d, next) n ∙ none_of (shows n next) (is_shown (blocks_in blocks) n) (not_past next n (omega arith)) (ends n (omega arith))

  -- the values of the block are known, and no more
  pub next_known : known more ≡ known (blocks_in blocks) + room
  next_known =
      let k = known (blocks_in blocks) in
      let last = next_end in
      let old = known_is (blocks_in blocks) in
      sym (known_one more (k + room) (record {
        some = let some = old.some in omega arith;
        shown = λ n low high. shown_more blocks (d, next) n ∙ elim (cases_lt n k) [
          | inl before ↦ or_right (shows n next) (is_shown (blocks_in blocks) n) (old.shown n low before)
          | inr from ↦ or_left (shows n next) (is_shown (blocks_in blocks) n) (shows-place next n from (omega arith) (next_is_true c (blocks_in blocks) room))
        ];
        greatest = none_past (k + room) (omega arith);
      }))

  pub next_ends : EndsAtKnown more
  next_ends n past = let k = next_known in none_past n (omega arith)

-- ---- the block of the first values

-- it is true
first_true : (c : Code) (count : ℕ) → is_true (claimed c 0 (nim_values c count)) ≡ true
first_true c count = ap is_none (none_wrong c 0 (nim_values c count) (λ k lt. nim_values-at c count k (omega (arith, nim_values-length c count)) ∙ ap (nim_value c) (let e : k ≡ 0 + k = omega arith in e)))

-- and makes so many values known
pub first_known : (c : Code) (count : ℕ) → 1 ≤ count → known (first_values c count) ≡ count
first_known c count some =
    let b = claimed c 0 (nim_values c count) in
    let size = nim_values-length c count in
    sym (known_one (first_values c count) count (record {
      some = some;
      shown = λ n low high. or_left (shows n b) false (shows-place b n (omega arith) (omega arith) (first_true c count));
      greatest = none_of (shows count b) false (not_past b count (omega arith)) refl;
    }))

-- ---- what follows from the known length alone

-- whether so many known nim-values prove a claim
abbrev is_proved_by : ℕ → Period → Bool
is_proved_by k p = is_proved (status_at k p (first_break p.code p.period (k - (p.start + p.period)) p.start))

abbrev value_with : Code → List Period → ℕ → ℕ → Option ℕ
value_with c claims k n = elim (nat_lt n k) [ true ↦ Some (nim_value c n) | false ↦ value_by c n (find (is_proved_by k) claims) ]

module _ (c : Code) (some others : List Block) (same : known some ≡ known others) where
  pub same_period : found_period c some ≡ found_period c others
  same_period = ap (λ k. find (is_proved_by k) (claims_up_to c k)) same

  pub same_value : (claims : List Period) (heaps : List ℕ) → position_value c some claims heaps ≡ position_value c others claims heaps
  same_value claims heaps = ap (λ k. position_value_from (value_with c claims k) 0 heaps) same

  pub same_move : (claims : List Period) (heaps : List ℕ) → winning_move c some claims heaps ≡ winning_move c others claims heaps
  same_move claims heaps = ap (winning_move_by c heaps) (same_value claims heaps)

-- the claim of the period that so many values prove
pub claims_of : (c : Code) (count : ℕ) (blocks : List Block) → 1 ≤ count → known blocks ≡ count → listed_if (found_period c blocks) ≡ proved_claims c count
claims_of c count blocks some length = ap listed_if (same_period c blocks (first_values c count) (length ∙ sym (first_known c count some)))

-- ---- games

-- no block and no claim
none_blocks : blocks_in (sets.empty {R = filing_cmp}) ≡ []
none_blocks = ap (map (λ (f : Filing). f.1)) (listed-empty filing_cmp_total filing_cmp_exact)

pub none_known : known (blocks_in sets.empty) ≡ 1
none_known = ap known none_blocks

pub none_ends : EndsAtKnown (blocks_in sets.empty)
none_ends = subst EndsAtKnown (sym none_blocks) (λ n past. refl)

pub none_claims : claims_in sets.empty ≡ []
none_claims = ap periods_of (listed-empty claim_cmp_total claim_cmp_exact)

pub one_claim : (d : Dot) (p : Period) → claims_in (sets.insert sets.empty (d, p)) ≡ p ∷ []
one_claim d p = ap periods_of (listed-insert claim_cmp_total claim_cmp_exact sets.empty (d, p) ∙ ap (λ l. insert_key claim_cmp l (d, p)) (listed-empty claim_cmp_total claim_cmp_exact))

-- a game with the block of the next values
pub block_added : (old new : GameContent) (count room : ℕ) (d : Dot) (b : Block) → EndsAtKnown (blocks_in old.blocks) → known (blocks_in old.blocks) < count
    → room ≡ min (count - known (blocks_in old.blocks)) MAX_ITEMS → b ≡ claimed old.code (known (blocks_in old.blocks)) (next_values old.code (blocks_in old.blocks) room)
    → new ≡ record old { blocks = sets.insert old.blocks (d, b) } → IsKnownTo old.code (min count (known (blocks_in old.blocks) + MAX_ITEMS)) new
block_added old new count room d b ends less fits block is =
    let k = known (blocks_in old.blocks) in
    let blocks : blocks_in new.blocks ≡ more old.code old.blocks d room ends =
    ap (λ (h : GameContent). blocks_in h.blocks) is ∙ ap (λ (x : Block). blocks_in (sets.insert old.blocks (d, x))) block in
    let size : k + room ≡ min count (k + MAX_ITEMS) = omega (arith, fits, less) in
    record {
      code = ap (λ (h : GameContent). h.code) is;
      length = ap known blocks ∙ next_known old.code old.blocks d room ends ∙ size;
      end = subst EndsAtKnown (sym blocks) (next_ends old.code old.blocks d room ends);
    }

-- what is said of the first values is said of the game
module _ (c : Code) (count : ℕ) (game : GameContent) (is : IsFirstGame c count game) (some : 1 ≤ count) (heaps : List ℕ) where
  same_length : known (blocks_in game.blocks) ≡ known (first_values c count)
  same_length = is.length ∙ sym (first_known c count some)

  pub value_first : position_value game.code (blocks_in game.blocks) (claims_in game.claims) heaps ≡ first_value c count heaps
  value_first =
      (λ i. position_value (is.code i) (blocks_in game.blocks) (is.claims i) heaps)
      ∙ same_value c (blocks_in game.blocks) (first_values c count) same_length (proved_claims c count) heaps

  pub move_first : winning_move game.code (blocks_in game.blocks) (claims_in game.claims) heaps ≡ first_move c count heaps
  move_first =
      (λ i. winning_move (is.code i) (blocks_in game.blocks) (is.claims i) heaps)
      ∙ same_move c (blocks_in game.blocks) (first_values c count) same_length (proved_claims c count) heaps
