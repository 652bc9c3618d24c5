-- What was pending, and is decided.
use Rattle.std.proofs.Common.{◌≡◌, ◌<◌, ◌≤◌, ℕ, ◌+◌, Bool, true, false, not, ◌||◌, List, [], ◌∷◌, ◌++◌, length, take, get_or, append-nil, add-one, cond, Option, Some, None, refl, sym, ap, ◌∙◌}
use Rattle.std.specs.Prelude.{is_some}
use Rattle.std.specs.List.{flat_map, list_any}
use Rattle.std.proofs.lemmas.Grind.{flat_map-append}
use Rattle.std.proofs.Math.Seq.{take-suc}
use Rattle.oct_code.specs.Code.{Code}
use Rattle.oct_ops.specs.Body.{Operation}
use Rattle.oct_ops.specs.Operation.{Block, Period}
use Rattle.oct_ops.specs.Operations.{Operations, contains, listed}
use Rattle.oct_pages.specs.GamesIn.{content_in}
use Rattle.oct_period.specs.Claims.{Claim, first_proved, periods_of}
use Rattle.oct_period.specs.FarBlocks.{block_status}
use Rattle.oct_period.specs.GameContent.{GameContent}
use Rattle.oct_period.proofs.FarLaws.{far_settled, far_waits, found_has, near_settled, none_has}
use Rattle.oct_store.specs.Summary.{of_game}
use Rattle.oct_verify.specs.Known.{first_wrong, known, verdict, verdict_at}
use Rattle.oct_verify.specs.declared.status.Status.{Status}
use Rattle.census_judge.specs.Verdicts.{block_verdict, says_pending, verdict_of}
use Rattle.census_judge.specs.Decisions.{decided_by, decided_in, decided_op, was_pending}

-- ---- blocks

abbrev is_waiting : Status → Bool
is_waiting s = says_pending (block_verdict s)

settled_block : (b : Block) → is_waiting (verdict b) ≡ false
settled_block b = by (first_wrong b.code b.start b.values)
  where
    by : (x : Option ℕ) → is_waiting (verdict_at b x) ≡ false
    by None = refl
    by (Some n) = refl

-- a block that the known values reach is settled
pub near_block : (blocks : List Block) (claims : List Period) (b : Block) → b.start ≤ known blocks → is_waiting (block_status blocks claims b) ≡ false
near_block blocks claims b reached = ap is_waiting (near_settled blocks claims b reached) ∙ settled_block b

none_waits : (r : Bool) → false ≡ not r → r ≡ true
none_waits true none = refl
none_waits false none = cc none

some_settles : (r : Bool) → true ≡ not r → r ≡ false
some_settles true some = cc some
some_settles false some = refl

-- one beyond them waits exactly where there is no proved claim
pub far_block : (blocks : List Block) (claims : List Claim) (b : Block) (found : Option Claim) (r : Bool) → found ≡ first_proved blocks claims → known blocks < b.start → is_some found ≡ not r → r ≡ is_waiting (block_status blocks (periods_of claims) b)
far_block blocks claims b None r is beyond none =
    none_waits r none ∙ sym (ap is_waiting (far_waits blocks (periods_of claims) b beyond (none_has blocks claims is)))
far_block blocks claims b (Some x) r is beyond some =
    some_settles r some ∙ sym (ap is_waiting (far_settled blocks (periods_of claims) b (found_has blocks claims x is)) ∙ settled_block b)

-- ---- the operations of a game

-- where nothing was pending nothing is decided
pub none_pending : (before : Operations) (old game : GameContent) (ops : List Operation) → list_any (was_pending before old) ops ≡ false → flat_map (decided_op before old game) ops ≡ []
none_pending before old game [] h = refl
none_pending before old game (o ∷ ops) h = by (was_pending before old o) h (none_pending before old game ops)
  where
    by : (t : Bool) → (t || list_any (was_pending before old) ops) ≡ false → (list_any (was_pending before old) ops ≡ false → flat_map (decided_op before old game) ops ≡ [])
        → cond t (decided_by game.code o.dot (verdict_of game o.body)) [] ++ flat_map (decided_op before old game) ops ≡ []
    by true k rest = cc
    by false k rest = rest k

-- ---- a game

-- whether one of them was not there before
abbrev has_news : Operations → Operations → Bool
has_news before ops = list_any (λ o. not (contains before o)) (listed ops)

module _ (before later : Operations) (c : Code) (ops : Operations) (is : ops ≡ of_game later c) where
  -- where nothing is new nothing is decided
  pub none_decided : has_news before ops ≡ false → decided_in before later c ≡ []
  none_decided none =
      ap (λ t. cond t (flat_map (decided_op before (content_in before c) (content_in later c)) (listed (of_game later c))) []) (ap (has_news before) (sym is) ∙ none)

  pub some_decided : has_news before ops ≡ true → decided_in before later c ≡ flat_map (decided_op before (content_in before c) (content_in later c)) (listed ops)
  some_decided some =
      ap (λ t. cond t (flat_map (decided_op before (content_in before c) (content_in later c)) (listed (of_game later c))) []) (ap (has_news before) (sym is) ∙ some)
      ∙ ap (λ s. flat_map (decided_op before (content_in before c) (content_in later c)) (listed s)) (sym is)

-- ---- one game after another

-- what is said of one more
pub one_more : {X Y : Type 0} (f : X → List Y) (xs : List X) (i : ℕ) (x : X) (old new : List Y) → i < length xs → x ≡ get_or xs i x → old ≡ flat_map f (take i xs) → new ≡ old ++ f x → new ≡ flat_map f (take (i + 1) xs)
one_more f xs i x old new within is so_far grown =
    rw add-one
    (grown
    ∙ ap (λ l. l ++ f x) so_far
    ∙ sym
    (ap (flat_map f) (take-suc xs i x within ∙ ap (λ y. take i xs ++ (y ∷ [])) (sym is))
    ∙ flat_map-append f (take i xs) (x ∷ [])
    ∙ ap (λ l. flat_map f (take i xs) ++ l) (append-nil (f x))))
