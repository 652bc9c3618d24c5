-- What was pending in a set and is decided by what is new in a later one.
use Rattle.std.specs.Prelude.{ℕ, ◌&&◌, ◌==◌, Bool, false, not, List, [], ◌∷◌, count_by, Option, Some, None, if◌then◌else◌}
use Rattle.std.specs.List.{flat_map, list_any}
use Rattle.oct_code.specs.Code.{Code}
use Rattle.oct_ops.specs.Body.{Operation}
use Rattle.oct_ops.specs.Operation.{Dot}
use Rattle.oct_ops.specs.Operations.{Operations, contains, listed}
use Rattle.oct_pages.specs.Catalogue.{games}
use Rattle.oct_pages.specs.GamesIn.{content_in}
use Rattle.oct_period.specs.GameContent.{GameContent}
use Rattle.oct_store.specs.Summary.{of_game}
use Rattle.census_judge.specs.Verdicts.{says_pending, says_proved, says_refuted, verdict_of}
use Rattle.census_judge.specs.declared.decisions.Decisions.{Decisions as Counts}
use Rattle.census_judge.specs.declared.verdicts.JudgedClaim.{JudgedClaim}
use Rattle.census_judge.specs.declared.verdicts.Verdict.{Verdict}

-- whether nothing decides what a verdict is of; where there is none, there is nothing to decide
abbrev pub is_open : Option Verdict → Bool
is_open None = false
is_open (Some v) = says_pending v

-- whether it was there, as a block or claim that nothing decided
abbrev pub was_pending : Operations → GameContent → Operation → Bool
was_pending before old o = contains before o && is_open (verdict_of old o.body)

-- what decides it, under its game and its dot; nothing where it is pending
abbrev pub decided_by : Code → Dot → Option Verdict → List JudgedClaim
decided_by c d None = []
decided_by c d (Some v) = if says_pending v then [] else record { code = c; dot = d; verdict = v } ∷ []

-- of what was pending in the old game: what decides it in the new one
abbrev pub decided_op : Operations → GameContent → GameContent → Operation → List JudgedClaim
decided_op before old game o = if was_pending before old o then decided_by game.code o.dot (verdict_of game o.body) else []

-- of a game of which something is new, since nothing else decides anything
abbrev pub decided_in : Operations → Operations → Code → List JudgedClaim
decided_in before later c =
    if list_any (λ o. not (contains before o)) (listed (of_game later c))
    then flat_map (decided_op before (content_in before c) (content_in later c)) (listed (of_game later c))
    else []

-- game by game, and in each in the order of the operations
abbrev pub decided : Operations → Operations → List JudgedClaim
decided before later = flat_map (decided_in before later) (games (listed later))

-- ---- how many there are, of an author's own and of others

abbrev pub is_of : ℕ → JudgedClaim → Bool
is_of author j = j.dot.author == author

abbrev pub decisions_of : ℕ → List JudgedClaim → Counts
decisions_of author all = record {
  own_proved = count_by (λ j. is_of author j && says_proved j.verdict) all;
  own_refuted = count_by (λ j. is_of author j && says_refuted j.verdict) all;
  others_proved = count_by (λ j. not (is_of author j) && says_proved j.verdict) all;
  others_refuted = count_by (λ j. not (is_of author j) && says_refuted j.verdict) all;
}
