-- Games that have their turns one after another.
use Rattle.std.specs.Prelude.{◌≡◌, List, [], ◌∷◌, ◌++◌, Result, Ok, Err}
use Rattle.oct_code.specs.Code.{Code}
use Rattle.oct_text.specs.Words.{Text}
use Rattle.oct_record.specs.Content.{RecordContent}
use Rattle.census_state.specs.Steps.{◌>>=◌}
use Rattle.census_state.specs.declared.fault.Fault.{Fault}

-- a replica, and the lines that were printed on the way to it
pub record Turn : Type 0 where
  pub replica : RecordContent
  pub text : Text

-- the lines of a turn follow those before it
abbrev pub behind : Turn → Turn → Turn
behind so_far next = record { replica = next.replica; text = so_far.text ++ next.text }

-- each game has its turn on what the last one left
abbrev pub in_turn : (Code → RecordContent → Result Turn Fault) → List Code → Turn → Result Turn Fault
in_turn turn [] so_far = Ok so_far
in_turn turn (c ∷ games) so_far = turn c so_far.replica >>= λ next. in_turn turn games (behind so_far next)

-- what is done, and what comes after it
abbrev pub stage : (Turn → List Turn) → Turn → Result Turn Fault → List Turn
stage later so_far (Ok next) = behind so_far next ∷ later (behind so_far next)
stage later so_far (Err e) = []

-- what is done after each game, up to the first that is refused
abbrev pub stages : (Code → RecordContent → Result Turn Fault) → List Code → Turn → List Turn
stages turn [] so_far = []
stages turn (c ∷ games) so_far = stage (stages turn games) so_far (turn c so_far.replica)

-- what becomes of a keeper that keeps these, one after another
abbrev pub Kept : {K : Type 0} → (K → Turn → K → Type 0) → K → List Turn → K → Type 0
Kept keeps old [] new = new ≡ old
Kept {K} keeps old (t ∷ ts) new = (mid : K) × keeps old t mid × Kept keeps mid ts new

-- it kept some of these, up to the rest
pub record KeptUpTo {K : Type 0} (keeps : K → Turn → K → Type 0) (old : K) (all rest : List Turn) (new : K) : Type 0 where
  pub done : List Turn
  pub kept : Kept keeps old done new
  pub whole : done ++ rest ≡ all

abbrev pub KeptSome : {K : Type 0} → (K → Turn → K → Type 0) → K → List Turn → K → Type 0
KeptSome keeps old all new = (rest : List Turn) × KeptUpTo keeps old all rest new
