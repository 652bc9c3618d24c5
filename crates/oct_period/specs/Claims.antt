-- Period claims under their dots, and finite sets of them.
use Rattle.std.specs.Prelude.{◌≡◌, Bool, ◌&&◌, ◌==◌, List, Option, map}
use Rattle.std.specs.List.{All, find, list_any}
use Rattle.std.specs.Ordering.{on, then_cmp}
use Rattle.std.specs.declared.cmp.Ordering.{Ordering}
use Rattle.std.specs.Coded.{Coded, coded×}
use Rattle.oct_code.specs.Code.{Code, code_eq}
use Rattle.oct_ops.specs.Codes.{dot_code, period_code}
use Rattle.oct_ops.specs.DotOrder.{dot_cmp}
use Rattle.oct_ops.specs.Operation.{Dot, Block, Period}
use Rattle.oct_ops.specs.Order.{period_cmp}
use Rattle.oct_ops.specs.Sets as sets
use Rattle.oct_period.specs.Periods.{is_proved, period_status}

-- a claim under its dot
abbrev pub Claim : Type 0
Claim = Dot × Period

-- by the dot, then by the claim, as operations are ordered
abbrev pub claim_cmp : Claim → Claim → Ordering
claim_cmp = then_cmp (on (λ c. c.0) dot_cmp) (on (λ c. c.1) period_cmp)

abbrev pub Claims : Type 0
Claims = sets.Set claim_cmp

-- the claims alone
abbrev pub periods_of : List Claim → List Period
periods_of = map (λ (c : Claim). c.1)

-- the claims of a set in the order of the operations
abbrev pub claims_in : Claims → List Period
claims_in claims = periods_of (sets.listed claims)

-- claims of this game
abbrev pub AreOfGame : Code → List Claim → Type 0
AreOfGame code = All (λ (c : Claim). c.1.code ≡ code)

-- the first claim that the blocks prove
abbrev pub first_proved : List Block → List Claim → Option Claim
first_proved blocks = find (λ (c : Claim). is_proved (period_status blocks c.1))

-- whether two claims are one: of the same game, with the same start and period
abbrev pub is_same : Period → Period → Bool
is_same p q = code_eq p.code q.code && ((p.start == q.start) && (p.period == q.period))

-- whether one of the claims is this one
abbrev pub is_claimed : List Period → Period → Bool
is_claimed claims p = list_any (λ q. is_same q p) claims

abbrev pub claim_code : Coded Claim
claim_code = coded× dot_code period_code
