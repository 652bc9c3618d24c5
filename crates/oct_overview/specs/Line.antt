-- What a line says of a game, and which games are told of.
use Rattle.std.specs.Prelude.{ℕ, ◌+◌, ◌-◌, ◌==◌, Bool, false, not, nat_lt, List, length, filter, Option, Some, None, is_none}
use Rattle.std.specs.List.{find, list_all, list_any}
use Rattle.oct_code.specs.Code.{Code}
use Rattle.oct_ops.specs.Body.{Operation}
use Rattle.oct_ops.specs.Operation.{Period}
use Rattle.oct_pages.specs.Sheet.{GameSheet, game_sheet}
use Rattle.oct_pages.specs.declared.statuses.PeriodRow.{PeriodRow}
use Rattle.oct_period.specs.Claims.{is_same}
use Rattle.oct_period.specs.Found.{claims_up_to}
use Rattle.oct_period.specs.Periods.{first_break, is_proved, status_at}
use Rattle.oct_sheet.specs.Sheet.{remarks_of}
use Rattle.oct_sheet.specs.Summary.{summary_of}
use Rattle.oct_text.specs.declared.form.Form.{Form}
use Rattle.oct_text.specs.declared.told.Told.{Told}
use Rattle.oct_text.specs.declared.told.Told.TheVariants.{Counts, Refutations}
use Rattle.oct_overview.specs.declared.line.GameLine.{GameLine}
use Rattle.oct_overview.specs.declared.line.LeastPeriod.{LeastPeriod}
use Rattle.oct_overview.specs.declared.listing.Condition.{Condition}
use Rattle.oct_overview.specs.declared.listing.Condition.TheVariants.{OfPeriod, NoPeriod, Unclaimed, KnownBelow}
use Rattle.oct_overview.specs.declared.listing.Listing.{Listing}
use Rattle.oct_overview.specs.declared.listing.Listing.TheVariants.{Games, Refuted}

-- ---- the period of a game

-- whether the first `known` nim-values of its game prove the claim
abbrev pub proves : ℕ → Period → Bool
proves known p = is_proved (status_at known p (first_break p.code p.period (known - (p.start + p.period)) p.start))

-- the least period that so many nim-values prove, and of this the least start, whether or not somebody claimed it
abbrev pub least_of : Code → ℕ → Option Period
least_of c known = find (proves known) (claims_up_to c known)

abbrev pub least_in : GameSheet → Option Period
least_in g = least_of g.code (length g.values)

-- whether a claim says just this; it is proved as the period is
abbrev pub claimed_in : List PeriodRow → Period → Bool
claimed_in rows p = list_any (λ row. is_same row.period p) rows

abbrev pub least_by : List PeriodRow → Option Period → Option LeastPeriod
least_by rows None = None
least_by rows (Some p) = Some (record { period = p; is_claimed = claimed_in rows p })

abbrev pub period_of : GameSheet → Option LeastPeriod
period_of g = least_by g.periods (least_in g)

-- the game as pages show it: its period is this one, whether or not somebody claimed it
abbrev pub with_least : GameSheet → GameSheet
with_least g = record g { proved = least_in g }

-- ---- the line of a game

-- some of it is withdrawn by these notes
abbrev pub line_of : List Operation → GameSheet → GameLine
line_of notes g = record { summary = summary_of notes g; least = period_of g }

-- ---- which games are told of

abbrev pub has_period : ℕ → Option LeastPeriod → Bool
has_period n None = false
has_period n (Some least) = least.period.period == n

abbrev pub is_unclaimed : Option LeastPeriod → Bool
is_unclaimed None = false
is_unclaimed (Some least) = not least.is_claimed

abbrev pub holds : Condition → GameLine → Bool
holds (OfPeriod n) line = has_period n line.least
holds NoPeriod line = is_none line.least
holds Unclaimed line = is_unclaimed line.least
holds (KnownBelow n) line = nat_lt line.summary.known n

-- each condition holds; where there is none, every game is told of
abbrev pub is_selected : List Condition → GameLine → Bool
is_selected which line = list_all (λ condition. holds condition line) which

-- those of the games of which each condition holds, in their order
abbrev pub selected : List Condition → List Operation → List Code → List Code
selected which ops games = filter (λ c. is_selected which (line_of (remarks_of ops) (game_sheet ops c))) games

-- ---- what is told in lines

abbrev pub listing_of : Told → Form → Listing
listing_of Counts form = Games form
listing_of Refutations form = Refuted form
