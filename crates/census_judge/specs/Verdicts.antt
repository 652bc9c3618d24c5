-- What became of the blocks and claims that are new to a set.
use Rattle.std.specs.Prelude.{ℕ, ◌+◌, Bool, true, false, List, [], ◌∷◌, count_by, Option, Some, None, if◌then◌else◌}
use Rattle.std.specs.List.{flat_map}
use Rattle.oct_code.specs.Code.{Code}
use Rattle.oct_mex.specs.NimValues.{nim_value}
use Rattle.oct_ops.specs.Body as kind
use Rattle.oct_ops.specs.Body.{Body, Operation}
use Rattle.oct_ops.specs.Operation.{Dot, Block, Period, repeating}
use Rattle.oct_ops.specs.Operations.{Operations, contains, listed}
use Rattle.oct_pages.specs.Catalogue.{games}
use Rattle.oct_pages.specs.GamesIn.{content_in}
use Rattle.oct_period.specs.Claims.{claims_in}
use Rattle.oct_period.specs.FarBlocks.{block_status}
use Rattle.oct_period.specs.GameContent.{GameContent}
use Rattle.oct_period.specs.Periods.{is_proved, period_status}
use Rattle.oct_period.specs.declared.status.PeriodStatus.{PeriodStatus}
use Rattle.oct_period.specs.declared.status.PeriodStatus.TheVariants as of_claim
use Rattle.oct_store.specs.Summary.{of_game}
use Rattle.oct_verify.specs.Filing.{blocks_in}
use Rattle.oct_verify.specs.declared.status.Status.{Status}
use Rattle.oct_verify.specs.declared.status.Status.TheVariants as of_block
use Rattle.oct_sheet.specs.declared.summary.Tally.{Tally}
use Rattle.census_judge.specs.declared.verdicts.JudgedClaim.{JudgedClaim}
use Rattle.census_judge.specs.declared.verdicts.Verdict.{Verdict}
use Rattle.census_judge.specs.declared.verdicts.Verdict.TheVariants.{Proved, WrongBlock, WrongClaim, PendingBlock, PendingClaim}

-- ---- a block

abbrev pub block_verdict : Status → Verdict
block_verdict of_block.Proved = Proved
block_verdict (of_block.Refuted heap claimed truth) = WrongBlock heap claimed truth
block_verdict of_block.Pending = PendingBlock

-- ---- a claim

-- the claim with its start and its period exchanged
abbrev pub exchanged : Period → Period
exchanged p = repeating p.code p.period p.start

-- of a claim that breaks at this heap: the nim-values there and one period later, and whether the exchanged claim is proved
abbrev pub broken : List Block → Period → ℕ → Verdict
broken blocks p heap = WrongClaim p.start p.period heap (nim_value p.code heap) (nim_value p.code (heap + p.period)) (is_proved (period_status blocks (exchanged p)))

abbrev pub claim_verdict_by : List Block → Period → PeriodStatus → Verdict
claim_verdict_by blocks p of_claim.Proved = Proved
claim_verdict_by blocks p (of_claim.Refuted heap) = broken blocks p heap
claim_verdict_by blocks p (of_claim.Pending needs) = PendingClaim needs

abbrev pub claim_verdict : List Block → Period → Verdict
claim_verdict blocks p = claim_verdict_by blocks p (period_status blocks p)

-- ---- the operations of a game

-- by the blocks and claims of the game; notes and removals have none
abbrev pub verdict_of : GameContent → Body → Option Verdict
verdict_of game (kind.Block b) = Some (block_verdict (block_status (blocks_in game.blocks) (claims_in game.claims) b))
verdict_of game (kind.Period p) = Some (claim_verdict (blocks_in game.blocks) p)
verdict_of game (kind.Note n) = None
verdict_of game (kind.Removal r) = None

-- what is there, under its game and its dot
abbrev pub judged_by : Code → Dot → Option Verdict → List JudgedClaim
judged_by c d None = []
judged_by c d (Some v) = record { code = c; dot = d; verdict = v } ∷ []

-- of an operation that was there before nothing is said
abbrev pub judged_op : Operations → GameContent → Operation → List JudgedClaim
judged_op before game o = if contains before o then [] else judged_by game.code o.dot (verdict_of game o.body)

-- the new blocks and claims of a game, as of all that there are later
abbrev pub judged_in : Operations → Operations → Code → List JudgedClaim
judged_in before later c = flat_map (judged_op before (content_in later c)) (listed (of_game later c))

-- game by game, and in each in the order of the operations
abbrev pub judged : Operations → Operations → List JudgedClaim
judged before later = flat_map (judged_in before later) (games (listed later))

-- ---- how many there are of each

abbrev pub says_proved : Verdict → Bool
says_proved Proved = true
says_proved (WrongBlock heap claimed truth) = false
says_proved (WrongClaim start period heap value repeated exchanged) = false
says_proved PendingBlock = false
says_proved (PendingClaim needs) = false

abbrev pub says_refuted : Verdict → Bool
says_refuted Proved = false
says_refuted (WrongBlock heap claimed truth) = true
says_refuted (WrongClaim start period heap value repeated exchanged) = true
says_refuted PendingBlock = false
says_refuted (PendingClaim needs) = false

abbrev pub says_pending : Verdict → Bool
says_pending Proved = false
says_pending (WrongBlock heap claimed truth) = false
says_pending (WrongClaim start period heap value repeated exchanged) = false
says_pending PendingBlock = true
says_pending (PendingClaim needs) = true

-- how many have such a verdict
abbrev pub count_with : (Verdict → Bool) → List JudgedClaim → ℕ
count_with p all = count_by (λ j. p j.verdict) all

abbrev pub tally_of : List JudgedClaim → Tally
tally_of all = record { proved = count_with says_proved all; refuted = count_with says_refuted all; pending = count_with says_pending all }
