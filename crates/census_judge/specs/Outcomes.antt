-- What became of all blocks and claims of a state.
use Rattle.std.specs.Prelude.{ℕ, ◌==◌, ◌++◌, List, codes, if◌then◌else◌, Result, Ok}
use Rattle.oct_delta.specs.Text.{Bytes}
use Rattle.oct_ops.specs.Operations.{empty}
use Rattle.oct_sheet.specs.declared.summary.Tally.{Tally}
use Rattle.oct_text.specs.Words.{Text, labelled}
use Rattle.census_judge.specs.Decisions.{decisions_of}
use Rattle.census_judge.specs.Verdicts.{judged, tally_of}
use Rattle.census_judge.specs.declared.verdicts.JudgedClaim.{JudgedClaim}
use Rattle.census_state.specs.Steps.{◌>>=◌}
use Rattle.census_state.specs.Stored.{loaded}
use Rattle.census_state.specs.declared.fault.Fault.{Fault}

abbrev pub count_line : Text → ℕ → Text
count_line label count = labelled label count ++ codes "\n"

-- where some are refuted, it is said how many of these one said oneself
abbrev pub of_them_line : ℕ → ℕ → Text
of_them_line own count = labelled (codes "refuted ") count ++ labelled (codes ", of them ") own ++ codes " of yours\n"

abbrev pub refuted_line : ℕ → ℕ → Text
refuted_line own count = if count == 0 then count_line (codes "refuted ") count else of_them_line own count

-- a line for those that are proved, for those that are refuted, and for those that are pending
abbrev pub tally_lines : ℕ → Tally → Text
tally_lines own t = count_line (codes "proved ") t.proved ++ refuted_line own t.refuted ++ count_line (codes "pending ") t.pending

-- by an author that says some of them
abbrev pub outcome_lines : ℕ → List JudgedClaim → Text
outcome_lines author all = tally_lines (decisions_of author all).own_refuted (tally_of all)

-- of all blocks and claims of the state, as where nothing was said before
abbrev pub outcome : Bytes → Result Text Fault
outcome state = loaded state >>= λ replica. Ok (outcome_lines replica.author (judged empty replica.ops))
