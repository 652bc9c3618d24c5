-- What each command gives, by the bytes of its files.
use Rattle.std.specs.Prelude.{◌==◌, List, [], Option, Some, None, Result, map, if◌then◌else◌}
use Rattle.std.specs.Result.{result_err}
use Rattle.oct_delta.specs.Text.{Bytes}
use Rattle.census_fold.specs.Deltas as deltas
use Rattle.census_tell.specs.Asking as asking
use Rattle.census_issue.specs.Claiming as claiming
use Rattle.census_issue.specs.Extending as extending
use Rattle.census_issue.specs.Finding as finding
use Rattle.census_issue.specs.Issuing as issuing
use Rattle.census_issue.specs.Turns.{Turn}
use Rattle.census_tell.specs.Moving as moving
use Rattle.census_tell.specs.Overview as overview
use Rattle.census_state.specs.States as states
use Rattle.census_tell.specs.Viewing as viewing
use Rattle.census_state.specs.Replies.{Answer}
use Rattle.census_state.specs.declared.fault.Fault.{Fault}
use Rattle.census_state.specs.declared.fault.Fault.TheVariants.{Zero}
use Rattle.census_state.specs.declared.request.Request.{Request}
use Rattle.census_state.specs.declared.request.Request.TheVariants.{Init, Renumber, Import, Claim, Compute, Extend, Find, Survey, Period, Note, Unnote, Merge, Delta, DeltaOf, Value, Move, Page, Show, Bfile, Plot, Json, Report, Games, Only}

-- the new state, the file and the text, or the first fault: a number out of its range, then that of the state, then those of the command in its order, then
-- that no number is left, then that there are too many operations
abbrev pub performed : Request → Bytes → Bytes → Result Answer Fault
performed (Init id) state file = states.init id
performed (Renumber id) state file = states.renumber id state
performed Import state file = issuing.import state file
performed (Claim code) state file = claiming.claim state code.items file
performed (Compute code count) state file = issuing.compute state code.items count
performed (Extend count codes) state file = extending.extend state count (map (λ word. word.items) codes.items)
performed (Find codes form) state file = finding.find form state (map (λ word. word.items) codes.items)
performed (Survey count codes form) state file = finding.survey form state count (map (λ word. word.items) codes.items)
performed (Period code start period) state file = issuing.period state code.items start period
performed (Note name text) state file = issuing.note state name.items text.items
performed (Unnote name) state file = issuing.unnote state name.items
performed Merge state file = states.merge state file
performed Delta state file = deltas.delta state
performed (DeltaOf codes) state file = deltas.delta_of_games state (map (λ word. word.items) codes.items)
performed (Value code heaps form) state file = asking.value form state code.items heaps.items
performed (Move code heaps form) state file = moving.winning form state code.items heaps.items
performed (Page number) state file = asking.page state number
performed Show state file = asking.show state
performed (Bfile code) state file = viewing.bfile state code.items
performed (Plot code) state file = viewing.plot state code.items
performed Json state file = viewing.json state
performed (Report how) state file = viewing.report state how
performed (Games codes what form) state file = overview.games state (map (λ word. word.items) codes.items) what form
performed (Only codes view) state file = overview.only state (map (λ word. word.items) codes.items) view

-- the fault that the numbers of a command show, whatever its files hold
abbrev pub number_fault : Request → Option Fault
number_fault (Init id) = if id == 0 then Some Zero else None
number_fault (Renumber id) = if id == 0 then Some Zero else None
number_fault (Extend count codes) = result_err (extending.wanted count)
number_fault (Survey count codes form) = result_err (extending.wanted count)
number_fault request = None

-- what is done after each game of a command that gives games their turns, up to the first fault
abbrev pub stages_of : Request → Bytes → List Turn
stages_of (Extend count codes) state = extending.stages_in_turns extending.extend_turn state count (map (λ word. word.items) codes.items)
stages_of (Survey count codes form) state = extending.stages_in_turns (finding.survey_turn form) state count (map (λ word. word.items) codes.items)
stages_of request state = []
