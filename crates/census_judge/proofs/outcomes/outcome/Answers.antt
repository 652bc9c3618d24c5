use Rattle.std.proofs.Common.{◌≡◌, Ok, ◌++◌, sym, ap, ◌∙◌}
use Rattle.oct_ops.specs.Operations.{Operations, empty}
use Rattle.census_judge.specs.Decisions.{decisions_of}
use Rattle.census_judge.specs.Outcomes.{outcome_lines, tally_lines}
use Rattle.census_judge.specs.Verdicts.{judged, tally_of}
use Rattle.census_state.specs.Steps.{◌>>=◌}
use Rattle.census_judge.proofs.outcomes.outcome.Goals as goal

pub returns-clause-ok : goal.returns-clause-ok
returns-clause-ok c =
    let held = c.in_ok-held.held.ops in
    let all : c.in_ok-all.all.items ≡ judged empty held = c.in_ok-all.ensures ∙ ap (λ (before : Operations). judged before held) (c.as_record.ensures ∙ c.new-nothing.ensures) in
    let author = c.in_ok-held.held.author in
    let tally = c.tally.ensures ∙ ap tally_of (c.deref-2.ensures.value ∙ all) in
    let own = ap (λ d. d.own_refuted) (c.count_decided-own.ensures ∙ (λ i. decisions_of (c.author.ensures.value i) ((c.deref.ensures.value ∙ all) i))) in
    ap (λ found. found >>= λ replica. Ok (outcome_lines replica.author (judged empty replica.ops))) c.in_ok-held.ensures.ok
    ∙ sym (ap Ok (c.in_ok-append_tally.ensures ∙ (λ i. c.new-text.ensures.items i ++ tally_lines (own i) (tally i))))
