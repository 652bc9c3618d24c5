use Rattle.std.proofs.Common.{Ok, map, sym, ap, ◌∙◌}
use Rattle.oct_log.specs.Diff.{diff_of_games}
use Rattle.census_fold.specs.Digests.{operations_in}
use Rattle.census_state.specs.Codes.{codes_of}
use Rattle.census_state.specs.Steps.{◌>>=◌}
use Rattle.census_fold.proofs.reading.diff_of_games.Goals as goal

pub returns-clause-ok : goal.returns-clause-ok
returns-clause-ok c =
    let words = map (λ word. word.items) c.args.words.now in
    ap (λ found. found >>= λ a. operations_in c.args.other.now >>= λ b. codes_of words >>= λ named. Ok (diff_of_games a b named)) c.in_ok-first.ensures.ok
    ∙ ap (λ found. found >>= λ b. codes_of words >>= λ named. Ok (diff_of_games c.in_ok-first.first b named)) c.in_ok-second.ensures.ok
    ∙ ap (λ found. found >>= λ named. Ok (diff_of_games c.in_ok-first.first c.in_ok-second.second named)) c.in_ok-named.ensures.ok
    ∙ (λ i. Ok (diff_of_games (sym (c.store.ensures ∙ c.as_record.ensures) i) (sym (c.store-2.ensures ∙ c.as_record-2.ensures) i) (sym c.deref.ensures.value i))) ∙ sym (ap Ok c.in_ok-text.ensures)
