use Rattle.std.proofs.Common.{sym, ◌∙◌}
use Rattle.oct_mex.proofs.Periods.{periods_give_nim_values}
use Rattle.oct_search.proofs.search.Search.value_by.Goals as goal

pub returns-else-heap-seen : goal.returns-else-heap-seen
returns-else-heap-seen g c =
    let seen = c.args.seen in
    c.known-else-heap-seen.ensures ∙ sym (periods_give_nim_values c.args.self.now.code seen.start seen.period c.args.heap c.requires.holds c.if-heap-seen.false)
