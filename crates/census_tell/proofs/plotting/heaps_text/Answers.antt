use Rattle.std.proofs.Common.{arith, ◌≡◌, ◌<◌, ℕ, false, Ok, min, length, ◌-◌, ◌++◌, sym, ap, ◌∙◌}
use Rattle.std.specs.Prelude.{nat_le}
use Rattle.std.proofs.lemmas.Bool.{cond-false}
use Rattle.std.proofs.lemmas.Bool.Decides.{nat_tests}
use Rattle.oct_mex.specs.NimValues.{nim_values}
use Rattle.oct_verify.specs.Filing.{GameBlocks, blocks_in}
use Rattle.oct_verify.specs.Known.{known}
use Rattle.oct_plot.specs.Plot.{plot_between}
use Rattle.census_tell.proofs.plotting.heaps_text.Goals as goal

-- a number that is below another is not at least that
below : (n from : ℕ) → from < n → nat_le n from ≡ false
below n from h = grind (arith, nat_tests, h)

pub returns-clause-ok : goal.returns-clause-ok
returns-clause-ok c =
    let values = c.known_values-values.ensures.values ∙ ap (λ (h : GameBlocks). nim_values h.code (known (blocks_in h.blocks))) c.ledger.ensures in
    let there = ap (λ vs. nat_le (length vs) c.args.from) (sym values) ∙ below (length c.known_values-values.result.now) c.args.from c.if-known-from.false in
    let last = c.min-last.ensures ∙ ap (λ vs. min c.args.to (length vs - 1)) values in
    let drawn =
    c.in_ok-write_plot_between.ensures.ok
    ∙ ap (λ front. front ++ plot_between c.code-code.result c.known_values-values.result.now c.args.from c.min-last.result c.find_period-found.result) c.new-text.ensures.items
    ∙ (λ i. plot_between (c.code-code.ensures i) (values i) c.args.from (last i) (c.find_period-found.ensures.value i)) in
    cond-false _ _ _ there ∙ ap Ok (sym drawn)
