use Rattle.std.proofs.Common.{arith, ◌≡◌, [], ◌∷◌, ◌++◌, replicate, reverse, ap, ◌∙◌}
use Rattle.std.proofs.lemmas.List.{map-append}
use Rattle.oct_plot.specs.Rows.{turned_rows}
use Rattle.oct_plot.proofs.Rows.{replicate_more}
use Rattle.oct_plot.proofs.points.empty_rows.Goals as goal

pub loop-init : goal.loop-init
loop-init g c = ap turned_rows c.new-rows.ensures.items

pub loop-preserved : goal.loop-preserved
loop-preserved g c =
    ap turned_rows c.in_ok-push.ensures.items
    ∙ map-append (λ cs. reverse cs.items) c.loop.rows.items (c.new.result ∷ [])
    ∙ ap (λ rows. rows ++ reverse c.new.result.items ∷ []) c.loop.invariant
    ∙ ap (λ cs. replicate c.loop.counter [] ++ reverse cs ∷ []) c.new.ensures.items
    ∙ replicate_more c.loop.counter

pub returns : goal.returns
returns g c =
    let all : c.loop.counter ≡ 641 = omega (arith, c.loop-test.false, c.loop.auto.counter-end) in
    c.loop.invariant ∙ ap (λ k. replicate k []) all
