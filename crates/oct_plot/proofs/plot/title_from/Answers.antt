use Rattle.std.proofs.Common.{◌++◌, codes, sym, ap, ◌∙◌}
use Rattle.std.proofs.lemmas.List.{append-nil}
use Rattle.oct_plot.specs.Plot.{heaps_title, proved_text}
use Rattle.oct_plot.proofs.plot.title_from.Goals as goal

pub returns : goal.returns
returns g c =
    let known = heaps_title c.args.code.now c.args.first c.args.count in
    let words = proved_text (codes ", period ") c.args.proved.now in
    let front = rw c.saturating_sub.ensures at c.in_ok-append_pieces.ensures.ok in
    c.in_ok-append_proved.ensures.ok
    ∙ ap (λ t. t ++ words) (front ∙ ap (λ t. t ++ known) c.new-text.ensures.items)
    ∙ ap (λ t. known ++ t) (sym (append-nil words))
