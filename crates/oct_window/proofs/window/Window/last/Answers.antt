use Rattle.std.proofs.Common.{◌≡◌, ◌+◌, ◌-◌, ◌∙◌, ◌<◌, arith, ap, length, slice_index, sym}
use Rattle.std.proofs.lemmas.List.{get_or_default}
use Rattle.oct_window.proofs.window.Window.last.Goals as goal

pub returns : goal.returns
returns g c known =
    let w = c.args.self.now in
    let room = known.held.room in
    let fits = known.held.few in
    let low : c.len.result - 1 < length w.held.items = omega (arith, c.len.ensures) in
    let at : w.count - 1 + length w.held.items - w.count ≡ c.len.result - 1 = omega (arith, c.len.ensures) in
    c.index.ensures ∙ get_or_default w.held.items (c.len.result - 1) c.index.result.now 0 low ∙ ap (slice_index w.held.items) (sym at) ∙ known.held.last (w.count - 1) (omega arith) (omega arith)
