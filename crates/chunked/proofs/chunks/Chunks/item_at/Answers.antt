use Rattle.std.proofs.Common.{get_or, sym, ap, ◌∙◌}
use Rattle.chunked.specs.Chunked.{content}
use Rattle.chunked.proofs.Joining.{at-joined}
use Rattle.chunked.proofs.chunks.Chunks.item_at.Goals as goal

pub returns : goal.returns
returns g c =
    let chunk = c.index.result.now in
    let entry = c.index-2.result.now in
    let vs = c.args.self.now.chunks.items in
    let place = c.args.place in
    at-joined content vs place.chunk place.at chunk entry c.requires.inside.chunk (c.requires.inside.at chunk)
    ∙ ap (λ v. get_or (content v) place.at entry) (sym c.index.ensures) ∙ sym c.index-2.ensures
