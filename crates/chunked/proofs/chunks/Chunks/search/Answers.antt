use Rattle.std.proofs.Common.{◌<◌, length, ap, sym, ◌∙◌}
use Rattle.std.proofs.lemmas.List.{get_or_default}
use Rattle.chunked.specs.Chunked.{content, chunked, index_of}
use Rattle.chunked.proofs.Joining.{within-joined}
use Rattle.chunked.proofs.chunks.Chunks.search.Goals as goal

pub returns-in-Equal : goal.returns-in-Equal
returns-in-Equal g c =
    let s = c.args.self.now in
    let here = c.in-Some.here in
    let item = c.item_at.result.now in
    let inside = c.in-Some.ensures.0 in
    let lt : index_of s here < length (chunked s) = within-joined content s.chunks.items here.chunk here.at inside.chunk inside.at in
    (inside, (lt, λ d. ap (g.P.Probe.order c.args.probe.now) (get_or_default (chunked s) (index_of s here) d item lt ∙ c.item_at.ensures) ∙ sym c.compare.ensures ∙ c.in-Equal.is))
