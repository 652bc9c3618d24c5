use Rattle.std.proofs.Common.{◌≡◌, ◌<◌, length, get_or, set, sym, ap, subst, ◌∙◌, arith}
use Rattle.std.specs.Vec.{with_item}
use Rattle.std.proofs.lemmas.List.{length-set, get_or_default}
use Rattle.chunked.specs.Chunked.{content, chunked, index_of}
use Rattle.chunked.proofs.Joining.{set-joined, at-joined, end-upto}
use Rattle.chunked.proofs.Chunking.{filled-set}
use Rattle.chunked.proofs.chunks.Chunks.change_at.Goals as goal

pub returns-clause-items : goal.returns-clause-items
returns-clause-items g c = λ e here.
    let chunk = c.index_mut.result.now in
    let entry = c.index_mut-2.result.now in
    let vs = c.args.self.now.chunks.items in
    let place = c.args.place in
    let lt = c.requires.inside.chunk in
    let inside = c.requires.inside.at chunk in
    let within : index_of c.args.self.now place < length (chunked c.args.self.now) = omega (arith, end-upto content vs place.chunk chunk lt, inside) in
    let is : get_or (content chunk) place.at entry ≡ e =
    ap (λ v. get_or (content v) place.at entry) c.index_mut.ensures.value ∙ sym (at-joined content vs place.chunk place.at chunk entry lt inside)
    ∙ get_or_default (chunked c.args.self.now) (index_of c.args.self.now place) entry e within ∙ here in
    let written : c.change.new.item ≡ g.C.Change.changed c.args.change.now e = c.change.ensures ∙ ap (g.C.Change.changed c.args.change.now) (c.index_mut-2.ensures.value ∙ is) in
    set-joined content vs place.chunk place.at chunk (with_item chunk place.at c.change.new.item) (g.C.Change.changed c.args.change.now e) lt inside (λ i. set (content (c.index_mut.ensures.value i)) place.at (written i))

pub returns-clause-chunked : goal.returns-clause-chunked
returns-clause-chunked g c =
    let chunk = c.index_mut.result.now in
    let entry = c.index_mut-2.result.now in
    let vs = c.args.self.now.chunks.items in
    let place = c.args.place in
    let lt = c.requires.inside.chunk in
    let within : index_of c.args.self.now place < length (chunked c.args.self.now) = omega (arith, end-upto content vs place.chunk chunk lt, c.requires.inside.at chunk) in
    let inside : place.at < length (content chunk) = subst (λ v. place.at < length (content v)) (sym c.index_mut.ensures.value) (c.requires.inside.at chunk) in
    let e : g.row.T.Denot = get_or (chunked c.args.self.now) (index_of c.args.self.now place) entry in
    record {
      small = c.requires.chunked.small;
      filled = filled-set content vs place.chunk (with_item chunk place.at c.change.new.item) (omega (arith, inside, length-set (content chunk) place.at c.change.new.item)) c.requires.chunked.filled;
      count = c.requires.chunked.count ∙ sym (ap length (returns-clause-items g c e (get_or_default (chunked c.args.self.now) (index_of c.args.self.now place) e entry within)) ∙ length-set (chunked c.args.self.now) (index_of c.args.self.now place) (g.C.Change.changed c.args.change.now e));
    }
