use Rattle.std.proofs.Common.{◌+◌, ◌≤◌, ◌<◌, length, sym, ap, subst, ◌∙◌, arith}
use Rattle.std.specs.List.{insert}
use Rattle.std.proofs.lemmas.List.Edits.{length-insert}
use Rattle.chunked.specs.Chunked.{content, chunked, index_of}
use Rattle.chunked.proofs.Joining.{insert-joined, end-upto}
use Rattle.chunked.proofs.Chunking.{filled-set}
use Rattle.chunked.proofs.chunks.Chunks.insert.Goals as goal

pub returns-clause-items : goal.returns-clause-items
returns-clause-items g c =
    let chunk = c.index_mut.result.now in
    insert-joined content c.args.self.now.chunks.items c.args.place.chunk c.args.place.at chunk c.insert_at.new.items c.args.item c.requires.beside.chunk (c.requires.beside.at chunk)
    (c.insert_at.ensures ∙ ap (λ v. insert (content v) c.args.place.at c.args.item) c.index_mut.ensures.value)

pub returns-clause-chunked : goal.returns-clause-chunked
returns-clause-chunked g c =
    let chunk = c.index_mut.result.now in
    let at : c.args.place.at ≤ length (content chunk) = subst (λ v. c.args.place.at ≤ length (content v)) (sym c.index_mut.ensures.value) (c.requires.beside.at chunk) in
    let more = length-insert (content chunk) c.args.place.at c.args.item at in
    let some : 0 < length (content c.insert_at.new.items) = omega (arith, more, ap length c.insert_at.ensures) in
    let upto : index_of c.args.self.now c.args.place ≤ length (chunked c.args.self.now) = omega (arith, end-upto content c.args.self.now.chunks.items c.args.place.chunk chunk c.requires.beside.chunk, c.requires.beside.at chunk) in
    record {
      small = omega (arith, c.requires.room.count, c.requires.chunked.count);
      filled = filled-set content c.args.self.now.chunks.items c.args.place.chunk c.insert_at.new.items some c.requires.chunked.filled;
      count = ap (λ n. n + 1) c.requires.chunked.count ∙ sym (ap length (returns-clause-items g c) ∙ length-insert (chunked c.args.self.now) (index_of c.args.self.now c.args.place) c.args.item upto);
    }
