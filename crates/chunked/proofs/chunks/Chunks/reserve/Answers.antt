use Rattle.std.proofs.Common.{◌<◌, ◌+◌, length, sym, ap, subst, ◌∙◌, arith}
use Rattle.std.specs.Vec.{vec_len, vec_capacity}
use Rattle.std.proofs.lemmas.List.{get_or-set_same}
use Rattle.chunked.specs.Chunked.{content}
use Rattle.chunked.proofs.Joining.{start-set}
use Rattle.chunked.proofs.Chunking.{filled-same, same-joined}
use Rattle.chunked.proofs.chunks.Chunks.reserve.Goals as goal

pub returns-in_err-make_room-clause-same : goal.returns-in_err-make_room-clause-same
returns-in_err-make_room-clause-same g c = same-joined content c.args.self.now.chunks.items c.args.place.chunk c.index_mut.result.now c.make_room.new.chunk (c.make_room.ensures.items ∙ ap content c.index_mut.ensures.value) c.requires.beside.chunk

pub returns-in_err-make_room-clause-chunked : goal.returns-in_err-make_room-clause-chunked
returns-in_err-make_room-clause-chunked g c = record {
  small = c.requires.chunked.small;
  filled = filled-same content c.args.self.now.chunks.items c.args.place.chunk c.index_mut.result.now c.make_room.new.chunk (c.make_room.ensures.items ∙ ap content c.index_mut.ensures.value) c.requires.chunked.filled;
  count = c.requires.chunked.count ∙ ap length (sym (returns-in_err-make_room-clause-same g c));
}

pub returns-in_err-make_room-clause-index : goal.returns-in_err-make_room-clause-index
returns-in_err-make_room-clause-index g c = ap (λ s. s + c.args.place.at) (start-set content c.args.self.now.chunks.items c.args.place.chunk c.make_room.new.chunk)

pub returns-clause-same : goal.returns-clause-same
returns-clause-same g c = same-joined content c.args.self.now.chunks.items c.args.place.chunk c.index_mut.result.now c.make_room.new.chunk (c.make_room.ensures.items ∙ ap content c.index_mut.ensures.value) c.requires.beside.chunk

pub returns-clause-chunked : goal.returns-clause-chunked
returns-clause-chunked g c = record {
  small = c.requires.chunked.small;
  filled = filled-same content c.args.self.now.chunks.items c.args.place.chunk c.index_mut.result.now c.make_room.new.chunk (c.make_room.ensures.items ∙ ap content c.index_mut.ensures.value) c.requires.chunked.filled;
  count = c.requires.chunked.count ∙ ap length (sym (returns-clause-same g c));
}

pub returns-clause-index : goal.returns-clause-index
returns-clause-index g c = ap (λ s. s + c.args.place.at) (start-set content c.args.self.now.chunks.items c.args.place.chunk c.make_room.new.chunk)

pub returns-clause-ok : goal.returns-clause-ok
returns-clause-ok g c =
    let vs = c.args.self.now.chunks.items in
    record {
      capacity = λ d. subst (λ v. vec_len v < vec_capacity v) (sym (get_or-set_same vs c.args.place.chunk c.make_room.new.chunk d c.requires.beside.chunk)) (omega (arith, c.in_ok-make_room.ensures.ok));
      count = omega (arith, c.requires.count, c.requires.chunked.count, ap length (same-joined content vs c.args.place.chunk c.index_mut.result.now c.make_room.new.chunk (c.make_room.ensures.items ∙ ap content c.index_mut.ensures.value) c.requires.beside.chunk));
    }
