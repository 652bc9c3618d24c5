use Rattle.std.proofs.Common.{◌≡◌, ◌<◌, length, get_or, sym, ap, subst, ◌∙◌, arith}
use Rattle.std.specs.List.{remove}
use Rattle.std.proofs.lemmas.List.{get_or_default}
use Rattle.std.proofs.lemmas.List.Edits.{length-remove}
use Rattle.chunked.specs.Chunked.{content, chunked, index_of, joined}
use Rattle.chunked.proofs.Joining.{AreFilled, at-joined, drop-joined, remove-joined, within-joined}
use Rattle.chunked.proofs.Chunking.{filled-remove, filled-set}
use Rattle.chunked.proofs.chunks.Chunks.remove.Goals as goal

pub overflow_sub-self : goal.overflow_sub-self
overflow_sub-self g c =
    let place = c.args.place in
    omega (arith, c.requires.chunked.count, within-joined content c.args.self.now.chunks.items place.chunk place.at c.requires.inside.chunk c.requires.inside.at)

pub returns-then-len-gt1-clause-items : goal.returns-then-len-gt1-clause-items
returns-then-len-gt1-clause-items g c =
    let vs = c.args.self.now.chunks.items in
    let place = c.args.place in
    let chunk = c.index_mut.result.now in
    remove-joined content vs place.chunk place.at chunk c.remove.new.self c.requires.inside.chunk (c.requires.inside.at chunk)
    (c.remove.ensures.items ∙ ap (λ v. remove (content v) place.at) c.index_mut.ensures.value)

pub returns-then-len-gt1-clause-item : goal.returns-then-len-gt1-clause-item
returns-then-len-gt1-clause-item g c =
    let place = c.args.place in
    let chunk = c.index_mut.result.now in
    let item = c.remove.result in
    at-joined content c.args.self.now.chunks.items place.chunk place.at chunk item c.requires.inside.chunk (c.requires.inside.at chunk)
    ∙ ap (λ v. get_or (content v) place.at item) (sym c.index_mut.ensures.value) ∙ sym c.remove.ensures.value

pub returns-then-len-gt1-clause-chunked : goal.returns-then-len-gt1-clause-chunked
returns-then-len-gt1-clause-chunked g c =
    let s = c.args.self.now in
    let vs = s.chunks.items in
    let place = c.args.place in
    let chunk = c.index_mut.result.now in
    let at : place.at < length (content chunk) = subst (λ v. place.at < length (content v)) (sym c.index_mut.ensures.value) (c.requires.inside.at chunk) in
    let same : c.index.result.now ≡ chunk = c.index.ensures ∙ get_or_default vs place.chunk c.index.result.now chunk c.requires.inside.chunk ∙ sym c.index_mut.ensures.value in
    let long : 1 < length (content chunk) = omega (arith, c.if-len-gt1.true, c.len.ensures, c.index.result.now.ok, ap (λ v. length (content v)) same) in
    let some : 0 < length (content c.remove.new.self) = omega (arith, ap length c.remove.ensures.items, length-remove (content chunk) place.at at, long) in
    let within = within-joined content vs place.chunk place.at c.requires.inside.chunk c.requires.inside.at in
    record {
      filled = filled-set content vs place.chunk c.remove.new.self some c.requires.chunked.filled;
      count = omega (arith, c.requires.chunked.count, ap length (returns-then-len-gt1-clause-items g c), length-remove (chunked s) (index_of s place) within);
      small = omega (arith, c.requires.chunked.small);
    }

-- the chunk goes with its only item
pub returns-clause-items : goal.returns-clause-items
returns-clause-items g c =
    let vs = c.args.self.now.chunks.items in
    let place = c.args.place in
    let last = c.remove-last.result in
    ap (joined content) c.remove-last.ensures.items ∙ drop-joined content vs place.chunk place.at last c.requires.inside.chunk (c.requires.inside.at last)
    (omega (arith, c.if-len-gt1.false, c.len.ensures, c.index.result.now.ok, c.requires.inside.at last, ap (λ v. length (content v)) (c.index.ensures ∙ get_or_default vs place.chunk c.index.result.now last c.requires.inside.chunk)))

pub returns-clause-item : goal.returns-clause-item
returns-clause-item g c =
    let place = c.args.place in
    let last = c.remove-last.result in
    let item = c.remove-2.result in
    at-joined content c.args.self.now.chunks.items place.chunk place.at last item c.requires.inside.chunk (c.requires.inside.at last)
    ∙ ap (λ v. get_or (content v) place.at item) (sym c.remove-last.ensures.value) ∙ sym c.remove-2.ensures.value

pub returns-clause-chunked : goal.returns-clause-chunked
returns-clause-chunked g c =
    let s = c.args.self.now in
    let vs = s.chunks.items in
    let place = c.args.place in
    let within = within-joined content vs place.chunk place.at c.requires.inside.chunk c.requires.inside.at in
    record {
      filled = subst (AreFilled content) (sym c.remove-last.ensures.items) (filled-remove content vs place.chunk c.requires.inside.chunk c.requires.chunked.filled);
      count = omega (arith, c.requires.chunked.count, ap length (returns-clause-items g c), length-remove (chunked s) (index_of s place) within);
      small = omega (arith, c.requires.chunked.small);
    }
