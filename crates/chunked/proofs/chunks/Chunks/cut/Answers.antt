use Rattle.std.proofs.Common.{◌≡◌, ◌<◌, ◌≤◌, ◌+◌, ◌-◌, suc, ◌++◌, length, get_or, set, refl, sym, ap, subst, ◌∙◌, arith}
use Rattle.std.specs.Vec.{vec_len}
use Rattle.std.specs.List.{insert}
use Rattle.std.proofs.lemmas.List.{take-append-drop}
use Rattle.chunked.specs.Chunked.{content, joined, start_of}
use Rattle.chunked.proofs.Joining.{AreFilled, split-joined, start-split, start-split_next}
use Rattle.chunked.proofs.Chunking.{filled-split, length-new, lower-at, upper-at}
use Rattle.chunked.proofs.chunks.Chunks.cut.Goals as goal

pub returns : goal.returns
returns g c =
    let vs = c.args.self.now.chunks.items in
    let n = c.args.place.chunk in
    let place = c.args.place in
    let next : n + 1 ≡ suc n = omega arith in
    let chunk = c.index_mut.result.now in
    let lower = c.cut_off.new.chunk in
    let upper = c.in_ok-upper.upper in
    let is : chunk ≡ get_or vs n chunk = c.index_mut.ensures.value ∙ ap (λ l. get_or l n chunk) c.reserve.ensures.items in
    let parts : content lower ++ content upper ≡ content (get_or vs n chunk) = (λ i. c.in_ok-upper.ensures.items i ++ c.in_ok-upper.ensures.tail i) ∙ take-append-drop c.args.cut (content chunk) ∙ ap content is in
    let new_is : c.insert_at.new.items.items ≡ insert (set vs n lower) (suc n) upper =
    c.insert_at.ensures ∙ ap (λ l. insert (set l n lower) (n + 1) upper) c.reserve.ensures.items ∙ ap (λ m. insert (set vs n lower) m upper) next in
    let long : c.args.cut < vec_len chunk = subst (λ v. c.args.cut < vec_len v) (sym is) (c.requires.more chunk) in
    let size = length-new content vs n chunk lower upper c.requires.beside.chunk in
    let same = ap (joined content) new_is ∙ split-joined content vs n chunk lower upper c.requires.beside.chunk parts in
    let upto : place.at ≤ length (content chunk) = subst (λ v. place.at ≤ length (content v)) (sym is) (c.requires.beside.at chunk) in
    record {
      chunked = record {
        small = c.requires.chunked.small;
        filled = subst (AreFilled content) (sym new_is) (filled-split content vs n chunk lower upper c.requires.beside.chunk
            (omega (arith, long, c.requires.some, lower.ok, c.in_ok-upper.ensures.len)) (omega (arith, long, chunk.ok, upper.ok, c.in_ok-upper.ensures.tail_len)) c.requires.chunked.filled);
        count = c.requires.chunked.count ∙ sym (ap length same);
      };
      same = same;
      len = refl;
      chunk = omega (arith, c.requires.beside.chunk, c.args.self.now.chunks.ok, c.args.self.now.chunks.small);
      lower = λ low. (
        record {
          chunk = rw new_is (omega (arith, size, c.requires.beside.chunk));
          at = λ d. rw (new_is, lower-at content vs n chunk lower upper c.requires.beside.chunk d) (omega (arith, low, lower.ok, c.in_ok-upper.ensures.len));
        },
        ap (λ l. start_of content l n + place.at) new_is ∙ ap (λ s. s + place.at) (start-split content vs n lower upper c.requires.beside.chunk),
      );
      upper = λ high. (
        record {
          chunk = rw new_is (omega (arith, size, c.requires.beside.chunk));
          at = λ d. rw (new_is, next, upper-at content vs n chunk lower upper c.requires.beside.chunk d) (omega (arith, upto, high, chunk.ok, upper.ok, c.in_ok-upper.ensures.tail_len));
        },
        (λ i. start_of content (new_is i) (next i) + (place.at - c.args.cut)) ∙ ap (λ s. s + (place.at - c.args.cut)) (start-split_next content vs n lower upper c.requires.beside.chunk) ∙ omega (arith, high, lower.ok, c.in_ok-upper.ensures.len),
      );
    }
