use Rattle.std.proofs.Common.{◌≡◌, ◌≤◌, ◌<◌, ◌+◌, suc, length, get_or, sym, ap, subst, arith}
use Rattle.chunked.specs.Chunked.{content, start_of}
use Rattle.chunked.proofs.Joining.{start-more, start-all}
use Rattle.chunked.proofs.chunks.Chunks.get.Goals as goal

pub returns-then-chunk-len : goal.returns-then-chunk-len
returns-then-chunk-len g c =
    let vs = c.args.self.now.chunks.items in
    let place = c.args.place in
    let chunk = c.in_ok-chunk.chunk.now in
    let lookup = rw c.deref.ensures.value at c.in_ok-chunk.ensures.lookup in
    let beside = c.requires.near.beside (omega (arith, lookup.3.0, c.args.self.now.chunks.ok)) in
    let upto : place.at ≤ length (content chunk) = subst (λ v. place.at ≤ length (content v)) (sym (lookup.3.1 chunk)) (beside.at chunk) in
    let size : length (content (get_or vs place.chunk chunk)) ≡ length (content chunk) = ap (λ v. length (content v)) (sym (lookup.3.1 chunk)) in
    let more : place.chunk + 1 < length vs = omega (arith, c.args.self.now.chunks.ok) in (
      record { chunk = more; at = λ d. c.requires.chunked.filled (place.chunk + 1) d (omega arith) more },
      omega (arith, ap (start_of content vs) (let e : place.chunk + 1 ≡ suc place.chunk = omega arith in e), start-more content vs place.chunk chunk lookup.3.0, size, upto, chunk.ok),
    )

pub returns-else-chunk-len : goal.returns-else-chunk-len
returns-else-chunk-len g c =
    let vs = c.args.self.now.chunks.items in
    let place = c.args.place in
    let chunk = c.in_ok-chunk.chunk.now in
    let lookup = rw c.deref.ensures.value at c.in_ok-chunk.ensures.lookup in
    let size : length (content (get_or vs place.chunk chunk)) ≡ length (content chunk) = ap (λ v. length (content v)) (sym (lookup.3.1 chunk)) in
    let last : suc place.chunk ≡ length vs = omega (arith, lookup.3.0, c.args.self.now.chunks.ok) in
    omega (arith, start-more content vs place.chunk chunk lookup.3.0, size, ap (start_of content vs) last, start-all content vs, chunk.ok)
