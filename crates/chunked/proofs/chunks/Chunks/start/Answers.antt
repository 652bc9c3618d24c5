use Rattle.std.proofs.Common.{◌≡◌, ◌+◌, ◌++◌, ◌∷◌, [], length, length-append, sym, ap, ◌∙◌, arith}
use Rattle.std.proofs.lemmas.Grind.{common_steps}
use Rattle.chunked.specs.Chunked.{content, joined, start_of}
use Rattle.chunked.proofs.Chunking.{joined-first}
use Rattle.chunked.proofs.chunks.Chunks.start.Goals as goal

pub returns-in_ok-reserve-clause-same : goal.returns-in_ok-reserve-clause-same
returns-in_ok-reserve-clause-same g c =
    let vs = c.args.self.now.chunks.items in
    let none : length vs ≡ 0 = grind (arith, common_steps) in
    ap (joined content) (c.push_reserved.ensures.items ∙ ap (λ l. l ++ c.new.result ∷ []) c.in_ok-reserve.ensures.items)
    ∙ joined-first content vs c.new.result none c.new.ensures.items

pub returns-in_ok-reserve-clause-chunked : goal.returns-in_ok-reserve-clause-chunked
returns-in_ok-reserve-clause-chunked g c =
    let vs = c.args.self.now.chunks.items in
    let none : length vs ≡ 0 = grind (arith, common_steps) in
    let one : length c.push_reserved.new.self.items ≡ 1 =
    ap length (c.push_reserved.ensures.items ∙ ap (λ l. l ++ c.new.result ∷ []) c.in_ok-reserve.ensures.items)
    ∙ length-append vs (c.new.result ∷ []) ∙ ap (λ n. n + 1) none in
    record {
      filled = λ k d lo hi. absurd (omega arith);
      count = c.requires.chunked.count ∙ ap length (sym (returns-in_ok-reserve-clause-same g c));
      small = c.requires.chunked.small;
    }

pub returns-in_ok-reserve-clause-ok : goal.returns-in_ok-reserve-clause-ok
returns-in_ok-reserve-clause-ok g c =
    let vs = c.args.self.now.chunks.items in
    let place = c.args.place in
    let none : length vs ≡ 0 = grind (arith, common_steps) in
    let first = c.requires.near.first none in
    let one : length c.push_reserved.new.self.items ≡ 1 =
    ap length (c.push_reserved.ensures.items ∙ ap (λ l. l ++ c.new.result ∷ []) c.in_ok-reserve.ensures.items)
    ∙ length-append vs (c.new.result ∷ []) ∙ ap (λ n. n + 1) none in (
      record { chunk = omega (arith, one, first.0); at = λ d. omega (arith, first.1) },
      (λ i. start_of content c.push_reserved.new.self.items (first.0 i) + place.at) ∙ sym (λ i. start_of content vs (first.0 i) + place.at),
    )
