use Rattle.std.proofs.Common.{Vec, ◌≡◌, ◌<◌, suc, length, get_or, sym, ap, ◌∙◌, arith, inl, inr}
use Rattle.std.proofs.lemmas.Bool.{cases_lt}
use Rattle.std.proofs.lemmas.List.{get_or_default}
use Rattle.chunked.specs.Chunked.{content, start_of}
use Rattle.chunked.proofs.Joining.{start-more}
use Rattle.chunked.proofs.chunks.Chunks.before.Goals as goal

pub returns : goal.returns
returns g c =
    let vs = c.args.self.now.chunks.items in
    let chunk = c.in_ok-chunk.chunk in
    let items = c.index.result.now in
    let before : c.args.place.chunk ≡ suc chunk = omega (arith, c.in_ok-chunk.ensures) in
    let inside : chunk < length vs = elim (cases_lt 0 (length vs)) [
      | inl some ↦ omega (arith, before, (c.requires.near.beside some).chunk)
      | inr none ↦ absurd (omega (arith, before, (c.requires.near.first (omega (arith, none))).0))
    ] in
    let last : length (content items) ≡ suc c.in_ok-at.at = omega (arith, c.in_ok-at.ensures, c.len.ensures, items.ok) in
    let size : (d : Vec g.row.T.Denot g.row.A.Denot) → length (content (get_or vs chunk d)) ≡ suc c.in_ok-at.at = λ d.
    ap (λ v. length (content v)) (get_or_default vs chunk d items inside ∙ sym c.index.ensures) ∙ last in (
      record { chunk = inside; at = λ d. omega (arith, size d) },
      omega (arith, ap (start_of content vs) before, start-more content vs chunk items inside, size items, c.if-place-gt0.false),
    )
