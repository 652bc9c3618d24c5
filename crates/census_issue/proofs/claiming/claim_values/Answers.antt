use Rattle.std.proofs.Common.{ℕ, ◌+◌, ◌-◌, ◌*◌, ◌<◌, List, Some, map, length, sym, ap, ◌∙◌, subst, take, drop}
use Rattle.std.specs.List.{range_with_len}
use Rattle.std.proofs.lemmas.Result.{err_from_is_err_and}
use Rattle.oct_ops.specs.Operation.{claimed}
use Rattle.oct_bfile.specs.Bfile.{Bfile}
use Rattle.census_issue.specs.Claiming.{Claimed, block_at, block_count, with_blocks}
use Rattle.census_issue.proofs.Chunks.{block_issued, block_refused}
use Rattle.census_issue.proofs.claiming.claim_values.Goals as goal

pub returns-in_err-dot-clause-err : goal.returns-in_err-dot-clause-err
returns-in_err-dot-clause-err c =
    let file : Bfile = record { start = c.args.file.now.start; values = c.args.file.now.values.items } in
    let so_far : Claimed = record { replica = c.loop-place.said; first = c.loop-place.first; last = c.loop-place.last } in
    let place = c.loop-place.place in
    let within : place < block_count (length file.values) = (let P : List ℕ → Type 0 = λ l. place < block_count (length l) in subst P c.as_slice-values.ensures.value c.loop-place-test.true) in
    let is = ap (λ values. claimed c.args.code (c.args.file.now.start + 1024 * place) values) (c.chunk_at.ensures.value ∙ ap (λ values. take 1024 (drop (1024 * place) values)) c.as_slice-values.ensures.value) in
    let p = err_from_is_err_and c.from_residual.result c.from_residual.ensures.1 in
    rw (p.1, p.2) (λ other.
    c.loop-place.invariant
    ∙ block_refused so_far c.args.code file place (block_count (length file.values)) _ _ within is (c.in_err-dot.ensures.err other))

pub loop-place-preserved : goal.loop-place-preserved
loop-place-preserved c =
    let file : Bfile = record { start = c.args.file.now.start; values = c.args.file.now.values.items } in
    let so_far : Claimed = record { replica = c.loop-place.said; first = c.loop-place.first; last = c.loop-place.last } in
    let place = c.loop-place.place in
    let within : place < block_count (length file.values) = (let P : List ℕ → Type 0 = λ l. place < block_count (length l) in subst P c.as_slice-values.ensures.value c.loop-place-test.true) in
    let is = ap (λ values. claimed c.args.code (c.args.file.now.start + 1024 * place) values) (c.chunk_at.ensures.value ∙ ap (λ values. take 1024 (drop (1024 * place) values)) c.as_slice-values.ensures.value) in
    c.loop-place.invariant
    ∙ block_issued so_far c.args.code file place (block_count (length file.values)) _ c.issue_block.new.said c.in_ok-dot.dot within is c.in_ok-dot.ensures.ok c.in_ok-dot.ensures.dot
    ∙ ap (λ first. with_blocks (record { replica = c.issue_block.new.said; first = first; last = Some c.in_ok-dot.dot }) (map (block_at c.args.code file) (range_with_len (place + 1) (block_count (length file.values) - (place + 1))))) (sym c.or-first.ensures)
