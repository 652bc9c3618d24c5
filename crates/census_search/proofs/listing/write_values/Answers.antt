use Rattle.std.proofs.Common.{◌≡◌, ◌<◌, ◌≤◌, ◌++◌, Result, Ok, Err, OnErr, length, arith, append_assoc, ap, sym, subst, ◌∙◌}
use Rattle.std.proofs.lemmas.List.{append-nil, drop_all}
use Rattle.oct_mex.specs.NimValues.{nim_values}
use Rattle.oct_bfile.specs.Bfile.{bfile_text, rows_text}
use Rattle.std.specs.Io.KnownBytes.{Appends}
use Rattle.std.proofs.KnownBytes.{Appends-trans}
use Rattle.oct_mex.proofs.NimValues.{nim_values-at, nim_values-length}
use Rattle.written.specs.Output.{AppendsPrefix}
use Rattle.census_search.proofs.Pieces.{front_written, piece_broken, piece_written, row_more}
use Rattle.census_search.proofs.listing.write_values.Goals as goal
use Rattle.census_search.proofs.listing.write_values.Goals.{then-len-ge-PIECE+in_ok-write_out, else-len-ge-PIECE}

on_err : {X Y P : Type 0} (r : Result X Y) → P → OnErr r P
on_err (Ok x) p = tt
on_err (Err e) p = p

pub returns-in_err-append_row-clause-err : goal.returns-in_err-append_row-clause-err
returns-in_err-append_row-clause-err g c =
    let held = c.loop-heap.invariant in
    on_err c.from_residual.result (front_written _ _ held.0 _ _ held.1 (sym (append_assoc held.0 _ _) ∙ held.2))

pub returns-in_err-write_out-clause-err : goal.returns-in_err-write_out-clause-err
returns-in_err-write_out-clause-err g c =
    let held = c.loop-heap.invariant in
    let game = c.args.game.now in
    let low : c.loop-heap.heap < game.len = omega arith in
    let grown = row_more held.0 c.loop-heap.piece.items c.append_row.new.piece.items _ _ c.loop-heap.heap _ (omega (arith, nim_values-length game.code game.len, low))
    (c.known.ensures ∙ sym (nim_values-at game.code game.len c.loop-heap.heap low)) c.in_ok-append_row.ensures held.2 in
    on_err c.from_residual-in_err-write_out.result
    (piece_broken _ _ _ held.0 c.append_row.new.piece.items _ _ held.1 (subst (AppendsPrefix _ _) c.deref.ensures.value c.in_err-write_out.ensures.err) grown)

pub loop-heap-preserved : goal.loop-heap-preserved
loop-heap-preserved g c =
    let held = c.loop-heap.invariant in
    let game = c.args.game.now in
    let low : c.loop-heap.heap < game.len = omega arith in
    let piece = c.append_row.new.piece.items in
    let grown = row_more held.0 c.loop-heap.piece.items piece _ _ c.loop-heap.heap _ (omega (arith, nim_values-length game.code game.len, low))
    (c.known.ensures ∙ sym (nim_values-at game.code game.len c.loop-heap.heap low)) c.in_ok-append_row.ensures held.2 in
    elim c.if-len-ge-PIECE.branch [
      | then-len-ge-PIECE+in_ok-write_out w ↦ (
        held.0 ++ piece,
        rw w.writer-is (Appends-trans _ _ _ held.0 piece held.1 (subst (Appends _ _) w.deref.ensures.value w.in_ok-write_out.ensures.ok)),
        rw (w.piece-is, w.clear.ensures.items) (piece_written held.0 piece _ _ grown),
      )
      | else-len-ge-PIECE w ↦ (held.0, rw w.writer-is held.1, rw w.piece-is grown)
    ]

pub returns-in_err-write_out-2-clause-err : goal.returns-in_err-write_out-2-clause-err
returns-in_err-write_out-2-clause-err g c =
    let held = c.loop-heap.invariant in
    on_err c.from_residual-in_err-write_out-2.result
    (piece_broken _ _ _ held.0 c.loop-heap.piece.items _ _ held.1 (subst (AppendsPrefix _ _) c.deref-2.ensures.value c.in_err-write_out-2.ensures.err) held.2)

pub returns-clause-ok : goal.returns-clause-ok
returns-clause-ok g c =
    let held = c.loop-heap.invariant in
    let game = c.args.game.now in
    let values = nim_values game.code game.len in
    let piece = c.loop-heap.piece.items in
    let last : length values ≤ c.loop-heap.heap = omega (arith, nim_values-length game.code game.len, c.loop-heap-test.false) in
    let all : held.0 ++ piece ≡ bfile_text values =
    sym (append-nil (held.0 ++ piece)) ∙ ap (λ rest. (held.0 ++ piece) ++ rows_text c.loop-heap.heap rest) (sym (drop_all c.loop-heap.heap values last)) ∙ held.2 in
    subst (Appends _ _) all (Appends-trans _ _ _ held.0 piece held.1 (subst (Appends _ _) c.deref-2.ensures.value c.in_ok-write_out-2.ensures.ok))
