use Rattle.std.proofs.Common.{◌≡◌, ◌+◌, ◌-◌, ◌≤◌, ◌∙◌, length, map, slice_index, ap, arith, subst₂, sym}
use Rattle.std.proofs.lemmas.List.Edits.{length-between}
use Rattle.bitsets.proofs.Parts.{IsMade, part_made}
use Rattle.bitsets.proofs.Words.{put_after, put_length}
use Rattle.bitsets.specs.declared.steps.TheConstants.{FEW, PART}
use Rattle.bitsets.proofs.steps.unite_steps.Goals as goal

pub loop-done-preserved : goal.loop-done-preserved
loop-done-preserved g c =
    let kept = c.loop-done.invariant in
    let number = g.W.Word.number in
    let from = c.loop-done.done in
    let to = from + PART in
    let block = c.loop-done.block in
    let made = c.unite_long in
    let part = made.new.block in
    let low : to ≤ length block = omega (arith, c.loop-done-test.true) in
    let room : from + (to - from) ≤ length block = omega (arith, low) in
    let full : length part ≡ to - from = made.ensures.len ∙ length-between block from to low in
    record {
      len = put_length number block from (to - from) part room full ∙ kept.len;
      within = omega (arith, low, kept.len);
      adds = part_made number g.W.Word.digits (map number c.args.sets.now) c.args.place c.args.offsets.now c.args.values.now c.args.block.now block part from to (omega arith) low full
          kept.adds kept.left (λ i within. made.ensures.adds i (omega (arith, within, made.ensures.len)));
      left = λ i after. put_after number block from (to - from) part room full i (omega (arith, after)) ∙ kept.left i (omega (arith, after));
    }

pub loop-done-2-preserved : goal.loop-done-2-preserved
loop-done-2-preserved g c =
    let kept = c.loop-done-2.invariant in
    let number = g.W.Word.number in
    let from = c.loop-done-2.done in
    let to = from + FEW in
    let block = c.loop-done-2.block in
    let part = c.copy_from_slice-in-loop-done-2.new.self in
    let low : to ≤ length block = omega (arith, c.loop-done-2-test.true) in
    let room : from + (to - from) ≤ length block = omega (arith, low) in
    let full : length part ≡ to - from = ap length c.copy_from_slice-in-loop-done-2.ensures.after ∙ c.unite_part.ensures.len ∙ ap length c.copy_from_slice.ensures.after ∙ length-between block from to low in
    record {
      len = put_length number block from (to - from) part room full ∙ kept.len;
      within = omega (arith, low, kept.len);
      adds = part_made number g.W.Word.digits (map number c.args.sets.now) c.args.place c.args.offsets.now c.args.values.now c.args.block.now block part from to (omega arith) low full
          kept.adds kept.left (λ i within. subst₂ (λ xs ys. IsMade number g.W.Word.digits (map number c.args.sets.now) c.args.place c.args.offsets.now c.args.values.now (c.args.place + from + i) (slice_index (map number xs) i) (slice_index (map number ys) i))
          c.copy_from_slice.ensures.after (sym c.copy_from_slice-in-loop-done-2.ensures.after) (c.unite_part.ensures.adds i (omega (arith, within, full, ap length c.copy_from_slice.ensures.after, length-between block from to low))));
      left = λ i after. put_after number block from (to - from) part room full i (omega (arith, after)) ∙ kept.left i (omega (arith, after));
    }

pub returns-then-done-block-clause-adds : goal.returns-then-done-block-clause-adds
returns-then-done-block-clause-adds g c = λ i within.
    let kept = c.loop-done-2.invariant in
    let number = g.W.Word.number in
    let from = c.loop-done-2.done in
    let block = c.loop-done-2.block in
    let made = c.unite_part-then-done-block in
    let full : length made.new.block ≡ length block - from = made.ensures.len ∙ length-between block from (length block) (omega arith) in
    part_made number g.W.Word.digits (map number c.args.sets.now) c.args.place c.args.offsets.now c.args.values.now c.args.block.now block made.new.block from (length block) (omega (arith, kept.len, kept.within)) (omega arith) full
    kept.adds kept.left (λ j low. made.ensures.adds j (omega (arith, low, made.ensures.len))) i (omega (arith, within, kept.len))
