use Rattle.std.proofs.Common.{◌≡◌, ◌+◌, ◌≤◌, ◌<◌, ℕ, length, map, slice_index, vec_len, arith, subst, sym}
use Rattle.std.proofs.lemmas.List.Elements.{All-push}
use Rattle.std.specs.List.{All}
use Rattle.oct_sets.proofs.witnesses.witnesses.Goals.{in-Some, then-found+in_ok-push-in-Some, else-found+in_ok-push-in-Some-2, in-None}
use Rattle.oct_sets.proofs.witnesses.witnesses.Goals as goal

pub loop-preserved : goal.loop-preserved
loop-preserved g c =
    let is = c.loop.invariant in
    let small = map g.T.Cell.number c.args.small.now in
    let many = length c.args.small.now in
    let apart = c.distance.result in
    let P : ℕ → Type 0 = λ h. (64 ≤ h) × (h < many) × (slice_index small h < 64) in
    let Q : ℕ → Type 0 = λ h. (64 ≤ h) × (h + apart < many) × (slice_index small h < 64) × (slice_index small (h + apart) ≡ slice_index small h) in
    let fewer : vec_len c.loop.alone + vec_len c.loop.twins < 64 = omega (arith, is.few, c.if-len-eq-MOST.false, c.len.ensures, c.len-else-is_empty.ensures) in
    elim c.match-best.branch [
      | in-Some w ↦
          let told = w.in-Some.ensures in
          let heap = w.in-Some.found.heap in
          rw w.alone-is (rw w.twins-is (elim w.if-found.branch [
            | then-found+in_ok-push-in-Some w' ↦
                let more = w'.in_ok-push-in-Some.ensures in
                let both = told.3 w'.if-found.true in
                rw w'.alone-is (rw w'.twins-is (record {
                  alone = is.alone;
                  twins = subst (All Q) (sym more.items) (All-push Q c.loop.twins.items heap is.twins (told.0, both.0, told.2, both.1));
                  few = omega (arith, fewer, more.len);
                }))
            | else-found+in_ok-push-in-Some-2 w' ↦
                let more = w'.in_ok-push-in-Some-2.ensures in
                rw w'.alone-is (rw w'.twins-is (record {
                  alone = subst (All P) (sym more.items) (All-push P c.loop.alone.items heap is.alone (told.0, told.1, told.2));
                  twins = is.twins;
                  few = omega (arith, fewer, more.len);
                }))
          ]))
      | in-None w ↦ rw w.alone-is (rw w.twins-is (record { alone = is.alone; twins = is.twins; few = is.few }))
    ]
