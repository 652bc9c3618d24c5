use Rattle.std.proofs.Common.{length, map, slice_index}
use Rattle.std.proofs.lemmas.Bool.{false≢true}
use Rattle.oct_mex.proofs.Led.{led_mex}
use Rattle.oct_mex.proofs.following.is_led.Goals as goal

pub returns-then-not-has_one_heap : goal.returns-then-not-has_one_heap
returns-then-not-has_one_heap g c =
    let code = c.args.code.now in
    let leader = c.args.leader.now in
    let of = slice_index (map g.T.Cell.number c.args.values.now) in
    let n = length c.args.values.now in (
      (λ t. led_mex code leader of n c.args.value c.requires.splits c.requires.value (λ one. false≢true (c.if-not-has_one_heap.ensures.1 one)) (c.has_those_below.ensures.0 t)),
      (λ mex. c.has_those_below.ensures.1 (λ w less one. mex.below w less)),
    )
