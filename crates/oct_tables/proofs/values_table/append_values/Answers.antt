use Rattle.std.proofs.Common.{arith, ◌≡◌, ◌<◌, ◌+◌, ◌++◌, length, get_or, sym, ap, ◌∙◌}
use Rattle.std.specs.List.{enumerate_from, flat_map}
use Rattle.std.proofs.lemmas.List.{take_all}
use Rattle.std.proofs.lemmas.List.FromFn.{get_or-enumerate_from, length-enumerate_from}
use Rattle.oct_ops.proofs.Growing.{grown_each}
use Rattle.oct_tables.specs.Values.{value_text}
use Rattle.oct_tables.proofs.values_table.append_values.Goals as goal

pub loop-place-preserved : goal.loop-place-preserved
loop-place-preserved g c =
    let values = c.args.values.now in
    let first = c.args.layout.first in
    let place = c.loop-place.place in
    let value = get_or values place 0 in
    let heaps = enumerate_from first values in
    let within : place < length heaps = omega (arith, length-enumerate_from first values, c.loop-place-test.true) in
    let is : get_or heaps place (0, 0) ≡ (first + place, value) = get_or-enumerate_from first values place (0, 0) c.loop-place-test.true in
    grown_each (value_text c.args.layout c.args.greatest) heaps place (first + place, value) (0, 0) c.args.out.now.items c.loop-place.out.items c.append_value.new.out.items
    within (sym is) c.loop-place.invariant c.in_ok-append_value.ensures.ok

pub returns-clause-ok : goal.returns-clause-ok
returns-clause-ok g c =
    let heaps = enumerate_from c.args.layout.first c.args.values.now in
    c.loop-place.invariant
    ∙ ap (λ hs. c.args.out.now.items ++ flat_map (value_text c.args.layout c.args.greatest) hs)
    (take_all c.loop-place.place heaps (omega (arith, length-enumerate_from c.args.layout.first c.args.values.now, c.loop-place-test.false)))
