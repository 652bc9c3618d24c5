use Rattle.std.proofs.Common.{arith}
use Rattle.std.proofs.lemmas.List.Sorted.{Contains-permutation, IsPermutation-sym}
use Rattle.std.specs.List.{Contains}
use Rattle.oct_sets.proofs.sorted.sorted.Goals as goal

pub add_twins-requires-clause-within : goal.add_twins-requires-clause-within
add_twins-requires-clause-within g c h is = let t = c.requires.twins h is in (t.0, omega (arith, t.1))

pub returns-clause-each : goal.returns-clause-each
returns-clause-each g c h has =
    let list = c.add_twins.new.list.items in
    let apart = c.args.apart in
    let was : Contains list h = Contains-permutation c.sort_unstable.new.self.items list h (IsPermutation-sym list c.sort_unstable.new.self.items c.sort_unstable.ensures.permutation) has in
    c.in_ok-add_twins.ensures.each apart (c.in_ok-add-2.ensures.each apart (c.in_ok-add.ensures.each apart (λ k none. absurd (omega (arith, none.1, c.new-list.ensures.len))))) (λ k listed. let t = c.requires.twins k listed in (t.1, t.2)) h was

pub returns-clause-has : goal.returns-clause-has
returns-clause-has g c h is some =
    let first = c.in_ok-add.ensures.has h is some in
    let kept = c.in_ok-add_twins.ensures.keeps first.small (c.in_ok-add-2.ensures.keeps first.small first.in_list) in
    record { small = first.small; in_list = Contains-permutation c.add_twins.new.list.items c.sort_unstable.new.self.items first.small c.sort_unstable.ensures.permutation kept; heap = first.heap; value = first.value }
