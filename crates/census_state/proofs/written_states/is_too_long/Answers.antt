use Rattle.std.proofs.Common.{length, refl, ap, ◌∙◌, arith}
use Rattle.std.proofs.lemmas.Bool.{false≢true}
use Rattle.std.specs.List.{flat_map}
use Rattle.oct_delta.specs.Text.{op_bytes}
use Rattle.oct_ops.specs.Operations.{listed}
use Rattle.census_state.proofs.StateLengths.{length-next, length-state}
use Rattle.census_state.proofs.written_states.is_too_long.Goals as goal

pub loop-op-init : goal.loop-op-init
loop-op-init c =
    let given = ap (λ ops. length (flat_map op_bytes ops)) (c.into_iter-op-iterator.ensures.into_iter_gives ∙ c.iter-op-items.ensures ∙ ap listed c.store.ensures) in
    omega (arith, given)

pub returns-then-size-room : goal.returns-then-size-room
returns-then-size-room c =
    let said = c.args.said.now in
    let whole = length-state said.author (listed said.ops) in
    let next = length-next c.in-Some.op.now c.next.new.self in
    let steps = ap (λ ops. length (flat_map op_bytes ops)) c.in-Some.ensures.steps in
    (λ yes. omega (arith, whole, next, steps, c.loop-op.invariant, c.if-size-room.true, c.op_size-size.ensures.size), λ great. refl)

pub loop-op-preserved : goal.loop-op-preserved
loop-op-preserved c =
    let next = length-next c.in-Some.op.now c.next.new.self in
    let steps = ap (λ ops. length (flat_map op_bytes ops)) c.in-Some.ensures.steps in
    omega (arith, next, steps, c.loop-op.invariant, c.if-size-room.false, c.op_size-size.ensures.size)

pub returns : goal.returns
returns c =
    let said = c.args.said.now in
    let whole = length-state said.author (listed said.ops) in
    let over = ap (λ ops. length (flat_map op_bytes ops)) c.in-None.ensures.steps.0 in
    (λ no. absurd (false≢true no), λ great. absurd (omega (arith, whole, over, c.loop-op.invariant, great)))
