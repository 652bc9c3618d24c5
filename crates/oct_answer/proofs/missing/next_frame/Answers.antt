use Rattle.std.proofs.Common.{◌+◌, ◌<◌, ◌≤◌, ◌++◌, ◌∷◌, [], filter, length, sym, ap, ◌∙◌, arith}
use Rattle.oct_delta.specs.Text.{op_bytes}
use Rattle.oct_store.specs.Summary.{not_covered}
use Rattle.oct_sync.specs.Frames.{pack_room}
use Rattle.oct_sync.specs.Packs.{may_follow}
use Rattle.oct_sync.proofs.Gathering.{size_of, size_of-end}
use Rattle.oct_answer.proofs.Gathered.{lacking_rises, halfway, halfway_past, halfway_on, passed, next_one, next_ends, next_is_last, of_clock, rest_at, none_behind, at_last}
use Rattle.oct_answer.proofs.missing.next_frame.Goals as goal

pub loop-count-init : goal.loop-count-init
loop-count-init g c =
    halfway _ _ _ (lacking_rises c.args.held.now c.args.clock.now c.args.at) c.new-ops.ensures.items (ap (filter (not_covered c.args.clock.now)) c.from-rest.ensures.value)

pub loop-count-preserved-then-covers : goal.loop-count-preserved-then-covers
loop-count-preserved-then-covers g c =
    let t = c.args.clock.now in
    let o = c.op-op.result.now in
    let within : c.loop-count.count < length c.from-rest.result.now = omega arith in
    halfway_past _ _ _ _ _
    (passed t c.from-rest.result.now c.loop-count.count o c.index-rest-count.result within (c.op-op.ensures ∙ c.index-rest-count.is) (of_clock t o _ _ _ c.dot.ensures.value c.covers.ensures c.if-covers.true))
    c.loop-count.invariant

pub returns-then-not-may_follow : goal.returns-then-not-may_follow
returns-then-not-may_follow g c =
    let t = c.args.clock.now in
    let o = c.op-op.result.now in
    let within : c.loop-count.count < length c.from-rest.result.now = omega arith in
    next_ends c.args.held.now t c.args.at (c.args.at + c.loop-count.count) _ _ _ o _ c.from-rest.ensures.valid
    (rest_at c.args.held.now t c.from-rest.result.now c.args.at c.loop-count.count c.from-rest.ensures.value)
    (next_one t c.from-rest.result.now c.loop-count.count o c.index-rest-count.result within (c.op-op.ensures ∙ c.index-rest-count.is) (of_clock t o _ _ _ c.dot.ensures.value c.covers.ensures c.if-covers.false))
    (sym (c.may_follow.ensures ∙ ap (λ xs. may_follow xs o) c.deref.ensures.value) ∙ c.if-not-may_follow.true)
    c.loop-count.invariant

pub loop-count-preserved : goal.loop-count-preserved
loop-count-preserved g c =
    let t = c.args.clock.now in
    let o = c.op-op.result.now in
    let within : c.loop-count.count < length c.from-rest.result.now = omega arith in
    let size = c.op_size-size.ensures.size in
    let small = c.op_size-size.ensures.small in
    let short : length (op_bytes o) ≤ pack_room = omega (arith, size, small) in
    let grown = c.in_ok-push.ensures.items ∙ ap (λ x. c.loop-count.ops.items ++ x ∷ []) c.in_ok-copy.ensures in
    halfway_on _ _ _ _ _ o _ _
    (next_one t c.from-rest.result.now c.loop-count.count o c.index-rest-count.result within (c.op-op.ensures ∙ c.index-rest-count.is) (of_clock t o _ _ _ c.dot.ensures.value c.covers.ensures c.if-covers.false))
    (sym (c.may_follow.ensures ∙ ap (λ xs. may_follow xs o) c.deref.ensures.value) ∙ c.if-not-may_follow.false)
    short grown (size_of-end c.loop-count.ops.items o _ _ c.loop-count.invariant.sized size ∙ sym (ap size_of grown)) c.loop-count.invariant

pub returns : goal.returns
returns g c =
    let t = c.args.clock.now in
    let rest = c.from-rest.result.now in
    let past : length rest ≤ c.loop-count.count = omega arith in
    next_is_last c.args.held.now t c.args.at (c.args.at + length rest) _ _ _ (at_last c.args.held.now t rest c.args.at c.loop-count.count c.from-rest.ensures.value past) (none_behind t rest c.loop-count.count past) c.loop-count.invariant
