use Rattle.std.proofs.Common.{◌-◌, ◌∷◌, [], List, ℕ, Ok, length, ap, sym, ◌∙◌, arith}
use Rattle.std.proofs.lemmas.Result.{err_from_is_err_and}
use Rattle.std.proofs.lemmas.List.{length-append}
use Rattle.oct_ops.specs.Body.{Operation}
use Rattle.oct_delta.specs.Reading.{with_front, next_op_at}
use Rattle.oct_delta.specs.Streaming.{whole_at, last_of}
use Rattle.oct_delta.proofs.Streams.{whole_goes, whole_ends, whole_fails, whole_done, none_is, some_is, err_along}
use Rattle.oct_delta.proofs.input.Input.whole_ops.Goals as goal

pub returns-in_err-op : goal.returns-in_err-op
returns-in_err-op g c =
    let total = with_front c.args.ops.now.items (whole_at c.args.limit (last_of c.args.ops.now.items) (c.args.count - length c.args.ops.now.items) c.args.self.now) in
    let p = err_from_is_err_and c.from_residual.result c.from_residual.ensures.1 in
    let same = ap (λ (z : List Operation). next_op_at c.args.limit (last_of z) c.loop.self) c.deref.ensures.value in
    rw (p.1, p.2) (whole_fails c.args.limit c.args.count c.loop.counter c.loop.ops.items c.loop.self c.next_op.new.self c.in_err-op.field-0.0 total c.loop-test.true (err_along c.in_err-op.field-0.0 c.loop.self c.next_op.new.self (next_op_at c.args.limit (last_of c.deref.result.now) c.loop.self) (next_op_at c.args.limit (last_of c.loop.ops.items) c.loop.self) same c.in_err-op.ensures) c.loop.invariant.read)

pub returns-in-None : goal.returns-in-None
returns-in-None g c =
    let total = with_front c.args.ops.now.items (whole_at c.args.limit (last_of c.args.ops.now.items) (c.args.count - length c.args.ops.now.items) c.args.self.now) in
    let same = ap (λ (z : List Operation). next_op_at c.args.limit (last_of z) c.loop.self) c.deref.ensures.value in
    let is = none_is c.in_ok-op.field-0 c.loop.self c.next_op.new.self (next_op_at c.args.limit (last_of c.deref.result.now) c.loop.self) c.in-None.is c.in_ok-op.ensures in
    whole_ends c.args.limit c.args.count c.loop.counter c.loop.ops.items c.loop.self total c.loop-test.true (sym same ∙ is.0) c.loop.invariant.read
    ∙ ap (λ (z : List ℕ). let y : List Operation × List ℕ = (c.loop.ops.items, z) in Ok y) (sym is.1)

pub loop-preserved : goal.loop-preserved
loop-preserved g c =
    let total = with_front c.args.ops.now.items (whole_at c.args.limit (last_of c.args.ops.now.items) (c.args.count - length c.args.ops.now.items) c.args.self.now) in
    let same = ap (λ (z : List Operation). next_op_at c.args.limit (last_of z) c.loop.self) c.deref.ensures.value in
    let is = some_is c.in_ok-op.field-0 c.in-Some.op c.loop.self c.next_op.new.self (next_op_at c.args.limit (last_of c.deref.result.now) c.loop.self) c.in-Some.is c.in_ok-op.ensures in
    record {
      len = rw c.in_ok-push-in-Some.ensures.items (omega (arith, length-append c.loop.ops.items (c.in-Some.op ∷ []), c.loop.invariant.len));
      read = rw c.in_ok-push-in-Some.ensures.items (whole_goes c.args.limit c.args.count c.loop.counter c.loop.ops.items c.loop.self c.in-Some.op c.next_op.new.self total c.loop-test.true (sym same ∙ is) c.loop.invariant.read);
    }

pub returns : goal.returns
returns g c =
    let total = with_front c.args.ops.now.items (whole_at c.args.limit (last_of c.args.ops.now.items) (c.args.count - length c.args.ops.now.items) c.args.self.now) in
    whole_done c.args.limit c.args.count c.loop.counter c.loop.ops.items c.loop.self total c.loop-test.false c.loop.invariant.read
