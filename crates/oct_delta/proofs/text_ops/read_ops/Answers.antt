use Rattle.std.proofs.Common.{refl, sym, ◌∙◌, arith}
use Rattle.oct_delta.specs.Formats.{format}
use Rattle.oct_delta.proofs.Decoded.{none_along, on_err}
use Rattle.oct_delta.proofs.Deltas.{list_along, reads_list, reads_none}
use Rattle.oct_delta.proofs.text_ops.read_ops.Goals as goal

pub returns-then-is_err-clause-unread : goal.returns-then-is_err-clause-unread
returns-then-is_err-clause-unread c = λ _.
    reads_none c.in-Some.edition c.args.bytes.now c.in-Some.list.now (λ i. omega (arith, c.type_inv.bytes i)) c.in-Some.ensures.some
    (none_along c.limit-limit.result (format c.in-Some.edition).limit c.in-Some.list.now c.limit-limit.ensures.value (on_err c.check_list.result (sym c.is_err.ensures.value ∙ c.if-is_err.true) c.check_list.ensures.err))

pub returns-clause-read : goal.returns-clause-read
returns-clause-read c =
    reads_list c.in-Some.edition c.args.bytes.now c.in-Some.list.now c.new.result c.in-Some.ensures.some
    (list_along c.limit-limit.result (format c.in-Some.edition).limit c.in-Some.list.now c.new.result c.new.result c.limit-limit.ensures.value refl c.new.ensures)
