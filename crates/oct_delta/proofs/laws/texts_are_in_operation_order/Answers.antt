use Rattle.std.proofs.Common.{List, ℕ, [], ◌++◌, sym, ap, ◌∙◌, arith}
use Rattle.std.proofs.lemmas.List.{append-nil}
use Rattle.oct_code.specs.declared.limits.TheConstants.{LIMIT}
use Rattle.oct_ops.specs.Order.{op_cmp}
use Rattle.oct_ops.specs.OrderLaws.{then_equal}
use Rattle.oct_delta.specs.Text.{op_bytes}
use Rattle.oct_delta.proofs.Codecs.{bytes_cmp}
use Rattle.oct_delta.proofs.Formats.{op_codec}
use Rattle.oct_delta.proofs.laws.texts_are_in_operation_order.Goals as goal

pub returns : goal.returns
returns c = λ a b p q.
    ap (λ (z : List ℕ). bytes_cmp z (op_bytes b)) (sym (append-nil (op_bytes a))) ∙ ap (bytes_cmp (op_bytes a ++ [])) (sym (append-nil (op_bytes b)))
    ∙ (op_codec LIMIT (omega arith)).ordered a b [] [] p q ∙ then_equal (op_cmp a b)
