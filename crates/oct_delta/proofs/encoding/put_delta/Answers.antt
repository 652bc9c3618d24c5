use Rattle.std.proofs.Common.{◌≡◌, ◌++◌, length, ap, subst, ◌∙◌, OnOk}
use Rattle.std.specs.List.{flat_map}
use Rattle.oct_delta.specs.Text.{Bytes, u32, op_bytes, list_bytes}
use Rattle.oct_delta.specs.Delta.{format_of}
use Rattle.oct_delta.proofs.Written.{unwritten, in_three}
use Rattle.oct_delta.proofs.encoding.put_delta.Goals as goal

pub returns-in_err-put_bytes-clause-ok : goal.returns-in_err-put_bytes-clause-ok
returns-in_err-put_bytes-clause-ok g c = unwritten _ _ c.from_residual.result c.from_residual.ensures.1

pub returns-in_err-put_u32-clause-ok : goal.returns-in_err-put_u32-clause-ok
returns-in_err-put_u32-clause-ok g c = unwritten _ _ c.from_residual-in_err-put_u32.result c.from_residual-in_err-put_u32.ensures.1

pub returns-clause-ok : goal.returns-clause-ok
returns-clause-ok g c =
    let ops = c.args.ops.now in
    let tag : c.tag.result ≡ (format_of ops).tag = c.tag.ensures ∙ ap (λ f. f.tag) c.edition_of.ensures in
    subst (λ (t : Bytes). OnOk c.put_each.result (c.put_each.new.out.items ≡ c.args.out.now.items ++ (t ++ list_bytes ops))) tag
    (in_three c.put_each.result c.args.out.now.items c.put_bytes.new.out.items c.put_u32.new.out.items c.put_each.new.out.items c.tag.result (u32 (length ops)) (flat_map op_bytes ops) c.in_ok-put_bytes.ensures.ok c.in_ok-put_u32.ensures.ok c.put_each.ensures.ok)
