use Rattle.std.proofs.Common.{◌≡◌, ◌+◌, Err, length, ap, ◌∙◌, arith}
use Rattle.oct_delta.specs.Delta.{encoded}
use Rattle.oct_ops.proofs.Growing.{extends_by, extends_trans}
use Rattle.oct_sync.proofs.Packed.{fewer_than_bytes}
use Rattle.oct_sync.proofs.Written.{framed_after, length-encoded}
use Rattle.oct_answer.proofs.frames.put_delta.Goals as goal

pub returns-in-Ok-clause-ok : goal.returns-in-Ok-clause-ok
returns-in-Ok-clause-ok g c =
    let list = c.args.list.now in
    let counts : 8 + c.args.size ≡ length (encoded list) = let e = length-encoded list in let s = c.requires.is in omega (arith, e, s) in
    framed_after 2 (8 + c.args.size) (encoded list) c.args.out.now.items c.put_head.new.out.items _ counts c.in_ok-put_head.ensures.ok c.in-Ok.ensures.ok

pub unreachable-requires : goal.unreachable-requires
unreachable-requires g c =
    let many = c.encode.ensures.too_many.0 (c.in-Err-TooMany.is ∙ ap Err c.in-Err-TooMany.field-0-is) in
    let few = fewer_than_bytes c.args.list.now in
    omega (arith, many, few, c.requires.is, c.requires.fits)

pub returns-in-Ok-clause-kept : goal.returns-in-Ok-clause-kept
returns-in-Ok-clause-kept g c = extends_trans _ _ _ c.put_head.ensures.kept (extends_by _ _ _ c.in-Ok.ensures.ok)
