use Rattle.std.proofs.Common.{◌≡◌, ◌+◌, ◌++◌, List, ℕ, Err, length, sym, ap, ◌∙◌, eqb, arith}
use Rattle.std.proofs.lemmas.List.{append-nil}
use Rattle.oct_delta.specs.Delta.{encoded}
use Rattle.oct_ops.proofs.Growing.{extends_by, extends_trans}
use Rattle.oct_sync.proofs.Packed.{fewer_than_bytes}
use Rattle.oct_sync.proofs.Written.{framed_after, length-encoded, pack_frame-none, pack_frame-some}
use Rattle.oct_sync.proofs.deltas.put_pack.Goals as goal

pub returns-in-Ok-clause-ok : goal.returns-in-Ok-clause-ok
returns-in-Ok-clause-ok g c =
    let pack = c.args.pack.items in
    let counts : 8 + c.args.size ≡ length (encoded pack) = let e = length-encoded pack in let s = c.requires.is in omega (arith, e, s) in
    let len : length c.args.pack.items ≡ c.args.pack.len = omega (arith, c.args.pack.ok) in
    framed_after 2 (8 + c.args.size) (encoded pack) c.args.out.now.items c.put_head.new.out.items _ counts c.in_ok-put_head.ensures.ok
    (c.in-Ok.ensures.ok ∙ ap (λ ops. c.put_head.new.out.items ++ encoded ops) c.of_rising.ensures)
    ∙ ap (λ (z : List ℕ). c.args.out.now.items ++ z) (sym (pack_frame-some pack (ap (λ n. eqb n 0) len ∙ sym c.is_empty.ensures ∙ c.if-is_empty.false)))

pub unreachable-requires : goal.unreachable-requires
unreachable-requires g c =
    let many = c.encode-2.ensures.too_many.0 (c.in-Err-TooMany.is ∙ ap Err c.in-Err-TooMany.field-0-is) in
    let listed = ap length c.of_rising.ensures in
    let few = fewer_than_bytes c.args.pack.items in
    omega (arith, many, listed, few, c.requires.is, c.requires.fits)

pub returns-in-Ok-clause-kept : goal.returns-in-Ok-clause-kept
returns-in-Ok-clause-kept g c = extends_trans _ _ _ c.put_head.ensures.kept (extends_by _ _ _ c.in-Ok.ensures.ok)

pub returns-then-is_empty-clause-ok : goal.returns-then-is_empty-clause-ok
returns-then-is_empty-clause-ok g c =
    let len : length c.args.pack.items ≡ c.args.pack.len = omega (arith, c.args.pack.ok) in
    let none = pack_frame-none c.args.pack.items (ap (λ n. eqb n 0) len ∙ sym c.is_empty.ensures ∙ c.if-is_empty.true) in
    sym (ap (λ (z : List ℕ). c.args.out.now.items ++ z) none ∙ append-nil c.args.out.now.items)
