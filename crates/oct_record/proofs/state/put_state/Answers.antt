use Rattle.std.proofs.lemmas.Result.{err_from_is_err_and, on_ok_weaker}
use Rattle.oct_ops.proofs.Growing.{extends_either, extends_trans}
use Rattle.oct_delta.specs.Delta.{encoded}
use Rattle.oct_record.proofs.StateTexts.{state_written}
use Rattle.oct_record.proofs.state.put_state.Goals as goal

pub returns-in_err-put_bytes-clause-ok : goal.returns-in_err-put_bytes-clause-ok
returns-in_err-put_bytes-clause-ok g c = rw (err_from_is_err_and c.from_residual.result c.from_residual.ensures.1).1 tt

pub returns-clause-kept : goal.returns-clause-kept
returns-clause-kept g c =
    extends_trans _ _ _ (extends_trans _ _ _ c.put_bytes.ensures.kept c.put_u32.ensures.kept)
    (extends_either c.encode_each.result c.put_u32.new.out.items c.encode_each.new.out.items (encoded c.args.ops) c.encode_each.ensures.ok c.encode_each.ensures.err)

pub returns-in_err-put_u32-clause-ok : goal.returns-in_err-put_u32-clause-ok
returns-in_err-put_u32-clause-ok g c = rw (err_from_is_err_and c.from_residual-in_err-put_u32.result c.from_residual-in_err-put_u32.ensures.1).1 tt

pub returns-clause-ok : goal.returns-clause-ok
returns-clause-ok g c =
    on_ok_weaker c.encode_each.result
    (state_written c.args.out.now.items c.put_bytes.new.out.items c.put_u32.new.out.items c.encode_each.new.out.items (encoded c.args.ops) c.args.author c.in_ok-put_bytes.ensures.ok c.in_ok-put_u32.ensures.ok)
    c.encode_each.ensures.ok
