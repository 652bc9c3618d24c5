use Rattle.std.proofs.Common.{arith}
use Rattle.std.proofs.lemmas.Grind.{common_steps}
use Rattle.oct_delta.proofs.Written.{in_lengths}
use Rattle.oct_delta.proofs.encoding.put_note.Goals as goal

pub returns-clause-ok : goal.returns-clause-ok
returns-clause-ok g c =
    in_lengths c.put_bytes-2.result _ _ _ _ _ c.args.note.now.name _ c.args.note.now.text _ _ _ c.in_ok-put_byte.ensures.ok c.in_ok-put_bytes.ensures.ok c.in_ok-put_byte-2.ensures.ok c.put_bytes-2.ensures.ok
    (grind (arith, common_steps)) c.name-name.ensures.value (grind (arith, common_steps)) c.text-text.ensures.value
