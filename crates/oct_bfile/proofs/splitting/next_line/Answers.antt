use Rattle.std.proofs.Common.{sym, ◌∙◌}
use Rattle.oct_bfile.proofs.LineEnds.{behind_is, next_line_is}
use Rattle.oct_bfile.proofs.splitting.next_line.Goals as goal

pub returns-clause-lines : goal.returns-clause-lines
returns-clause-lines c =
    next_line_is c.args.bytes.now c.line_len-len.result c.end_len.result (sym c.is_empty.ensures ∙ c.if-is_empty.false) c.line_len-len.ensures.value c.end_len.ensures.value

pub returns-clause-behind : goal.returns-clause-behind
returns-clause-behind c = behind_is c.args.bytes.now c.line_len-len.result c.end_len.result c.line_len-len.ensures.value c.end_len.ensures.value
