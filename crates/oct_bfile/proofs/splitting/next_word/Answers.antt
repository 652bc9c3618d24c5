use Rattle.std.proofs.Common.{sym, ◌∙◌}
use Rattle.oct_bfile.proofs.WordEnds.{behind_word_is, next_word_is, no_word_is, shorter_behind}
use Rattle.oct_bfile.proofs.splitting.next_word.Goals as goal

pub returns-then-is_empty-clause-words : goal.returns-then-is_empty-clause-words
returns-then-is_empty-clause-words c = no_word_is c.args.line.now c.blank_len.result c.blank_len.ensures.value (sym c.is_empty.ensures ∙ c.if-is_empty.true)

pub returns-then-is_empty-clause-filled : goal.returns-then-is_empty-clause-filled
returns-then-is_empty-clause-filled c = no_word_is c.args.line.now c.blank_len.result c.blank_len.ensures.value (sym c.is_empty.ensures ∙ c.if-is_empty.true)

pub returns-clause-words : goal.returns-clause-words
returns-clause-words c =
    let word = next_word_is c.args.line.now c.blank_len.result c.word_len-end.result c.blank_len.ensures.value c.word_len-end.ensures.value (sym c.is_empty.ensures ∙ c.if-is_empty.false) in
    word.words

pub returns-clause-filled : goal.returns-clause-filled
returns-clause-filled c =
    let word = next_word_is c.args.line.now c.blank_len.result c.word_len-end.result c.blank_len.ensures.value c.word_len-end.ensures.value (sym c.is_empty.ensures ∙ c.if-is_empty.false) in
    word.filled

pub returns-clause-behind : goal.returns-clause-behind
returns-clause-behind c = behind_word_is c.args.line.now c.blank_len.result c.word_len-end.result c.blank_len.ensures.value c.word_len-end.ensures.value

pub returns-then-is_empty-clause-shorter : goal.returns-then-is_empty-clause-shorter
returns-then-is_empty-clause-shorter c = no_word_is c.args.line.now c.blank_len.result c.blank_len.ensures.value (sym c.is_empty.ensures ∙ c.if-is_empty.true)

pub returns-clause-shorter : goal.returns-clause-shorter
returns-clause-shorter c =
    let word = next_word_is c.args.line.now c.blank_len.result c.word_len-end.result c.blank_len.ensures.value c.word_len-end.ensures.value (sym c.is_empty.ensures ∙ c.if-is_empty.false) in
    shorter_behind c.args.line.now c.blank_len.result c.word_len-end.result word.filled
