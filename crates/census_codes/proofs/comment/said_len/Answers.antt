use Rattle.std.proofs.Common.{length, ap, ◌∙◌}
use Rattle.std.specs.Prelude.{unwrap_or}
use Rattle.oct_bfile.proofs.Places.{len-position}
use Rattle.census_codes.proofs.comment.said_len.Goals as goal

pub returns-clause-value : goal.returns-clause-value
returns-clause-value c = c.unwrap_or.ensures ∙ ap (λ o. unwrap_or o (length c.args.line.now)) c.first_sign.ensures ∙ len-position _ c.args.line.now
