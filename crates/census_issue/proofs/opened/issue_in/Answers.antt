use Rattle.std.proofs.Common.{Some, sym, ap, ◌∙◌}
use Rattle.oct_ops.specs.Body.{Operation}
use Rattle.oct_ops.specs.Games.{game_of, game_of_body}
use Rattle.oct_ops.specs.Operation.{Dot}
use Rattle.oct_ops.specs.Views.{content}
use Rattle.oct_pages.specs.GamesIn.{content_in}
use Rattle.oct_period.specs.GameContent.{GameContent, with_body}
use Rattle.oct_record.specs.Content.{RecordContent}
use Rattle.census_issue.proofs.OpenGame.{body_issued, game_next}
use Rattle.census_issue.proofs.opened.issue_in.Goals as goal

pub share-requires-2 : goal.share-requires-2
share-requires-2 c = ap game_of (c.in-Ok.ensures.ok ∙ c.new.ensures) ∙ c.requires.code ∙ ap Some (sym (ap (λ (g : GameContent). g.code) c.requires.game))

pub returns-clause-ok : goal.returns-clause-ok
returns-clause-ok c =
    let op = c.in-Ok.ensures.ok ∙ c.new.ensures ∙ ap (λ (d : Dot). record { dot = d; body = content c.args.body }) c.in-Some.ensures.dot in
    body_issued c.args.said.now c.share.new.self (content c.args.body) c.in-Ok.op.value op (sym c.in-Some.ensures.room) c.in_ok-share.ensures.ok

pub returns-clause-game : goal.returns-clause-game
returns-clause-game c =
    let op = c.in-Ok.op.value in
    let of = ap (λ (o : Operation). game_of_body o.body) (c.in-Ok.ensures.ok ∙ c.new.ensures) ∙ c.requires.code in
    c.in_ok-share-2.ensures.ok
    ∙ ap (λ (g : GameContent). with_body g op.dot op.body) c.requires.game
    ∙ sym (game_next c.args.said.now.ops op.dot op.body c.args.code of)
    ∙ ap (λ (r : RecordContent). content_in r.ops c.args.code) (sym c.in_ok-share.ensures.ok)
