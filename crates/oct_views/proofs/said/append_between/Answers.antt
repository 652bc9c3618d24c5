use Rattle.std.proofs.Common.{◌++◌, ap, ◌∙◌}
use Rattle.std.proofs.lemmas.List.{append-nil}
use Rattle.std.proofs.lemmas.Result.{on_ok_weaker}
use Rattle.oct_text.proofs.Joined.{joined_three}
use Rattle.oct_views.proofs.said.append_between.Goals as goal

pub returns-clause-ok : goal.returns-clause-ok
returns-clause-ok g c =
    joined_three c.append_pieces-2.result _ _ _ _ _ _ _
    (c.in_ok-append_pieces.ensures.ok ∙ ap (λ t. c.args.out.now.items ++ t) (append-nil c.args.before.now)) c.in_ok-append_words.ensures.ok
    (on_ok_weaker c.append_pieces-2.result (λ e. e ∙ ap (λ t. c.append_words.new.out.items ++ t) (append-nil c.args.behind.now)) c.append_pieces-2.ensures.ok)
