use Rattle.std.proofs.Common.{◌≡◌, List, ℕ, [], ◌++◌, sym, ap, ◌∙◌, append_assoc, append-nil, subst}
use Rattle.std.proofs.lemmas.Result.{on_err_weaker, on_ok_weaker}
use Rattle.std.specs.Fmt.{decimal}
use Rattle.std.specs.Prelude.{codes}
use Rattle.oct_pages.specs.Catalogue.{status_text}
use Rattle.written.specs.Output.{AppendsFront, AppendsPrefix}
use Rattle.oct_pages.proofs.outlet_lines.put_status.Goals as goal

grouped : (a b c d e f : List ℕ) → a ++ (b ++ (c ++ (d ++ (e ++ (f ++ []))))) ≡ (a ++ b) ++ (c ++ d) ++ (e ++ f)
grouped a b c d e f = simp (append_assoc, append-nil)

pub returns-in-Refuted-clause-ok : goal.returns-in-Refuted-clause-ok
returns-in-Refuted-clause-ok g c =
    let same = grouped (codes " refuted at ") (decimal c.in-Refuted.at) (codes " claimed ") (decimal c.in-Refuted.claimed) (codes " true ") (decimal c.in-Refuted.truth)
    ∙ ap status_text (sym c.in-Refuted.is) in
    on_ok_weaker c.put_words.result (subst (λ t. AppendsFront (g.W.Write.contents c.args.out.now) (g.W.Write.contents c.put_words.new.out) (c.args.piece.now.items ++ t) c.put_words.new.piece.items) same) c.put_words.ensures.ok

pub returns-in-Refuted-clause-err : goal.returns-in-Refuted-clause-err
returns-in-Refuted-clause-err g c =
    let same = grouped (codes " refuted at ") (decimal c.in-Refuted.at) (codes " claimed ") (decimal c.in-Refuted.claimed) (codes " true ") (decimal c.in-Refuted.truth)
    ∙ ap status_text (sym c.in-Refuted.is) in
    on_err_weaker c.put_words.result (subst (λ t. AppendsPrefix (g.W.Write.contents c.args.out.now) (g.W.Write.contents c.put_words.new.out) (c.args.piece.now.items ++ t)) same) c.put_words.ensures.err
