use Rattle.std.proofs.Common.{◌≡◌, List, ℕ, [], ◌++◌, ◌∙◌, append_assoc, append-nil, subst}
use Rattle.std.proofs.lemmas.Result.{on_err_weaker}
use Rattle.std.specs.Fmt.{decimal}
use Rattle.std.specs.Prelude.{codes}
use Rattle.oct_pages.specs.Catalogue.{block_head_text}
use Rattle.written.specs.Output.{AppendsPrefix}
use Rattle.oct_pages.proofs.outlet_lines.put_block_head.Goals as goal

grouped : (a b c d e f g h : List ℕ) → a ++ (b ++ (c ++ (d ++ (e ++ (f ++ (g ++ (h ++ []))))))) ≡ a ++ (b ++ c ++ d) ++ (e ++ f) ++ (g ++ h)
grouped a b c d e f g h = simp (append_assoc, append-nil)

pub returns-clause-err : goal.returns-clause-err
returns-clause-err g c =
    let row = c.args.row.now in
    let same = grouped (codes "block ") (decimal c.author.result) (codes ".") (decimal c.number.result) (codes " at ") (decimal row.start) (codes " count ") (decimal row.count)
    ∙ (λ i. block_head_text (record { author = c.author.ensures.value i; number = c.number.ensures.value i }) row.start row.count) in
    on_err_weaker c.put_words.result (subst (λ t. AppendsPrefix (g.W.Write.contents c.args.out.now) (g.W.Write.contents c.put_words.new.out) (c.args.piece.now.items ++ t)) same) c.put_words.ensures.err
