use Rattle.std.proofs.Common.{◌≡◌, List, ℕ, [], ◌∷◌, ◌++◌, length, ap, ◌∙◌, append_assoc, append-nil}
use Rattle.std.proofs.lemmas.Result.{on_ok_weaker}
use Rattle.std.specs.List.{concat}
use Rattle.oct_mex.specs.NimValues.{nim_values}
use Rattle.oct_verify.specs.Filing.{blocks_in}
use Rattle.oct_verify.specs.Known.{known}
use Rattle.oct_pages.specs.Catalogue.{game_text, values_lines}
use Rattle.oct_pages.proofs.Pagers.{all_seen}
use Rattle.oct_pages.proofs.making_ready.append_head.Goals as goal

behind : (old head : List ℕ) (lines : List (List ℕ)) → old ++ (head ++ []) ++ concat lines ≡ old ++ concat (head ∷ lines)
behind old head lines = append_assoc old (head ++ []) (concat lines) ∙ ap (λ h. old ++ (h ++ concat lines)) (append-nil head)

pub returns : goal.returns
returns g c =
    let game = c.args.game.now in
    let old = c.args.out.now.items in
    let values = c.known_values-values.result.now in
    let head = game_text c.code.result (length values) in
    let headed = c.in_ok-show.ensures.ok.text ∙ ap (λ t. old ++ t) (all_seen (head ∷ [])) in
    let count = c.known_values-values.ensures.len ∙ ap (λ l. known (blocks_in l.blocks)) c.ledger.ensures in
    let same = c.known_values-values.ensures.values ∙ ap (λ l. nim_values l.code (known (blocks_in l.blocks))) c.ledger.ensures in
    on_ok_weaker c.append_values.result (λ shown.
    shown.text ∙ ap (λ t. c.show.new.out.items ++ t) (all_seen (values_lines values)) ∙ ap (λ t. t ++ concat (values_lines values)) headed
    ∙ behind old head (values_lines values)
    ∙ (λ i. old ++ concat (game_text (c.code.ensures i) (count i) ∷ values_lines (same i)))) c.append_values.ensures.ok
