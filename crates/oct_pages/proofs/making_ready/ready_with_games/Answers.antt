use Rattle.std.proofs.Common.{◌≡◌, List, [], ◌∷◌, ◌++◌, map, refl, sym, ap, ◌∙◌, append_assoc, append-nil}
use Rattle.std.proofs.lemmas.Grind.{flat_map-append}
use Rattle.std.proofs.lemmas.List.Folds.{concat-append}
use Rattle.std.specs.List.{concat, flat_map}
use Rattle.oct_mex.specs.NimValues.{nim_values}
use Rattle.oct_mex.proofs.NimValues.{nim_values-length}
use Rattle.oct_ops.specs.Operations.{listed}
use Rattle.oct_ops.specs.Sets as sets
use Rattle.oct_store.specs.Summary.{of_game}
use Rattle.oct_verify.specs.Filing.{blocks_in}
use Rattle.oct_verify.specs.Known.{known}
use Rattle.oct_pages.specs.Catalogue.{Text, blocks_of, game_lines, game_text, heading, values_lines}
use Rattle.oct_pages.specs.HeldBlocks.{lines_by}
use Rattle.oct_pages.specs.Rest.{lines_after_games}
use Rattle.oct_pages.specs.Sheet.{period_row, period_row_text}
use Rattle.oct_pages.proofs.Pagers.{all_seen}
use Rattle.oct_pages.proofs.RestLines.{lines_split}
use Rattle.oct_pages.proofs.SheetLaws.{sheet_by-lines}
use Rattle.oct_pages.proofs.making_ready.ready_with_games.Goals as goal

regrouped : (first others head blocks claims after : Text) → (first ++ others ++ head) ++ blocks ++ (claims ++ after) ≡ (first ++ (others ++ (head ++ blocks ++ claims ++ []))) ++ after
regrouped first others head blocks claims after = simp (append_assoc, append-nil)

of_last : (head blocks claims : List Text) → concat (head ++ blocks ++ claims ++ []) ≡ concat head ++ concat blocks ++ concat claims ++ []
of_last head blocks claims = concat-append (head ++ blocks ++ claims) [] ∙ ap (λ t. t ++ []) (concat-append (head ++ blocks) claims ∙ ap (λ t. t ++ concat claims) (concat-append head blocks))

-- the parts of the text are those of all lines
assembled : (first : Text) (others head blocks claims after : List Text)
    → (first ++ concat others ++ concat head) ++ concat blocks ++ (concat claims ++ concat after) ≡ concat ((first ∷ (others ++ (head ++ blocks ++ claims ++ []))) ++ after)
assembled first others head blocks claims after =
    let last = head ++ blocks ++ claims ++ [] in
    regrouped first (concat others) (concat head) (concat blocks) (concat claims) (concat after)
    ∙ ap (λ t. (first ++ (concat others ++ t)) ++ concat after) (sym (of_last head blocks claims))
    ∙ ap (λ t. (first ++ t) ++ concat after) (sym (concat-append others last))
    ∙ sym (concat-append (first ∷ (others ++ last)) after)

pub returns : goal.returns
returns g c =
    let held = c.args.said.now.ops in
    let ops = listed held in
    let game = c.in_ok-game.game in
    let count = known (blocks_in game.blocks) in
    let values = values_lines (nim_values game.code count) in
    let head = game_text game.code count ∷ values in
    let blocks = lines_by game (blocks_of game.code (listed (of_game held c.args.last))) in
    let claims = map period_row_text (map (period_row (blocks_in game.blocks)) (sets.listed game.claims)) in
    let others = flat_map (game_lines ops) c.args.others.now in
    let after = lines_after_games ops ops in
    let begun = c.in_ok-append_text.ensures.ok ∙ ap (λ t. t ++ heading) c.new-front.ensures.items in
    let front = c.in_ok-reserve.ensures.items ∙ c.in_ok-append_head.ensures ∙ ap (λ t. t ++ concat head) (c.in_ok-game.ensures.lines ∙ ap (λ t. t ++ concat others) begun) in
    let claimed = c.in_ok-claim.ensures.lines ∙ ap (λ t. t ++ concat claims) c.new-rest.ensures.items in
    let shown = all_seen (lines_after_games (listed c.store.result.now) (listed c.store-2.result.now))
    ∙ ap (λ store. concat (lines_after_games (listed store) (listed c.store-2.result.now))) c.store.ensures ∙ ap (λ store. concat (lines_after_games ops (listed store))) c.store-2.ensures in
    let rest = c.in_ok-append_rest.ensures.ok.text ∙ ap (λ t. c.append_claims.new.out.items ++ t) shown ∙ ap (λ t. t ++ concat after) claimed in
    let built = ap (λ n. (game_text game.code n ∷ values) ++ blocks ++ claims) (sym (nim_values-length game.code count)) ∙ sheet_by-lines held c.args.last game (of_game held c.args.last) c.in_ok-game.ensures.game refl in
    let games = ap (flat_map (game_lines ops)) c.requires ∙ flat_map-append (game_lines ops) c.args.others.now (c.args.last ∷ []) in
    (λ i. front i ++ concat (c.held_blocks-blocks.ensures i) ++ rest i)
    ∙ assembled heading others head blocks claims after
    ∙ ap (λ lines. concat ((heading ∷ (others ++ (lines ++ []))) ++ after)) built
    ∙ ap (λ lines. concat ((heading ∷ lines) ++ after)) (sym games)
    ∙ ap concat (sym (lines_split ops ops))
