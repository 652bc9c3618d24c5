use Rattle.std.proofs.Common.{◌≡◌, ℕ, ◌++◌, map, ap, ◌∙◌, arith}
use Rattle.std.proofs.lemmas.Grind.{common_steps}
use Rattle.std.proofs.lemmas.List.{take_all}
use Rattle.std.specs.List.{flat_map}
use Rattle.oct_ops.specs.Operations.{Operations, listed}
use Rattle.oct_sheet.specs.Names.{author_name, name_in}
use Rattle.oct_sheet.specs.Sheet.{names_of}
use Rattle.oct_text.specs.Words.{Text}
use Rattle.oct_log.specs.Diff.{diff_of, game_part, rest_part, twice_part}
use Rattle.oct_log.proofs.diff.write_diff.Goals as goal

pub loop-code-preserved : goal.loop-code-preserved
loop-code-preserved g c =
    let ops = c.args.all.now.ops in
    let same : name_in (λ text. text.now) c.in_ok-names.names ≡ author_name (names_of (listed ops)) =
    λ i author. (c.in_ok-names.ensures.names author ∙ ap (λ notes. author_name (map (λ op. op.now) notes) author) c.deref.ensures.value ∙ ap (λ notes. author_name notes author) c.in_ok-notes.ensures) i in
    let grown = c.in_ok-append_game.ensures ∙ ap (λ (names : ℕ → Text). c.loop-code.text.items ++ game_part c.args.one.now c.args.other.now names ops c.code-item.result) same in
    grind (arith, common_steps, grown)

pub returns : goal.returns
returns g c =
    let one = c.args.one.now in
    let other = c.args.other.now in
    let ops = c.args.all.now.ops in
    let names = author_name (names_of (listed ops)) in
    let same : name_in (λ text. text.now) c.in_ok-names.names ≡ names =
    λ i author. (c.in_ok-names.ensures.names author ∙ ap (λ notes. author_name (map (λ op. op.now) notes) author) c.deref.ensures.value ∙ ap (λ notes. author_name notes author) c.in_ok-notes.ensures) i in
    let front = c.loop-code.invariant ∙ ap (flat_map (game_part one other names ops)) (take_all c.loop-code.code-index c.deref-code-items.result.now c.loop-code-test.false ∙ c.deref-code-items.ensures.value ∙ c.in_ok-codes.ensures) in
    let rest = c.in_ok-append_rest.ensures ∙ (λ i. front i ++ rest_part one other (same i) (c.store.ensures i)) in
    c.in_ok-append_twice.ensures
    ∙ (λ i. rest i ++ twice_part one other (same i) (c.store-2.ensures i))
    ∙ ap (λ (held : Operations). diff_of one other (author_name (names_of (listed held))) held) c.requires
