use Rattle.std.proofs.Common.{◌≡◌, ℕ, ◌++◌, map, ap, ◌∙◌, arith}
use Rattle.std.proofs.lemmas.Grind.{common_steps}
use Rattle.std.proofs.lemmas.List.{take_all}
use Rattle.std.specs.List.{flat_map}
use Rattle.oct_ops.specs.Operations.{Operations, listed}
use Rattle.oct_sheet.specs.Names.{author_name, name_in}
use Rattle.oct_sheet.specs.Sheet.{names_of}
use Rattle.oct_text.specs.Words.{Text}
use Rattle.oct_log.specs.Diff.{game_part}
use Rattle.oct_log.proofs.diff.write_diff_of.Goals as goal

pub loop-code-preserved : goal.loop-code-preserved
loop-code-preserved g c =
    let ops = c.args.all.now.ops in
    let same : name_in (λ text. text.now) c.in_ok-names.names ≡ author_name (names_of (listed ops)) =
    λ i author. (c.in_ok-names.ensures.names author ∙ ap (λ notes. author_name (map (λ op. op.now) notes) author) c.deref.ensures.value ∙ ap (λ notes. author_name notes author) c.in_ok-notes.ensures) i in
    let grown = c.in_ok-append_game.ensures ∙ ap (λ (names : ℕ → Text). c.loop-code.text.items ++ game_part c.args.one.now c.args.other.now names ops c.code-item.result) same in
    grind (arith, common_steps, grown)

pub returns : goal.returns
returns g c =
    let part = λ (held : Operations). flat_map (game_part c.args.one.now c.args.other.now (author_name (names_of (listed held))) held) in
    c.loop-code.invariant
    ∙ ap (part c.args.all.now.ops) (take_all c.loop-code.code-index c.args.codes.now c.loop-code-test.false)
    ∙ ap (λ (held : Operations). part held c.args.codes.now) c.requires
