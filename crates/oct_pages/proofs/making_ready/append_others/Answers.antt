use Rattle.std.proofs.Common.{Result, Ok, Err, List, ◌+◌, ◌++◌, drop, sym, ap, ◌∙◌, append_assoc, append-nil}
use Rattle.std.proofs.lemmas.List.{drop_all}
use Rattle.std.proofs.lemmas.List.Folds.{concat-append}
use Rattle.std.specs.List.{concat, flat_map}
use Rattle.std.specs.Result.{OnOk}
use Rattle.oct_code.specs.Code.{Code}
use Rattle.oct_ops.specs.Operations.{listed}
use Rattle.oct_pages.specs.Catalogue.{game_lines}
use Rattle.oct_pages.proofs.Lines.{row_next}
use Rattle.oct_pages.proofs.making_ready.append_others.Goals as goal

at_each : {T E P : Type 0} (r : Result T E) → P → OnOk r P
at_each (Ok x) p = p
at_each (Err e) p = tt

pub loop-code-preserved : goal.loop-code-preserved
loop-code-preserved g c =
    let ops = listed c.args.said.now.ops in
    let lines = λ (codes : List Code). concat (flat_map (game_lines ops) codes) in
    let others = c.args.others.now in
    let out = c.loop-code.out.items in
    let code = c.code-item.result in
    let rest = drop (c.loop-code.code-index + 1) others in
    let next = row_next others c.loop-code.code-index code _ c.loop-code-test.true c.code-item.is in
    ap (λ t. t ++ lines rest) c.in_ok-append_coded.ensures
    ∙ append_assoc out (concat (game_lines ops code)) (lines rest)
    ∙ ap (λ t. out ++ t) (sym (ap lines next ∙ concat-append (game_lines ops code) (flat_map (game_lines ops) rest)))
    ∙ c.loop-code.invariant

pub returns-clause-lines : goal.returns-clause-lines
returns-clause-lines g c =
    let ops = listed c.args.said.now.ops in
    let lines = λ (codes : List Code). concat (flat_map (game_lines ops) codes) in
    let out = c.loop-code.out.items in
    at_each c.game_after.result (sym (append-nil out) ∙ ap (λ codes. out ++ lines codes) (sym (drop_all c.loop-code.code-index c.args.others.now c.loop-code-test.false)) ∙ c.loop-code.invariant)
