use Rattle.std.proofs.Common.{◌^◌, ◌≤◌, ap, subst, ◌∙◌}
use Rattle.std.proofs.lemmas.Result.{err_from_is_err_and}
use Rattle.oct_mex.specs.NimValues.{nim_value}
use Rattle.census_search.proofs.SearchFaults.{of_search}
use Rattle.census_search.proofs.searching.first_values.Goals as goal

pub returns-in_err-extend_told-clause-err : goal.returns-in_err-extend_told-clause-err
returns-in_err-extend_told-clause-err g c =
    let p = err_from_is_err_and c.from_residual-in_err-extend_told.result c.from_residual-in_err-extend_told.ensures.1 in
    let e = c.in_err-extend_told.field-0.0 in
    let told = c.in_err-extend_told.ensures in
    let game = c.extend_told.new.self in
    let same = told.code ∙ ap (λ known. known.code) c.new-game.ensures in
    rw (p.1, p.2) (of_search c.args.code c.args.count game.len e told.short (λ past. subst (λ code. 2 ^ 16 ≤ nim_value code game.len) same (told.past past)))
