use Rattle.std.proofs.Common.{◌≡◌, Ok, ap, sym, ◌∙◌, List, ℕ, arith}
use Rattle.std.specs.Int.{w32}
use Rattle.std.proofs.lemmas.Bool.{eqb-true}
use Rattle.std.proofs.lemmas.Result.{err_from_is_err_and}
use Rattle.std.proofs.lemmas.List.{nil_from_length}
use Rattle.oct_delta.specs.Reading.{number_at}
use Rattle.oct_delta.proofs.Codecs.{done}
use Rattle.oct_delta.proofs.Lists.{list_takes, refused_by, refused_rest}
use Rattle.oct_delta.proofs.checking.check_list.Goals as goal

pub returns-in_err-skip_ops-clause-err : goal.returns-in_err-skip_ops-clause-err
returns-in_err-skip_ops-clause-err c =
    let p = err_from_is_err_and c.from_residual-in_err-skip_ops.result c.from_residual-in_err-skip_ops.ensures.1 in
    let count : number_at w32 c.args.bytes.now ≡ Ok (c.in_ok-count.count, c.u32.new.self) = ap (number_at w32) (sym c.new-input.ensures.value) ∙ c.in_ok-count.ensures in
    rw p.1 (refused_by c.args.limit c.requires c.args.bytes.now c.u32.new.self c.in_ok-count.count c.in_err-skip_ops.field-0.0 count c.in_err-skip_ops.ensures)

pub returns-then-not-is_empty-clause-err : goal.returns-then-not-is_empty-clause-err
returns-then-not-is_empty-clause-err c =
    let count : number_at w32 c.args.bytes.now ≡ Ok (c.in_ok-count.count, c.u32.new.self) = ap (number_at w32) (sym c.new-input.ensures.value) ∙ c.in_ok-count.ensures in
    refused_rest c.args.limit c.requires c.args.bytes.now c.u32.new.self c.skip_ops.new.self c.in_ok-count.count count c.in_ok-skip_ops.ensures (sym c.is_empty.ensures ∙ c.if-not-is_empty.true)

pub returns-clause-ok : goal.returns-clause-ok
returns-clause-ok c =
    let count : number_at w32 c.args.bytes.now ≡ Ok (c.in_ok-count.count, c.u32.new.self) = ap (number_at w32) (sym c.new-input.ensures.value) ∙ c.in_ok-count.ensures in
    let nothing = nil_from_length c.skip_ops.new.self (eqb-true _ _ (sym c.is_empty.ensures ∙ c.if-not-is_empty.false)) in
    list_takes c.args.limit c.requires c.args.bytes.now c.u32.new.self c.in_ok-count.count (λ i. omega (arith, c.type_inv.bytes i)) count (c.in_ok-skip_ops.ensures ∙ ap (λ (z : List ℕ). done z) nothing)

pub returns-clause-err : goal.returns-clause-err
returns-clause-err c = tt
