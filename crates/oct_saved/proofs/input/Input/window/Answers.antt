use Rattle.std.proofs.Common.{refl, sym}
use Rattle.std.proofs.lemmas.Result.{err_from_is_err_and}
use Rattle.oct_saved.specs.Numbers.{listing}
use Rattle.oct_saved.specs.declared.scalars.Scalars.{Scalars}
use Rattle.oct_saved.proofs.Fronts.{if_refuses_more, list_read, refuses_more, window_by}
use Rattle.oct_saved.proofs.input.Input.window.Goals as goal

pub returns-in_default-clause-err : goal.returns-in_default-clause-err
returns-in_default-clause-err g c = λ begins.
    let w = begins.value in
    let s : Scalars = record { reach = w.reach; count = w.count; mask = w.rare.mask } in
    c.in_default.ensures.none refl s (record { fits = begins.is.mask; spelled = sym begins.is.scalars })

pub returns-in_err-held-clause-err : goal.returns-in_err-held-clause-err
returns-in_err-held-clause-err g c =
    let p = err_from_is_err_and c.from_residual-in_err-held.result c.from_residual-in_err-held.ensures.1 in
    rw (p.1, p.2) (refuses_more c.in_err-held.field-0.0 _ _ (λ begins.
    let w = begins.value in
    let read = list_read _ _ _ w.rare.heaps.items (listing w.held.items) begins.rest c.in_ok-heaps.ensures.ok begins.front in
    record { value = w.held.items; rest = begins.rest; is = tt; front = read.1 }) c.in_err-held.ensures.err)

pub returns-clause-err : goal.returns-clause-err
returns-clause-err g c =
    if_refuses_more c.window_of.result _ _ (window_by c.args.code c.in-Some.scalars c.args.scalars.now _ _ _ _ _ c.in-Some.ensures.some c.in_ok-heaps.ensures.ok c.in_ok-held.ensures.ok) c.window_of.ensures.err
