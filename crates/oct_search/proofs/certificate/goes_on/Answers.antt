use Rattle.std.proofs.Common.{◌-◌, ◌≤◌, ℕ, refl, sym, subst, arith}
use Rattle.std.specs.List.{Contains}
use Rattle.oct_search.proofs.Certificates.{goes_on_by}
use Rattle.oct_search.proofs.certificate.goes_on.Goals as goal

pub are_settled-requires-clause-few : goal.are_settled-requires-clause-few
are_settled-requires-clause-few g c h listed =
    let most = c.greatest.ensures.most h (subst (λ heaps. Contains heaps h) (sym c.deref.ensures.value) listed) in
    omega arith

pub returns-then-greatest-reach-clause-goes_on : goal.returns-then-greatest-reach-clause-goes_on
returns-then-greatest-reach-clause-goes_on g c settled =
    let row = c.args.row.now in
    let few : (h : ℕ) → Contains row.rare.heaps.items h → h ≤ c.min-reach.result = λ h listed.
    let most = c.greatest.ensures.most h (subst (λ heaps. Contains heaps h) (sym c.deref.ensures.value) listed) in
    omega arith in
    goes_on_by g.T.Cell.number c.args.code.now row c.min-reach.result c.requires.row (c.if-not-serves.ensures.some refl) few
    c.args.seen.start (c.len.result - c.args.seen.period) c.args.seen.period c.requires.some (c.if-not-serves.ensures.even refl) (omega arith) (omega arith) (omega arith) c.requires.again (c.are_settled.ensures.settled settled)
