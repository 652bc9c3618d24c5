use Rattle.std.proofs.Common.{◌≡◌, false, ◌-◌, ◌<◌, refl, sym, subst, subst₂, arith, vec_len}
use Rattle.std.specs.List.{Contains}
use Rattle.oct_mex.specs.NimValues.{nim_value}
use Rattle.oct_mex.specs.Rare.{is_rare}
use Rattle.oct_mex.specs.declared.mask.Mask.{Mask}
use Rattle.oct_sets.specs.Sets.{reach_of}
use Rattle.oct_search.proofs.Certificates.{common}
use Rattle.oct_search.proofs.by_sets.BySets.follow.Goals as goal

pub go_on-requires-clause-common : goal.go_on-requires-clause-common
go_on-requires-clause-common g c far =
    let code = c.args.code.now in
    let row = c.args.row.now in
    let n = vec_len row.values - 1 in
    let same = c.if-not-is_same.ensures refl in
    subst₂ (λ mask m. is_rare mask (m - 1) (nim_value code (m - 1)) ≡ false) same (sym c.len.ensures)
    (common g.T.Cell.number code row (reach_of c.args.self.now.sets) c.requires.row (subst (λ (mask : Mask). 0 < mask.bits) (sym same) c.requires.right.some)
    (λ h is. let most = c.greatest.ensures.most h (subst (λ heaps. Contains heaps h) (sym c.deref.ensures.value) is) in omega (arith, most, c.if-greatest-reach.false, c.reach.ensures))
    n (subst (λ m. reach_of c.args.self.now.sets < m - 1) c.len.ensures far) (omega (arith, c.requires.some)))
