use Rattle.std.proofs.Common.{length, map, slice_index, inl, inr, sym, subst}
use Rattle.std.proofs.lemmas.Bool.{false≢true}
use Rattle.oct_mex.specs.Following.{HasOneHeap}
use Rattle.oct_mex.proofs.Led.{late_option, option_parts}
use Rattle.oct_mex.proofs.following.has_option.Goals as goal

pub returns-else-has_one_heap : goal.returns-else-has_one_heap
returns-else-has_one_heap g c =
    let code = c.args.code.now in
    let of = slice_index (map g.T.Cell.number c.args.values.now) in
    let n = length c.args.values.now in
    let v = g.T.Cell.number c.args.value in (
      (λ t. late_option code of n v (c.has_pair.ensures.0 t)),
      (λ o. elim (option_parts code of n v o) [
        | inl one ↦ absurd (false≢true (c.if-has_one_heap.ensures.1 (subst (HasOneHeap code of n) (sym c.number.ensures) one)))
        | inr pair ↦ c.has_pair.ensures.1 pair
      ]),
    )
