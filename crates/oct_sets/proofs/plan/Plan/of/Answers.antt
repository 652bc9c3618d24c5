use Rattle.std.proofs.Common.{length, ◌+◌, ◌-◌, ◌<◌, ◌≤◌, ◌⊎◌, ◌↔◌, ◌≡◌, ℕ, inl, inr, arith, ap, subst, sym, ◌∙◌}
use Rattle.std.specs.List.{Contains}
use Rattle.oct_code.specs.Code.{len}
use Rattle.oct_sets.specs.Plans.{HasStep, IsEndStep, IsHeapStep, IsWithin}
use Rattle.oct_sets.specs.declared.plan.Plan.{Plan}
use Rattle.oct_sets.specs.declared.sorted.SmallHeap.{SmallHeap}
use Rattle.oct_sets.proofs.Growing.{has_none, shaped_none}
use Rattle.oct_sets.proofs.plan.Plan.of.Goals as goal

pub add_heaps-requires-clause-each : goal.add_heaps-requires-clause-each
add_heaps-requires-clause-each g c h is =
    let back = c.in_ok-add_ends.ensures.back in
    let apart = c.in_ok-add_ends.ensures.apart in
    subst (λ b. IsWithin 64 (b - 1) c.add_ends.new.self.apart h) (sym back) (subst (λ a. IsWithin 64 (c.args.back - 1) a h) (sym apart) (c.requires.each h is))

pub returns-clause-shaped : goal.returns-clause-shaped
returns-clause-shaped g c limit reach small less each =
    let begun : Plan g.row.A.Denot = record { far = c.new.result; low = c.new-2.result; near = c.new-3.result; back = c.args.back; apart = c.args.apart } in
    let width = reach + len c.args.code.now in
    let none = shaped_none begun c.new.ensures.offsets c.new.ensures.values c.new-2.ensures.offsets c.new-2.ensures.values c.new-3.ensures.offsets c.new-3.ensures.values limit reach width less in
    let same = c.in_ok-add_ends.ensures.apart in
    c.in_ok-add_heaps.ensures.shaped limit reach (c.in_ok-add_ends.ensures.shaped limit reach width small none (omega arith)) (λ h is. subst (λ a. IsWithin limit reach a h) (sym same) (each h is))

pub returns-clause-steps : goal.returns-clause-steps
returns-clause-steps g c d x =
    let begun : Plan g.row.A.Denot = record { far = c.new.result; low = c.new-2.result; near = c.new-3.result; back = c.args.back; apart = c.args.apart } in
    let code = c.args.code.now in
    let reach = c.args.back - 1 in
    let width = reach + len code in
    let less : reach < c.args.back = omega (arith, c.requires.some) in
    let none = shaped_none begun c.new.ensures.offsets c.new.ensures.values c.new-2.ensures.offsets c.new-2.ensures.values c.new-3.ensures.offsets c.new-3.ensures.values 64 reach width less in
    let same = c.in_ok-add_ends.ensures.apart in
    let ends = c.in_ok-add_ends.ensures.adds 64 reach width c.requires.none none (omega arith) in
    let heaps = c.in_ok-add_heaps.ensures.adds 64 reach (c.in_ok-add_ends.ensures.shaped 64 reach width c.requires.none none (omega arith)) (λ h is. subst (λ a. IsWithin 64 reach a h) (sym same) (c.requires.each h is)) in (
      (λ h. elim (heaps.only d x h) [
        | inl was ↦ elim (ends.only d x was) [ inl old ↦ absurd (has_none code begun d x c.new.ensures.offsets c.new-2.ensures.offsets c.new-3.ensures.offsets old) | inr e ↦ inl e ]
        | inr k ↦ inr (subst (λ a. IsHeapStep code a c.args.heaps.now (length c.args.heaps.now) d x) same k)
      ]),
      (λ s. elim s [ inl e ↦ heaps.keeps d x (ends.has d x e) | inr k ↦ heaps.has d x (subst (λ a. IsHeapStep code a c.args.heaps.now (length c.args.heaps.now) d x) (sym same) k) ]),
    )
