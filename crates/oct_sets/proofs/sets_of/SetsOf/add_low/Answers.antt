use Rattle.std.proofs.Common.{◌≡◌, ◌+◌, ◌-◌, ◌^◌, ◌≤◌, ◌⊎◌, ◌↔◌, List, length, drop, map, slice_index, ap, arith, subst, subst₂, sym, vec_len, ◌∙◌}
use Rattle.std.proofs.lemmas.List.Edits.{length-between}
use Rattle.std.specs.List.{slice_range}
use borrow.Rule.Slice.PartMut.{put_mid}
use Rattle.bitsets.specs.Sets.{Has}
use Rattle.bitsets.proofs.Words.{as_many, put_length}
use Rattle.oct_sets.specs.Plans.{IsLowMade}
use Rattle.oct_sets.specs.Sets.{IsBlock}
use Rattle.oct_sets.specs.declared.plan.TheConstants.{BLOCK, LOW}
use Rattle.oct_sets.proofs.Words.{group_more, low_range, no_twins, slices_added, taken}
use Rattle.oct_sets.proofs.sets_of.SetsOf.add_low.Goals as goal

pub returns-clause-block : goal.returns-clause-block
returns-clause-block g c code are was =
    let s = c.args.self.now in
    let number = g.W.Word.number in
    let words = map number s.words.items in
    let many : length words ≡ vec_len s.words = omega (arith, as_many number s.words.items) in
    let steps = c.requires.low in
    let from = s.ready - s.start in
    let to = from + LOW in
    let end : to ≡ s.ready + LOW - s.start = omega (arith, c.requires.started) in
    let next : s.heap ≡ s.start + from = omega (arith, c.requires.next, c.requires.started) in
    let few : to ≤ BLOCK = omega (arith, c.requires.room, c.requires.started) in
    let block = c.deref_mut.result.now in
    let part = c.unite_steps.new.block in
    let long : length block ≡ vec_len s.block = c.deref_mut.ensures.len in
    let low : to ≤ length block = omega (arith, long, c.requires.block, few) in
    let begun : length (slice_range block from to) ≡ to - from = length-between block from to low in
    let full : length part ≡ to - from = c.unite_steps.ensures.len ∙ begun in
    let kept : IsBlock g.W.Word.digits code s.start s.plan from (map number block) = subst (λ (xs : List g.row.W.Denot). IsBlock g.W.Word.digits code s.start s.plan from (map number xs)) (sym c.deref_mut.ensures.value) was in
    let more : IsBlock g.W.Word.digits code s.start s.plan to (map number (put_mid from (to - from) block part)) =
    group_more number g.W.Word.digits code s.start from s.plan block part low few full
    (λ i v within small. subst (λ h. Has (slice_index (map number part) i) v ↔ (Has (slice_index (map number (slice_range block from to)) i) v ⊎ IsLowMade code (h + i) s.plan v)) next
    (slices_added g.W.Word.digits code s.heap s.plan.back s.plan.apart 0 s.reach words s.plan.low LOW are (no_twins code s.heap s.plan.back s.plan.apart words) (omega (arith, c.requires.behind, many)) (omega (arith, c.requires.words, many))
    (low_range (2 ^ g.W.Word.digits) s.plan.back s.plan.apart s.reach s.plan.low steps c.requires.reach) (λ k in_list more. absurd (omega (arith, more, steps.to k in_list, c.requires.reach)))
    (map number c.deref.result.now) c.deref-2.result.now c.deref-3.result.now c.len.result i v (slice_index (map number (slice_range block from to)) i) (slice_index (map number part) i)
    (ap (map number) c.deref.ensures.value) c.deref-2.ensures.value c.deref-3.ensures.value (omega (arith, c.len.ensures, many)) within small (c.unite_steps.ensures.adds i (omega (arith, within, begun))))) kept in
    let size : length (put_mid from (to - from) block part) ≡ vec_len s.block = put_length number block from (to - from) part (omega (arith, low)) full ∙ long in
    subst₂ (λ k (xs : List g.row.W.Denot). IsBlock g.W.Word.digits code s.start s.plan k (map number xs)) end
    (sym (taken (vec_len s.block) (put_mid from (to - from) block part) (drop (length (put_mid from (to - from) block part)) s.block.items) size)) more
