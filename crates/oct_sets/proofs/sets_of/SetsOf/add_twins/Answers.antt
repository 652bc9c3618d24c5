use Rattle.std.proofs.Common.{◌≡◌, ◌+◌, ◌-◌, length, drop, map, slice_index, ap, arith, sym, subst, vec_len, ◌∙◌}
use Rattle.bitsets.proofs.Words.{as_many}
use Rattle.oct_sets.specs.Sets.{ArePairs, AreTwins}
use Rattle.oct_sets.proofs.Words.{pairs_same, taken, twins_more}
use Rattle.oct_sets.proofs.sets_of.SetsOf.add_twins.Goals as goal

pub returns-clause-pairs : goal.returns-clause-pairs
returns-clause-pairs g c code are =
    let s = c.args.self.now in
    let number = g.W.Word.number in
    let block = c.deref_mut.result.now in
    let new = c.unite_twins.new.words in
    let long : length new ≡ vec_len s.words = omega (arith, c.unite_twins.ensures.len, c.deref_mut.ensures.len) in
    let old = subst (λ xs. ArePairs code s.heap s.plan.back (map number xs)) (sym c.deref_mut.ensures.value) are in
    subst (λ xs. ArePairs code s.heap s.plan.back (map number xs)) (sym (taken (vec_len s.words) new (drop (length new) s.words.items) long))
    (pairs_same code s.heap s.plan.back (map number block) (map number new) (omega (arith, as_many number block, as_many number new, c.unite_twins.ensures.len)) c.unite_twins.ensures.last old)

pub returns-clause-made : goal.returns-clause-made
returns-clause-made g c code are both =
    let s = c.args.self.now in
    let number = g.W.Word.number in
    let block = c.deref_mut.result.now in
    let new = c.unite_twins.new.words in
    let many = as_many number block in
    let long : length new ≡ vec_len s.words = omega (arith, c.unite_twins.ensures.len, c.deref_mut.ensures.len) in
    let old = subst (λ xs. ArePairs code s.heap s.plan.back (map number xs)) (sym c.deref_mut.ensures.value) are in
    let were = subst (λ xs. AreTwins code s.heap s.plan.back s.plan.apart s.twins (map number xs)) (sym c.deref_mut.ensures.value) both in
    let size : length (map number block) - s.plan.back ≡ vec_len s.words - s.plan.back = omega (arith, many, c.deref_mut.ensures.len) in
    subst (λ xs. AreTwins code s.heap s.plan.back s.plan.apart (vec_len s.words - s.plan.back) (map number xs)) (sym (taken (vec_len s.words) new (drop (length new) s.words.items) long))
    (subst (λ k. AreTwins code s.heap s.plan.back s.plan.apart k (map number new)) size
    (twins_more code s.heap s.plan.back s.plan.apart s.twins (map number block) (map number new) (omega (arith, many, c.deref_mut.ensures.len, c.requires.behind)) (omega (arith, many, c.deref_mut.ensures.len, c.requires.twins))
    (omega (arith, many, as_many number new, c.unite_twins.ensures.len)) c.unite_twins.ensures.first (λ i v from far low. c.unite_twins.ensures.twins i v from far (omega (arith, low, many))) old were))
