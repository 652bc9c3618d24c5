use Rattle.std.proofs.Common.{◌≡◌, ◌+◌, ◌-◌, Vec, map, subst, subst₂, ap, arith, sym, ◌∙◌, vec_len}
use Rattle.oct_sets.specs.Sets.{ArePairs, AreTwins}
use Rattle.oct_sets.specs.declared.plan.TheConstants.{LOW}
use Rattle.oct_sets.specs.declared.sets_of.SetsOf.{SetsOf}
use Rattle.oct_sets.proofs.Kept.{block_as, pairs_as, twins_as}
use Rattle.oct_sets.proofs.sets_of.SetsOf.fill.Goals as goal

pub returns-clause-pairs : goal.returns-clause-pairs
returns-clause-pairs g c code are =
    let s = c.args.self.now in
    let number = g.W.Word.number in
    let words = ap (λ (s : SetsOf g.row.W.Denot g.row.A.Denot). s.words) c.add_low.ensures.same ∙ ap (λ (s : SetsOf g.row.W.Denot g.row.A.Denot). s.words) c.add_far.ensures.same in
    subst (λ (ws : Vec g.row.W.Denot g.row.A.Denot). ArePairs code s.heap s.plan.back (map number ws.items)) (sym words) (c.add_twins.ensures.pairs code are)

pub returns-clause-twins : goal.returns-clause-twins
returns-clause-twins g c code are both =
    let s = c.args.self.now in
    let number = g.W.Word.number in
    let words = ap (λ (s : SetsOf g.row.W.Denot g.row.A.Denot). s.words) c.add_low.ensures.same ∙ ap (λ (s : SetsOf g.row.W.Denot g.row.A.Denot). s.words) c.add_far.ensures.same in
    subst (λ (ws : Vec g.row.W.Denot g.row.A.Denot). AreTwins code s.heap s.plan.back s.plan.apart (vec_len s.words - s.plan.back) (map number ws.items)) (sym words) (c.add_twins.ensures.made code are both)

pub returns-clause-block : goal.returns-clause-block
returns-clause-block g c code are both =
    let s = c.args.self.now in
    let made = c.add_twins.new.self in
    let mid = c.add_far.new.self in
    let digits = g.W.Word.digits in
    let number = g.W.Word.number in
    let first = c.add_twins.ensures.same in
    let same = c.add_far.ensures.same in
    let heap : made.heap ≡ s.heap = ap (λ (s : SetsOf g.row.W.Denot g.row.A.Denot). s.heap) first in
    let plan_made : made.plan ≡ s.plan = ap (λ (s : SetsOf g.row.W.Denot g.row.A.Denot). s.plan) first in
    let start : mid.start ≡ s.heap = ap (λ (s : SetsOf g.row.W.Denot g.row.A.Denot). s.start) same ∙ heap in
    let ready : mid.ready ≡ s.heap = ap (λ (s : SetsOf g.row.W.Denot g.row.A.Denot). s.ready) same ∙ heap in
    let plan : mid.plan ≡ s.plan = ap (λ (s : SetsOf g.row.W.Denot g.row.A.Denot). s.plan) same ∙ plan_made in
    let pairs : ArePairs code made.heap made.plan.back (map number made.words.items) = pairs_as number code made s made.words (sym heap) (sym plan_made) (c.add_twins.ensures.pairs code are) in
    let twins : AreTwins code made.heap made.plan.back made.plan.apart made.twins (map number made.words.items) =
    twins_as number code made s made.words made.twins (vec_len s.words - s.plan.back) (sym heap) (sym plan_made) (sym (ap (λ (s : SetsOf g.row.W.Denot g.row.A.Denot). s.twins) first)) (c.add_twins.ensures.made code are both) in
    let here : ArePairs code mid.heap mid.plan.back (map number mid.words.items) =
    subst (λ (s : SetsOf g.row.W.Denot g.row.A.Denot). ArePairs code s.heap s.plan.back (map number s.words.items)) (sym same) pairs in
    block_as digits code mid.start s.heap mid.plan s.plan (mid.ready + LOW - mid.start) LOW (map number c.add_low.new.self.block.items) start plan (omega (arith, ready, start))
    (c.add_low.ensures.block code here
    (block_as digits code made.heap mid.start made.plan mid.plan 0 (mid.ready - mid.start) (map number mid.block.items) (sym (ap (λ (s : SetsOf g.row.W.Denot g.row.A.Denot). s.start) same)) (sym (ap (λ (s : SetsOf g.row.W.Denot g.row.A.Denot). s.plan) same)) (omega (arith, ready, start)) (c.add_far.ensures.block code pairs twins)))
