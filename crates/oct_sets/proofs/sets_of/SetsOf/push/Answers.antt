use Rattle.std.proofs.Common.{◌≡◌, ◌+◌, ◌-◌, Vec, map, sym, subst, subst₂, ap, ap₂, ◌∙◌, arith}
use Rattle.oct_sets.specs.Plans.{AreSplits, HasStep, IsPlan}
use Rattle.oct_sets.specs.Sets.{ArePairs, AreTwins, IsBlock}
use Rattle.oct_sets.specs.declared.plan.Plan.{Plan}
use Rattle.oct_sets.specs.declared.plan.TheConstants.{LOW}
use Rattle.oct_sets.specs.declared.sets_of.SetsOf.{SetsOf}
use Rattle.oct_sets.proofs.Kept.{block_as, right_new}
use Rattle.oct_sets.proofs.sets_of.SetsOf.push.Goals as goal

pub returns-then-self-2-clause-right : goal.returns-then-self-2-clause-right
returns-then-self-2-clause-right g c code heaps reach right last =
    let old = c.args.self.now in
    let more = c.add_pair.ensures in
    let filled = c.fill.ensures.same in
    let new = c.fill.new.self in
    let mid = c.add_pair.new.self in
    let fits = c.requires.shaped in
    let at : mid.heap ≡ old.heap = ap (λ (s : SetsOf g.row.W.Denot g.row.A.Denot). s.heap) more.same in
    let same_plan : mid.plan ≡ old.plan = ap (λ (s : SetsOf g.row.W.Denot g.row.A.Denot). s.plan) more.same in
    let are : ArePairs code (mid.heap + 1) mid.plan.back (map g.W.Word.number mid.words.items) =
    subst₂ (λ n (p : Plan g.row.A.Denot). ArePairs code (n + 1) p.back (map g.W.Word.number mid.words.items)) (sym at) (sym same_plan) (more.pairs code fits.behind (omega (arith, fits.least)) right.splits right.pairs last) in
    let both : AreTwins code (mid.heap + 1) mid.plan.back mid.plan.apart mid.twins (map g.W.Word.number mid.words.items) =
    subst₂ (λ n (p : Plan g.row.A.Denot). AreTwins code (n + 1) p.back p.apart mid.twins (map g.W.Word.number mid.words.items)) (sym at) (sym same_plan) (more.twins code fits.behind right.twins) in
    right_new g.W.Word.number g.W.Word.digits code heaps reach (mid.heap + 1) LOW mid.plan mid.splits.items new
    (ap (λ (s : SetsOf g.row.W.Denot g.row.A.Denot). s.plan) filled) (ap (λ (s : SetsOf g.row.W.Denot g.row.A.Denot). s.splits.items) filled) (ap (λ (s : SetsOf g.row.W.Denot g.row.A.Denot). s.start) filled)
    (let wide : new.ready - new.start ≡ LOW = omega (arith, ap (λ (s : SetsOf g.row.W.Denot g.row.A.Denot). s.ready) filled, ap (λ (s : SetsOf g.row.W.Denot g.row.A.Denot). s.start) filled) in wide)
    (subst (λ p. IsPlan code heaps reach (HasStep code p)) (sym (ap (λ (s : SetsOf g.row.W.Denot g.row.A.Denot). s.plan) more.same)) right.plan)
    (subst (AreSplits code) (sym (ap (λ (s : SetsOf g.row.W.Denot g.row.A.Denot). s.splits.items) more.same)) right.splits)
    (subst (λ n. ArePairs code n mid.plan.back (map g.W.Word.number new.words.items)) (sym (ap (λ (s : SetsOf g.row.W.Denot g.row.A.Denot). s.heap) filled)) (c.fill.ensures.pairs code are))
    (subst₂ (λ n k. AreTwins code n mid.plan.back mid.plan.apart k (map g.W.Word.number new.words.items)) (sym (ap (λ (s : SetsOf g.row.W.Denot g.row.A.Denot). s.heap) filled)) (sym (ap (λ (s : SetsOf g.row.W.Denot g.row.A.Denot). s.twins) filled)) (c.fill.ensures.twins code are both))
    (c.fill.ensures.block code are both) (omega (arith, right.room, fits.started, at))

pub returns-else-self-2-clause-right : goal.returns-else-self-2-clause-right
returns-else-self-2-clause-right g c code heaps reach right last =
    let old = c.args.self.now in
    let more = c.add_pair.ensures in
    let added = c.add_low.ensures.same in
    let new = c.add_low.new.self in
    let mid = c.add_pair.new.self in
    let fits = c.requires.shaped in
    let digits = g.W.Word.digits in
    let number = g.W.Word.number in
    let at : mid.heap ≡ old.heap = ap (λ (s : SetsOf g.row.W.Denot g.row.A.Denot). s.heap) more.same in
    let start = ap (λ (s : SetsOf g.row.W.Denot g.row.A.Denot). s.start) more.same in
    let ready = ap (λ (s : SetsOf g.row.W.Denot g.row.A.Denot). s.ready) more.same in
    let plan = ap (λ (s : SetsOf g.row.W.Denot g.row.A.Denot). s.plan) more.same in
    let are : ArePairs code (mid.heap + 1) mid.plan.back (map number mid.words.items) =
    subst₂ (λ n (p : Plan g.row.A.Denot). ArePairs code (n + 1) p.back (map number mid.words.items)) (sym at) (sym plan) (more.pairs code fits.behind (omega (arith, fits.least)) right.splits right.pairs last) in
    let both : AreTwins code (mid.heap + 1) mid.plan.back mid.plan.apart mid.twins (map number mid.words.items) =
    subst₂ (λ n (p : Plan g.row.A.Denot). AreTwins code (n + 1) p.back p.apart mid.twins (map number mid.words.items)) (sym at) (sym plan) (more.twins code fits.behind right.twins) in
    let kept : ArePairs code new.heap new.plan.back (map number new.words.items) = subst (λ (s : SetsOf g.row.W.Denot g.row.A.Denot). ArePairs code s.heap s.plan.back (map number s.words.items)) (sym added) are in
    let stay : AreTwins code new.heap new.plan.back new.plan.apart new.twins (map number new.words.items) = subst (λ (s : SetsOf g.row.W.Denot g.row.A.Denot). AreTwins code s.heap s.plan.back s.plan.apart s.twins (map number s.words.items)) (sym added) both in
    let to_old : new.plan ≡ old.plan = ap (λ (s : SetsOf g.row.W.Denot g.row.A.Denot). s.plan) added ∙ plan in
    let block : IsBlock digits code old.start old.plan (old.ready - old.start) (map number mid.block.items) =
    subst (λ (b : Vec g.row.W.Denot g.row.A.Denot). IsBlock digits code old.start old.plan (old.ready - old.start) (map number b.items)) (sym (ap (λ (s : SetsOf g.row.W.Denot g.row.A.Denot). s.block) more.same)) right.block in
    right_new number digits code heaps reach old.start (old.ready + LOW - old.start) old.plan old.splits.items new
    (ap (λ (s : SetsOf g.row.W.Denot g.row.A.Denot). s.plan) added ∙ plan)
    (ap (λ (s : SetsOf g.row.W.Denot g.row.A.Denot). s.splits.items) added ∙ ap (λ (s : SetsOf g.row.W.Denot g.row.A.Denot). s.splits.items) more.same)
    (ap (λ (s : SetsOf g.row.W.Denot g.row.A.Denot). s.start) added ∙ start) (ap₂ (λ k n. k - n) (ap (λ (s : SetsOf g.row.W.Denot g.row.A.Denot). s.ready) added ∙ ap (λ k. k + LOW) ready) (ap (λ (s : SetsOf g.row.W.Denot g.row.A.Denot). s.start) added ∙ start)) right.plan right.splits
    (subst (λ (p : Plan g.row.A.Denot). ArePairs code new.heap p.back (map number new.words.items)) to_old kept)
    (subst (λ (p : Plan g.row.A.Denot). AreTwins code new.heap p.back p.apart new.twins (map number new.words.items)) to_old stay)
    (block_as digits code mid.start old.start mid.plan old.plan (mid.ready + LOW - mid.start) (old.ready + LOW - old.start) (map number new.block.items) start plan (ap₂ (λ k n. k + LOW - n) ready start)
    (c.add_low.ensures.block code are (block_as digits code old.start mid.start old.plan mid.plan (old.ready - old.start) (mid.ready - mid.start) (map number mid.block.items) (sym start) (sym plan) (ap₂ (λ k n. k - n) (sym ready) (sym start)) block))) right.room

pub returns-else-self-clause-right : goal.returns-else-self-clause-right
returns-else-self-clause-right g c code heaps reach right last =
    let old = c.args.self.now in
    let more = c.add_pair.ensures in
    let mid = c.add_pair.new.self in
    let fits = c.requires.shaped in
    let at : mid.heap ≡ old.heap = ap (λ (s : SetsOf g.row.W.Denot g.row.A.Denot). s.heap) more.same in
    right_new g.W.Word.number g.W.Word.digits code heaps reach old.start (old.ready - old.start) old.plan old.splits.items (record mid { heap = mid.heap + 1 })
    (ap (λ (s : SetsOf g.row.W.Denot g.row.A.Denot). s.plan) more.same) (ap (λ (s : SetsOf g.row.W.Denot g.row.A.Denot). s.splits.items) more.same) (ap (λ (s : SetsOf g.row.W.Denot g.row.A.Denot). s.start) more.same)
    (ap (λ (s : SetsOf g.row.W.Denot g.row.A.Denot). s.ready - s.start) more.same) right.plan right.splits
    (subst (λ n. ArePairs code (n + 1) old.plan.back (map g.W.Word.number mid.words.items)) (sym at) (more.pairs code fits.behind (omega (arith, fits.least)) right.splits right.pairs last))
    (subst (λ n. AreTwins code (n + 1) old.plan.back old.plan.apart mid.twins (map g.W.Word.number mid.words.items)) (sym at) (more.twins code fits.behind right.twins))
    (subst (λ (b : Vec g.row.W.Denot g.row.A.Denot). IsBlock g.W.Word.digits code old.start old.plan (old.ready - old.start) (map g.W.Word.number b.items)) (sym (ap (λ (s : SetsOf g.row.W.Denot g.row.A.Denot). s.block) more.same)) right.block) right.room
