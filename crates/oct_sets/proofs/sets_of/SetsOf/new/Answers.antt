use Rattle.std.proofs.Common.{◌≡◌, ◌+◌, ◌-◌, ◌*◌, ◌%◌, ◌^◌, ◌<◌, ◌≤◌, ◌⊎◌, ◌↔◌, ℕ, List, Vec, length, map, slice_index, sym, subst, subst₂, ap, arith, vec_len, vec_capacity}
use Rattle.std.proofs.lemmas.List.Elements.{All-contains}
use Rattle.std.proofs.Math.Pow.{pow_mono}
use Rattle.std.specs.List.{Contains}
use Rattle.bitsets.specs.Sets.{Has}
use Rattle.oct_code.specs.Code.{len}
use Rattle.oct_mex.proofs.Cells.{as_many}
use Rattle.oct_sets.specs.Plans.{HasStep, IsEndStep, IsHeapStep, IsOneBefore, IsPlan, IsShapedPlan}
use Rattle.oct_sets.specs.Sets.{ArePairs, AreTwins}
use Rattle.oct_sets.specs.declared.plan.TheConstants.{LOW}
use Rattle.oct_sets.specs.declared.sets_of.SetsOf.{SetsOf}
use Rattle.oct_sets.specs.declared.sorted.SmallHeap.{SmallHeap}
use Rattle.oct_sets.specs.declared.witnesses.TheConstants.{NEAREST}
use Rattle.oct_sets.proofs.Kept.{right_new, shaped_new}
use Rattle.oct_sets.proofs.Near.{plan_is}
use Rattle.oct_sets.proofs.Words.{no_twins, pairs_first}
use Rattle.oct_sets.proofs.sets_of.SetsOf.new.Goals as goal

pub sorted-requires-clause-alone : goal.sorted-requires-clause-alone
sorted-requires-clause-alone g c h is =
    (All-contains (λ w. (NEAREST ≤ w) × (w < length c.args.small.now) × (slice_index (map g.T.Cell.number c.args.small.now) w < 64)) c.in_ok-chosen.chosen.alone.items h c.in_ok-chosen.ensures.alone
    (subst (λ xs. Contains xs h) c.deref.ensures.value is)).1

pub sorted-requires-clause-twins : goal.sorted-requires-clause-twins
sorted-requires-clause-twins g c h is =
    let small = map g.T.Cell.number c.args.small.now in
    let apart = c.in_ok-chosen.chosen.apart in
    let told = All-contains (λ w. (NEAREST ≤ w) × (w + apart < length c.args.small.now) × (slice_index small w < 64) × (slice_index small (w + apart) ≡ slice_index small w)) c.in_ok-chosen.chosen.twins.items h c.in_ok-chosen.ensures.twins
    (subst (λ xs. Contains xs h) c.deref-2.ensures.value is) in
    (omega (arith, told.0), told.1, told.3)

pub sorted-requires-clause-low : goal.sorted-requires-clause-low
sorted-requires-clause-low g c h is =
    let most : 2 ^ g.W.Word.digits ≤ 2 ^ 6 = pow_mono g.met.W.Word.few in
    let low = c.requires.low h is in
    omega (arith, low, most)

pub of-requires-clause-none : goal.of-requires-clause-none
of-requires-clause-none g c =
    let most : 2 ^ g.W.Word.digits ≤ 2 ^ 6 = pow_mono g.met.W.Word.few in
    let low = c.requires.low 0 (omega (arith, c.requires.some)) in
    omega (arith, low, most, c.number_at.ensures)

pub of-requires-clause-each : goal.of-requires-clause-each
of-requires-clause-each g c h is =
    let most : 2 ^ g.W.Word.digits ≤ 2 ^ 6 = pow_mono g.met.W.Word.few in
    let among = c.in_ok-heaps.ensures.each h (subst (λ (xs : List SmallHeap). Contains xs h) c.deref-3.ensures.value is) in
    let size = as_many g.T.Cell.number c.args.small.now in
    record {
      some = among.some;
      few = omega (arith, among.few, c.requires.window, size);
      small = let low = c.requires.low h.heap (omega (arith, among.few, size)) in omega (arith, low, among.value, most);
      twin = λ yes. let t = among.twin yes in (t.0, omega (arith, t.1, c.requires.window, size));
    }

pub fill-requires-clause-far : goal.fill-requires-clause-far
fill-requires-clause-far g c =
    let none : c.number_at.result < 2 ^ g.W.Word.digits = (let low = c.requires.low 0 (omega (arith, c.requires.some)) in omega (arith, low, c.number_at.ensures)) in
    (c.in_ok-plan.ensures.shaped (2 ^ g.W.Word.digits) (length c.args.small.now - 1) none (omega (arith, c.requires.window, c.requires.some)) (λ h is.
    let among = c.in_ok-heaps.ensures.each h (subst (λ (xs : List SmallHeap). Contains xs h) c.deref-3.ensures.value is) in
    let size = as_many g.T.Cell.number c.args.small.now in
    record { some = among.some; few = omega (arith, among.few, size); small = (let low = c.requires.low h.heap (omega (arith, among.few, size)) in omega (arith, low, among.value)); twin = λ yes. let t = among.twin yes in (t.0, omega (arith, t.1, size)) })).far

pub fill-requires-clause-low : goal.fill-requires-clause-low
fill-requires-clause-low g c =
    let none : c.number_at.result < 2 ^ g.W.Word.digits = (let low = c.requires.low 0 (omega (arith, c.requires.some)) in omega (arith, low, c.number_at.ensures)) in
    (c.in_ok-plan.ensures.shaped (2 ^ g.W.Word.digits) (length c.args.small.now - 1) none (omega (arith, c.requires.window, c.requires.some)) (λ h is.
    let among = c.in_ok-heaps.ensures.each h (subst (λ (xs : List SmallHeap). Contains xs h) c.deref-3.ensures.value is) in
    let size = as_many g.T.Cell.number c.args.small.now in
    record { some = among.some; few = omega (arith, among.few, size); small = (let low = c.requires.low h.heap (omega (arith, among.few, size)) in omega (arith, low, among.value)); twin = λ yes. let t = among.twin yes in (t.0, omega (arith, t.1, size)) })).low

pub returns-clause-shaped : goal.returns-clause-shaped
returns-clause-shaped g c =
    let filled = c.fill.ensures.same in
    let new = c.fill.new.self in
    let limit = 2 ^ g.W.Word.digits in
    let none : c.number_at.result < limit = (let low = c.requires.low 0 (omega (arith, c.requires.some)) in omega (arith, low, c.number_at.ensures)) in
    let reach = length c.args.small.now - 1 in
    let back : c.in_ok-plan.plan.back ≡ 2 * length c.args.last.now + 1 = omega (arith, c.in_ok-plan.ensures.back) in
    let twins : new.twins ≡ vec_len c.in_ok-words.words - c.in_ok-plan.plan.back = ap (λ (s : SetsOf g.row.W.Denot g.row.A.Denot). s.twins) filled in
    let heap : new.heap ≡ c.args.heap = ap (λ (s : SetsOf g.row.W.Denot g.row.A.Denot). s.heap) filled in
    let start : new.start ≡ c.args.heap = ap (λ (s : SetsOf g.row.W.Denot g.row.A.Denot). s.start) filled in
    let ready : new.ready ≡ c.args.heap + LOW = ap (λ (s : SetsOf g.row.W.Denot g.row.A.Denot). s.ready) filled in
    let size : vec_len new.words ≡ c.in_ok-plan.plan.back + reach = omega (arith, c.fill.ensures.words, c.in_ok-words.ensures.len, c.requires.window, c.len.ensures.value, back) in
    shaped_new g.W.Word.digits reach (length c.args.last.now) c.in_ok-plan.plan c.in_ok-splits.splits.items new (ap (λ (s : SetsOf g.row.W.Denot g.row.A.Denot). s.reach) filled) (ap (λ (s : SetsOf g.row.W.Denot g.row.A.Denot). s.plan) filled)
    (ap (λ (s : SetsOf g.row.W.Denot g.row.A.Denot). s.splits.items) filled)
    (subst (λ width. IsShapedPlan limit reach width c.in_ok-plan.plan) (sym c.requires.window) (c.in_ok-plan.ensures.shaped limit reach none (omega (arith, c.requires.window, c.requires.some)) (λ h is.
    let among = c.in_ok-heaps.ensures.each h (subst (λ (xs : List SmallHeap). Contains xs h) c.deref-3.ensures.value is) in
    let size = as_many g.T.Cell.number c.args.small.now in
    record { some = among.some; few = omega (arith, among.few, size); small = (let low = c.requires.low h.heap (omega (arith, among.few, size)) in omega (arith, low, among.value)); twin = λ yes. let t = among.twin yes in (t.0, omega (arith, t.1, size)) })))
    (λ k low. let few = c.in_ok-splits.ensures.few k low in omega (arith, few, c.requires.window, c.requires.some))
    (omega (arith, size)) (omega (arith, size, back, c.requires.window)) (omega (arith, c.fill.ensures.room, c.in_ok-words.ensures.room, back)) (omega (arith, twins, size, c.fill.ensures.words))
    (omega (arith, back, c.requires.window, c.requires.room, c.requires.limited)) (omega (arith, size, c.requires.room, heap)) (omega (arith, c.requires.window, c.requires.room, heap)) c.fill.ensures.len (omega (arith, heap, start)) (omega (arith, heap, ready)) (let wide : new.ready - new.start ≡ LOW = omega (arith, start, ready) in ap (λ k. k % LOW) wide) (omega (arith, start, ready))

pub returns-clause-right : goal.returns-clause-right
returns-clause-right g c first last =
    let filled = c.fill.ensures.same in
    let new = c.fill.new.self in
    let code = c.args.code.now in
    let number = g.T.Cell.number in
    let small = map number c.args.small.now in
    let values = map number c.args.last.now in
    let many = as_many number c.args.small.now in
    let size : length values ≡ length c.args.last.now = as_many number c.args.last.now in
    let splits = c.in_ok-splits.splits.items in
    let given = c.in_ok-words.words in
    let plan_of = c.in_ok-plan.plan in
    let back : plan_of.back ≡ 2 * length c.args.last.now + 1 = omega (arith, c.in_ok-plan.ensures.back) in
    let list = c.in_ok-heaps.heaps.items in
    let word = g.W.Word.number in
    let words = map word given.items in
    let many_words : length words ≡ vec_len given = omega (arith, as_many word given.items) in
    let first_of = c.len.result in
    let wide = 2 * length c.args.last.now + 1 in
    let begun : ArePairs code c.args.heap wide words = pairs_first code c.args.heap first_of wide splits values words c.in_ok-splits.ensures.splits last
    (omega (arith, c.requires.window, c.requires.room, size)) (omega (arith, c.requires.window, c.len.ensures.value, size)) (omega (arith, c.in_ok-words.ensures.len, size, many_words))
    (λ k low. let few = c.in_ok-splits.ensures.few k low in omega (arith, few, c.len.ensures.value))
    (subst (λ (xs : List ℕ). (i v : ℕ) → first_of + i < length values → Has (slice_index words (wide + i)) v ↔ IsOneBefore xs values (first_of + i) (length xs) v) c.deref-4.ensures.value
    (λ i v low. c.in_ok-words.ensures.pairs i v (omega (arith, low, size)))) in
    let are : ArePairs code c.args.heap plan_of.back words = subst (λ k. ArePairs code c.args.heap k words) (sym back) begun in
    let both : AreTwins code c.args.heap plan_of.back plan_of.apart 0 words = no_twins code c.args.heap plan_of.back plan_of.apart words in
    let plan = plan_is code c.in_ok-chosen.chosen.apart c.args.rare.now small list c.in_ok-plan.plan (omega (arith, c.requires.some, many)) first
    (λ h is. let low = c.requires.listed h is in omega (arith, low, many)) c.in_ok-heaps.ensures.each c.in_ok-heaps.ensures.has
    (subst₂ (λ v (xs : List SmallHeap). (d x : ℕ) → HasStep code c.in_ok-plan.plan d x ↔ (IsEndStep code v (len code + 1) d x ⊎ IsHeapStep code c.in_ok-chosen.chosen.apart xs (length xs) d x)) c.number_at.ensures c.deref-3.ensures.value c.in_ok-plan.ensures.steps) in
    right_new word g.W.Word.digits code c.args.rare.now (length c.args.small.now - 1) c.args.heap LOW c.in_ok-plan.plan splits new (ap (λ (s : SetsOf g.row.W.Denot g.row.A.Denot). s.plan) filled) (ap (λ (s : SetsOf g.row.W.Denot g.row.A.Denot). s.splits.items) filled)
    (ap (λ (s : SetsOf g.row.W.Denot g.row.A.Denot). s.start) filled) (let wide : new.ready - new.start ≡ LOW = omega (arith, ap (λ (s : SetsOf g.row.W.Denot g.row.A.Denot). s.ready) filled, ap (λ (s : SetsOf g.row.W.Denot g.row.A.Denot). s.start) filled) in wide) (subst (λ k. IsPlan code c.args.rare.now (k - 1) (HasStep code c.in_ok-plan.plan)) many plan) c.in_ok-splits.ensures.splits
    (subst (λ n. ArePairs code n plan_of.back (map word new.words.items)) (sym (ap (λ (s : SetsOf g.row.W.Denot g.row.A.Denot). s.heap) filled)) (c.fill.ensures.pairs code are))
    (subst₂ (λ n k. AreTwins code n plan_of.back plan_of.apart k (map word new.words.items)) (sym (ap (λ (s : SetsOf g.row.W.Denot g.row.A.Denot). s.heap) filled)) (sym (ap (λ (s : SetsOf g.row.W.Denot g.row.A.Denot). s.twins) filled)) (c.fill.ensures.twins code are both))
    (c.fill.ensures.block code are both) c.requires.room
