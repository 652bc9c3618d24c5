-- The order of operations is total, and operations that tie are one.
use Rattle.std.specs.Prelude.{◌≡◌, length, Option, Some, None, refl}
use Rattle.std.proofs.Common.{ap, subst}
use Rattle.std.specs.declared.cmp.Ordering.{Ordering}
use Rattle.std.specs.declared.cmp.Ordering.TheVariants.{Less, Equal, Greater}
use Rattle.std.specs.Ordering.{nat_cmp, then_cmp, on, ordering_then, as_partial_cmp, eq_by_cmp}
use Rattle.std.specs.Option.{option_cmp}
use Rattle.std.specs.Cmp.{IsTotalOrder, IsEquivalence, IsPartialEquivalence, IsPartialOrder, then_total, on_total, nat_cmp_total, eq_by_cmp_equiv, partial_equiv_from_equiv, partial_order_from_total}
use Rattle.std.specs.Cmp.Lexicographic.{options_total}
use Rattle.std.specs.FinSet.{IsAntisymmetric, nat_cmp-IsAntisymmetric, slice_cmp-IsAntisymmetric}
use Rattle.oct_code.specs.CodeOrder.{code_cmp_total, code_cmp_exact, both_tie}
use Rattle.oct_ops.specs.DotOrder.{dot_cmp}
use Rattle.oct_ops.specs.ListOrder.{list_cmp, list_cmp_total}
use Rattle.oct_ops.specs.Operation.{Block, Period, Note, Removal}
use Rattle.oct_ops.specs.Order.{block_cmp, period_cmp, note_cmp, removal_cmp, kind_of, body_cmp, op_cmp}
use Rattle.oct_ops.specs.Body.{Body}
use Rattle.oct_ops.specs.Body as kind

pub dot_cmp_total : IsTotalOrder dot_cmp
dot_cmp_total = then_total (on_total (λ d. d.author) nat_cmp_total) (on_total (λ d. d.number) nat_cmp_total)

pub block_cmp_total : IsTotalOrder block_cmp
block_cmp_total = then_total (on_total (λ b. b.code) code_cmp_total) (then_total (on_total (λ b. b.start) nat_cmp_total) (on_total (λ b. b.values) (list_cmp_total nat_cmp_total)))

pub period_cmp_total : IsTotalOrder period_cmp
period_cmp_total = then_total (on_total (λ p. p.code) code_cmp_total) (then_total (on_total (λ p. p.start) nat_cmp_total) (on_total (λ p. p.period) nat_cmp_total))

pub note_cmp_total : IsTotalOrder note_cmp
note_cmp_total = then_total (on_total (λ n. n.name) (list_cmp_total nat_cmp_total)) (on_total (λ n. n.text) (list_cmp_total nat_cmp_total))

pub note_eq_equiv : IsEquivalence (eq_by_cmp note_cmp)
note_eq_equiv = eq_by_cmp_equiv note_cmp_total

pub note_eq_partial : IsPartialEquivalence (eq_by_cmp note_cmp)
note_eq_partial = partial_equiv_from_equiv note_eq_equiv

pub note_partial_order : IsPartialOrder (eq_by_cmp note_cmp) (as_partial_cmp note_cmp)
note_partial_order = partial_order_from_total note_cmp_total

pub removal_cmp_total : IsTotalOrder removal_cmp
removal_cmp_total = on_total (λ r. r.dots) (list_cmp_total dot_cmp_total)

-- a body as four options, of which one is there
abbrev block_of : Body → Option Block
block_of (kind.Block b) = Some b
block_of _ = None

abbrev period_of : Body → Option Period
period_of (kind.Period p) = Some p
period_of _ = None

abbrev note_of : Body → Option Note
note_of (kind.Note n) = Some n
note_of _ = None

abbrev removal_of : Body → Option Removal
removal_of (kind.Removal r) = Some r
removal_of _ = None

abbrev parts_cmp : Body → Body → Ordering
parts_cmp = then_cmp (on kind_of nat_cmp) (then_cmp (on block_of (option_cmp block_cmp)) (then_cmp (on period_of (option_cmp period_cmp)) (then_cmp (on note_of (option_cmp note_cmp)) (on removal_of (option_cmp removal_cmp)))))

parts_cmp_total : IsTotalOrder parts_cmp
parts_cmp_total = then_total (on_total kind_of nat_cmp_total) (then_total (on_total block_of (options_total block_cmp_total)) (then_total (on_total period_of (options_total period_cmp_total)) (then_total (on_total note_of (options_total note_cmp_total)) (on_total removal_of (options_total removal_cmp_total)))))

pub then_equal : (o : Ordering) → ordering_then o Equal ≡ o
then_equal Less = refl
then_equal Equal = refl
then_equal Greater = refl

by_parts : (a b : Body) → parts_cmp a b ≡ body_cmp a b
by_parts (kind.Block b) (kind.Block c) = then_equal _
by_parts (kind.Block b) (kind.Period q) = refl
by_parts (kind.Block b) (kind.Note n) = refl
by_parts (kind.Block b) (kind.Removal s) = refl
by_parts (kind.Period p) (kind.Block c) = refl
by_parts (kind.Period p) (kind.Period q) = then_equal _
by_parts (kind.Period p) (kind.Note n) = refl
by_parts (kind.Period p) (kind.Removal s) = refl
by_parts (kind.Note m) (kind.Block c) = refl
by_parts (kind.Note m) (kind.Period q) = refl
by_parts (kind.Note m) (kind.Note n) = then_equal _
by_parts (kind.Note m) (kind.Removal s) = refl
by_parts (kind.Removal r) (kind.Block c) = refl
by_parts (kind.Removal r) (kind.Period q) = refl
by_parts (kind.Removal r) (kind.Note n) = refl
by_parts (kind.Removal r) (kind.Removal s) = refl

pub body_cmp_total : IsTotalOrder body_cmp
body_cmp_total = let same : parts_cmp ≡ body_cmp = λ i a b. by_parts a b i in subst IsTotalOrder same parts_cmp_total

pub op_cmp_total : IsTotalOrder op_cmp
op_cmp_total = then_total (on_total (λ o. o.dot) dot_cmp_total) (on_total (λ o. o.body) body_cmp_total)

pub op_eq_equiv : IsEquivalence (eq_by_cmp op_cmp)
op_eq_equiv = eq_by_cmp_equiv op_cmp_total

pub op_eq_partial : IsPartialEquivalence (eq_by_cmp op_cmp)
op_eq_partial = partial_equiv_from_equiv op_eq_equiv

pub op_partial_order : IsPartialOrder (eq_by_cmp op_cmp) (as_partial_cmp op_cmp)
op_partial_order = partial_order_from_total op_cmp_total

-- ---- what ties is one

pub dot_cmp_exact : IsAntisymmetric dot_cmp
dot_cmp_exact d e tie =
    let parts = both_tie (nat_cmp d.author e.author) _ tie in
    λ i. record { author = nat_cmp-IsAntisymmetric d.author e.author parts.0 i; number = nat_cmp-IsAntisymmetric d.number e.number parts.1 i }

pub list_cmp_exact : {A : Type 0} {R : A → A → Ordering} → IsAntisymmetric R → IsAntisymmetric (list_cmp R)
list_cmp_exact exact xs ys tie = slice_cmp-IsAntisymmetric exact xs ys (both_tie (nat_cmp (length xs) (length ys)) _ tie).1

numbers_exact : IsAntisymmetric (list_cmp nat_cmp)
numbers_exact = list_cmp_exact nat_cmp-IsAntisymmetric

pub block_cmp_exact : IsAntisymmetric block_cmp
block_cmp_exact b c tie =
    let code = both_tie _ _ tie in
    let start = both_tie (nat_cmp b.start c.start) _ code.1 in
    λ i. record { code = code_cmp_exact b.code c.code code.0 i; start = nat_cmp-IsAntisymmetric b.start c.start start.0 i; values = numbers_exact b.values c.values start.1 i }

pub period_cmp_exact : IsAntisymmetric period_cmp
period_cmp_exact p q tie =
    let code = both_tie _ _ tie in
    let start = both_tie (nat_cmp p.start q.start) _ code.1 in
    λ i. record { code = code_cmp_exact p.code q.code code.0 i; start = nat_cmp-IsAntisymmetric p.start q.start start.0 i; period = nat_cmp-IsAntisymmetric p.period q.period start.1 i }

pub note_cmp_exact : IsAntisymmetric note_cmp
note_cmp_exact m n tie =
    let parts = both_tie _ _ tie in
    λ i. record { name = numbers_exact m.name n.name parts.0 i; text = numbers_exact m.text n.text parts.1 i }

pub removal_cmp_exact : IsAntisymmetric removal_cmp
removal_cmp_exact r s tie = λ i. record { dots = list_cmp_exact dot_cmp_exact r.dots s.dots tie i }

body_cmp_exact : IsAntisymmetric body_cmp
body_cmp_exact (kind.Block b) (kind.Block c) tie = ap kind.Block (block_cmp_exact b c tie)
body_cmp_exact (kind.Block b) (kind.Period q) tie = cc
body_cmp_exact (kind.Block b) (kind.Note n) tie = cc
body_cmp_exact (kind.Block b) (kind.Removal s) tie = cc
body_cmp_exact (kind.Period p) (kind.Block c) tie = cc
body_cmp_exact (kind.Period p) (kind.Period q) tie = ap kind.Period (period_cmp_exact p q tie)
body_cmp_exact (kind.Period p) (kind.Note n) tie = cc
body_cmp_exact (kind.Period p) (kind.Removal s) tie = cc
body_cmp_exact (kind.Note m) (kind.Block c) tie = cc
body_cmp_exact (kind.Note m) (kind.Period q) tie = cc
body_cmp_exact (kind.Note m) (kind.Note n) tie = ap kind.Note (note_cmp_exact m n tie)
body_cmp_exact (kind.Note m) (kind.Removal s) tie = cc
body_cmp_exact (kind.Removal r) (kind.Block c) tie = cc
body_cmp_exact (kind.Removal r) (kind.Period q) tie = cc
body_cmp_exact (kind.Removal r) (kind.Note n) tie = cc
body_cmp_exact (kind.Removal r) (kind.Removal s) tie = ap kind.Removal (removal_cmp_exact r s tie)

pub op_cmp_exact : IsAntisymmetric op_cmp
op_cmp_exact o p tie =
    let parts = both_tie _ _ tie in
    λ i. record { dot = dot_cmp_exact o.dot p.dot parts.0 i; body = body_cmp_exact o.body p.body parts.1 i }
