use Rattle.std.proofs.Common.{◌≡◌, ◌-◌, ◌≤◌, length, get_or, sym, subst, ap, ◌∙◌, arith}
use Rattle.std.specs.List.Sorted.{IsPartitionedBy}
use Rattle.std.proofs.lemmas.Bool.{ltb-false}
use Rattle.chunked.specs.Chunked.{content, joined, start_of}
use Rattle.chunked.proofs.Joining.{parted_by_first, point-joined, parted-part, start-all, end-upto}
use Rattle.chunked.proofs.chunks.Chunks.partition_point.Goals as goal

pub partition_point-started-requires : goal.partition_point-started-requires
partition_point-started-requires g c = rw c.deref.ensures.value (parted_by_first content (g.P.Test.passes c.args.test.now) c.args.self.now.chunks.items c.requires.chunked.filled c.requires.parted)

pub partition_point-at-requires : goal.partition_point-at-requires
partition_point-at-requires g c =
    let vs = c.args.self.now.chunks.items in
    let q = g.P.Test.passes c.args.test.now in
    let lookup = rw c.deref-2.ensures.value at c.in-Some.ensures.lookup in
    let chunk = c.in-Some.items.now in
    rw c.deref-3.ensures.value (subst (λ v. IsPartitionedBy q (content v)) (sym (lookup.3.1 chunk)) (parted-part content q vs c.saturating_sub-chunk.result chunk lookup.3.0 c.requires.parted))

pub returns-clause-point : goal.returns-clause-point
returns-clause-point g c =
    let vs = c.args.self.now.chunks.items in
    let q = g.P.Test.passes c.args.test.now in
    let first_facts = rw c.deref.ensures.value at c.partition_point-started.ensures in
    let inner_facts = rw c.deref-3.ensures.value at c.partition_point-at.ensures in
    let lookup = rw (c.saturating_sub-chunk.ensures, c.deref-2.ensures.value) at c.in-Some.ensures.lookup in
    let chunk = c.in-Some.items.now in
    let n = c.partition_point-started.result - 1 in
    let is : chunk ≡ get_or vs n chunk = lookup.3.1 chunk in
    rw c.saturating_sub-chunk.ensures (point-joined content q vs c.requires.chunked.filled c.requires.parted c.partition_point-started.result c.partition_point-at.result chunk lookup.3.0 first_facts.within is first_facts.point inner_facts.point inner_facts.within)

-- there is no chunk
pub returns-in_default-clause-point : goal.returns-in_default-clause-point
returns-in_default-clause-point g c =
    let vs = c.args.self.now.chunks.items in
    let first_facts = rw c.deref.ensures.value at c.partition_point-started.ensures in
    let lookup = rw (c.saturating_sub-chunk.ensures, c.deref-2.ensures.value) at c.in_default.ensures.lookup in
    let past : length vs ≤ c.partition_point-started.result - 1 = ltb-false _ _ (sym lookup.0) in
    let none : length vs ≡ 0 = omega (arith, first_facts.within) in
    let empty : 0 ≡ length (joined content vs) = sym (ap (start_of content vs) none) ∙ start-all content vs in
    ((λ k d lo hi. absurd (omega arith)), (λ k d lo hi. absurd (omega (arith, empty))))

pub returns-clause-within : goal.returns-clause-within
returns-clause-within g c =
    let vs = c.args.self.now.chunks.items in
    let inner_facts = rw c.deref-3.ensures.value at c.partition_point-at.ensures in
    let lookup = rw c.deref-2.ensures.value at c.in-Some.ensures.lookup in
    let chunk = c.in-Some.items.now in
    omega (arith, end-upto content vs c.saturating_sub-chunk.result chunk lookup.3.0, inner_facts.within, ap (λ v. length (content v)) (lookup.3.1 chunk))
