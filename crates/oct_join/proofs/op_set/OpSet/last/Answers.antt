use Rattle.std.proofs.Common.{◌≡◌, ◌<◌, ◌≤◌, length, sym, ap, subst, ◌∙◌, arith, inr}
use Rattle.std.specs.List.{All, Any}
use Rattle.chunked.specs.Chunked.{chunked, index_of}
use Rattle.oct_join.specs.Shared.{content, contents}
use Rattle.oct_join.proofs.Lasts.{listed_is, parted_by_author, none_before, own_last, other_last, has_last}
use Rattle.oct_join.proofs.op_set.OpSet.last.Goals as goal

pub partition_point-place-requires-clause-parted : goal.partition_point-place-requires-clause-parted
partition_point-place-requires-clause-parted g c = parted_by_author content c.args.author (chunked c.self.inside.ops) c.self.invariant.1

pub returns-in_default-clause-above : goal.returns-in_default-clause-above
returns-in_default-clause-above g c =
    let ops = c.self.inside.ops in
    let all = listed_is content c.args.author (chunked ops) c.self.invariant.1 c.args.self.now c.self.view_is in
    subst (All (λ o. o.dot.author ≡ c.args.author → o.dot.number ≤ 0)) all
    (none_before content c.args.author (chunked ops) c.self.invariant.1 (index_of ops c.partition_point-place.result) c.partition_point-place.ensures.point 0 c.in_default.ensures)

pub returns-then-author-clause-above : goal.returns-then-author-clause-above
returns-then-author-clause-above g c =
    let ops = c.self.inside.ops in
    let all = listed_is content c.args.author (chunked ops) c.self.invariant.1 c.args.self.now c.self.view_is in
    let last = c.item_at.result.now in
    let number : (content last).dot.number ≡ c.number.result = sym (c.number.ensures.value ∙ ap (λ d. d.number) c.dot-dot.ensures) in
    let in_list : index_of ops c.in-Some.last < length (chunked ops) = omega (arith, c.in-Some.ensures.1, c.partition_point-place.ensures.within) in
    subst (λ l. All (λ o. o.dot.author ≡ c.args.author → o.dot.number ≤ c.number.result) l) all
    (subst (λ n. All (λ o. o.dot.author ≡ c.args.author → o.dot.number ≤ n) (contents (chunked ops))) number
    (own_last content c.args.author (chunked ops) c.self.invariant.1 (index_of ops c.partition_point-place.result) c.partition_point-place.ensures.point last (index_of ops c.in-Some.last) c.in-Some.ensures.1 in_list c.item_at.ensures))

pub returns-then-author-clause-is : goal.returns-then-author-clause-is
returns-then-author-clause-is g c =
    let ops = c.self.inside.ops in
    let all = listed_is content c.args.author (chunked ops) c.self.invariant.1 c.args.self.now c.self.view_is in
    let last = c.item_at.result.now in
    let dot : c.dot-dot.result ≡ (content last).dot = c.dot-dot.ensures in
    let number : (content last).dot.number ≡ c.number.result = sym (c.number.ensures.value ∙ ap (λ d. d.number) dot) in
    let own : (content last).dot.author ≡ c.args.author = sym (c.author.ensures.value ∙ ap (λ d. d.author) dot) ∙ c.if-author.true in
    let in_list : index_of ops c.in-Some.last < length (chunked ops) = omega (arith, c.in-Some.ensures.1, c.partition_point-place.ensures.within) in
    inr (subst (λ l. Any (λ o. (o.dot.author ≡ c.args.author) × (o.dot.number ≡ c.number.result)) l) all
    (subst (λ n. Any (λ o. (o.dot.author ≡ c.args.author) × (o.dot.number ≡ n)) (contents (chunked ops))) number
    (has_last content c.args.author (chunked ops) c.self.invariant.1 (index_of ops c.partition_point-place.result) c.partition_point-place.ensures.point last (index_of ops c.in-Some.last) c.in-Some.ensures.1 in_list c.item_at.ensures own)))

pub returns-else-author-clause-above : goal.returns-else-author-clause-above
returns-else-author-clause-above g c =
    let ops = c.self.inside.ops in
    let all = listed_is content c.args.author (chunked ops) c.self.invariant.1 c.args.self.now c.self.view_is in
    let last = c.item_at.result.now in
    let dot : c.dot-dot.result ≡ (content last).dot = c.dot-dot.ensures in
    let in_list : index_of ops c.in-Some.last < length (chunked ops) = omega (arith, c.in-Some.ensures.1, c.partition_point-place.ensures.within) in
    subst (All (λ o. o.dot.author ≡ c.args.author → o.dot.number ≤ 0)) all
    (other_last content c.args.author (chunked ops) c.self.invariant.1 (index_of ops c.partition_point-place.result) c.partition_point-place.ensures.point last (index_of ops c.in-Some.last) c.in-Some.ensures.1 in_list c.item_at.ensures
    (λ own. c.if-author.false (c.author.ensures.value ∙ ap (λ d. d.author) dot ∙ own)) 0)
