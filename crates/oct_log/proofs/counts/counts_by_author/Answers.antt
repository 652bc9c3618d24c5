use Rattle.std.proofs.Common.{◌≡◌, ℕ, ◌+◌, ◌==◌, List, ◌∷◌, cond, sym, ap, ◌∙◌, eq-eqb, arith}
use Rattle.std.proofs.lemmas.List.Sums.{sum_by-cons, count_by-le-length}
use Rattle.oct_ops.specs.Body.{Operation}
use Rattle.oct_ops.specs.Operations.{listed}
use Rattle.oct_log.specs.Status.{counted, said_by}
use Rattle.oct_log.proofs.counts.counts_by_author.Goals as goal

-- the first of these operations counts, and then the others do
said_by-cons : (o : Operation) (ops : List Operation) (author : ℕ) → said_by (o ∷ ops) author ≡ counted author o.dot.author + said_by ops author
said_by-cons o ops author = sum_by-cons (λ (op : Operation). cond (op.dot.author == author) 1 0) o ops

-- by the author who is asked for
counted-same : (author by : ℕ) → author ≡ by → counted author by ≡ 1
counted-same author by same = ap (λ b. cond b 1 0) (eq-eqb by author (sym same))

pub count-requires : goal.count-requires
count-requires g c =
    let by = c.author.result in
    let here = c.author.ensures.value ∙ ap (λ d. d.author) c.dot.ensures.value in
    let next = ap (λ ops. said_by ops by) c.in-Some.ensures.steps ∙ said_by-cons c.in-Some.op.now c.next.new.self by in
    let one = counted-same by c.in-Some.op.now.dot.author here in
    let most = count_by-le-length (λ (o : Operation). o.dot.author == by) (listed c.args.said.now) in
    let total = c.loop-op.invariant by in
    omega (arith, next, one, most, total, c.if-prove.false, c.len.ensures)

pub loop-op-preserved : goal.loop-op-preserved
loop-op-preserved g c = λ author.
    let here = ap (λ by. counted author by) (c.author.ensures.value ∙ ap (λ d. d.author) c.dot.ensures.value) in
    let next = ap (λ ops. said_by ops author) c.in-Some.ensures.steps ∙ said_by-cons c.in-Some.op.now c.next.new.self author in
    let grown = c.in_ok-count.ensures author in
    let total = c.loop-op.invariant author in
    omega (arith, here, next, grown, total)
