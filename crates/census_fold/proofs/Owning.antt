-- What one author said, taken out of a set operation by operation.
use Rattle.std.proofs.Common.{◌≡◌, ℕ, true, false, cond, List, [], ◌∷◌, sym, ap, ◌∙◌}
use Rattle.std.specs.Prelude.{◌==◌, Bool}
use Rattle.std.specs.List.{filter}
use Rattle.oct_join.proofs.SetMerging.{JoinsAlong, joins_done, joins_next, joins_start}
use Rattle.oct_ops.specs.Body.{Operation}
use Rattle.oct_ops.specs.Operations.{Operations, empty, insert, listed}
use Rattle.oct_ops.specs.OrderLaws.{op_cmp_total, op_cmp_exact}
use Rattle.oct_ops.specs.SetLaws.{listed-keep, union-empty, union_comm}
use Rattle.census_fold.specs.Lacking.{said_by}

-- by the author
abbrev pub is_by : ℕ → Operation → Bool
is_by author o = o.dot.author == author

-- what was taken out so far, while these operations are still to come
abbrev pub OwnAlong : ℕ → Operations → Operations → List Operation → Type 0
OwnAlong author ops own rest = JoinsAlong op_cmp_total op_cmp_exact empty (said_by author ops) own (filter (is_by author) rest)

pub own_start : (author : ℕ) (ops own : Operations) (all : List Operation) → own ≡ empty → all ≡ listed ops → OwnAlong author ops own all
own_start author ops own all none is = rw none (joins_start op_cmp_total op_cmp_exact empty (said_by author ops) (filter (is_by author) all)
    (ap (filter (is_by author)) is ∙ sym (listed-keep op_cmp_total op_cmp_exact (is_by author) ops)))

pub own_next : (author : ℕ) (ops own more : Operations) (all : List Operation) (o : Operation) (rest : List Operation) → all ≡ o ∷ rest → is_by author o ≡ true → more ≡ insert own o
    → OwnAlong author ops own all → OwnAlong author ops more rest
own_next author ops own more all o rest next own_is added along =
    joins_next op_cmp_total op_cmp_exact empty (said_by author ops) own more (filter (is_by author) all) o (filter (is_by author) rest)
    (ap (filter (is_by author)) next ∙ ap (λ b. cond b (o ∷ filter (is_by author) rest) (filter (is_by author) rest)) own_is) added along

pub own_skip : (author : ℕ) (ops own : Operations) (all : List Operation) (o : Operation) (rest : List Operation) → all ≡ o ∷ rest → is_by author o ≡ false
    → OwnAlong author ops own all → OwnAlong author ops own rest
own_skip author ops own all o rest next other along =
    let left : filter (is_by author) all ≡ filter (is_by author) rest = ap (filter (is_by author)) next ∙ ap (λ b. cond b (o ∷ filter (is_by author) rest) (filter (is_by author) rest)) other in
    rw (← left) along

pub own_done : (author : ℕ) (ops own : Operations) (all : List Operation) → all ≡ [] → OwnAlong author ops own all → own ≡ said_by author ops
own_done author ops own all none along =
    joins_done op_cmp_total op_cmp_exact empty (said_by author ops) own (filter (is_by author) all) (ap (filter (is_by author)) none) along
    ∙ union_comm op_cmp_total op_cmp_exact empty (said_by author ops) ∙ union-empty op_cmp_total op_cmp_exact (said_by author ops)
