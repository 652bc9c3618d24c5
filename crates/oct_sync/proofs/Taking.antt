-- What a side takes in of what comes.
use Rattle.std.proofs.Common.{◌≡◌, ◌||◌, List, [], ◌++◌, refl, sym, ap, ◌∙◌}
use Rattle.std.proofs.lemmas.List.Folds.{list_any-append}
use Rattle.std.specs.Ordering.{eq_by_cmp}
use Rattle.oct_ops.specs.Body.{Operation}
use Rattle.oct_ops.specs.Operations.{Operations, set_of, union}
use Rattle.oct_ops.specs.Order.{op_cmp}
use Rattle.oct_ops.specs.OrderLaws.{op_cmp_exact, op_cmp_total}
use Rattle.oct_ops.specs.SetLaws as laws
use Rattle.oct_sync.specs.Session.{taken_in}
use Rattle.oct_sync.specs.declared.role.Role.{Role}
use Rattle.oct_sync.specs.declared.role.Role.TheVariants.{Client, ClientOfAll, Giver, Server}

pub taken_none : (role : Role) (held : Operations) → taken_in role held (set_of []) ≡ held
taken_none Client held = laws.union-empty op_cmp_total op_cmp_exact held
taken_none ClientOfAll held = laws.union-empty op_cmp_total op_cmp_exact held
taken_none Giver held = refl
taken_none Server held = laws.union-empty op_cmp_total op_cmp_exact held

union_parts : (held : Operations) (xs ys : List Operation) → union (union held (set_of xs)) (set_of ys) ≡ union held (set_of (xs ++ ys))
union_parts held xs ys = laws.union_assoc op_cmp_total op_cmp_exact held (set_of xs) (set_of ys) ∙ ap (union held) (laws.same_set op_cmp_total op_cmp_exact _ _ (λ o.
    laws.contains-union op_cmp_total op_cmp_exact (set_of xs) (set_of ys) o
    ∙ (λ i. laws.contains-set_of op_cmp_total op_cmp_exact xs o i || laws.contains-set_of op_cmp_total op_cmp_exact ys o i)
    ∙ sym (laws.contains-set_of op_cmp_total op_cmp_exact (xs ++ ys) o ∙ list_any-append (eq_by_cmp op_cmp o) xs ys)))

-- one delta after another
pub taken_parts : (role : Role) (held : Operations) (xs ys : List Operation) → taken_in role (taken_in role held (set_of xs)) (set_of ys) ≡ taken_in role held (set_of (xs ++ ys))
taken_parts Client held xs ys = union_parts held xs ys
taken_parts ClientOfAll held xs ys = union_parts held xs ys
taken_parts Giver held xs ys = refl
taken_parts Server held xs ys = union_parts held xs ys
