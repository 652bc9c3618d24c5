use Rattle.std.proofs.Common.{[], ◌∷◌, ◌++◌, cond, IsSome, Some, refl, ap, ◌∙◌, subst}
use Rattle.std.specs.BTreeMap as tree
use Rattle.std.specs.Ordering.{eq_by_cmp}
use Rattle.oct_code.specs.Code.{code_cmp}
use Rattle.oct_said.specs.Said.{said_at}
use Rattle.oct_said.proofs.Grown.{put_behind}
use Rattle.oct_said.proofs.said.put_long.Goals as goal

pub returns-in-Some : goal.returns-in-Some
returns-in-Some g c =
    let old = tree.get code_cmp c.args.table.now in
    let grown = c.in_ok-push.ensures.items ∙ ap (λ l. l ++ c.args.long ∷ []) (ap (said_at (λ periods. periods.items)) c.in-Some.ensures.value) in
    let put = ((c.get_mut.follows.holds c.push.new.self).3 (subst IsSome c.in-Some.ensures.value refl)).0 in
    put_behind (λ periods. periods.items) old _ c.args.long c.push.new.self grown put

pub returns-in-Ok : goal.returns-in-Ok
returns-in-Ok g c =
    let old = tree.get code_cmp c.args.table.now in
    let code = c.args.long.code in
    let mid = c.push-2.new.self in
    let none = c.new-held.ensures.items ∙ ap (said_at (λ periods. periods.items)) c.in_default.ensures.value in
    let grown = c.in_ok-push-2.ensures.items ∙ ap (λ l. l ++ c.args.long ∷ []) none in
    put_behind (λ periods. periods.items) old (tree.get code_cmp c.insert.new.self) c.args.long mid grown
    (λ p. c.in-Ok.ensures.updates.0 p ∙ ap (λ m. cond (eq_by_cmp code_cmp code p) (Some mid) (tree.get code_cmp m p)) c.get_mut.follows.holds-at-none)
