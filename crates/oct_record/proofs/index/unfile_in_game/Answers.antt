use Rattle.std.proofs.Common.{IsSome, sym, ap, refl, ◌∙◌, subst}
use Rattle.std.specs.BTreeMap as tree
use Rattle.std.proofs.lemmas.Bool.{false≢true}
use Rattle.oct_code.specs.Code.{code_cmp}
use Rattle.oct_ops.specs.Operations.{Operations, remove}
use Rattle.oct_record.specs.Index.{AreFilled, held_at}
use Rattle.oct_record.proofs.Beside.{changed_at, drop_filled, drop_same, found_at, none_listed, put_filled, some_listed, unfiled_nothing}
use Rattle.oct_record.proofs.index.unfile_in_game.Goals as goal

pub returns-then-is_empty-clause-games : goal.returns-then-is_empty-clause-games
returns-then-is_empty-clause-games g c =
    let op = c.args.op.now in
    let old = tree.get code_cmp c.args.games.now in
    let mid = c.remove.new.self in
    let less = c.remove.ensures.gone ∙ ap (λ (s : Operations). remove s op) (found_at old c.args.code c.in-Some.held.now c.in-Some.ensures.value) in
    let put = ((c.get_mut.follows.holds mid).3 (subst IsSome c.in-Some.ensures.value refl)).0 in
    let none = none_listed mid (c.is_empty.ensures.0 c.if-is_empty.true) in
    λ q. drop_same old _ (tree.get code_cmp c.remove-then-is_empty.new.self) c.args.code mid put c.remove-then-is_empty.ensures.updates.0 none q
    ∙ changed_at old _ c.args.code mid (λ s. remove s op) op c.requires less put q

pub returns-then-is_empty-clause-filled : goal.returns-then-is_empty-clause-filled
returns-then-is_empty-clause-filled g c =
    let mid = c.remove.new.self in
    let put = ((c.get_mut.follows.holds mid).3 (subst IsSome c.in-Some.ensures.value refl)).0 in
    λ filled. drop_filled (tree.get code_cmp c.args.games.now) _ (tree.get code_cmp c.remove-then-is_empty.new.self) c.args.code mid put c.remove-then-is_empty.ensures.updates.0 filled

pub returns-else-is_empty-clause-games : goal.returns-else-is_empty-clause-games
returns-else-is_empty-clause-games g c =
    let op = c.args.op.now in
    let old = tree.get code_cmp c.args.games.now in
    let mid = c.remove.new.self in
    let less = c.remove.ensures.gone ∙ ap (λ (s : Operations). remove s op) (found_at old c.args.code c.in-Some.held.now c.in-Some.ensures.value) in
    let put = ((c.get_mut.follows.holds mid).3 (subst IsSome c.in-Some.ensures.value refl)).0 in
    λ q. changed_at old _ c.args.code mid (λ s. remove s op) op c.requires less put q

pub returns-else-is_empty-clause-filled : goal.returns-else-is_empty-clause-filled
returns-else-is_empty-clause-filled g c =
    let mid = c.remove.new.self in
    let put = ((c.get_mut.follows.holds mid).3 (subst IsSome c.in-Some.ensures.value refl)).0 in
    let some = some_listed mid (λ none. false≢true (sym c.if-is_empty.false ∙ c.is_empty.ensures.1 none)) in
    λ filled. put_filled (tree.get code_cmp c.args.games.now) _ c.args.code mid some put filled

pub returns-in_default-clause-games : goal.returns-in_default-clause-games
returns-in_default-clause-games g c =
    λ q. ap (λ m. held_at (tree.get code_cmp m) q) c.get_mut.follows.holds-at-none
    ∙ unfiled_nothing (tree.get code_cmp c.args.games.now) c.args.code c.args.op.now c.requires c.in_default.ensures.value q

pub returns-in_default-clause-filled : goal.returns-in_default-clause-filled
returns-in_default-clause-filled g c = λ filled. subst (λ m. AreFilled (tree.get code_cmp m)) (sym c.get_mut.follows.holds-at-none) filled
