use Rattle.std.proofs.Common.{◌≢◌, IsSome, Some, sym, ap, cond, refl, ◌∙◌, subst}
use Rattle.std.specs.Ordering.{eq_by_cmp}
use Rattle.std.proofs.lemmas.Result.{err_from_is_err_and}
use Rattle.std.specs.BTreeMap as tree
use Rattle.oct_code.specs.Code.{code_cmp}
use Rattle.oct_ops.specs.Operations.{Operations, empty, insert}
use Rattle.oct_record.proofs.Beside.{changed_at, found_at, insert_filled, none_at, put_filled, same_at, still_filled}
use Rattle.oct_record.proofs.index.file_in_game.Goals as goal

pub returns-in_err-share-clause-err : goal.returns-in_err-share-clause-err
returns-in_err-share-clause-err g c =
    let old = tree.get code_cmp c.args.games.now in
    let same = c.in_err-share.ensures.err ∙ found_at old c.args.code c.in-Some.held.now c.in-Some.ensures.value in
    let put = ((c.get_mut.follows.holds c.share.new.self).3 (subst IsSome c.in-Some.ensures.value refl)).0 in
    rw (err_from_is_err_and c.from_residual.result c.from_residual.ensures.1).1 (λ q. same_at old _ c.args.code c.share.new.self same put q)

pub returns-in-Some-clause-ok : goal.returns-in-Some-clause-ok
returns-in-Some-clause-ok g c =
    let op = c.args.op.now.value in
    let old = tree.get code_cmp c.args.games.now in
    let grown = c.in_ok-share.ensures.ok ∙ ap (λ (s : Operations). insert s op) (found_at old c.args.code c.in-Some.held.now c.in-Some.ensures.value) in
    let put = ((c.get_mut.follows.holds c.share.new.self).3 (subst IsSome c.in-Some.ensures.value refl)).0 in
    λ q. changed_at old _ c.args.code c.share.new.self (λ s. insert s op) op c.requires grown put q

pub returns-in-Ok-clause-ok : goal.returns-in-Ok-clause-ok
returns-in-Ok-clause-ok g c =
    let op = c.args.op.now.value in
    let old = tree.get code_cmp c.args.games.now in
    let code = c.args.code in
    let mid = c.share-2.new.self in
    let grown = c.in_ok-share-2.ensures.ok ∙ ap (λ (s : Operations). insert s op) (c.new-held.ensures ∙ none_at old code c.in_default.ensures.value) in
    λ q. changed_at old (tree.get code_cmp c.insert.new.self) code mid (λ s. insert s op) op c.requires grown
    (λ p. c.in-Ok.ensures.updates.0 p ∙ ap (λ m. cond (eq_by_cmp code_cmp code p) (Some mid) (tree.get code_cmp m p)) c.get_mut.follows.holds-at-none) q

pub returns-in_err-share-clause-filled : goal.returns-in_err-share-clause-filled
returns-in_err-share-clause-filled g c =
    let put = ((c.get_mut.follows.holds c.share.new.self).3 (subst IsSome c.in-Some.ensures.value refl)).0 in
    λ filled. still_filled (tree.get code_cmp c.args.games.now) _ c.args.code c.in-Some.held.now c.share.new.self c.in-Some.ensures.value c.in_err-share.ensures.err put filled

pub returns-in-Some-clause-filled : goal.returns-in-Some-clause-filled
returns-in-Some-clause-filled g c =
    let put = ((c.get_mut.follows.holds c.share.new.self).3 (subst IsSome c.in-Some.ensures.value refl)).0 in
    let some = subst (λ (s : Operations). s ≢ empty) (sym c.in_ok-share.ensures.ok) (insert_filled c.in-Some.held.now c.args.op.now.value) in
    λ filled. put_filled (tree.get code_cmp c.args.games.now) _ c.args.code c.share.new.self some put filled

pub returns-in-Ok-clause-filled : goal.returns-in-Ok-clause-filled
returns-in-Ok-clause-filled g c =
    let mid = c.share-2.new.self in
    let some = subst (λ (s : Operations). s ≢ empty) (sym c.in_ok-share-2.ensures.ok) (insert_filled c.new-held.result c.args.op.now.value) in
    λ filled. put_filled (tree.get code_cmp c.args.games.now) (tree.get code_cmp c.insert.new.self) c.args.code mid some
    (λ p. c.in-Ok.ensures.updates.0 p ∙ ap (λ m. cond (eq_by_cmp code_cmp c.args.code p) (Some mid) (tree.get code_cmp m p)) c.get_mut.follows.holds-at-none) filled
