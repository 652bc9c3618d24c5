use Rattle.std.proofs.Common.{IsSome, Some, ap, refl, ◌∙◌, subst, sym}
use Rattle.std.proofs.lemmas.Result.{on_err_weaker, on_ok_weaker}
use Rattle.std.specs.BTreeMap as tree
use Rattle.oct_code.specs.Code.{code_cmp}
use Rattle.oct_replica.proofs.Beside.{put_back, own_code_at, put_in}
use Rattle.oct_replica.specs.Beside.{HasOwnCode, after, game_at, with_body}
use Rattle.oct_replica.proofs.games.file_in_game.Goals as goal

pub share-requires : goal.share-requires
share-requires g c = c.requires.game ∙ ap Some (sym (own_code_at (tree.get code_cmp c.args.games.now) c.args.code c.in-Some.game.now c.requires.own c.in-Some.ensures.value))

pub returns-in-Some-clause-ok : goal.returns-in-Some-clause-ok
returns-in-Some-clause-ok g c =
    on_ok_weaker c.share.result (λ is q.
    ((c.get_mut.follows.holds c.share.new.self).3 (subst IsSome c.in-Some.ensures.value refl)).0 q
    ∙ put_in (tree.get code_cmp c.args.games.now) c.args.code c.args.code c.in-Some.game.now c.share.new.self (λ game. with_body game c.args.op.now.value.dot c.args.op.now.value.body) c.in-Some.ensures.value refl is q) c.share.ensures.ok

pub returns-in-Some-clause-err : goal.returns-in-Some-clause-err
returns-in-Some-clause-err g c =
    on_err_weaker c.share.result (λ same q.
    ((c.get_mut.follows.holds c.share.new.self).3 (subst IsSome c.in-Some.ensures.value refl)).0 q
    ∙ put_back (tree.get code_cmp c.args.games.now) c.args.code c.in-Some.game.now c.share.new.self c.in-Some.ensures.value same q) c.share.ensures.err

pub file_in_new_game-requires-clause-own : goal.file_in_new_game-requires-clause-own
file_in_new_game-requires-clause-own g c = subst (λ m. HasOwnCode (tree.get code_cmp m)) (sym c.get_mut.follows.holds-at-none) c.requires.own

pub file_in_new_game-requires-clause-absent : goal.file_in_new_game-requires-clause-absent
file_in_new_game-requires-clause-absent g c =
    ap (λ m. tree.get code_cmp m c.args.code) c.get_mut.follows.holds-at-none ∙ sym c.in_default.ensures.value

pub returns-clause-ok : goal.returns-clause-ok
returns-clause-ok g c =
    on_ok_weaker c.file_in_new_game.result (λ is q.
    is q ∙ ap (λ m. after (tree.get code_cmp m) c.args.code (with_body (game_at (tree.get code_cmp m) c.args.code) c.args.op.now.value.dot c.args.op.now.value.body) q) c.get_mut.follows.holds-at-none) c.file_in_new_game.ensures.ok
