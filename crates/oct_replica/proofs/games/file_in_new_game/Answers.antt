use Rattle.std.proofs.Common.{refl}
use Rattle.std.specs.BTreeMap as tree
use Rattle.oct_code.specs.Code.{code_cmp}
use Rattle.oct_replica.proofs.Beside.{is_made, own_made, put_away, put_made}
use Rattle.oct_replica.specs.Beside.{with_body}
use Rattle.oct_replica.proofs.games.file_in_new_game.Goals as goal

pub file_there-requires-clause-own : goal.file_there-requires-clause-own
file_there-requires-clause-own g c =
    own_made (tree.get code_cmp c.args.games.now) (tree.get code_cmp c.insert.new.self) c.args.code c.new-game.result c.new-game.ensures c.requires.own c.in-Ok.ensures.updates.0

pub file_there-requires-clause-there : goal.file_there-requires-clause-there
file_there-requires-clause-there g c =
    is_made (tree.get code_cmp c.args.games.now) (tree.get code_cmp c.insert.new.self) c.args.code c.args.code c.new-game.result refl c.new-game.ensures c.in-Ok.ensures.updates.0

pub returns-in-Err-clause-err : goal.returns-in-Err-clause-err
returns-in-Err-clause-err g c =
    put_away (tree.get code_cmp c.args.games.now) (tree.get code_cmp c.insert.new.self) (tree.get code_cmp c.file_there.new.games) (tree.get code_cmp c.remove.new.self) c.args.code c.args.code c.new-game.result
    refl c.requires.absent c.in-Ok.ensures.updates.0 c.in-Err.ensures.err c.remove.ensures.updates.0

pub returns-clause-ok : goal.returns-clause-ok
returns-clause-ok g c =
    put_made (tree.get code_cmp c.args.games.now) (tree.get code_cmp c.insert.new.self) (tree.get code_cmp c.file_there.new.games) c.args.code c.args.code c.new-game.result (λ game. with_body game c.args.op.now.value.dot c.args.op.now.value.body)
    refl c.new-game.ensures c.requires.absent c.in-Ok.ensures.updates.0 c.in_default-file_there.ensures.ok
