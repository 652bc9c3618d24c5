use Rattle.std.proofs.Common.{arith, ◌≤◌, ◌+◌, ◌-◌, refl, ap, ◌∙◌}
use Rattle.oct_verify.specs.Filing.{GameBlocks, blocks_in}
use Rattle.oct_verify.specs.Known.{known}
use Rattle.std.proofs.lemmas.Result.{err_from_is_err_and}
use Rattle.census_issue.specs.Extending.{known_in}
use Rattle.census_issue.proofs.Issuance.{all_issued, enough, refused, went_on}
use Rattle.census_issue.proofs.OpenGame.{known_of, room_for}
use Rattle.census_issue.proofs.extending.extend_game.Goals as goal

pub loop-issued-init : goal.loop-issued-init
loop-issued-init g c = record { along = refl; game = c.requires.game }

pub returns-then-count-known-clause-ok : goal.returns-then-count-known-clause-ok
returns-then-count-known-clause-ok g c =
    let is = known_of c.loop-issued.said.ops c.args.code c.loop-issued.game c.known-known.result (c.known-known.ensures.value ∙ ap (λ (h : GameBlocks). known (blocks_in h.blocks)) c.ledger.ensures) c.loop-issued.invariant.game in
    let upto : c.args.count ≤ known_in c.loop-issued.said.ops c.args.code = omega (arith, is, c.if-count-known.true) in
    c.loop-issued.invariant.along ∙ enough (64 - c.loop-issued.issued) c.args.code c.args.count c.loop-issued.said c.loop-issued.issued upto

pub returns-then-count-known-clause-game : goal.returns-then-count-known-clause-game
returns-then-count-known-clause-game g c = c.loop-issued.invariant.game

pub issue_values-requires-clause-room : goal.issue_values-requires-clause-room
issue_values-requires-clause-room g c =
    let is = known_of c.loop-issued.said.ops c.args.code c.loop-issued.game c.known-known.result (c.known-known.ensures.value ∙ ap (λ (h : GameBlocks). known (blocks_in h.blocks)) c.ledger.ensures) c.loop-issued.invariant.game in
    room_for _ c.known-known.result c.args.count _ is c.min.ensures c.if-count-known.false c.requires.count

pub issue_values-requires-clause-game : goal.issue_values-requires-clause-game
issue_values-requires-clause-game g c = c.loop-issued.invariant.game

pub returns-in_err-issue_values-clause-err : goal.returns-in_err-issue_values-clause-err
returns-in_err-issue_values-clause-err g c =
    let is = known_of c.loop-issued.said.ops c.args.code c.loop-issued.game c.known-known.result (c.known-known.ensures.value ∙ ap (λ (h : GameBlocks). known (blocks_in h.blocks)) c.ledger.ensures) c.loop-issued.invariant.game in
    let p = err_from_is_err_and c.from_residual.result c.from_residual.ensures.1 in
    rw (p.1, p.2) (λ other.
    c.loop-issued.invariant.along
    ∙ refused (64 - c.loop-issued.issued) (64 - (c.loop-issued.issued + 1)) c.args.code c.args.count c.loop-issued.said c.loop-issued.issued c.known-known.result c.min.result (omega arith) is (omega arith) c.min.ensures _ (c.in_err-issue_values.ensures.err other))

pub loop-issued-preserved : goal.loop-issued-preserved
loop-issued-preserved g c =
    let is = known_of c.loop-issued.said.ops c.args.code c.loop-issued.game c.known-known.result (c.known-known.ensures.value ∙ ap (λ (h : GameBlocks). known (blocks_in h.blocks)) c.ledger.ensures) c.loop-issued.invariant.game in
    record {
      along =
          c.loop-issued.invariant.along
          ∙ went_on (64 - c.loop-issued.issued) (64 - (c.loop-issued.issued + 1)) c.args.code c.args.count c.loop-issued.said c.loop-issued.issued c.known-known.result c.min.result (omega arith) is (omega arith) c.min.ensures c.issue_values.new.said c.in_ok-issue_values.ensures.ok;
      game = c.in_ok-issue_values.ensures.game;
    }

pub returns-clause-ok : goal.returns-clause-ok
returns-clause-ok g c = c.loop-issued.invariant.along ∙ all_issued (64 - c.loop-issued.issued) c.args.code c.args.count c.loop-issued.said c.loop-issued.issued 64 (omega arith) (omega arith)

pub returns-clause-game : goal.returns-clause-game
returns-clause-game g c = c.loop-issued.invariant.game
