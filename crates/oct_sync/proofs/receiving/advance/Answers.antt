use Rattle.std.proofs.Common.{◌≡◌, ℕ, Bool, false, eqb, refl, sym, ◌∙◌, arith}
use Rattle.std.proofs.lemmas.Bool.{eq-eqb, eqb-true}
use Rattle.std.proofs.lemmas.List.{nil_from_length}
use Rattle.oct_sync.specs.Session.{fed, wanted}
use Rattle.oct_sync.specs.SessionState.{standing_of}
use Rattle.oct_sync.proofs.Advancing.{begin, moved, failed_there, arrived, beyond_end}
use Rattle.oct_sync.proofs.Stepping.{done_from, done_kept, wanted_at}
use Rattle.oct_sync.proofs.receiving.advance.Goals as goal

nonempty : (n : ℕ) (b : Bool) → b ≡ eqb n 0 → b ≡ false → n ≡ 0 → ⊥
nonempty n b is not none = let e = eq-eqb n 0 none in cc

pub loop-rest-init : goal.loop-rest-init
loop-rest-init g c = record {
  valid = c.requires;
  author = refl;
  moved = λ p at. begin c.args.role c.args.state (g.P.Peer.held c.args.peer.now) c.args.out.now.items p c.args.piece.now c.requires at;
}

pub returns-then-most-eq0-clause-err : goal.returns-then-most-eq0-clause-err
returns-then-most-eq0-clause-err g c p at =
    let done = done_from c.loop-rest.state c.loop-rest.invariant.valid (sym c.wanted-most.ensures.value ∙ c.if-most-eq0.true) in
    beyond_end c.args.role p c.args.piece.now c.loop-rest.rest.now (standing_of c.args.role c.loop-rest.state) (g.P.Peer.held c.loop-rest.peer) c.loop-rest.out.items (c.loop-rest.invariant.moved p at)
    done (done_kept c.loop-rest.state c.loop-rest.invariant.valid done) (nonempty _ c.is_empty.result c.is_empty.ensures c.loop-rest-test.true)

pub returns-in-Err-clause-err : goal.returns-in-Err-clause-err
returns-in-Err-clause-err g c p at =
    let m = c.loop-rest.invariant.moved p at in
    let wants : c.wanted-most.result ≡ wanted (fed c.args.role p m.front) = c.wanted-most.ensures.value ∙ wanted_at c.args.role c.args.role c.loop-rest.state _ _ _ c.loop-rest.invariant.valid m.at in
    let size = c.split_at.ensures.front_len in
    failed_there c.args.role p c.args.piece.now c.loop-rest.rest.now c.split_at.result.0.now c.split_at.result.1.now (standing_of c.args.role c.loop-rest.state) (g.P.Peer.held c.loop-rest.peer) c.loop-rest.out.items m c.split_at.ensures.by_index.0
    (omega (arith, size, c.min.ensures, c.if-most-eq0.false, nonempty _ c.is_empty.result c.is_empty.ensures c.loop-rest-test.true)) (omega (arith, size, c.min.ensures, wants))
    c.in-Err.fault (g.P.Peer.held c.step.new.peer) c.step.new.out.items (c.in-Err.ensures.steps _ m.at)

pub loop-rest-preserved : goal.loop-rest-preserved
loop-rest-preserved g c = record {
  valid = c.in-Ok.ensures.valid;
  author = c.in-Ok.ensures.author ∙ c.loop-rest.invariant.author;
  moved = λ p at.
      let m = c.loop-rest.invariant.moved p at in
      moved c.args.role p c.args.piece.now c.loop-rest.rest.now c.split_at.result.0.now c.split_at.result.1.now (standing_of c.args.role c.loop-rest.state) (g.P.Peer.held c.loop-rest.peer) c.loop-rest.out.items m c.split_at.ensures.by_index.0
      (standing_of c.args.role c.in-Ok.next) (g.P.Peer.held c.step.new.peer) c.step.new.out.items (c.in-Ok.ensures.steps _ m.at);
}

pub returns-clause-ok : goal.returns-clause-ok
returns-clause-ok g c p at =
    arrived c.args.role p c.args.piece.now c.loop-rest.rest.now (standing_of c.args.role c.loop-rest.state) (g.P.Peer.held c.loop-rest.peer) c.loop-rest.out.items (c.loop-rest.invariant.moved p at)
    (nil_from_length c.loop-rest.rest.now (eqb-true _ 0 (sym c.is_empty.ensures ∙ c.loop-rest-test.false)))
