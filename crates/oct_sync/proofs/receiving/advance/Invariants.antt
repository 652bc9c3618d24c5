use Rattle.std.proofs.Common.{◌≡◌, length}
use Rattle.oct_sync.specs.Session.{Point}
use Rattle.oct_sync.specs.SessionState.{IsSessionState, standing_of}
use Rattle.oct_sync.specs.Standing.{IsAt}
use Rattle.oct_sync.proofs.Advancing.{Moved}
use Rattle.oct_sync.proofs.receiving.advance.Given as goal

abbrev pub invariant-loop-rest : goal.invariant-loop-rest
invariant-loop-rest g l = record {
  valid : IsSessionState l.state;
  author : g.P.Peer.author l.peer ≡ g.P.Peer.author l.fn.peer;
  moved : (p : Point) → IsAt l.fn.role (standing_of l.fn.role l.fn.state) (g.P.Peer.held l.fn.peer) l.fn.out.items p → Moved l.fn.role p l.fn.piece l.rest (standing_of l.fn.role l.state) (g.P.Peer.held l.peer) l.out.items;
}

abbrev pub decreases-loop-rest : goal.decreases-loop-rest
decreases-loop-rest g l = length l.rest
