use Rattle.std.proofs.Common.{◌≡◌, ◌<◌, length}
use Rattle.oct_sync.specs.Standing.{StandsSound, progress_of}
use Rattle.oct_sync.specs.declared.progress.Progress.TheVariants.{More}
use Rattle.oct_sync.proofs.Running.{IsRunning}
use Rattle.oct_sync.proofs.driver.take_turns.Given as goal

abbrev pub invariant-loop : goal.invariant-loop
invariant-loop g l = record {
  running : IsRunning l.fn.role (g.R.Read.remaining l.fn.reader) (g.R.Read.remaining l.reader) (g.W.Write.contents l.fn.writer) (g.W.Write.contents l.writer)
      (g.P.Peer.held l.fn.peer) l.session (g.P.Peer.held l.peer) l.owed.items;
  author : g.P.Peer.author l.peer ≡ g.P.Peer.author l.fn.peer;
  sound : StandsSound l.session;
  more : progress_of l.session ≡ More;
  room : 0 < length l.buffer;
}
