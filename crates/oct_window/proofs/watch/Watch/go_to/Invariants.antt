use Rattle.std.proofs.Common.{◌≡◌, ℕ, ◌-◌, ◌<◌, ◌≤◌, length, max, IfSome}
use Rattle.oct_window.specs.BySets.{AreRight, AreSetsOf}
use Rattle.oct_window.specs.Trails.{AreSettled}
use Rattle.oct_window.specs.Watched.{IsMarkAt, IsWatchable, IsWatched}
use Rattle.oct_window.specs.Windows.{IsSameGame}
use Rattle.oct_window.proofs.watch.Watch.go_to.Given as goal

abbrev pub invariant-loop-self : goal.invariant-loop-self
invariant-loop-self g l = record {
  watchable : IsWatchable l.self;
  of : IfSome l.sets (AreSetsOf l.self.window);
  right : IsWatched l.fn.self → IfSome l.sets (AreRight l.self.window);
  same : IsSameGame l.fn.self.window l.self.window;
  most : l.self.window.count ≤ max l.end l.fn.self.window.count;
  marks : length l.marks ≡ length l.fn.marks;
  watched : IsWatched l.fn.self → IsWatched l.self;
  behind : l.fn.self.window.count < l.self.window.count → l.self.at < l.self.window.count;
  marked : (first : ℕ) → IsMarkAt first l.fn.self.at l.fn.self.window.count → IsMarkAt first l.self.at l.self.window.count;
  still : l.self.window.count ≡ l.fn.self.window.count → l.self ≡ l.fn.self;
  passed : IsWatched l.fn.self → AreSettled l.fn.self.window.count l.self.window;
  least : l.fn.self.window.count ≤ l.self.window.count;
}

abbrev pub decreases-loop-self : goal.decreases-loop-self
decreases-loop-self g l = l.end - l.self.window.count
