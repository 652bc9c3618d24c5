use Rattle.std.proofs.Common.{◌-◌, ◌≡◌, ◌≤◌, IfSome, length, vec_len}
use Rattle.oct_window.specs.Comparisons.{IsCompared}
use Rattle.oct_window.specs.Repeats.{IsRepeat}
use Rattle.oct_window.specs.Trails.{IsBetween, IsRightTrail}
use Rattle.oct_window.specs.Watched.{seen_of}
use Rattle.oct_window.proofs.trail.Trail.narrow.Given as goal

abbrev pub invariant-loop-low : goal.invariant-loop-low
invariant-loop-low g l = record {
  within : l.high ≤ vec_len l.self.windows;
  some : 1 ≤ l.narrowed.start;
  below : l.narrowed.start ≤ (seen_of l.watch).start;
  between : IfSome l.narrowed.comparison (IsBetween (vec_len l.row.values) (seen_of l.watch));
  holds : IsRepeat l.watch.window.code (seen_of l.watch) → IsRightTrail l.watch.window l.self → IsRepeat l.watch.window.code (record { start = l.narrowed.start; period = (seen_of l.watch).period });
  compared : IsRepeat l.watch.window.code (seen_of l.watch) → IsRightTrail l.watch.window l.self → IfSome l.narrowed.comparison (IsCompared l.watch.window.code);
  marks : length l.marks ≡ length l.fn.marks;
}

abbrev pub decreases-loop-low : goal.decreases-loop-low
decreases-loop-low g l = l.high - l.low
