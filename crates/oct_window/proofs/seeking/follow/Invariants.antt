use Rattle.std.proofs.Common.{◌≡◌, ◌≤◌, length}
use Rattle.oct_window.specs.Places.{farthest, IsPlaced, IsRightPlace, IsRightTrailAt, IsTrailAt, IsWithin, left}
use Rattle.oct_window.proofs.seeking.follow.Given as goal

abbrev pub invariant-loop-trail : goal.invariant-loop-trail
invariant-loop-trail g l = record {
  code : l.place.code ≡ l.fn.place.code;
  listed : l.place.listed ≡ l.fn.place.listed;
  placed : IsPlaced l.place;
  within : IsWithin l.count l.place;
  on : farthest l.fn.place.stage ≤ farthest l.place.stage;
  marks : length l.marks ≡ length l.fn.marks;
  trail : IsTrailAt l.place l.trail;
  right : IsRightPlace l.fn.place → IsRightPlace l.place;
  right_trail : IsRightPlace l.fn.place → IsRightTrailAt l.place l.trail;
  heeded : g.K.Keeper.has_refused l.keeper ≡ g.K.Keeper.has_refused l.fn.keeper;
}

abbrev pub decreases-loop-trail : goal.decreases-loop-trail
decreases-loop-trail g l = left l.count l.place.stage
