-- How far a search in windows is.
use Rattle.std.specs.Prelude.{◌≡◌, ◌⊎◌, ℕ, ◌+◌, ◌-◌, ◌*◌, ◌<◌, ◌≤◌}
use Rattle.oct_code.specs.Code.{Code}
use Rattle.oct_window.specs.Comparisons.{IsCompared, IsPaired}
use Rattle.oct_window.specs.Repeats.{IsRepeat}
use Rattle.oct_window.specs.Seeking.{IsSought, IsTold}
use Rattle.oct_window.specs.Trails.{IsRightTrail, IsTrailOf}
use Rattle.oct_window.specs.Watched.{IsMarkAt, IsWatchable, IsWatched}
use Rattle.oct_window.specs.Windows.{reach_behind}
use Rattle.oct_window.specs.declared.comparison.Comparison.{Comparison}
use Rattle.oct_window.specs.declared.place.Place.{Place}
use Rattle.oct_window.specs.declared.place.Seen.{Seen}
use Rattle.oct_window.specs.declared.place.Stage.{Stage}
use Rattle.oct_window.specs.declared.place.Stage.TheVariants.{Comparing, Watching}
use Rattle.oct_window.specs.declared.place.Stepped.{Stepped}
use Rattle.oct_window.specs.declared.place.Stepped.TheVariants.{On, Over, Lost}
use Rattle.oct_window.specs.declared.seeking.TheConstants.{MOST_LISTED}
use Rattle.oct_window.specs.declared.sought.Sought.{Sought}
use Rattle.oct_window.specs.declared.sought.Sought.TheVariants.{Least, Unshown, Unseen}
use Rattle.oct_window.specs.declared.trail.Trail.{Trail}
use Rattle.oct_window.specs.declared.watch.Watch.{Watch}
use Rattle.oct_window.specs.declared.window.TheConstants.{FARTHEST}

-- ---- what fits together

-- a watch behind so many first values
pub record IsWatching {A : Type 0} (listed : ℕ) (w : Watch A) : Type 0 where
  pub watchable : IsWatchable w
  pub behind : listed ≤ w.window.count

-- the second reader goes a period ahead, and then both go on together
abbrev pub IsInTurn : {A : Type 0} → Comparison A → Type 0
IsInTurn k = ((k.first.heap ≡ 0) × (k.second.heap ≤ k.period)) ⊎ (k.second.heap ≡ k.first.heap + k.period)

-- a comparison behind so many first values
pub record IsComparing {A : Type 0} (listed : ℕ) (s : Seen A) : Type 0 where
  pub paired : IsPaired listed s.comparison
  pub turn : IsInTurn s.comparison
  pub some : 1 ≤ s.start
  pub below : s.comparison.first.heap ≤ s.start
  pub within : s.start + s.comparison.period ≤ s.values
  pub behind : listed < s.values

abbrev pub IsStaged : {A : Type 0} → ℕ → Stage A → Type 0
IsStaged listed (Watching w) = IsWatching listed w
IsStaged listed (Comparing s) = IsComparing listed s

-- how many values were computed
abbrev pub farthest : {A : Type 0} → Stage A → ℕ
farthest (Watching w) = w.window.count
farthest (Comparing s) = s.values

-- the heap before which values are marked
abbrev pub marked : {A : Type 0} → Stage A → ℕ
marked (Watching w) = w.at
marked (Comparing s) = 0

-- its parts fit together, whatever values it has
pub record IsPlaced {A : Type 0} (p : Place A) : Type 0 where
  pub few : p.listed < MOST_LISTED
  pub staged : IsStaged p.listed p.stage

-- by so many values something can be said
pub record IsWithin {A : Type 0} (count : ℕ) (p : Place A) : Type 0 where
  pub listed : p.listed < count
  pub marked : marked p.stage < count
  pub farthest : farthest p.stage ≤ count

-- a search can be taken up again from there
pub record IsKept {A : Type 0} (p : Place A) : Type 0 where
  pub placed : IsPlaced p
  pub within : IsWithin (farthest p.stage) p
  pub limited : farthest p.stage ≤ FARTHEST

-- the windows are earlier ones of the one that is watched
abbrev pub IsStagedTrail : {A : Type 0} → ℕ → Stage A → Trail A → Type 0
IsStagedTrail listed (Watching w) t = IsTrailOf listed w.window t
IsStagedTrail listed (Comparing s) t = Unit {0}

-- ---- what is so of the game

abbrev pub IsRightStagedTrail : {A : Type 0} → Stage A → Trail A → Type 0
IsRightStagedTrail (Watching w) t = IsRightTrail w.window t
IsRightStagedTrail (Comparing s) t = Unit {0}

-- a watch that is right, in the game of the code, and began behind so many first values: so it has the reach and the mark of one that did
pub record IsWatchedIn {A : Type 0} (c : Code) (listed : ℕ) (w : Watch A) : Type 0 where
  pub watched : IsWatched w
  pub code : w.window.code ≡ c
  pub reach : w.window.reach ≡ reach_behind c listed
  pub marked : IsMarkAt listed w.at w.window.count

-- a period that holds for every heap, no shorter one does, and the comparison is right
pub record IsSeen {A : Type 0} (c : Code) (s : Seen A) : Type 0 where
  pub repeats : IsRepeat c (record { start = s.start; period = s.comparison.period })
  pub compared : IsCompared c s.comparison

abbrev pub IsStageOf : {A : Type 0} → Code → ℕ → Stage A → Type 0
IsStageOf c listed (Watching w) = IsWatchedIn c listed w
IsStageOf c listed (Comparing s) = IsSeen c s

-- what a place has is so of its game
abbrev pub IsRightPlace : {A : Type 0} → Place A → Type 0
IsRightPlace p = IsStageOf p.code p.listed p.stage

-- ---- steps

-- a bound of the steps that are left, by at most so many values
abbrev pub left : {A : Type 0} → ℕ → Stage A → ℕ
left count (Watching w) = 2 * FARTHEST + 1 + (count - w.window.count)
left count (Comparing s) = (s.start - s.comparison.first.heap) + (s.comparison.period - s.comparison.second.heap)

-- what is said is of this place: by as many values as it knows, and, where no period is seen, behind as many first ones as it lists
abbrev pub IsSaidOf : {A : Type 0} → Place A → Sought → Type 0
IsSaidOf p (Least seen values) = values ≡ farthest p.stage
IsSaidOf p (Unshown values) = ⊥
IsSaidOf p (Unseen values listed) = (values ≡ farthest p.stage) × (listed ≡ p.listed)

-- a later place of the same search, by at most so many values
pub record IsLater {A : Type 0} (count : ℕ) (old new : Place A) : Type 0 where
  pub code : new.code ≡ old.code
  pub listed : new.listed ≡ old.listed
  pub kept : IsKept new
  pub few : farthest new.stage ≤ count
  pub on : farthest old.stage ≤ farthest new.stage

abbrev pub IsStep : {A : Type 0} → ℕ → Place A → Stepped A → Type 0
IsStep count old (On new) = IsLater count old new × (left count new.stage < left count old.stage)
IsStep count old (Over sought new) = IsLater count old new × IsTold count sought × IsSaidOf new sought
IsStep count old (Lost heap) = (heap ≤ count) × (farthest old.stage ≤ heap)

-- what a step says and leaves is so of the game
abbrev pub IsRightStep : {A : Type 0} → Code → ℕ → Stepped A → Type 0
IsRightStep c count (On new) = IsRightPlace new
IsRightStep c count (Over sought new) = IsSought c count sought × IsRightPlace new
IsRightStep c count (Lost heap) = Unit {0}

-- ---- with the windows that a search has passed

abbrev pub IsTrailAt : {A : Type 0} → Place A → Trail A → Type 0
IsTrailAt p t = IsStagedTrail p.listed p.stage t

abbrev pub IsRightTrailAt : {A : Type 0} → Place A → Trail A → Type 0
IsRightTrailAt p t = IsRightStagedTrail p.stage t

-- a step leaves the windows that go with its place
abbrev pub IsTrailBehind : {A : Type 0} → Stepped A → Trail A → Type 0
IsTrailBehind (On new) t = IsTrailAt new t
IsTrailBehind (Over sought new) t = Unit {0}
IsTrailBehind (Lost heap) t = Unit {0}

abbrev pub IsRightTrailBehind : {A : Type 0} → Stepped A → Trail A → Type 0
IsRightTrailBehind (On new) t = IsRightTrailAt new t
IsRightTrailBehind (Over sought new) t = Unit {0}
IsRightTrailBehind (Lost heap) t = Unit {0}
