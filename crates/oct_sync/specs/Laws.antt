-- What holds of all sessions.
use Rattle.std.specs.Prelude.{◌≡◌, ◌++◌}
use Rattle.oct_delta.specs.Text.{Bytes}
use Rattle.oct_ops.specs.Operations.{Operations}
use Rattle.oct_sync.specs.Session.{Point, fed}
use Rattle.oct_sync.specs.Standing.{Ends}
use Rattle.oct_sync.specs.declared.error.SyncError.{SyncError}
use Rattle.oct_sync.specs.declared.role.Role.{Role}
use Rattle.oct_sync.specs.declared.role.Role.TheVariants.{Giver}

-- bytes that come in two pieces do what they do in one
abbrev pub AnyCutting : Type 0
AnyCutting = (role : Role) (p : Point) (bytes more : Bytes) → fed role (fed role p bytes) more ≡ fed role p (bytes ++ more)

-- whatever comes to a giver, it holds what it held, also where it ended early
pub record GiverStays : Type 0 where
  pub is : (p : Point) (bytes : Bytes) → (fed Giver p bytes).session.held ≡ p.session.held
  pub ends : (p : Point) (bytes : Bytes) (e : SyncError) (held : Operations) (sent : Bytes) → Ends Giver p bytes e held sent → held ≡ p.session.held
