-- Frames at the front of what a session receives.
use Rattle.std.proofs.Common.{◌≡◌, ℕ, ◌+◌, ◌≤◌, List, [], ◌++◌, length, Option, Some, refl, ap, ◌∙◌, arith}
use Rattle.oct_delta.specs.Clocks.{read_clock}
use Rattle.oct_delta.specs.Decoding.{read_delta}
use Rattle.oct_delta.specs.Text.{Bytes}
use Rattle.oct_join.specs.Clock.{Clock}
use Rattle.oct_ops.specs.Body.{Operation}
use Rattle.oct_ops.specs.Operations.{Operations}
use Rattle.oct_sync.specs.Frames.{clock_tag, delta_tag, end_frame, end_tag, frame_bytes, max_frame}
use Rattle.oct_sync.specs.Session.{AwaitsClock, AwaitsDeltas, AwaitsEnd, IsDone, Phase, Session, on_clock, on_delta, on_end, on_frame, on_split, received}
use Rattle.oct_sync.specs.declared.role.Role.{Role}
use Rattle.oct_sync.specs.declared.role.Role.TheVariants.{Client, ClientOfAll, Giver, Server}
use Rattle.oct_sync.proofs.Framing.{framed, split_frame}

abbrev pub session : Phase → Operations → Bytes → Session
session phase held sent = record { phase = phase; held = held; sent = sent }

-- a whole frame does what it does, and then the bytes after it
arrives : (role : Role) (s : Session) (tag : ℕ) (payload rest : Bytes) → 1 + length payload ≤ max_frame → received role s (frame_bytes tag payload ++ rest) ≡ received role (on_frame role s (framed tag payload)) rest
arrives role s tag payload rest short = ap (on_split role s) (split_frame tag payload rest short)

pub clock_arrives : (role : Role) (held : Operations) (sent payload rest : Bytes) (t : Clock) → 1 + length payload ≤ max_frame → read_clock payload ≡ Some t →
    received role (session AwaitsClock held sent) (frame_bytes clock_tag payload ++ rest) ≡ received role (on_clock role (session AwaitsClock held sent) (Some t)) rest
clock_arrives role held sent payload rest t short read =
    arrives role (session AwaitsClock held sent) clock_tag payload rest short ∙ ap (λ (o : Option Clock). received role (on_clock role (session AwaitsClock held sent) o) rest) read

pub delta_arrives : (role : Role) (t : Clock) (held : Operations) (sent payload rest : Bytes) (ops : List Operation) → 1 + length payload ≤ max_frame → read_delta payload ≡ Some ops →
    received role (session (AwaitsDeltas t) held sent) (frame_bytes delta_tag payload ++ rest) ≡ received role (on_delta role (session (AwaitsDeltas t) held sent) (Some ops)) rest
delta_arrives role t held sent payload rest ops short read =
    arrives role (session (AwaitsDeltas t) held sent) delta_tag payload rest short ∙ ap (λ (o : Option (List Operation)). received role (on_delta role (session (AwaitsDeltas t) held sent) o) rest) read

pub end_arrives : (role : Role) (t : Clock) (held : Operations) (sent rest : Bytes) →
    received role (session (AwaitsDeltas t) held sent) (end_frame ++ rest) ≡ received role (on_end role (session (AwaitsDeltas t) held sent) (AwaitsDeltas t)) rest
end_arrives role t held sent rest = arrives role (session (AwaitsDeltas t) held sent) end_tag [] rest (omega arith)

-- the client's last frame
pub last_arrives : (role : Role) (held : Operations) (sent : Bytes) → received role (session AwaitsEnd held sent) end_frame ≡ session IsDone held sent
last_arrives Client held sent = refl
last_arrives ClientOfAll held sent = refl
last_arrives Giver held sent = refl
last_arrives Server held sent = refl
