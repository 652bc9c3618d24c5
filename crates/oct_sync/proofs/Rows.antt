-- What a side does at its first bytes, whatever it holds, and how operations are packed.
use Rattle.std.specs.Prelude.{◌≡◌, ℕ, List, [], ◌∷◌, ◌++◌, refl}
use Rattle.oct_ops.specs.Operations.{Operations}
use Rattle.oct_delta.specs.Clocks.{entry_at}
use Rattle.oct_delta.specs.Reading.{chain_at, next_at}
use Rattle.oct_code.specs.Code.{Code}
use Rattle.oct_ops.specs.Body.{Operation}
use Rattle.oct_ops.specs.Body as kind
use Rattle.oct_ops.specs.Operation.{dot_of, claimed}
use Rattle.oct_sync.specs.Frames.{frame_bytes, delta_frames}
use Rattle.oct_sync.specs.Session.{Point, new_server, server, client, fed, wanted, HasFailed, AwaitsClock}
use Rattle.oct_sync.specs.declared.error.SyncError.TheVariants as fault
use Rattle.oct_sync.specs.declared.role.Role.TheVariants.{Server}

waits : (held : Operations) → (server held (0 ∷ 0 ∷ 0 ∷ [])).phase ≡ AwaitsClock
waits held = refl

begun : Operations → Point
begun held = record { session = new_server held; rest = [] }

two_more : (held : Operations) → wanted (fed Server (begun held) (0 ∷ 0 ∷ 0 ∷ [])) ≡ 2
unfolding begun
two_more held = refl

eleven_more : (held : Operations) → wanted (fed Server (begun held) (0 ∷ 0 ∷ 0 ∷ 13 ∷ 1 ∷ 0 ∷ [])) ≡ 11
unfolding begun
eleven_more held = refl

no_length : (held : Operations) → (server held (0 ∷ 0 ∷ 0 ∷ 0 ∷ [])).phase ≡ HasFailed fault.Frame
no_length held = refl

too_long : (held : Operations) → (server held (0 ∷ 16 ∷ 0 ∷ 1 ∷ [])).phase ≡ HasFailed fault.Frame
too_long held = refl

no_tag : (held : Operations) → (server held (0 ∷ 0 ∷ 0 ∷ 2 ∷ 4 ∷ [])).phase ≡ HasFailed fault.Frame
no_tag held = refl

end_with_payload : (held : Operations) → (server held (0 ∷ 0 ∷ 0 ∷ 2 ∷ 3 ∷ [])).phase ≡ HasFailed fault.Frame
end_with_payload held = refl

end_first : (held : Operations) → (server held (0 ∷ 0 ∷ 0 ∷ 1 ∷ 3 ∷ [])).phase ≡ HasFailed fault.Order
end_first held = refl

-- a clock of one author whose number is 0
no_clock : (held : Operations) → (server held (frame_bytes 1 (0 ∷ 0 ∷ 0 ∷ 1 ∷ 0 ∷ 0 ∷ 0 ∷ 0 ∷ 0 ∷ 0 ∷ 0 ∷ 1 ∷ []))).phase ≡ HasFailed fault.Clock
unfolding chain_at next_at entry_at
no_clock held = refl

-- a client that knows the server's clock, and a delta whose tag is no delta's
no_delta : (held : Operations) → (client held (frame_bytes 1 (0 ∷ 0 ∷ 0 ∷ 0 ∷ []) ++ frame_bytes 2 (79 ∷ 71 ∷ 68 ∷ 51 ∷ 0 ∷ 0 ∷ 0 ∷ 0 ∷ []))).phase ≡ HasFailed fault.Delta
unfolding chain_at
no_delta held = refl

-- ---- packs

abbrev kayles : Code
kayles = record { head = 0; digits = 7 ∷ 7 ∷ [] }

abbrev block : ℕ → ℕ → Operation
block number start = record { dot = dot_of 1 number; body = kind.Block (claimed kayles start (0 ∷ [])) }

abbrev block_text : ℕ → ℕ → ℕ → List ℕ
block_text number high low = 0 ∷ 0 ∷ 0 ∷ 1 ∷ 0 ∷ 0 ∷ 0 ∷ number ∷ 1 ∷ 0 ∷ 2 ∷ 7 ∷ 7 ∷ 0 ∷ 0 ∷ high ∷ low ∷ 0 ∷ 1 ∷ 0 ∷ 0 ∷ 0 ∷ 0 ∷ []

-- the first keeps the old limits, and the second exceeds them: each has a frame of its own, in its own format
two_formats : delta_frames (block 1 4095 ∷ block 2 4096 ∷ []) ≡
    frame_bytes 2 (79 ∷ 71 ∷ 68 ∷ 49 ∷ 0 ∷ 0 ∷ 0 ∷ 1 ∷ block_text 1 15 255)
    ++ frame_bytes 2 (79 ∷ 71 ∷ 68 ∷ 50 ∷ 0 ∷ 0 ∷ 0 ∷ 1 ∷ block_text 2 16 0)
two_formats = refl

-- both keep the old limits
one_format : delta_frames (block 1 7 ∷ block 2 8 ∷ []) ≡ frame_bytes 2 (79 ∷ 71 ∷ 68 ∷ 49 ∷ 0 ∷ 0 ∷ 0 ∷ 2 ∷ block_text 1 0 7 ++ block_text 2 0 8)
one_format = refl

no_frame : delta_frames [] ≡ []
no_frame = refl
