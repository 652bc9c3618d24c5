-- What holds of all lists of blocks.
use Rattle.std.specs.Prelude.{◌≡◌, ◌≢◌, ℕ, ◌-◌, ◌<◌, ◌≤◌, ◌↔◌, List, slice_index}
use Rattle.std.specs.List.{Contains}
use Rattle.oct_mex.specs.NimValues.{nim_value}
use Rattle.oct_ops.specs.Operation.{Block}
use Rattle.oct_verify.specs.Known.{end, known, IsKnownLength, verdict, status}
use Rattle.oct_verify.specs.declared.status.Status.TheVariants.{Proved, Refuted, Pending}

abbrev pub AreAmong : List Block → List Block → Type 0
AreAmong some all = (b : Block) → Contains some b → Contains all b

-- the known length is the greatest one up to which true blocks have all places
abbrev pub KnownLengthIsGreatest : Type 0
KnownLengthIsGreatest = (blocks : List Block) → IsKnownLength blocks (known blocks)

-- and the only such
abbrev pub KnownLengthIsOne : Type 0
KnownLengthIsOne = (blocks : List Block) (m : ℕ) → IsKnownLength blocks m → m ≡ known blocks

-- more blocks make no fewer places known
abbrev pub KnownLengthGrows : Type 0
KnownLengthGrows = (some all : List Block) → AreAmong some all → known some ≤ known all

-- what is proved or refuted stays so, at the same place and with the same values, however many blocks there are more
abbrev pub SettledStays : Type 0
SettledStays = (some all : List Block) (b : Block) → AreAmong some all → status some b ≢ Pending → status all b ≡ status some b

-- the block's value of a place of its own
abbrev pub claimed_at : Block → ℕ → ℕ
claimed_at b n = slice_index b.values (n - b.start)

abbrev pub IsRight : Block → Type 0
IsRight b = (n : ℕ) → b.start ≤ n → n < end b → claimed_at b n ≡ nim_value b.code n

-- the place is the least wrong one, with the block's value and the nim-value
pub record IsLeastWrong (b : Block) (at claimed truth : ℕ) : Type 0 where
  pub low : b.start ≤ at
  pub high : at < end b
  pub says : claimed ≡ claimed_at b at
  pub is : truth ≡ nim_value b.code at
  pub wrong : claimed ≢ truth
  pub before : (n : ℕ) → b.start ≤ n → n < at → claimed_at b n ≡ nim_value b.code n

abbrev pub ProvedIsRight : Type 0
ProvedIsRight = (b : Block) → verdict b ≡ Proved ↔ IsRight b

abbrev pub RefutedIsLeastWrong : Type 0
RefutedIsLeastWrong = (b : Block) (at claimed truth : ℕ) → verdict b ≡ Refuted at claimed truth → IsLeastWrong b at claimed truth
