-- Entries that rise, of which those in front are settled.
use Rattle.std.specs.Prelude.{◌≡◌, ℕ, Bool, true, false, ◌<◌, ◌≤◌, List, length, map, max, slice_index_or}
use Rattle.std.specs.List.{All, AllPairs, AllWithin}
use Rattle.std.specs.declared.cmp.Ordering.TheVariants.{Less}
use Rattle.oct_code.specs.Code.{Code}
use Rattle.oct_ops.specs.Operation.{Block}
use Rattle.oct_ops.specs.Sets.{set_of}
use Rattle.oct_verify.specs.Filed.{Filed}
use Rattle.oct_verify.specs.Filing.{Filing, Filings, filing_cmp}
use Rattle.oct_verify.specs.Known.{end, is_true, is_shown, verdict}
use Rattle.oct_verify.specs.declared.status.Status.{Status}
use Rattle.oct_verify.specs.declared.status.Status.TheVariants.{Proved, Refuted, Pending}

abbrev pub filing_of : Filed → Filing
filing_of e = (e.dot, e.block)

-- what the entries file, in their order
abbrev pub listed : List Filed → List Filing
listed = map filing_of

-- and the blocks alone
abbrev pub blocks_of : List Filed → List Block
blocks_of = map (λ e. e.block)

-- the set of what the entries file
abbrev pub filings_of : List Filed → Filings
filings_of entries = set_of (listed entries)

-- the entry is not judged yet
abbrev pub is_pending : Status → Bool
is_pending Proved = false
is_pending (Refuted at claimed truth) = false
is_pending Pending = true

-- the known length after a block that starts at or below it was judged
abbrev pub grown : Status → ℕ → ℕ → ℕ
grown Proved known end = max known end
grown (Refuted at claimed truth) known end = known
grown Pending known end = known

-- the block is one of the game, and there is room for its values
pub record Fits (code : Code) (room : ℕ) (f : Filing) : Type 0 where
  pub game : f.1.code ≡ code
  pub within : end f.1 ≤ room

-- the entry starts at or below the known length, has its verdict, and counts for the known length if it is true
pub record IsSettled (known : ℕ) (e : Filed) : Type 0 where
  pub reached : e.block.start ≤ known
  pub judged : e.status ≡ verdict e.block
  pub counted : is_true e.block ≡ true → end e.block ≤ known

-- a true block has each place from 1 on below the known length
abbrev pub IsCovered : List Block → ℕ → Type 0
IsCovered blocks known = (n : ℕ) → 1 ≤ n → n < known → is_shown blocks n ≡ true

-- The entries rise by their first places. Those before the mark are settled, the others wait.
pub record IsSettling (code : Code) (entries : List Filed) (settled known room : ℕ) : Type 0 where
  pub rising : AllPairs (λ f g. filing_cmp f g ≡ Less) (listed entries)
  pub mark : settled ≤ length entries
  pub fits : All (Fits code room) (listed entries)
  pub done : AllWithin (IsSettled known) entries 0 settled
  pub waiting : AllWithin (λ e. e.status ≡ Pending) entries settled (length entries)
  pub positive : 1 ≤ known
  pub covered : IsCovered (blocks_of entries) known

-- those that wait start beyond the known length
abbrev pub AreParked : List Filed → ℕ → ℕ → Type 0
AreParked entries settled known = AllWithin (λ e. known < e.block.start) entries settled (length entries)

-- a filing goes in between those that are before it and those that are after it
abbrev pub IsGap : List Filed → Filing → ℕ → Type 0
IsGap es f at = AllWithin (λ g. filing_cmp g f ≡ Less) (listed es) 0 at × AllWithin (λ g. filing_cmp f g ≡ Less) (listed es) at (length (listed es))

-- the place of a filing among the entries
pub record IsPlaceOf (es : List Filed) (f : Filing) (at : ℕ) : Type 0 where
  pub within : at < length es
  pub is : (d : Filed) → filing_of (slice_index_or es at d) ≡ f
