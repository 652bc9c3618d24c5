-- How clocks are spelled as bytes.
use Rattle.std.specs.Prelude.{◌≡◌, ℕ, ◌++◌, length, nat_le, ◌&&◌, Option, None}
use Rattle.std.specs.List.{flat_map}
use Rattle.std.specs.Int.{w32}
use Rattle.std.specs.declared.cmp.Ordering.{Ordering}
use Rattle.std.specs.Ordering.{nat_cmp, on}
use Rattle.std.specs.FinMap as finmap
use Rattle.std.specs.Option.{option_map}
use Rattle.oct_join.specs.Clock.{Clock, IsClock, entries}
use Rattle.oct_join.specs.Entries.{Entries}
use Rattle.oct_delta.specs.Text.{Bytes, u32}
use Rattle.oct_delta.specs.Reading.{◌>>=◌, Read, checked, number_at, chain_at, next_at}
use Rattle.oct_delta.specs.Decoding.{all_of}

abbrev pub entry_bytes : ℕ × ℕ → Bytes
entry_bytes e = u32 e.0 ++ u32 e.1

abbrev pub entries_bytes : Entries → Bytes
entries_bytes es = u32 (length es) ++ flat_map entry_bytes es

abbrev pub clock_bytes : Clock → Bytes
clock_bytes t = entries_bytes (entries t)

-- the bytes are the text of this clock
pub record IsClockText (bytes : Bytes) (t : Clock) : Type 0 where
  pub valid : IsClock t
  pub spelled : bytes ≡ clock_bytes t

-- ---- reading

abbrev pub author_cmp : ℕ × ℕ → ℕ × ℕ → Ordering
author_cmp = on (λ e. e.0) nat_cmp

unfoldable pub entry_at : Bytes → Read (ℕ × ℕ)
entry_at bytes = do
  author ← number_at w32 bytes
  through ← number_at w32 author.1
  checked (nat_le 1 author.0 && nat_le 1 through.0) (author.0, through.0) through.1

-- a count, and then so many entries, of which each has a greater author than the one before
abbrev pub entries_at : Bytes → Read Entries
entries_at bytes = do
  count ← number_at w32 bytes
  chain_at (next_at author_cmp entry_at) None count.0 count.1

abbrev pub read_clock : Bytes → Option Clock
read_clock bytes = option_map finmap.from_entries (all_of (entries_at bytes))
