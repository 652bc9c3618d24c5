-- Numbers as `byteorder` reads them.
use Rattle.std.proofs.Common.{◌≡◌, ℕ, List, arith}
use Rattle.std.specs.Int.{w16, w32, from_be_bytes}
use Rattle.byteorder.specs.Endian.{big_number}

pub big_u16 : (bytes : List ℕ) → big_number 2 bytes ≡ from_be_bytes w16 bytes
big_u16 bytes = omega arith

pub big_u32 : (bytes : List ℕ) → big_number 4 bytes ≡ from_be_bytes w32 bytes
big_u32 bytes = omega arith
