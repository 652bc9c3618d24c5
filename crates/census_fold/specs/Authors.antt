-- Numbers of authors that texts have.
use Rattle.std.specs.Prelude.{ℕ, max, take}
use Rattle.std.specs.Int.{w32, from_be_bytes}
use Rattle.sha2.specs.Sha256.{sha256}
use Rattle.oct_delta.specs.Text.{Bytes}

-- the number that the first four bytes spell
abbrev pub first_number : Bytes → ℕ
first_number bytes = from_be_bytes w32 (take 4 bytes)

-- that of the SHA-256 of the text, or 1 where it is 0
abbrev pub author_for : Bytes → ℕ
author_for text = max (first_number (sha256 text)) 1
