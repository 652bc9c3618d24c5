-- What an iterator over chunks has left.
use Rattle.std.specs.Prelude.{Vec, ◌≡◌, ℕ, List, ◌++◌, length}
use Rattle.chunked.specs.Chunked.{content, joined}

-- the rest of a chunk, and the chunks after it
abbrev pub left : {X A : Type 0} → List X → List (Vec X A) → List X
left chunk chunks = chunk ++ joined content chunks

-- they have so many items
abbrev pub IsLeft : {X A : Type 0} → List X → List (Vec X A) → ℕ → Type 0
IsLeft chunk chunks len = len ≡ length (left chunk chunks)
