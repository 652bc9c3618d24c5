-- How long texts are.
use Rattle.std.proofs.Common.{◌≡◌, ℕ, ◌+◌, ◌*◌, List, [], ◌∷◌, ◌++◌, length, refl, arith}
use Rattle.std.specs.List.{flat_map}
use Rattle.std.proofs.lemmas.List.{length-append}
use Rattle.oct_ops.specs.Operation.{Dot, Block, Note}
use Rattle.oct_delta.specs.Text.{u16, u32, block_bytes, note_bytes, code_bytes, dot_bytes}

pub length-numbers : (xs : List ℕ) → length (flat_map u32 xs) ≡ 4 * length xs
length-numbers [] = refl
length-numbers (x ∷ xs) = omega (arith, length-numbers xs)

pub length-block_bytes : (b : Block) → length (block_bytes b) ≡ 8 + length b.code.digits + 4 * length b.values
length-block_bytes b =
    let code = code_bytes b.code in
    let start = u32 b.start in
    let count = u16 (length b.values) in
    omega (arith, length-append (code ++ start ++ count) (flat_map u32 b.values), length-append (code ++ start) count, length-append code start, length-numbers b.values)

pub length-note_bytes : (n : Note) → length (note_bytes n) ≡ 2 + length n.name + length n.text
length-note_bytes n = omega (arith, length-append n.name (length n.text ∷ n.text))

pub length-dots : (ds : List Dot) → length (flat_map dot_bytes ds) ≡ 8 * length ds
length-dots [] = refl
length-dots (d ∷ ds) = omega (arith, length-dots ds)
