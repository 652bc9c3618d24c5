-- How long the text of a state is.
use Rattle.std.specs.Prelude.{codes}
use Rattle.std.proofs.Common.{◌≡◌, ℕ, ◌+◌, List, ◌∷◌, ◌++◌, length, arith}
use Rattle.std.proofs.lemmas.List.{length-append}
use Rattle.std.specs.List.{flat_map}
use Rattle.oct_delta.specs.Text.{op_bytes, u32}
use Rattle.oct_delta.specs.Delta.{encoded}
use Rattle.oct_ops.specs.Body.{Operation}
use Rattle.oct_record.specs.States.{state_text}
use Rattle.oct_sync.proofs.Written.{length-encoded}

pub length-state : (author : ℕ) (ops : List Operation) → length (state_text author ops) ≡ 16 + length (flat_map op_bytes ops)
length-state author ops =
    let text = length-append (codes "OGS1") (u32 author ++ encoded ops) in
    let rest = length-append (u32 author) (encoded ops) in
    let list = length-encoded ops in
    omega (arith, text, rest, list)

pub length-next : (o : Operation) (ops : List Operation) → length (flat_map op_bytes (o ∷ ops)) ≡ length (op_bytes o) + length (flat_map op_bytes ops)
length-next o ops = length-append (op_bytes o) (flat_map op_bytes ops)
