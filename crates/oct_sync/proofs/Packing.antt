-- The packs of operations hold them all, in their order.
use Rattle.std.proofs.Common.{◌≡◌, ℕ, zero, suc, ◌-◌, ◌≤◌, true, false, List, [], ◌∷◌, ◌++◌, length, take, drop, refl, sym, ap, ◌∙◌, subst, arith}
use Rattle.std.proofs.lemmas.Bool.{le-leb}
use Rattle.std.proofs.lemmas.List.{take-append-drop, length-drop}
use Rattle.std.proofs.lemmas.List.Elements.{All-head, All-drop}
use Rattle.std.specs.List.{All, flat_map}
use Rattle.oct_ops.specs.Body.{Operation}
use Rattle.oct_delta.specs.Text.{op_bytes}
use Rattle.oct_sync.specs.Frames.{fitting, alike, pack_room, pack_length, packs_within, packs}

-- the operation fits into a frame
abbrev pub FitsAlone : Operation → Type 0
FitsAlone o = length (op_bytes o) ≤ pack_room

some_fit : (o : Operation) (ops : List Operation) → FitsAlone o → 1 ≤ fitting pack_room (o ∷ ops)
some_fit o ops fits = subst (λ b. 1 ≤ elim b [ true ↦ suc (fitting (pack_room - length (op_bytes o)) ops) | false ↦ 0 ]) (sym (le-leb (length (op_bytes o)) pack_room fits)) (omega arith)

pub some_packed : (o : Operation) (ops : List Operation) → FitsAlone o → 1 ≤ pack_length (o ∷ ops)
some_packed o ops fits = let held = some_fit o ops fits in let same : 1 ≤ alike (o ∷ ops) = omega arith in omega (arith, held, same)

packs_within_hold : (fuel : ℕ) (ops : List Operation) → length ops ≤ fuel → All FitsAlone ops → flat_map (λ pack. pack) (packs_within fuel ops) ≡ ops
packs_within_hold zero [] few fit = refl
packs_within_hold zero (o ∷ ops) few fit = absurd (omega (arith, few))
packs_within_hold (suc fuel) [] few fit = refl
packs_within_hold (suc fuel) (o ∷ ops) few fit =
    let n : ℕ = pack_length (o ∷ ops) in
    let some : 1 ≤ pack_length (o ∷ ops) = some_packed o ops (All-head FitsAlone o ops fit) in
    let left : length (drop (pack_length (o ∷ ops)) (o ∷ ops)) ≡ length (o ∷ ops) - pack_length (o ∷ ops) = length-drop (pack_length (o ∷ ops)) (o ∷ ops) in
    ap (λ l. take n (o ∷ ops) ++ l) (packs_within_hold fuel (drop n (o ∷ ops)) (omega (arith, left, some, few)) (All-drop FitsAlone n (o ∷ ops) fit))
    ∙ take-append-drop n (o ∷ ops)

pub packs_hold : (ops : List Operation) → All FitsAlone ops → flat_map (λ pack. pack) (packs ops) ≡ ops
packs_hold ops fit = packs_within_hold (length ops) ops (omega arith) fit
