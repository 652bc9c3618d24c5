-- Bytes at whose end something was added.
use Rattle.std.proofs.Common.{◌≡◌, min, leb, true, false, ℕ, ◌+◌, ◌*◌, List, [], ◌∷◌, ◌++◌, length, take, refl, sym, ap, ◌∙◌, append_assoc, eqb, arith}
use Rattle.std.proofs.lemmas.Bool.{eqb-true, leb-true, leb-false}
use Rattle.std.proofs.lemmas.List.{take_all}
use Rattle.std.specs.Prelude.{if◌then◌else◌}
use Rattle.std.specs.List.{flat_map, list_all}
use Rattle.oct_delta.specs.Clocks.{entry_bytes, entries_bytes}
use Rattle.oct_delta.specs.Delta.{encoded, old_format, new_format}
use Rattle.oct_delta.specs.Text.{Bytes, u32, op_bytes}
use Rattle.oct_ops.specs.Body.{Operation}
use Rattle.oct_ops.specs.Limits.{keeps_old_limits}
use Rattle.oct_sync.specs.Frames.{frame_bytes}
use Rattle.oct_sync.specs.Packs.{pack_frame}

pub length-entries : (es : List (ℕ × ℕ)) → length (flat_map entry_bytes es) ≡ 8 * length es
length-entries [] = refl
length-entries (e ∷ es) = omega (arith, length-entries es)

-- a head was added, and then the payload that it counts
pub framed_after : (tag size : ℕ) (payload old now new : Bytes) → size ≡ length payload → now ≡ old ++ (u32 (1 + size) ++ tag ∷ []) → new ≡ now ++ payload → new ≡ old ++ frame_bytes tag payload
framed_after tag size payload old now new counts head whole =
    whole ∙ ap (λ (z : Bytes). z ++ payload) (head ∙ ap (λ n. old ++ (u32 (1 + n) ++ tag ∷ [])) counts)
    ∙ append_assoc old (u32 (1 + length payload) ++ tag ∷ []) payload

pub length-encoded : (ops : List Operation) → length (encoded ops) ≡ 8 + length (flat_map op_bytes ops)
length-encoded ops = elim (list_all keeps_old_limits ops) as (λ b. length ((if b then old_format else new_format).tag ++ (u32 (length ops) ++ flat_map op_bytes ops)) ≡ 8 + length (flat_map op_bytes ops)) [ true ↦ omega arith | false ↦ omega arith ]

pub length-entries_bytes : (es : List (ℕ × ℕ)) → 4 + 8 * length es ≡ length (entries_bytes es)
length-entries_bytes es = let count = length-entries es in omega (arith, count)

pub pack_frame-some : (pack : List Operation) → eqb (length pack) 0 ≡ false → pack_frame pack ≡ frame_bytes 2 (encoded pack)
pack_frame-some [] h = cc
pack_frame-some (o ∷ pack) h = refl

pub pack_frame-none : (pack : List Operation) → eqb (length pack) 0 ≡ true → pack_frame pack ≡ []
pack_frame-none [] h = refl
pack_frame-none (o ∷ pack) h = absurd (omega (arith, eqb-true (length (o ∷ pack)) 0 h))

pub take_min : {X : Type 0} (xs : List X) (n m : ℕ) → m ≡ min (length xs) n → take m xs ≡ take n xs
take_min xs n m is = elim (leb (length xs) n) as (λ b. leb (length xs) n ≡ b → take m xs ≡ take n xs) [
  | true ↦ λ e. let small = leb-true (length xs) n e in take_all m xs (omega (arith, is, small)) ∙ sym (take_all n xs small)
  | false ↦ λ e. let big = leb-false (length xs) n e in let same : m ≡ n = omega (arith, is, big) in ap (λ k. take k xs) same
] refl
