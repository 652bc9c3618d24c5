-- The packs of valid operations are read as they were written.
use Rattle.std.proofs.Common.{◌≡◌, inl, inr, ℕ, zero, suc, ◌+◌, ◌-◌, ◌≤◌, Bool, true, false, cond, ltb, leb, List, [], ◌∷◌, ◌++◌, length, take, Option, Some, None, refl, arith}
use Rattle.std.proofs.lemmas.Bool.{leb-true, le-leb, ltb-false, and_parts, not-false, or_parts}
use Rattle.std.proofs.lemmas.List.{length-append}
use Rattle.std.proofs.lemmas.List.Elements.{All-weaker}
use Rattle.std.specs.List.{All}
use Rattle.oct_code.specs.declared.limits.TheConstants.{LIMIT}
use Rattle.oct_delta.specs.Decoding.{read_delta}
use Rattle.oct_delta.specs.Delta.{Fits, IsDeltaText, encoded}
use Rattle.oct_delta.specs.Text.{body_bytes, op_bytes, list_bytes, u32}
use Rattle.oct_delta.specs.declared.format.Edition.TheVariants.{First, Second}
use Rattle.oct_delta.proofs.Deltas.{encoded_is_text, reads_list}
use Rattle.oct_delta.proofs.Sizes.{length-block_bytes, length-dots, length-note_bytes}
use Rattle.oct_ops.specs.Body as kind
use Rattle.oct_ops.specs.Body.{Body, Operation}
use Rattle.oct_ops.specs.Faults.{block_fault, is_name, is_text, period_fault, note_fault, removal_fault}
use Rattle.oct_ops.specs.Limits.{keeps_limit}
use Rattle.oct_ops.specs.Operation.{Block, Note, Period, Removal}
use Rattle.oct_ops.specs.Operations.{IsRising}
use Rattle.oct_ops.specs.Valid.{IsBody, IsOp}
use Rattle.oct_sync.specs.Frames.{fitting, max_frame, pack_length, pack_room}
use Rattle.oct_sync.proofs.Gathering.{size_of, size_of-cons}
use Rattle.oct_sync.proofs.Packing.{FitsAlone}
use Rattle.oct_sync.proofs.Written.{length-encoded}

-- ---- what no fault says

first_of : {E : Type 0} (a : Bool) (x : E) (r : Option E) → cond a (Some x) r ≡ None → (a ≡ false) × (r ≡ None)
first_of true x r e = absurd cc
first_of false x r e = (refl, e)

block_small : (b : Block) → block_fault b ≡ None → (length b.values ≤ 1024) × (b.start + length b.values ≤ LIMIT)
block_small b e =
    let some = first_of _ _ _ e in
    let few = first_of _ _ _ some.1 in
    let low = first_of _ _ _ few.1 in
    (ltb-false _ _ few.0, ltb-false _ _ low.0)

period_small : (p : Period) → period_fault p ≡ None → (p.start ≤ LIMIT) × (p.period ≤ LIMIT)
period_small p e =
    let some = first_of _ _ _ e in
    let low = first_of _ _ _ some.1 in
    let both = or_parts (ltb LIMIT p.start) (ltb LIMIT p.period) low.0 in
    (ltb-false _ _ both.0, ltb-false _ _ both.1)

note_small : (n : Note) → note_fault n ≡ None → (length n.name ≤ 32) × (length n.text ≤ 200)
note_small n e =
    let name = first_of _ _ _ e in
    let text = first_of _ _ _ name.1 in
    let named = and_parts _ _ (not-false (is_name n.name) name.0) in
    let told = and_parts _ _ (not-false (is_text n.text) text.0) in
    (leb-true _ _ (and_parts _ _ named.0).1, leb-true _ _ told.0)

removal_small : (r : Removal) → removal_fault r ≡ None → length r.dots ≤ 1024
removal_small r e =
    let some = first_of _ _ _ e in
    let few = first_of _ _ _ some.1 in
    ltb-false _ _ few.0

-- ---- a valid operation

pub within_limit : (b : Body) → IsBody b → keeps_limit LIMIT b ≡ true
within_limit (kind.Block b) valid = le-leb _ _ (block_small b valid.faultless).1
within_limit (kind.Period p) valid = let low = period_small p valid.faultless in Rattle.std.proofs.lemmas.Bool.and_from _ _ (le-leb _ _ low.0) (le-leb _ _ low.1)
within_limit (kind.Note n) valid = refl
within_limit (kind.Removal r) valid = refl

body_small : (b : Body) → IsBody b → length (body_bytes b) ≤ 8192 + 2
body_small (kind.Block b) valid = omega (arith, length-block_bytes b, (block_small b valid.faultless).0, valid.code.len)
body_small (kind.Period p) valid =
    let digits = valid.code.len in
    omega (arith, digits, length-append (p.code.digits ++ u32 p.start) (u32 p.period), length-append p.code.digits (u32 p.start))
body_small (kind.Note n) valid = let small = note_small n valid.faultless in omega (arith, length-note_bytes n, small.0, small.1)
body_small (kind.Removal r) valid = omega (arith, length-dots r.dots, removal_small r valid.faultless)

pub fits_alone : (o : Operation) → IsOp o → FitsAlone o
fits_alone o valid = let small = body_small o.body valid.body in let size : length (op_bytes o) ≡ 9 + length (body_bytes o.body) = omega arith in omega (arith, small, size)

-- ---- packs

pub fits_room : (room m : ℕ) (ops : List Operation) → m ≤ fitting room ops → size_of (take m ops) ≤ room
fits_room room zero ops few = omega arith
fits_room room (suc m) [] few = omega arith
fits_room room (suc m) (o ∷ ops) few = elim (leb (length (op_bytes o)) room) as (λ b. leb (length (op_bytes o)) room ≡ b → suc m ≤ elim b [ true ↦ suc (fitting (room - length (op_bytes o)) ops) | false ↦ 0 ] → size_of (o ∷ take m ops) ≤ room) [
  | true ↦ λ e some.
      let one = leb-true (length (op_bytes o)) room e in
      let rest = fits_room (room - length (op_bytes o)) m ops (omega (arith, some)) in
      omega (arith, size_of-cons o (take m ops), one, rest)
  | false ↦ λ _ none. absurd (omega (arith, none))
] refl few

pub pack_fits : (ops : List Operation) → size_of (take (pack_length ops) ops) ≤ pack_room
pack_fits ops = fits_room pack_room (pack_length ops) ops (omega arith)

pub frame_short : (pack : List Operation) → size_of pack ≤ pack_room → 1 + length (encoded pack) ≤ max_frame
frame_short pack fits = let size = length-encoded pack in omega (arith, size, fits)

-- each operation has a byte
pub fewer_than_bytes : (ops : List Operation) → length ops ≤ size_of ops
fewer_than_bytes [] = omega arith
fewer_than_bytes (o ∷ ops) =
    let some : 1 ≤ length (op_bytes o) = omega arith in
    omega (arith, size_of-cons o ops, some, fewer_than_bytes ops)

-- what is written of such operations is read as they are
pub pack_is_read : (pack : List Operation) → All IsOp pack → IsRising pack → size_of pack ≤ pack_room → read_delta (encoded pack) ≡ Some pack
pack_is_read pack valid rising fits = again (encoded_is_text pack (record { few = omega (arith, fewer_than_bytes pack, fits); each = All-weaker IsOp (Fits LIMIT) (λ o is. record { valid = is; within = within_limit o.body is.body }) pack valid; rising = rising }))
  where
    again : IsDeltaText (encoded pack) pack → read_delta (encoded pack) ≡ Some pack
    again (inl d) = reads_list First (encoded pack) (list_bytes pack) pack d.spelled (record { list = d.list; spelled = refl })
    again (inr d) = reads_list Second (encoded pack) (list_bytes pack) pack d.spelled (record { list = d.list; spelled = refl })
