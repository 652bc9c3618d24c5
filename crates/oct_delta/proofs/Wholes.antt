-- What the operations that are whole say of the bytes, and of the bytes that may follow.
use Rattle.std.proofs.Common.{◌≡◌, ℕ, suc, zero, ◌-◌, ◌+◌, ◌≤◌, ◌<◌, Bool, true, false, List, [], ◌∷◌, ◌++◌, length, Option, Some, None, Ok, Err, refl, sym, ap, subst, ◌∙◌, append_assoc, arith}
use Rattle.std.specs.Prelude.{slice_get}
use Rattle.std.specs.List.{flat_map}
use Rattle.oct_code.specs.declared.limits.TheConstants.{LIMIT}
use Rattle.oct_ops.specs.Body.{Operation}
use Rattle.oct_ops.specs.Order.{op_cmp}
use Rattle.oct_delta.specs.declared.fault.TextFault.{TextFault}
use Rattle.oct_delta.specs.declared.fault.TextFault.TheVariants.{Short, Malformed}
use Rattle.oct_delta.specs.Bytes.{IsBytes}
use Rattle.oct_delta.specs.Text.{op_bytes}
use Rattle.oct_delta.specs.Reading.{◌>>=◌, Read, with_front, checked, follows, op_at, next_at, next_op_at, chain_at}
use Rattle.oct_delta.specs.Streaming.{if_whole, whole_at, last_of}
use Rattle.oct_delta.proofs.Codecs.{Chained, Takes, Takes-then, bind_ok, ok_is, as_part}
use Rattle.oct_delta.proofs.Formats.{next_op_codec, IsNextOp}

next_short : (limit : ℕ) (before : Option Operation) (bytes : List ℕ) → next_op_at limit before bytes ≡ Err Short → op_at limit bytes ≡ Err Short
unfolding next_at
next_short limit before bytes e = by (op_at limit bytes) e
  where
    passes : (b : Bool) (x : Operation × List ℕ) → checked b x.0 x.1 ≡ Err Short → ⊥
    passes true x e = cc
    passes false x e = cc

    by : (r : Read Operation) → (r >>= λ op. checked (follows op_cmp before op.0) op.0 op.1) ≡ Err Short → r ≡ Err Short
    by (Ok x) e = absurd (passes (follows op_cmp before x.0) x e)
    by (Err Short) e = refl
    by (Err Malformed) e = absurd cc

-- what was taken from the front, as far as there is something whole
pub record Taken (limit : ℕ) (before : Option Operation) (count : ℕ) (bytes : List ℕ) (ops : List Operation) (rest : List ℕ) : Type 0 where
  pub takes : Takes bytes (flat_map op_bytes ops) rest
  pub chained : Chained (IsNextOp limit) before ops
  pub few : length ops ≤ count
  pub short : length ops < count → op_at limit rest ≡ Err Short

abbrev first_of : ℕ → ℕ → Operation × List ℕ → Read (List Operation)
first_of limit n first = as_part (λ others. first.0 ∷ others) (whole_at limit (Some first.0) n first.1)

pub whole_takes : (limit : ℕ) → limit ≤ LIMIT → (before : Option Operation) (n : ℕ) (bytes : List ℕ) (x : List Operation × List ℕ) → IsBytes bytes → whole_at limit before n bytes ≡ Ok x → Taken limit before n bytes x.0 x.1
unfolding whole_at
whole_takes limit low before zero bytes x fits e =
    subst (λ (y : List Operation × List ℕ). Taken limit before 0 bytes y.0 y.1) (ok_is ([], bytes) x e)
    (record { takes = record { parts = refl; rest_fits = fits }; chained = tt; few = omega arith; short = λ lt. absurd (omega (arith, lt)) })
whole_takes limit low before (suc n) bytes x fits e = by (λ b z y. whole_takes limit low b n z y) (next_op_at limit before bytes) refl e
  where
    by : ((b : Option Operation) (z : List ℕ) (y : List Operation × List ℕ) → IsBytes z → whole_at limit b n z ≡ Ok y → Taken limit b n z y.0 y.1)
        → (r : Read Operation) → next_op_at limit before bytes ≡ r → if_whole bytes (first_of limit n) r ≡ Ok x → Taken limit before (suc n) bytes x.0 x.1
    by deeper (Ok y) is e =
        let t = (next_op_codec limit low before).takes bytes y fits is in
        let b = bind_ok (whole_at limit (Some y.0) n y.1) (λ others. let w : List Operation × List ℕ = (y.0 ∷ others.0, others.1) in Ok w) x e in
        let u = deeper (Some y.0) y.1 b.0 t.0.rest_fits b.1 in
        let made : List Operation × List ℕ = (y.0 ∷ b.0.0, b.0.1) in
        subst (λ (w : List Operation × List ℕ). Taken limit before (suc n) bytes w.0 w.1) (ok_is made x b.2)
        (record {
          takes = Takes-then bytes (op_bytes y.0) y.1 (flat_map op_bytes b.0.0) b.0.1 t.0 u.takes;
          chained = (t.1, u.chained);
          few = omega (arith, u.few);
          short = λ lt. u.short (omega (arith, lt));
        })
    by deeper (Err Short) is e =
        subst (λ (w : List Operation × List ℕ). Taken limit before (suc n) bytes w.0 w.1) (ok_is ([], bytes) x e)
        (record { takes = record { parts = refl; rest_fits = fits }; chained = tt; few = omega arith; short = λ lt. next_short limit before bytes is })
    by deeper (Err Malformed) is e = absurd cc

-- what is refused stays refused, whatever follows
pub whole_refuses : (limit : ℕ) → limit ≤ LIMIT → (before : Option Operation) (n : ℕ) (bytes more : List ℕ) (f : TextFault) → IsBytes bytes → whole_at limit before n bytes ≡ Err f → chain_at (next_op_at limit) before n (bytes ++ more) ≡ Err Malformed
unfolding whole_at chain_at
whole_refuses limit low before zero bytes more f fits e = absurd cc
whole_refuses limit low before (suc n) bytes more f fits e = by (λ b z g. whole_refuses limit low b n z more g) (next_op_at limit before bytes) refl e
  where
    inner : (x : Operation) (r s : Read (List Operation)) → ((g : TextFault) → r ≡ Err g → s ≡ Err Malformed) → as_part (λ others. x ∷ others) r ≡ Err f → as_part (λ others. x ∷ others) s ≡ Err Malformed
    inner x (Ok y) s h e = absurd cc
    inner x (Err g) s h e = rw (h g refl) refl

    by : ((b : Option Operation) (z : List ℕ) (g : TextFault) → IsBytes z → whole_at limit b n z ≡ Err g → chain_at (next_op_at limit) b n (z ++ more) ≡ Err Malformed)
        → (r : Read Operation) → next_op_at limit before bytes ≡ r → if_whole bytes (first_of limit n) r ≡ Err f → chain_at (next_op_at limit) before (suc n) (bytes ++ more) ≡ Err Malformed
    by deeper (Ok y) is e =
        let t = (next_op_codec limit low before).takes bytes y fits is in
        let longer : next_op_at limit before (bytes ++ more) ≡ Ok (y.0, y.1 ++ more) = ap (next_op_at limit before) (ap (λ (z : List ℕ). z ++ more) t.0.parts ∙ append_assoc (op_bytes y.0) y.1 more) ∙ (next_op_codec limit low before).again y.0 (y.1 ++ more) t.1 in
        rw longer (inner y.0 (whole_at limit (Some y.0) n y.1) (chain_at (next_op_at limit) (Some y.0) n (y.1 ++ more)) (λ g. deeper (Some y.0) y.1 g t.0.rest_fits) e)
    by deeper (Err Short) is e = absurd cc
    by deeper (Err Malformed) is e = rw ((next_op_codec limit low before).stays bytes more fits is) refl

-- the last of some operations, or the one before them
abbrev pub last_after : Option Operation → List Operation → Option Operation
last_after before [] = before
last_after before (o ∷ ops) = last_after (Some o) ops

last_after-is : (o : Operation) (ops : List Operation) → last_after (Some o) ops ≡ last_of (o ∷ ops)
last_after-is o [] = refl
last_after-is o (p ∷ ops) =
    let a : suc (length ops) - 1 ≡ length ops = omega arith in
    let b : suc (suc (length ops)) - 1 ≡ suc (length ops) = omega arith in
    last_after-is p ops ∙ ap (slice_get (p ∷ ops)) a ∙ sym (ap (slice_get (o ∷ p ∷ ops)) b)

pub last_after-none : (ops : List Operation) → last_after None ops ≡ last_of ops
last_after-none [] = refl
last_after-none (o ∷ ops) = last_after-is o ops

pub chained-append : (limit : ℕ) (before : Option Operation) (a b : List Operation) → Chained (IsNextOp limit) before a → Chained (IsNextOp limit) (last_after before a) b → Chained (IsNextOp limit) before (a ++ b)
chained-append limit before [] b p q = q
chained-append limit before (o ∷ a) b p q = (p.0, chained-append limit (Some o) a b p.1 q)

with_front-nil : (read : Read (List Operation)) → with_front [] read ≡ read
with_front-nil (Ok x) = refl
with_front-nil (Err f) = refl

with_front-cons : (o : Operation) (front : List Operation) (read : Read (List Operation)) → as_part (λ others. o ∷ others) (with_front front read) ≡ with_front (o ∷ front) read
with_front-cons o front (Ok x) = refl
with_front-cons o front (Err f) = refl

-- operations that are read from the front, and then those after them
pub chain_through : (limit : ℕ) → limit ≤ LIMIT → (before : Option Operation) (ops : List Operation) (n : ℕ) (z : List ℕ) → Chained (IsNextOp limit) before ops
    → chain_at (next_op_at limit) before (length ops + n) (flat_map op_bytes ops ++ z) ≡ with_front ops (chain_at (next_op_at limit) (last_after before ops) n z)
unfolding chain_at
chain_through limit low before [] n z p =
    let k : 0 + n ≡ n = omega arith in
    ap (λ (m : ℕ). chain_at (next_op_at limit) before m z) k ∙ sym (with_front-nil (chain_at (next_op_at limit) before n z))
chain_through limit low before (o ∷ ops) n z p =
    let k : suc (length ops) + n ≡ suc (length ops + n) = omega arith in
    let w = flat_map op_bytes ops ++ z in
    let first : next_op_at limit before (op_bytes o ++ w) ≡ Ok (o, w) = (next_op_codec limit low before).again o w p.0 in
    ap (λ (m : ℕ). chain_at (next_op_at limit) before m (flat_map op_bytes (o ∷ ops) ++ z)) k
    ∙ ap (chain_at (next_op_at limit) before (suc (length ops + n))) (append_assoc (op_bytes o) (flat_map op_bytes ops) z)
    ∙ ap (λ (r : Read Operation). r >>= λ x. as_part (λ others. x.0 ∷ others) (chain_at (next_op_at limit) (Some x.0) (length ops + n) x.1)) first
    ∙ ap (as_part (λ (others : List Operation). o ∷ others)) (chain_through limit low (Some o) ops n z p.1)
    ∙ with_front-cons o ops (chain_at (next_op_at limit) (last_after (Some o) ops) n z)
