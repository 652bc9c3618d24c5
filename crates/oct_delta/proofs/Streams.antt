-- Reading the operations that are whole.
use Rattle.std.proofs.Common.{◌≡◌, ℕ, suc, ◌-◌, ◌+◌, ◌≤◌, ◌<◌, List, [], ◌∷◌, ◌++◌, length, Option, Some, None, Bool, Ok, Err, refl, sym, ap, subst, ◌∙◌, append_assoc, arith}
use Rattle.std.specs.Prelude.{slice_get}
use Rattle.std.proofs.lemmas.List.{append-nil, length-append}
use Rattle.oct_ops.specs.Body.{Operation}
use Rattle.oct_delta.specs.declared.fault.TextFault.TheVariants.{Short}
use Rattle.oct_delta.specs.declared.fault.ReadError.{ReadError}
use Rattle.oct_delta.specs.declared.fault.ReadError.TheVariants as errors
use Rattle.oct_ops.specs.Order.{op_cmp}
use Rattle.oct_delta.specs.declared.fault.TextFault.{TextFault}
use Rattle.oct_delta.specs.Reading.{Read, Fails, with_front, skipped, checked, follows, op_at, next_at, next_op_at}
use Rattle.oct_delta.specs.Streaming.{last_of, whole_at, GivesNext}
use Rattle.oct_delta.proofs.Codecs.{as_part, failed}

last_of-push : (ops : List Operation) (o : Operation) → last_of (ops ++ o ∷ []) ≡ Some o
last_of-push ops o =
    let k : length (ops ++ o ∷ []) - 1 ≡ length ops = omega (arith, length-append ops (o ∷ [])) in
    ap (slice_get (ops ++ o ∷ [])) k ∙ at_end ops o
  where
    at_end : (xs : List Operation) (x : Operation) → slice_get (xs ++ x ∷ []) (length xs) ≡ Some x
    at_end [] x = refl
    at_end (y ∷ xs) x = at_end xs x

regroup : (front : List Operation) (x : Operation) (read : Read (List Operation)) → with_front front (as_part (λ others. x ∷ others) read) ≡ with_front (front ++ x ∷ []) read
regroup front x (Ok y) = ap (λ (xs : List Operation). let z : List Operation × List ℕ = (xs, y.1) in Ok z) (simp append_assoc)
regroup front x (Err f) = refl

pub whole_goes : (limit count i : ℕ) (front : List Operation) (bytes : List ℕ) (x : Operation) (after : List ℕ) (total : Read (List Operation)) → i < count → next_op_at limit (last_of front) bytes ≡ Ok (x, after)
    → with_front front (whole_at limit (last_of front) (count - i) bytes) ≡ total → with_front (front ++ x ∷ []) (whole_at limit (last_of (front ++ x ∷ [])) (count - (i + 1)) after) ≡ total
unfolding whole_at
whole_goes limit count i front bytes x after total lt h so_far =
    let k : count - i ≡ suc (count - (i + 1)) = omega arith in
    ap (λ (b : Option Operation). with_front (front ++ x ∷ []) (whole_at limit b (count - (i + 1)) after)) (last_of-push front x)
    ∙ sym (rw (k, h) (regroup front x (whole_at limit (Some x) (count - (i + 1)) after))) ∙ so_far

pub whole_ends : (limit count i : ℕ) (front : List Operation) (bytes : List ℕ) (total : Read (List Operation)) → i < count → next_op_at limit (last_of front) bytes ≡ Err Short
    → with_front front (whole_at limit (last_of front) (count - i) bytes) ≡ total → total ≡ Ok (front, bytes)
unfolding whole_at
whole_ends limit count i front bytes total lt h so_far =
    let k : count - i ≡ suc (count - (i + 1)) = omega arith in
    sym so_far ∙ rw (k, h) (ap (λ (xs : List Operation). let z : List Operation × List ℕ = (xs, bytes) in Ok z) (append-nil front))

pub whole_fails : (limit count i : ℕ) (front : List Operation) (bytes new : List ℕ) (e : ReadError) (total : Read (List Operation)) → i < count → GivesNext (Err e) bytes new (next_op_at limit (last_of front) bytes)
    → with_front front (whole_at limit (last_of front) (count - i) bytes) ≡ total → Fails e total
unfolding whole_at
whole_fails limit count i front bytes new errors.Memory total lt h so_far = tt
whole_fails limit count i front bytes new (errors.Fault f) total lt h so_far =
    let k : count - i ≡ suc (count - (i + 1)) = omega arith in
    sym so_far ∙ rw (k, h.0, h.1) refl

pub whole_done : (limit count i : ℕ) (front : List Operation) (bytes : List ℕ) (total : Read (List Operation)) → count ≤ i
    → with_front front (whole_at limit (last_of front) (count - i) bytes) ≡ total → total ≡ Ok (front, bytes)
unfolding whole_at
whole_done limit count i front bytes total le so_far =
    let k : count - i ≡ 0 = omega arith in
    sym so_far ∙ rw k (ap (λ (xs : List Operation). let z : List Operation × List ℕ = (xs, bytes) in Ok z) (append-nil front))

pub none_is : (r : Option Operation) (old new : List ℕ) (read : Read Operation) → r ≡ None → GivesNext (Ok r) old new read → (read ≡ Err Short) × (new ≡ old)
none_is None old new read e h = h
none_is (Some x) old new read e h = absurd cc

pub some_is : (r : Option Operation) (x : Operation) (old new : List ℕ) (read : Read Operation) → r ≡ Some x → GivesNext (Ok r) old new read → read ≡ Ok (x, new)
some_is None x old new read e h = absurd cc
some_is (Some y) x old new read e h = h ∙ ap (λ (z : Operation). let w : Operation × List ℕ = (z, new) in Ok w) (let same : y ≡ x = cc in same)

pub err_along : (e : ReadError) (old new : List ℕ) (r s : Read Operation) → r ≡ s → GivesNext (Err e) old new r → GivesNext (Err e) old new s
err_along errors.Memory old new r s same h = tt
err_along (errors.Fault f) old new r s same h = (sym same ∙ h.0, h.1)

pub skipped_err : {A : Type 0} (read : Read A) (f : TextFault) → skipped read ≡ Err f → read ≡ Err f
skipped_err (Ok x) f e = absurd cc
skipped_err {A} (Err h) f e = ap (λ (x : TextFault). failed {A = A × List ℕ} x) (let same : h ≡ f = cc in same)

-- an operation whose text is passed over is read
pub no_fault : (limit : ℕ) (bytes after : List ℕ) (e : ReadError) (f : TextFault) → e ≡ errors.Fault f → skipped (op_at limit bytes) ≡ Ok after → Fails e (op_at limit bytes) → ⊥
no_fault limit bytes after e f is passed fails =
    let none : op_at limit bytes ≡ Err f = subst (λ (x : ReadError). Fails x (op_at limit bytes)) is fails in
    let both : skipped (failed {A = Operation × List ℕ} f) ≡ Ok after = ap skipped (sym none) ∙ passed in
    cc

pub next_err : (limit : ℕ) (before : Option Operation) (bytes : List ℕ) (f : TextFault) → op_at limit bytes ≡ Err f → next_op_at limit before bytes ≡ Err f
unfolding next_at
next_err limit before bytes f e = rw e refl

pub next_checked : (limit : ℕ) (before : Option Operation) (bytes : List ℕ) (x : Operation) (after : List ℕ) {passes : Bool} → op_at limit bytes ≡ Ok (x, after) → follows op_cmp before x ≡ passes → next_op_at limit before bytes ≡ checked passes x after
unfolding next_at
next_checked limit before bytes x after e h = rw (e, h) refl
