-- Passing over operations, of which each is greater than the one before.
use Rattle.std.proofs.Common.{◌≡◌, ℕ, suc, ◌-◌, ◌+◌, ◌≤◌, ◌<◌, Bool, true, false, List, [], ◌∷◌, ◌++◌, length, take, Option, Some, None, Result, Ok, Err, refl, sym, ap, subst, ◌∙◌, arith}
use Rattle.std.specs.Ordering.{is_lt}
use Rattle.std.proofs.lemmas.List.{append-nil, take_at, length-append}
use Rattle.oct_code.specs.declared.limits.TheConstants.{LIMIT}
use Rattle.oct_ops.specs.Body.{Operation}
use Rattle.oct_ops.specs.Order.{op_cmp}
use Rattle.oct_ops.specs.OrderLaws.{then_equal}
use Rattle.oct_delta.specs.declared.fault.TextFault.{TextFault}
use Rattle.oct_delta.specs.declared.fault.TextFault.TheVariants.{Malformed}
use Rattle.oct_delta.specs.Text.{op_bytes}
use Rattle.oct_delta.specs.Delta.{Fits}
use Rattle.oct_delta.specs.Bytes.{IsBytes}
use Rattle.oct_delta.specs.Reading.{◌>>=◌, Read, follows, skipped, op_at, next_at, next_op_at, chain_at}
use Rattle.oct_delta.specs.Passing.{Passed}
use Rattle.oct_delta.proofs.Codecs.{bytes_cmp, failed}
use Rattle.oct_delta.proofs.Formats.{op_codec}

-- the text of the operation before, or nothing
abbrev pub IsTextOf : ℕ → Option Operation → List ℕ → Type 0
IsTextOf limit None text = text ≡ []
IsTextOf limit (Some o) text = Fits limit o × (text ≡ op_bytes o)

pub passed : (limit : ℕ) → limit ≤ LIMIT → (bytes rest : List ℕ) → IsBytes bytes → skipped (op_at limit bytes) ≡ Ok rest → (o : Operation) × Passed limit bytes rest o
passed limit low bytes rest fits e = by (op_at limit bytes) refl e
  where
    by : (r : Read Operation) → op_at limit bytes ≡ r → skipped r ≡ Ok rest → (o : Operation) × Passed limit bytes rest o
    by (Ok x) is e =
        let t = (op_codec limit low).takes bytes x fits is in
        let same : x.1 ≡ rest = cc in
        (x.0, record { read = is ∙ ap (λ (z : List ℕ). Ok (x.0, z)) same; fits = t.1; parts = t.0.parts ∙ ap (λ (z : List ℕ). op_bytes x.0 ++ z) same })
    by (Err f) is e = absurd cc

pub text_between : (limit : ℕ) (bytes rest : List ℕ) (o : Operation) → Passed limit bytes rest o → take (length bytes - length rest) bytes ≡ op_bytes o
text_between limit bytes rest o p =
    let long : length bytes ≡ length (op_bytes o) + length rest = ap length p.parts ∙ length-append (op_bytes o) rest in
    let k : length bytes - length rest ≡ length (op_bytes o) = omega (arith, long) in
    rw (k, p.parts) (take_at (op_bytes o) rest (length (op_bytes o)) refl)

-- the order of the texts is that of the operations
pub follows_by_text : (limit : ℕ) → limit ≤ LIMIT → (before : Option Operation) (previous : List ℕ) (o : Operation) → IsTextOf limit before previous → Fits limit o → is_lt (bytes_cmp previous (op_bytes o)) ≡ follows op_cmp before o
follows_by_text limit low None previous o is fits = rw is refl
follows_by_text limit low (Some b) previous o is fits =
    let both = (op_codec limit low).ordered b o [] [] is.0 fits ∙ then_equal (op_cmp b o) in
    ap is_lt (ap (λ (z : List ℕ). bytes_cmp z (op_bytes o)) is.1 ∙ ap (λ (z : List ℕ). bytes_cmp z (op_bytes o)) (sym (append-nil (op_bytes b))) ∙ ap (bytes_cmp (op_bytes b ++ [])) (sym (append-nil (op_bytes o))) ∙ both)

abbrev with_op : Operation → Read (List Operation) → Read (List Operation)
with_op o read = read >>= λ others. Ok (o ∷ others.0, others.1)

not_skipped : (read : Read Operation) (f : TextFault) → skipped read ≡ Err f → read ≡ Err f
not_skipped (Ok x) f e = absurd cc
not_skipped (Err g) f e = ap (λ (h : TextFault). Err h) (err_is g f e)
  where
    err_is : (g f : TextFault) → failed {A = List ℕ} g ≡ Err f → g ≡ f
    err_is g f e = cc

skipped-others : (o : Operation) (read : Read (List Operation)) → skipped (with_op o read) ≡ skipped read
skipped-others o (Ok y) = refl
skipped-others o (Err e) = refl

pub passes_on : (limit : ℕ) (before : Option Operation) (count i : ℕ) (bytes rest : List ℕ) (o : Operation) (total : Result (List ℕ) TextFault) → i < count → Passed limit bytes rest o → follows op_cmp before o ≡ true
    → skipped (chain_at (next_op_at limit) before (count - i) bytes) ≡ total → skipped (chain_at (next_op_at limit) (Some o) (count - (i + 1)) rest) ≡ total
unfolding chain_at next_at
passes_on limit before count i bytes rest o total lt p up so_far =
    let k : count - i ≡ suc (count - (i + 1)) = omega arith in
    sym (rw (k, p.read, up) (skipped-others o (chain_at (next_op_at limit) (Some o) (count - (i + 1)) rest))) ∙ so_far

pub falls : (limit : ℕ) (before : Option Operation) (count i : ℕ) (bytes rest : List ℕ) (o : Operation) (total : Result (List ℕ) TextFault) → i < count → Passed limit bytes rest o → follows op_cmp before o ≡ false
    → skipped (chain_at (next_op_at limit) before (count - i) bytes) ≡ total → total ≡ Err Malformed
unfolding chain_at next_at
falls limit before count i bytes rest o total lt p down so_far =
    let k : count - i ≡ suc (count - (i + 1)) = omega arith in
    sym so_far ∙ rw (k, p.read, down) refl

pub stops : (limit : ℕ) (before : Option Operation) (count i : ℕ) (bytes : List ℕ) (f : TextFault) (total : Result (List ℕ) TextFault) → i < count → skipped (op_at limit bytes) ≡ Err f
    → skipped (chain_at (next_op_at limit) before (count - i) bytes) ≡ total → total ≡ Err f
unfolding chain_at next_at
stops limit before count i bytes f total lt e so_far =
    let k : count - i ≡ suc (count - (i + 1)) = omega arith in
    let one : op_at limit bytes ≡ Err f = not_skipped (op_at limit bytes) f e in
    sym so_far ∙ rw (k, one) refl

pub at_end : (limit : ℕ) (before : Option Operation) (count i : ℕ) (bytes : List ℕ) (total : Result (List ℕ) TextFault) → count ≤ i
    → skipped (chain_at (next_op_at limit) before (count - i) bytes) ≡ total → total ≡ Ok bytes
unfolding chain_at
at_end limit before count i bytes total le so_far =
    let k : count - i ≡ 0 = omega arith in
    sym so_far ∙ rw k refl

-- the text of the operation that was passed over, between the bytes before and the bytes after
pub text_found : (limit : ℕ) → limit ≤ LIMIT → (bytes rest before after : List ℕ) → before ≡ bytes → after ≡ rest → IsBytes before → skipped (op_at limit bytes) ≡ Ok rest
    → (o : Operation) × Passed limit bytes rest o × (take (length before - length after) before ≡ op_bytes o)
text_found limit low bytes rest before after e f fits read =
    let found = passed limit low bytes rest (subst IsBytes e fits) read in
    (found.0, found.1, ap (λ (z : List ℕ). take (length z - length after) z) e ∙ ap (λ (z : List ℕ). take (length bytes - length z) bytes) f ∙ text_between limit bytes rest found.0 found.1)

pub rest_shorter : (limit : ℕ) → limit ≤ LIMIT → (bytes rest before after : List ℕ) → before ≡ bytes → after ≡ rest → IsBytes before → skipped (op_at limit bytes) ≡ Ok rest → length after ≤ length before
rest_shorter limit low bytes rest before after e f fits read =
    let found = passed limit low bytes rest (subst IsBytes e fits) read in
    let a : length before ≡ length bytes = ap length e in
    let b : length after ≡ length rest = ap length f in
    let whole : length bytes ≡ length (op_bytes found.0) + length rest = ap length found.1.parts ∙ length-append (op_bytes found.0) rest in
    omega (arith, a, b, whole)

pub follows_tested : (limit : ℕ) → limit ≤ LIMIT → (before : Option Operation) (previous : List ℕ) (o : Operation) (text : List ℕ) (r : Bool) → IsTextOf limit before previous → Fits limit o → text ≡ op_bytes o → r ≡ is_lt (bytes_cmp previous text) → follows op_cmp before o ≡ r
follows_tested limit low before previous o text r is fits e tested =
    sym (tested ∙ ap (λ (z : List ℕ). is_lt (bytes_cmp previous z)) e ∙ follows_by_text limit low before previous o is fits)
