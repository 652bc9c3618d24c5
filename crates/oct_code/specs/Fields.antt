-- How a code lies in memory: its digits, and then zeros.
use Rattle.std.specs.Prelude.{◌≡◌, ℕ, ◌-◌, ◌≤◌, List, ◌++◌, take, drop, replicate, length}
use Rattle.std.proofs.Common.{arith, ◌∙◌, ap, sym, length-take, length-append, subst, ◌+◌}
use Rattle.std.proofs.Math.Seq.{drop-append_seam, take-append_seam}
use Rattle.std.proofs.lemmas.List.{drop-replicate, length-replicate}
use Rattle.std.proofs.lemmas.List.{take-append-drop}
use Rattle.oct_code.specs.declared.code.Code.TheInside.{Inside}
use Rattle.oct_code.specs.Code.{Code, IsCode}
use Rattle.oct_code.specs.declared.limits.TheConstants.{MAX_DIGITS}

abbrev pub zeros_after : List ℕ → List ℕ
zeros_after digits = replicate (MAX_DIGITS - length digits) 0

abbrev pub code_of : Inside → Code
code_of a = record { head = a.head; digits = take a.len a.digits }

abbrev pub fields_of : Code → Inside
fields_of c = record { head = c.head; len = length c.digits; digits = c.digits ++ zeros_after c.digits }

-- it is a code, and zeros follow its digits
pub record IsStored (a : Inside) : Type 0 where
  pub valid : IsCode (code_of a)
  pub room : length a.digits ≡ MAX_DIGITS
  pub len : a.len ≤ MAX_DIGITS
  pub zeros : drop a.len a.digits ≡ replicate (MAX_DIGITS - a.len) 0

-- the digits of an array, and the zeros that they lack
refilled : (n : ℕ) (array : List ℕ) → length array ≡ MAX_DIGITS → n ≤ MAX_DIGITS → drop n array ≡ replicate (MAX_DIGITS - n) 0 → take n array ++ zeros_after (take n array) ≡ array
refilled n array room within zeros =
    let taken : length (take n array) ≡ n = length-take n array ∙ omega arith in
    ap (λ k. take n array ++ replicate (MAX_DIGITS - k) 0) taken ∙ ap (λ rest. take n array ++ rest) (sym zeros) ∙ take-append-drop n array

pub fields_of-code_of : (a : Inside) → IsStored a → fields_of (code_of a) ≡ a
fields_of-code_of a s = λ i. record {
  head = a.head;
  len = same_len i;
  digits = refilled a.len a.digits s.room s.len s.zeros i;
}
  where
    same_len : length (take a.len a.digits) ≡ a.len
    same_len = length-take a.len a.digits ∙ omega (arith, s.room, s.len)

-- a code's digits, and then the zeros of an array that they were copied into
pub stored : (head : ℕ) (digits : List ℕ) → IsCode (record { head = head; digits = digits }) → IsStored (record { head = head; len = length digits; digits = digits ++ drop (length digits) (replicate MAX_DIGITS 0) })
stored head digits valid =
    let zeros : drop (length digits) (replicate MAX_DIGITS 0) ≡ zeros_after digits = drop-replicate (length digits) MAX_DIGITS 0 in
    let front : take (length digits) (digits ++ drop (length digits) (replicate MAX_DIGITS 0)) ≡ digits = take-append_seam digits _ in
    record {
      valid = subst (λ ds. IsCode (record { head = head; digits = ds })) (sym front) valid;
      room = length-append digits (drop (length digits) (replicate MAX_DIGITS 0)) ∙ ap (λ n. length digits + n) (ap (length {A = ℕ}) zeros ∙ length-replicate (MAX_DIGITS - length digits) 0) ∙ omega (arith, valid.len);
      len = valid.len;
      zeros = drop-append_seam digits _ ∙ zeros;
    }
