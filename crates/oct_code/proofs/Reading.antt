-- What a code's parts, read or compared one by one, say of the code.
use Rattle.std.proofs.Common.{arith, ◌≡◌, ◌⊎◌, ◌==◌, ℕ, suc, ◌-◌, ◌≤◌, Bool, false, not, if◌then◌else◌, nat_lt, inl, inr, List, [], ◌∷◌, ◌++◌, length, replicate, Option, Some, None, refl, sym, ap, ap₂, ◌∙◌, slice_index, length-take}
use Rattle.std.proofs.lemmas.List.{get_or_default, get_or_past}
use Rattle.std.specs.Borrow.{Bor}
use Rattle.std.specs.Cmp.{nat_cmp_total, tied_itself}
use Rattle.std.specs.Cmp.Lexicographic.{slice_cmp, lists_total}
use Rattle.std.specs.FinSet.{nat_cmp-IsAntisymmetric}
use Rattle.std.specs.Option.{option_copied, unwrap_or}
use Rattle.std.specs.Ordering.{nat_cmp, ordering_then}
use Rattle.std.specs.Slice.{IsItemAt}
use Rattle.std.specs.declared.cmp.Ordering.{Ordering}
use Rattle.std.specs.declared.cmp.Ordering.TheVariants.{Less, Equal, Greater}
use Rattle.oct_code.specs.Code.{Code, len, digit, code_cmp}
use Rattle.oct_code.specs.CodeOrder.{both_tie}
use Rattle.oct_code.specs.Fields.{IsStored, code_of, zeros_after, fields_of-code_of}
use Rattle.oct_code.specs.TextFaults.{is_head_byte, are_digit_bytes, trimmed, parts_fault}
use Rattle.oct_code.specs.declared.code.Code.TheInside.{Inside}
use Rattle.oct_code.specs.declared.error.CodeError.{CodeError}
use Rattle.oct_code.specs.declared.error.CodeError.TheVariants.{Head, Digit, Long}
use Rattle.oct_code.specs.declared.limits.TheConstants.{MAX_DIGITS}

-- ---- digits

pub digit_first : (c : Code) (head r : ℕ) → head ≡ c.head → (1 ≤ r → ⊥) → head ≡ digit c r
digit_first c head r is none = let first : 0 ≡ r = omega (arith, none) in is ∙ ap (digit c) first

read_or : (digits : List ℕ) (place : ℕ) (item : Option (Bor ℕ)) → IsItemAt digits place item → unwrap_or (option_copied item) 0 ≡ slice_index digits place
read_or digits place None lent = sym (get_or_past digits place 0 (omega (arith, lent.3)))
read_or digits place (Some x) lent = lent.1 ∙ get_or_default digits place x.now 0 lent.3.0

pub digit_after : (c : Code) (digits : List ℕ) (r place d : ℕ) (item : Option (Bor ℕ)) (o : Option ℕ) → (1 ≤ r) × (place ≡ r - 1)
    → digits ≡ c.digits → IsItemAt digits place item → o ≡ option_copied item → d ≡ unwrap_or o 0 → d ≡ digit c r
digit_after c digits r place d item o at same lent copied given =
    let next : suc place ≡ r = omega (arith, at.0, at.1) in
    given ∙ ap (λ o. unwrap_or o 0) copied ∙ read_or digits place item lent ∙ ap (λ ds. slice_index ds place) same ∙ ap (digit c) next

-- ---- the order

ties : (a b o : Ordering) → ordering_then a b ≡ Equal → o ≡ ordering_then a (ordering_then b o)
ties a b o tie = let both = both_tie a b tie in sym (ap₂ (λ x y. ordering_then x (ordering_then y o)) both.0 both.1)

differs : (a b o : Ordering) → (ordering_then a b ≡ Equal → ⊥) → ordering_then a b ≡ ordering_then a (ordering_then b o)
differs Less b o apart = refl
differs Greater b o apart = refl
differs Equal Less o apart = refl
differs Equal Greater o apart = refl
differs Equal Equal o apart = absurd (apart refl)

-- of lists that are as long, what follows both of them decides nothing
appended : (xs ys zs : List ℕ) → length xs ≡ length ys → slice_cmp nat_cmp (xs ++ zs) (ys ++ zs) ≡ slice_cmp nat_cmp xs ys
appended [] [] zs same = tied_itself (lists_total nat_cmp_total) zs
appended [] (y ∷ ys) zs same = absurd (omega (arith, same))
appended (x ∷ xs) [] zs same = absurd (omega (arith, same))
appended (x ∷ xs) (y ∷ ys) zs same = ap (ordering_then (nat_cmp x y)) (appended xs ys zs (omega (arith, same)))

stored_len : (s : Inside) (c : Code) → IsStored s → code_of s ≡ c → s.len ≡ len c
stored_len s c stored is = sym (length-take s.len s.digits ∙ omega (arith, stored.len, stored.room)) ∙ ap len is

stored_digits : (s : Inside) (c : Code) → IsStored s → code_of s ≡ c → s.digits ≡ c.digits ++ zeros_after c.digits
stored_digits s c stored is = ap (λ (a : Inside). a.digits) (sym (fields_of-code_of s stored)) ∙ ap (λ (k : Code). k.digits ++ zeros_after k.digits) is

module _ (s t : Inside) (c d : Code) (first : IsStored s) (second : IsStored t) (is : code_of s ≡ c) (other : code_of t ≡ d) where
  heads : nat_cmp s.head t.head ≡ nat_cmp c.head d.head
  heads = ap₂ nat_cmp (ap (λ (k : Code). k.head) is) (ap (λ (k : Code). k.head) other)

  lens : nat_cmp s.len t.len ≡ nat_cmp (len c) (len d)
  lens = ap₂ nat_cmp (stored_len s c first is) (stored_len t d second other)

  same : (o : Ordering) → ordering_then (nat_cmp s.head t.head) (ordering_then (nat_cmp s.len t.len) o) ≡ ordering_then (nat_cmp c.head d.head) (ordering_then (nat_cmp (len c) (len d)) o)
  same o = ap₂ (λ x y. ordering_then x (ordering_then y o)) heads lens

  arrays : s.len ≡ t.len → slice_cmp nat_cmp s.digits t.digits ≡ slice_cmp nat_cmp c.digits d.digits
  arrays same_len =
      let lengths : len c ≡ len d = sym (stored_len s c first is) ∙ same_len ∙ stored_len t d second other in
      let zeros : zeros_after d.digits ≡ zeros_after c.digits = ap (λ n. replicate (MAX_DIGITS - n) 0) (sym lengths) in
      ap₂ (slice_cmp nat_cmp) (stored_digits s c first is) (stored_digits t d second other ∙ ap (λ l. d.digits ++ l) zeros) ∙ appended c.digits d.digits (zeros_after c.digits) lengths

  -- where head and number are the same, the digits decide, and so do their arrays
  pub cmp_ties : ordering_then (nat_cmp s.head t.head) (nat_cmp s.len t.len) ≡ Equal → slice_cmp nat_cmp s.digits t.digits ≡ code_cmp c d
  cmp_ties tie = arrays (nat_cmp-IsAntisymmetric s.len t.len (both_tie (nat_cmp s.head t.head) _ tie).1) ∙ ties _ _ _ tie ∙ same _

  -- elsewhere they decide
  pub cmp_differs : (ordering_then (nat_cmp s.head t.head) (nat_cmp s.len t.len) ≡ Equal → ⊥) → ordering_then (nat_cmp s.head t.head) (nat_cmp s.len t.len) ≡ code_cmp c d
  cmp_differs apart = differs (nat_cmp s.head t.head) (nat_cmp s.len t.len) (slice_cmp nat_cmp c.digits d.digits) apart ∙ same _

-- ---- faults of a text

-- bytes after a head that one of them is no digit of
pub digit_refused : (head : ℕ) (bytes : List ℕ) → false ≡ (length bytes == 0) → (head ≡ 48) ⊎ (head ≡ 52) → false ≡ are_digit_bytes bytes → Some Digit ≡ parts_fault head bytes
digit_refused head [] some is refused = cc
digit_refused head (b ∷ bytes) some is refused =
    let fault_of : ℕ → Bool → Option CodeError = λ h octal. if not (is_head_byte h) then Some Head else (if not octal then Some Digit else (if nat_lt MAX_DIGITS (length (trimmed (b ∷ bytes))) then Some Long else None)) in
    elim is [
      | inl zero ↦ ap₂ fault_of (sym zero) refused
      | inr four ↦ ap₂ fault_of (sym four) refused
    ]
