-- What byte strings spell is what reading them gives.
use Rattle.std.proofs.Common.{◌≡◌, ◌↔◌, ℕ, zero, suc, ◌<◌, true, List, [], ◌∷◌, length, slice_index_or, Option, Some, None, inl, inr, refl, sym, ap, subst, ◌∙◌, arith}
use Rattle.std.specs.List.{All, AllByRecursion}
use Rattle.std.specs.Cmp.{both_ways}
use Rattle.std.proofs.lemmas.Bool.{or_cases, or_left, or_right, false≢true}
use Rattle.std.proofs.lemmas.List.Elements.{recursion_from_All}
use Rattle.oct_ops.specs.Body.{Operation}
use Rattle.oct_ops.specs.Operations.{Operations, contains, listed}
use Rattle.oct_ops.specs.OrderLaws.{op_cmp_total, op_cmp_exact}
use Rattle.oct_ops.specs.SetLaws.{contains-empty, contains-union, listed-set_of, same_set, set_of-listed}
use Rattle.oct_delta.specs.Bytes.{IsBytes}
use Rattle.oct_delta.specs.Decoding.{read_delta}
use Rattle.oct_delta.specs.Delta.{IsDeltaText}
use Rattle.oct_delta.specs.Spelling.{IsNoText, IsSpelledIn, SpellTogether, Spells}
use Rattle.oct_delta.specs.Taken.{operations_of, operations_of_all, set_of_read}
use Rattle.oct_delta.specs.Text.{Bytes}
use Rattle.oct_delta.proofs.Deltas.{read_none, reads, text_rising}

-- ---- one string

taken_read : (bytes : Bytes) (read : Option (List Operation)) → read_delta bytes ≡ read → operations_of bytes ≡ set_of_read read
taken_read bytes read is = ap set_of_read is

spelled_taken : (bytes : Bytes) (ops : Operations) → IsBytes bytes → Spells bytes ops → ops ≡ operations_of bytes
spelled_taken bytes ops are (inl text) = sym (taken_read bytes (Some (listed ops)) ((reads bytes (listed ops) are).1 text) ∙ set_of-listed op_cmp_total op_cmp_exact ops)
spelled_taken bytes ops are (inr none) = none.1 ∙ sym (taken_read bytes None (read_none (λ b o a. reads b o a) bytes are none.0))

taken_spelled : (bytes : Bytes) (ops : Operations) → IsBytes bytes → ops ≡ operations_of bytes → Spells bytes ops
taken_spelled bytes ops are is = by (read_delta bytes) refl
  where
    by : (read : Option (List Operation)) → read_delta bytes ≡ read → Spells bytes ops
    by None h = inr (unread, is ∙ taken_read bytes None h)
      where
        unread : IsNoText bytes
        unread list text = let both : None ≡ Some list = sym h ∙ (reads bytes list are).1 text in cc
    by (Some list) h =
        let text = (reads bytes list are).0 h in
        inl (subst (IsDeltaText bytes) (sym (ap listed (is ∙ taken_read bytes (Some list) h) ∙ listed-set_of op_cmp_total op_cmp_exact list (text_rising bytes list text))) text)

pub spells_one : (bytes : Bytes) (ops : Operations) → IsBytes bytes → Spells bytes ops ↔ (ops ≡ operations_of bytes)
spells_one bytes ops are = (spelled_taken bytes ops are, taken_spelled bytes ops are)

-- ---- several

first_spells : (bytes : Bytes) (rest : List Bytes) (o : Operation) → IsBytes bytes → contains (operations_of bytes) o ≡ true → IsSpelledIn (bytes ∷ rest) o
first_spells bytes rest o are held = record {
  bytes = bytes;
  among = (0, (omega arith, refl));
  ops = operations_of bytes;
  spells = taken_spelled bytes (operations_of bytes) are refl;
  held = held;
}

later_spells : (bytes : Bytes) (rest : List Bytes) (o : Operation) → IsSpelledIn rest o → IsSpelledIn (bytes ∷ rest) o
later_spells bytes rest o s = record {
  bytes = s.bytes;
  among = (suc s.among.0, (omega (arith, s.among.1.0), s.among.1.1));
  ops = s.ops;
  spells = s.spells;
  held = s.held;
}

all_spelled : (strings : List Bytes) (o : Operation) → AllByRecursion IsBytes strings → contains (operations_of_all strings) o ≡ true → IsSpelledIn strings o
all_spelled [] o are h = absurd (false≢true (sym (contains-empty op_cmp_total op_cmp_exact o) ∙ h))
all_spelled (bytes ∷ rest) o are h = elim (or_cases (contains (operations_of bytes) o) (contains (operations_of_all rest) o) (sym (contains-union op_cmp_total op_cmp_exact (operations_of bytes) (operations_of_all rest) o) ∙ h)) [
  | inl here ↦ first_spells bytes rest o are.0 here
  | inr later ↦ later_spells bytes rest o (all_spelled rest o are.1 later)
]

spelled_all : (strings : List Bytes) (bytes : Bytes) (i : ℕ) (o : Operation) (ops : Operations) → AllByRecursion IsBytes strings → i < length strings → bytes ≡ slice_index_or strings i bytes
    → Spells bytes ops → contains ops o ≡ true → contains (operations_of_all strings) o ≡ true
spelled_all [] bytes i o ops are within is spells held = absurd (omega (arith, within))
spelled_all (first ∷ rest) bytes zero o ops are within is spells held =
    let same : ops ≡ operations_of first = spelled_taken first ops are.0 (subst (λ (b : Bytes). Spells b ops) is spells) in
    contains-union op_cmp_total op_cmp_exact (operations_of first) (operations_of_all rest) o
    ∙ or_left (contains (operations_of first) o) (contains (operations_of_all rest) o) (ap (λ s. contains s o) (sym same) ∙ held)
spelled_all (first ∷ rest) bytes (suc i) o ops are within is spells held =
    contains-union op_cmp_total op_cmp_exact (operations_of first) (operations_of_all rest) o
    ∙ or_right (contains (operations_of first) o) (contains (operations_of_all rest) o) (spelled_all rest bytes i o ops are.1 (omega (arith, within)) is spells held)

pub taken_together : (strings : List Bytes) → All IsBytes strings → SpellTogether strings (operations_of_all strings)
taken_together strings are o =
    let each = recursion_from_All IsBytes strings are in
    (all_spelled strings o each, λ s. spelled_all strings s.bytes s.among.0 o s.ops each s.among.1.0 s.among.1.1 s.spells s.held)

together_taken : (strings : List Bytes) (ops : Operations) → All IsBytes strings → SpellTogether strings ops → ops ≡ operations_of_all strings
together_taken strings ops are spell =
    let taken = taken_together strings are in
    same_set op_cmp_total op_cmp_exact ops (operations_of_all strings)
    (λ o. both_ways (contains ops o) (contains (operations_of_all strings) o) (λ h. (taken o).1 ((spell o).0 h)) (λ h. (spell o).1 ((taken o).0 h)))

pub spell_together : (strings : List Bytes) (ops : Operations) → All IsBytes strings → SpellTogether strings ops ↔ (ops ≡ operations_of_all strings)
spell_together strings ops are = (together_taken strings ops are, λ is. subst (SpellTogether strings) (sym is) (taken_together strings are))
