-- Sets of notes and removals: what is put in, taken out or joined leaves one.
use Rattle.std.proofs.Common.{◌≡◌, true, false, not, ◌||◌, List, [], ◌∷◌, refl, sym, ap, subst, ◌∙◌}
use mathlib.Core.Logic.{inl, inr}
use Rattle.std.specs.Prelude.{Result, Ok, Err, OnOk, OnErr}
use Rattle.std.specs.List.{list_any, list_all}
use Rattle.std.specs.Ordering.{eq_by_cmp, is_eq}
use Rattle.std.specs.Cmp.{Equal-is, tied_itself, first_so, second_so}
use Rattle.std.proofs.lemmas.Bool.{and_from, or_cases, or_right}
use Rattle.oct_ops.specs.Body.{Operation}
use Rattle.oct_ops.specs.Operations.{Operations, contains, empty, insert, listed, remove, union, IsSubset}
use Rattle.oct_ops.specs.Order.{op_cmp}
use Rattle.oct_ops.specs.OrderLaws.{op_cmp_total, op_cmp_exact}
use Rattle.oct_ops.specs.SetLaws.{contains-empty, contains-insert, contains-listed, contains-remove, contains-union}
use Rattle.oct_join.specs.Order.{IsBetween}
use Rattle.oct_notes.specs.Notes.{AreNotes, concerns_notes}

-- ---- lists

-- a list of which all that is there is a note or a removal
all_kinds : (ops : List Operation) → ((o : Operation) → list_any (eq_by_cmp op_cmp o) ops ≡ true → concerns_notes o.body ≡ true) → list_all (λ o. concerns_notes o.body) ops ≡ true
all_kinds [] each = refl
all_kinds (p ∷ ops) each = and_from _ _ (each p (ap (λ r. is_eq r || list_any (eq_by_cmp op_cmp p) ops) (tied_itself op_cmp_total p))) (all_kinds ops (λ o later. each o (or_right (eq_by_cmp op_cmp o p) _ later)))

-- an operation that ties is the same
same_kind : (o p : Operation) → eq_by_cmp op_cmp o p ≡ true → concerns_notes p.body ≡ true → concerns_notes o.body ≡ true
same_kind o p tied is = ap (λ (q : Operation). concerns_notes q.body) (op_cmp_exact o p ((Equal-is (op_cmp o p)).0 tied)) ∙ is

kind_of_listed : (ops : List Operation) (o : Operation) → list_all (λ o. concerns_notes o.body) ops ≡ true → list_any (eq_by_cmp op_cmp o) ops ≡ true → concerns_notes o.body ≡ true
kind_of_listed [] o all here = cc
kind_of_listed (p ∷ ops) o all here = elim (or_cases (eq_by_cmp op_cmp o p) (list_any (eq_by_cmp op_cmp o) ops) here) [
  | inl tied ↦ same_kind o p tied (first_so _ _ all)
  | inr later ↦ kind_of_listed ops o (second_so _ _ all) later
]

-- ---- sets

-- what is there is a note or a removal
pub kind_of_held : (s : Operations) (o : Operation) → AreNotes s → contains s o ≡ true → concerns_notes o.body ≡ true
kind_of_held s o notes here = kind_of_listed (listed s) o notes (sym (contains-listed s o) ∙ here)

notes_from : (s : Operations) → ((o : Operation) → contains s o ≡ true → concerns_notes o.body ≡ true) → AreNotes s
notes_from s each = all_kinds (listed s) (λ o here. each o (contains-listed s o ∙ here))

pub notes_within : (s t : Operations) → IsSubset s t → AreNotes t → AreNotes s
notes_within s t subset notes = notes_from s (λ o here. kind_of_held t o notes (subset o here))

pub notes-empty : AreNotes empty
notes-empty = notes_from empty (λ o here. let none : contains empty o ≡ false = contains-empty op_cmp_total op_cmp_exact o in cc)

pub notes-insert : (s : Operations) (o : Operation) → AreNotes s → concerns_notes o.body ≡ true → AreNotes (insert s o)
notes-insert s o notes one = notes_from (insert s o) (λ p here. elim (or_cases (eq_by_cmp op_cmp p o) (contains s p) (sym (contains-insert op_cmp_total op_cmp_exact s o p) ∙ here)) [
  | inl tied ↦ same_kind p o tied one
  | inr there ↦ kind_of_held s p notes there
])

pub notes-remove : (s : Operations) (o : Operation) → AreNotes s → AreNotes (remove s o)
notes-remove s o notes = notes_from (remove s o) (λ p here. kind_of_held s p notes (second_so (not (eq_by_cmp op_cmp p o)) _ (sym (contains-remove op_cmp_total op_cmp_exact s o p) ∙ here)))

pub notes-union : (s t : Operations) → AreNotes s → AreNotes t → AreNotes (union s t)
notes-union s t one other = notes_from (union s t) (λ p here. elim (or_cases (contains s p) (contains t p) (sym (contains-union op_cmp_total op_cmp_exact s t p) ∙ here)) [
  | inl mine ↦ kind_of_held s p one mine
  | inr others ↦ kind_of_held t p other others
])

-- ---- what a call leaves

pub notes_changed : {T E : Type 0} (r : Result T E) (old new changed : Operations) → OnOk r (new ≡ changed) → OnErr r (new ≡ old) → AreNotes old → AreNotes changed → AreNotes new
notes_changed (Ok _) old new changed ok err before after = subst AreNotes (sym ok) after
notes_changed (Err _) old new changed ok err before after = subst AreNotes (sym err) before

pub notes_joined : {T E : Type 0} (r : Result T E) (old new other : Operations) → OnOk r (new ≡ union old other) → OnErr r (IsBetween IsSubset old new (union old other)) → AreNotes old → AreNotes other → AreNotes new
notes_joined (Ok _) old new other ok err mine others = subst AreNotes (sym ok) (notes-union old other mine others)
notes_joined (Err _) old new other ok err mine others = notes_within new (union old other) err.upper (notes-union old other mine others)
