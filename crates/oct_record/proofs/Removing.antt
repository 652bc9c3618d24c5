-- What keeps the dots of a name's live notes from being a removal.
use Rattle.std.proofs.Common.{◌≡◌, ℕ, Bool, true, false, not, ◌&&◌, cond, List, Option, Some, None, eqb, length, ltb, map, refl, sym, ap, ◌∙◌}
use Rattle.std.specs.List.{filter}
use Rattle.oct_ops.specs.Body.{Operation}
use Rattle.oct_ops.specs.DotOrder.{dot_cmp}
use Rattle.oct_ops.specs.Faults as ops
use Rattle.oct_ops.specs.Operation.{Dot, removing}
use Rattle.oct_ops.specs.Operations.{Operations, listed}
use Rattle.oct_ops.specs.OrderLaws.{dot_cmp_total, dot_cmp_exact}
use Rattle.oct_ops.specs.SetLaws.{listed-arranged, listed-rises}
use Rattle.oct_ops.specs.Sets.{rises, set_of}
use Rattle.oct_ops.specs.declared.limits.TheConstants.{MAX_ITEMS}
use Rattle.oct_ops.specs.declared.error.RemovalError as list
use Rattle.oct_ops.specs.declared.error.RemovalError.TheVariants as fault
use Rattle.oct_notes.specs.Notes.{is_live, is_named, live_dots, notes_of}
use Rattle.oct_notes.proofs.Kept.{live_dots-of}
use Rattle.oct_record.specs.Removals.{removal_fault}
use Rattle.oct_record.specs.declared.error.RemovalError.{RemovalError}
use Rattle.oct_record.specs.declared.error.RemovalError.TheVariants.{NoNote, TooMany}

-- the dots of the notes that are kept are those of the set
pub dots_are : (ops held : Operations) (name : List ℕ) → held ≡ notes_of ops → live_dots (listed held) name ≡ live_dots (listed ops) name
dots_are ops held name kept = ap (λ s. live_dots (listed s) name) kept ∙ live_dots-of ops name

pub dots_rise : (rows : List Operation) (name : List ℕ) → rises dot_cmp (live_dots rows name) ≡ true
dots_rise rows name =
    let dots = map (λ (o : Operation). o.dot) (filter (λ o. is_live rows o && is_named name o) rows) in
    ap (rises dot_cmp) (sym (listed-arranged dot_cmp_total dot_cmp_exact dots)) ∙ listed-rises dot_cmp (set_of dots)

-- ---- faults, by what the tests say: no dots, too many of them, and whether they rise

abbrev of_list : Bool → Bool → Bool → Option list.RemovalError
of_list none many rising = cond none (Some fault.Empty) (cond many (Some fault.TooMany) (cond (not rising) (Some fault.NotRising) None))

abbrev of_dots : Bool → Bool → Option RemovalError
of_dots none many = cond none (Some NoNote) (cond many (Some TooMany) None)

no_fault : (none many rising : Bool) → of_list none many rising ≡ None → of_dots none many ≡ None
no_fault true many rising h = cc
no_fault false true rising h = cc
no_fault false false rising h = refl

empty : (none many rising : Bool) → of_list none many rising ≡ Some fault.Empty → of_dots none many ≡ Some NoNote
empty true many rising h = refl
empty false true rising h = cc
empty false false true h = cc
empty false false false h = cc

too_many : (none many rising : Bool) → of_list none many rising ≡ Some fault.TooMany → of_dots none many ≡ Some TooMany
too_many true many rising h = cc
too_many false true rising h = refl
too_many false false true h = cc
too_many false false false h = cc

rising_no_fault : (none many rising : Bool) → rising ≡ true → of_list none many rising ≡ Some fault.NotRising → ⊥
rising_no_fault true many rising e h = cc
rising_no_fault false true rising e h = cc
rising_no_fault false false true e h = cc
rising_no_fault false false false e h = cc

module _ (dots : List Dot) where
  pub dots_no_fault : ops.removal_fault (removing dots) ≡ None → removal_fault dots ≡ None
  dots_no_fault = no_fault (eqb (length dots) 0) (ltb MAX_ITEMS (length dots)) (rises dot_cmp dots)

  pub dots_empty : ops.removal_fault (removing dots) ≡ Some fault.Empty → removal_fault dots ≡ Some NoNote
  dots_empty = empty (eqb (length dots) 0) (ltb MAX_ITEMS (length dots)) (rises dot_cmp dots)

  pub dots_too_many : ops.removal_fault (removing dots) ≡ Some fault.TooMany → removal_fault dots ≡ Some TooMany
  dots_too_many = too_many (eqb (length dots) 0) (ltb MAX_ITEMS (length dots)) (rises dot_cmp dots)

  pub dots_no_fall : rises dot_cmp dots ≡ true → ops.removal_fault (removing dots) ≡ Some fault.NotRising → ⊥
  dots_no_fall = rising_no_fault (eqb (length dots) 0) (ltb MAX_ITEMS (length dots)) (rises dot_cmp dots)
