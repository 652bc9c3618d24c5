-- A period that is found as it was said holds.
use Rattle.std.proofs.Common.{◌≡◌, ℕ, ◌==◌, true, false, Option, Some, None, sym, subst, eqb-true}
use Rattle.std.proofs.lemmas.Bool.{and_parts}
use Rattle.oct_code.specs.Code.{Code}
use Rattle.oct_mex.specs.Periods.{IsPeriodicFrom}
use Rattle.oct_mex.specs.declared.period.SeenPeriod.{SeenPeriod}
use Rattle.oct_search.specs.Found.{IsFound}
use Rattle.oct_text.specs.Words.{Text}
use Rattle.oct_window.specs.Repeats.{IsLeastPeriod, ShownPeriodsAreLeast}
use Rattle.census_noted.specs.Laws.{WhatIsSoHolds, WhatIsSoIsLeast}
use Rattle.census_noted.specs.Rechecking.{IsRecheckedBy, IsSaidBy, is_same, needed}

holds : (c : Code) (values : ℕ) (said : SeenPeriod) (found : Option SeenPeriod) → IsFound c values found → true ≡ is_same found said → IsPeriodicFrom c said.start said.period
holds c values said None least so = cc
holds c values said (Some seen) least so =
    let both = and_parts (seen.start == said.start) (seen.period == said.period) (sym so) in
    subst (λ start. IsPeriodicFrom c start said.period) (eqb-true seen.start said.start both.0)
    (subst (λ period. IsPeriodicFrom c seen.start period) (eqb-true seen.period said.period both.1) least.holds)

pub what_is_so_holds : WhatIsSoHolds
what_is_so_holds c count said line s = holds c s.values said s.found s.least s.so

-- ---- and it is the least

module _ (are_least : ShownPeriodsAreLeast) where
  found_least : (c : Code) (values : ℕ) (said : SeenPeriod) (found : Option SeenPeriod) → IsFound c values found → true ≡ is_same found said → IsLeastPeriod c said
  found_least c values said None least so = cc
  found_least c values said (Some seen) least so =
      let both = and_parts (seen.start == said.start) (seen.period == said.period) (sym so) in
      let start : seen.start ≡ said.start = eqb-true seen.start said.start both.0 in
      let period : seen.period ≡ said.period = eqb-true seen.period said.period both.1 in
      let same : seen ≡ said = λ i. record { start = start i; period = period i } in
      subst (IsLeastPeriod c) same (are_least c values seen least.shown least.earliest least.least least.holds)

  rechecked_least : (c : Code) (said : SeenPeriod) (count : Option ℕ) (line : Text) → IsRecheckedBy c said count true line → IsLeastPeriod c said
  rechecked_least c said None line s = let no : true ≡ false = s.0 in cc
  rechecked_least c said (Some count) line s = found_least c s.values said s.found s.least s.so

  pub what_is_so_is_least : WhatIsSoIsLeast
  what_is_so_is_least note said line s is =
      let its : IsSaidBy note (Some said) true line = subst (λ (o : Option SeenPeriod). IsSaidBy note o true line) is s in
      rechecked_least note.code said (needed note.code said) line its
