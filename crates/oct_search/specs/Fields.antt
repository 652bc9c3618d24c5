-- `Search` as its fields hold it.
use Rattle.std.specs.Prelude.{IfSome}
use Rattle.oct_search.specs.BySets.{AreSetsOf}
use Rattle.oct_search.specs.Cells.{IsKnown, len_of}
use Rattle.oct_search.specs.Certain.{IsCertain}
use Rattle.oct_search.specs.Known.{Known}
use Rattle.oct_search.specs.declared.search.Search.TheInside.{Inside}

abbrev pub known_of : {A : Type 0} → Inside A → Known
known_of s = record { code = s.code; len = len_of s.cells }

pub record IsStored {A : Type 0} (s : Inside A) : Type 0 where
  pub known : IsKnown s.code s.cells
  pub certain : IfSome s.outlook.certain (IsCertain s.code (len_of s.cells))
  pub sets : IfSome s.finder.sets (AreSetsOf s.code (len_of s.cells))
