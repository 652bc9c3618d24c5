-- What live notes say that views show: the names of authors, what is withdrawn, and the long periods of games.
use Rattle.std.specs.Prelude.{◌≡◌, ℕ, List}
use Rattle.std.specs.BTreeMap.{BTreeMap}
use Rattle.std.specs.List.{list_any}
use Rattle.std.specs.Ordering.{eq_by_cmp}
use Rattle.std.specs.Str.{IsAscii}
use Rattle.oct_code.specs.Code.{Code}
use Rattle.oct_ops.specs.Body.{Operation}
use Rattle.oct_ops.specs.DotOrder.{dot_cmp}
use Rattle.oct_ops.specs.Operation.{Dot}
use Rattle.oct_said.specs.Dots.{is_withdrawn}
use Rattle.oct_said.specs.Noting.{said_of}
use Rattle.oct_said.specs.Said.{said_in}
use Rattle.oct_said.specs.declared.noting.LongPeriod.{LongPeriod}
use Rattle.oct_text.specs.Words.{Text}
use Rattle.oct_sheet.specs.Names.{author_name, name_in}

-- the tables have what these notes say
pub record HasRemarks {R S : Type 0} (text : R → Text) (periods : S → List LongPeriod) (called : BTreeMap ℕ R) (dots : List Dot) (long : BTreeMap Code S) (notes : List Operation) : Type 0 where
  pub names : (author : ℕ) → name_in text called author ≡ author_name notes author
  pub ascii : (author : ℕ) → IsAscii (name_in text called author)
  pub withdrawn : (d : Dot) → list_any (eq_by_cmp dot_cmp d) dots ≡ is_withdrawn notes d
  pub said : (c : Code) → said_in periods long c ≡ said_of notes c
