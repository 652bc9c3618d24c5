-- The block that a JSON value spells, or the value's first fault.
use Rattle.std.specs.Prelude.{ℕ, ◌+◌, ◌^◌, ◌==◌, nat_lt, List, [], ◌∷◌, codes, Option, Some, None, option_and_then, Result, Ok, Err, if◌then◌else◌}
use Rattle.std.specs.Result.{result_ok}
use Rattle.oct_code.specs.Code.{Code}
use Rattle.oct_ops.specs.Faults.{block_fault}
use Rattle.oct_ops.specs.Operation.{Block, claimed}
use Rattle.oct_ops.specs.declared.error.BlockError.{BlockError}
use Rattle.serde_json.specs.Data.{Data, null, boolean, number, string, array, object, Items, no_items, item, Members, no_members, member}
use Rattle.serde_json.specs.Find.{get, as_array, as_number, as_str, as_u64}
use Rattle.census_state.specs.Codes.{read_code}
use Rattle.census_state.specs.Refusals.{import_error}
use Rattle.census_state.specs.Steps.{◌>>=◌, found}
use Rattle.census_state.specs.declared.import_error.ImportError.{ImportError}
use Rattle.census_state.specs.declared.import_error.ImportError.TheVariants as import

-- what the three keys of a block's object lead to
pub record Fields : Type 0 where
  pub code : Data
  pub start : Data
  pub values : Data

abbrev pub members_count : Members → ℕ
members_count no_members = 0
members_count (member k d ms) = 1 + members_count ms

-- how many members an object has
abbrev pub size_of : Data → ℕ
size_of null = 0
size_of (boolean b) = 0
size_of (number n) = 0
size_of (string s) = 0
size_of (array ds) = 0
size_of (object ms) = members_count ms

abbrev pub fields_at : Option Data → Option Data → Option Data → Option Fields
fields_at None start values = None
fields_at (Some code) None values = None
fields_at (Some code) (Some start) None = None
fields_at (Some code) (Some start) (Some values) = Some (record { code = code; start = start; values = values })

-- those of an object with exactly the keys `code`, `start` and `values`
abbrev pub fields_of : Data → Option Fields
fields_of d = if size_of d == 3 then fields_at (get (codes "code") d) (get (codes "start") d) (get (codes "values") d) else None

-- the code that a text spells
abbrev pub code_in : Data → Option Code
code_in d = option_and_then (λ text. result_ok (read_code text)) (as_str d)

-- a whole number below 2^32
abbrev pub in_range : ℕ → Option ℕ
in_range n = if nat_lt n (2 ^ 32) then Some n else None

abbrev pub whole : Data → Option ℕ
whole d = option_and_then in_range (option_and_then as_u64 (as_number d))

abbrev pub cons_if : Option ℕ → Option (List ℕ) → Option (List ℕ)
cons_if None rest = None
cons_if (Some n) None = None
cons_if (Some n) (Some ns) = Some (n ∷ ns)

-- each item as a whole number, if each is one
abbrev pub wholes : Items → Option (List ℕ)
wholes no_items = Some []
wholes (item d ds) = cons_if (whole d) (wholes ds)

-- the numbers of an array
abbrev pub values_in : Data → Option (List ℕ)
values_in d = option_and_then wholes (as_array d)

-- the block, where it has no fault
abbrev pub checked_by : Option BlockError → Block → Result Block ImportError
checked_by None b = Ok b
checked_by (Some fault) b = Err (import_error fault)

abbrev pub checked : Block → Result Block ImportError
checked b = checked_by (block_fault b) b

abbrev pub imported : Data → Result Block ImportError
imported d = do
  fields ← found import.Shape (fields_of d)
  code ← found import.Code (code_in fields.code)
  start ← found import.Start (whole fields.start)
  values ← found import.Values (values_in fields.values)
  checked (claimed code start values)
