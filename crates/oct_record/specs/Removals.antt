-- What keeps a name's live notes from being taken back by one removal.
use Rattle.std.specs.Prelude.{◌≡◌, ◌==◌, nat_lt, if◌then◌else◌, List, length, Option, Some, None, ⊤}
use Rattle.oct_ops.specs.Operation.{Dot}
use Rattle.oct_ops.specs.declared.limits.TheConstants.{MAX_ITEMS}
use Rattle.oct_record.specs.declared.error.RemovalError.{RemovalError}
use Rattle.oct_record.specs.declared.error.RemovalError.TheVariants as removal

-- why there is no removal of these dots, in this order
abbrev pub removal_fault : List Dot → Option RemovalError
removal_fault dots =
    if length dots == 0 then Some removal.NoNote
    else (if nat_lt MAX_ITEMS (length dots) then Some removal.TooMany
    else None)

-- where a removal of these dots is refused; memory may be refused before the dots are counted
abbrev pub RefusesRemoval : List Dot → RemovalError → Type 0
RefusesRemoval dots removal.NoNote = removal_fault dots ≡ Some removal.NoNote
RefusesRemoval dots removal.TooMany = removal_fault dots ≡ Some removal.TooMany
RefusesRemoval dots removal.OutOfMemory = ⊤
