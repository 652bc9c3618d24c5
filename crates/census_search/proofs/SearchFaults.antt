-- What a refusal of a search says of the game.
use Rattle.std.proofs.Common.{◌≡◌, ℕ, ◌^◌, ◌<◌, ◌≤◌, refl}
use Rattle.census_search.specs.Searching.{IsSearchFault}
use Rattle.census_state.specs.Refusals.{search_fault}
use Rattle.oct_code.specs.Code.{Code}
use Rattle.oct_mex.specs.NimValues.{nim_value}
use Rattle.oct_search.specs.declared.error.SearchError.{SearchError}
use Rattle.oct_search.specs.declared.error.SearchError.TheVariants.{OutOfMemory, PastValue}

-- where a value is too great, its heap is below the count
pub of_search : (c : Code) (count heap : ℕ) (e : SearchError) → heap < count → (e ≡ PastValue → 2 ^ 16 ≤ nim_value c heap) → IsSearchFault c count (search_fault e)
of_search c count heap PastValue within great = record { heap = heap; within = within; great = great refl }
of_search c count heap OutOfMemory within great = tt
