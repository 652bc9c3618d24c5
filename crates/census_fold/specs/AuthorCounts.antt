-- How many authors a set has, and when they are too many.
use Rattle.std.specs.Prelude.{ℕ, ◌-◌, ◌&&◌, nat_lt, length, Option, Some, None, if◌then◌else◌}
use Rattle.oct_join.specs.Clock.{entries}
use Rattle.oct_ops.specs.Operations.{Operations, listed}
use Rattle.oct_store.specs.Summary.{authors, clock_of}
use Rattle.oct_sync.specs.Session.{max_authors}
use Rattle.census_state.specs.declared.fault.Fault.{Fault}
use Rattle.census_state.specs.declared.fault.Fault.TheVariants.{Authors}

-- how many authors have an operation in the set
abbrev pub author_count : Operations → ℕ
author_count ops = length (authors (listed ops))

-- a set that had so many authors before has more by now, and more than it may have
abbrev pub authors_fault : ℕ → ℕ → Operations → Option Fault
authors_fault before most ops =
    let count = author_count ops in
    if nat_lt before count && nat_lt most count then Some (Authors count most) else None

-- how many authors of the set's clock a session leaves out, since it cuts it
abbrev pub authors_cut : Operations → ℕ
authors_cut ops = length (entries (clock_of (listed ops))) - max_authors
