-- What holds of b-files.
use Rattle.std.specs.Prelude.{◌≡◌, ◌≢◌, ◌≤◌, ◌<◌, ◌^◌, ℕ, List, [], length, Ok}
use Rattle.std.specs.List.{AllByRecursion}
use Rattle.oct_code.specs.declared.limits.TheConstants.{LIMIT}
use Rattle.oct_bfile.specs.Bfile.{bfile_of, bfile_text}

-- the b-file of values lists them from number 0 on, where there is a value and none is too large
abbrev pub WrittenReadsBack : Type 0
WrittenReadsBack = (values : List ℕ) → values ≢ [] → length values ≤ LIMIT → AllByRecursion (λ v. v < 2 ^ 32) values → bfile_of (bfile_text values) ≡ Ok (record { start = 0; values = values })
