-- Files that are read one after another.
use Rattle.std.proofs.Common.{◌≡◌, ℕ, ◌+◌, List, ◌∷◌, map, drop, Result, Ok, Err, sym, ap, ◌∙◌}
use Rattle.oct_delta.specs.Text.{Bytes}
use Rattle.oct_ops.specs.Operations.{Operations, union}
use Rattle.census_fold.specs.Digests.{operations_in}
use Rattle.census_fold.specs.Reading.{held_onto}
use Rattle.census_state.specs.Steps.{◌>>=◌}
use Rattle.census_state.specs.declared.fault.Fault.{Fault}

module _ {V : Type 0} (bytes_of : V → Bytes) (files : List V) (i : ℕ) (file : V) (splits : drop i files ≡ file ∷ drop (i + 1) files) (ops : Operations) where
  split : held_onto ops (map bytes_of (drop i files)) ≡ (operations_in (bytes_of file) >>= λ more. held_onto (union ops more) (map bytes_of (drop (i + 1) files)))
  split = ap (λ fs. held_onto ops (map bytes_of fs)) splits

  -- the next file is read
  pub read_next : (bytes : Bytes) (held more : Operations) (total : Result Operations Fault) → bytes ≡ bytes_of file → operations_in bytes ≡ Ok held → more ≡ union ops held
      → held_onto ops (map bytes_of (drop i files)) ≡ total → held_onto more (map bytes_of (drop (i + 1) files)) ≡ total
  read_next bytes held more total same read is all =
      ap (λ s. held_onto s (map bytes_of (drop (i + 1) files))) is
      ∙ sym (split ∙ ap (λ b. operations_in b >>= λ m. held_onto (union ops m) (map bytes_of (drop (i + 1) files))) (sym same)
      ∙ ap (λ r. r >>= λ m. held_onto (union ops m) (map bytes_of (drop (i + 1) files))) read)
      ∙ all

  -- it is refused
  pub not_read_next : (bytes : Bytes) (e : Fault) (total : Result Operations Fault) → bytes ≡ bytes_of file → operations_in bytes ≡ Err e
      → held_onto ops (map bytes_of (drop i files)) ≡ total → total ≡ Err e
  not_read_next bytes e total same read all =
      sym all ∙ split ∙ ap (λ b. operations_in b >>= λ m. held_onto (union ops m) (map bytes_of (drop (i + 1) files))) (sym same)
      ∙ ap (λ r. r >>= λ m. held_onto (union ops m) (map bytes_of (drop (i + 1) files))) read
