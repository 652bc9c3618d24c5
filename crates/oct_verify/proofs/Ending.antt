-- Where a block ends.
use Rattle.std.proofs.Common.{◌≡◌, ◌+◌, ◌≤◌, true, false, ◌==◌, nat_lt, if◌then◌else◌, length, None, Some, refl, inl, inr}
use Rattle.std.proofs.lemmas.Bool.{cases_lt, lt-ltb}
use Rattle.oct_ops.specs.Faults.{block_fault}
use Rattle.oct_ops.specs.Operation.{Block}
use Rattle.oct_ops.specs.Valid.{IsBlock}
use Rattle.oct_ops.specs.declared.error.BlockError.TheVariants.{Empty, TooMany, PastLimit}
use Rattle.oct_verify.specs.Known.{end}

faultless : (b : Block) → block_fault b ≡ None → nat_lt 65536 (b.start + length b.values) ≡ false
faultless b = elim (length b.values == 0) as (λ x. (if x then Some Empty else (if nat_lt 1024 (length b.values) then Some TooMany else (if nat_lt 65536 (b.start + length b.values) then Some PastLimit else None))) ≡ None → nat_lt 65536 (b.start + length b.values) ≡ false) [
  | true ↦ λ e. cc
  | false ↦ elim (nat_lt 1024 (length b.values)) as (λ y. (if y then Some TooMany else (if nat_lt 65536 (b.start + length b.values) then Some PastLimit else None)) ≡ None → nat_lt 65536 (b.start + length b.values) ≡ false) [
    | true ↦ λ e. cc
    | false ↦ elim (nat_lt 65536 (b.start + length b.values)) as (λ z. (if z then Some PastLimit else None) ≡ None → z ≡ false) [
      | true ↦ λ e. cc
      | false ↦ λ e. refl
    ]
  ]
]

-- a block ends at or below the limit
pub ends_within : (b : Block) → IsBlock b → end b ≤ 65536
ends_within b valid = elim (cases_lt 65536 (end b)) [
  | inl past ↦ let e = faultless b valid.faultless in let f = lt-ltb 65536 (end b) past in cc
  | inr upto ↦ upto
]
