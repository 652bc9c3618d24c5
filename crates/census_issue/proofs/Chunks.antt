-- Blocks of the values of a b-file, issued one after another.
use Rattle.std.proofs.Common.{◌≡◌, ℕ, suc, ◌+◌, ◌-◌, ◌<◌, ◌≤◌, min, Bool, true, false, List, take, map, length, Some, None, Ok, Err, refl, sym, ap, ◌∙◌, arith, ne_eqb}
use Rattle.std.specs.Prelude.{nat_le, if◌then◌else◌}
use Rattle.std.specs.List.{range_with_len}
use Rattle.std.specs.Option.{option_or}
use Rattle.std.proofs.lemmas.Bool.{le-ltb, leb-false, leb-true}
use Rattle.std.proofs.lemmas.List.{take_all}
use Rattle.oct_code.specs.Code.{Code}
use Rattle.oct_code.specs.declared.limits.TheConstants.{LIMIT}
use Rattle.oct_ops.specs.Body as kind
use Rattle.oct_ops.specs.Faults.{block_fault}
use Rattle.oct_ops.specs.Operation.{Block, Dot, claimed}
use Rattle.oct_ops.specs.declared.error.BlockError.TheVariants as block
use Rattle.oct_ops.specs.declared.limits.TheConstants.{MAX_ITEMS}
use Rattle.oct_record.specs.Content.{RecordContent}
use Rattle.oct_bfile.specs.Bfile.{Bfile}
use Rattle.census_issue.specs.Claiming.{Claimed, block_at, next_dot, with_block, with_blocks}
use Rattle.census_issue.specs.Issuing.{with_body}
use Rattle.census_state.specs.Steps.{◌>>=◌}
use Rattle.census_state.specs.declared.fault.Fault.{Fault}

-- values within the limits are a block
pub block_fits : (c : Code) (start : ℕ) (values : List ℕ) → 1 ≤ length values → length values ≤ MAX_ITEMS → start + length values ≤ LIMIT → block_fault (claimed c start values) ≡ None
block_fits c start values some few within =
    λ i. if ne_eqb (length values) 0 (λ none. omega (arith, some, none)) i then Some block.Empty
    else (if le-ltb MAX_ITEMS (length values) few i then Some block.TooMany
    else (if le-ltb LIMIT (start + length values) within i then Some block.PastLimit
    else None))

module _ (so_far : Claimed) (c : Code) (file : Bfile) (i count : ℕ) where
  -- the blocks from the i-th on
  abbrev pub left : List Block
  left = map (block_at c file) (range_with_len i (count - i))

  abbrev pub later : List Block
  later = map (block_at c file) (range_with_len (i + 1) (count - (i + 1)))

  left-next : i < count → with_blocks so_far left ≡ (with_block so_far (block_at c file i) >>= λ next. with_blocks next later)
  left-next within = let one : count - i ≡ suc (count - (i + 1)) = omega arith in ap (λ n. with_blocks so_far (map (block_at c file) (range_with_len i n))) one

  pub block_issued : (b : Block) (next : RecordContent) (dot : Dot) → i < count → b ≡ block_at c file i → with_body so_far.replica (kind.Block b) ≡ Ok next → dot ≡ next_dot so_far.replica b
      → with_blocks so_far left ≡ with_blocks (record { replica = next; first = option_or so_far.first (Some dot); last = Some dot }) later
  block_issued b next dot within is done dotted =
      left-next within
      ∙ ap (λ d. with_block so_far d >>= λ n. with_blocks n later) (sym is)
      ∙ ap (λ r. r >>= (λ q. Ok (record { replica = q; first = option_or so_far.first (Some (next_dot so_far.replica b)); last = Some (next_dot so_far.replica b) })) >>= λ n. with_blocks n later) done
      ∙ ap (λ d. with_blocks (record { replica = next; first = option_or so_far.first (Some d); last = Some d }) later) (sym dotted)

  pub block_refused : (b : Block) (e : Fault) → i < count → b ≡ block_at c file i → with_body so_far.replica (kind.Block b) ≡ Err e → with_blocks so_far left ≡ Err e
  block_refused b e within is refused =
      left-next within
      ∙ ap (λ d. with_block so_far d >>= λ n. with_blocks n later) (sym is)
      ∙ ap (λ r. r >>= (λ q. Ok (record { replica = q; first = option_or so_far.first (Some (next_dot so_far.replica b)); last = Some (next_dot so_far.replica b) })) >>= λ n. with_blocks n later) refused

  pub all_issued : count ≤ i → with_blocks so_far left ≡ Ok so_far
  all_issued end = let none : count - i ≡ 0 = omega arith in ap (λ n. with_blocks so_far (map (block_at c file) (range_with_len i n))) none

-- as many as there are, and at most m
pub take_least : (xs : List ℕ) (n m : ℕ) → n ≡ min (length xs) m → take n xs ≡ take m xs
take_least xs n m least = by (nat_le (length xs) m) refl
  where
    by : (t : Bool) → nat_le (length xs) m ≡ t → take n xs ≡ take m xs
    by true few =
        let fits : length xs ≤ m = leb-true (length xs) m few in
        take_all n xs (omega (arith, least, fits)) ∙ sym (take_all m xs fits)
    by false many =
        let same : n ≡ m = omega (arith, least, leb-false (length xs) m many) in
        ap (λ k. take k xs) same
