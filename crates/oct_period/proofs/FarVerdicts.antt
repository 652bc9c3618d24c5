-- The verdict on a block whose values are compared one by one.
use Rattle.std.proofs.Common.{◌≡◌, ◌≢◌, ℕ, ◌+◌, ◌-◌, ◌<◌, ◌≤◌, length, slice_index, sym, ap, ap₂, ◌∙◌, arith}
use Rattle.oct_mex.specs.NimValues.{nim_value}
use Rattle.oct_ops.specs.Operation.{Block}
use Rattle.oct_verify.specs.Known.{verdict_at, verdict}
use Rattle.oct_verify.proofs.Verdicts.{AgreeBelow, none_wrong, one_wrong}
use Rattle.oct_verify.specs.declared.status.Status.TheVariants.{Proved, Refuted}

-- the values before a place are right, and the one there is not
pub is_refuted : (b : Block) (i place claimed truth : ℕ) → i < length b.values → AgreeBelow b.code b.start b.values i → place ≡ b.start + i → claimed ≡ slice_index b.values i → truth ≡ nim_value b.code place → claimed ≢ truth
    → Refuted place claimed truth ≡ verdict b
is_refuted b i place claimed truth lt agree place_is claimed_is truth_is ne =
    let wrong = one_wrong b.code b.start i b.values lt agree (λ same. ne (claimed_is ∙ same ∙ ap (nim_value b.code) (sym place_is) ∙ sym truth_is)) in
    let back : i ≡ b.start + i - b.start = omega arith in
    ap (λ p. Refuted p claimed truth) place_is
    ∙ ap₂ (Refuted (b.start + i)) (claimed_is ∙ ap (slice_index b.values) back) (truth_is ∙ ap (nim_value b.code) place_is)
    ∙ sym (ap (verdict_at b) wrong)

-- all values are right
pub is_proved : (b : Block) (i : ℕ) → length b.values ≤ i → AgreeBelow b.code b.start b.values i → Proved ≡ verdict b
is_proved b i all agree = sym (ap (verdict_at b) (none_wrong b.code b.start b.values (λ k lt. agree k (omega arith))))
