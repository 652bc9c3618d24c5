use Rattle.oct_verify.specs.Filing.{blocks_in}
use Rattle.oct_verify.proofs.Verdicts.{next_is_true}
use Rattle.std.proofs.Common.{arith, ◌≡◌, ℕ, ◌-◌, ◌<◌, ◌≤◌, None, refl, sym, ap}
use Rattle.std.proofs.lemmas.Bool.Decides.{nat_tests}
use Rattle.oct_code.specs.declared.limits.TheConstants.{LIMIT}
use Rattle.oct_ops.specs.declared.limits.TheConstants.{MAX_ITEMS}
use Rattle.std.specs.Option.{unwrap_or}
use Rattle.oct_verify.specs.Known.{known}
use Rattle.oct_period.specs.Computing.{compute_fault}
use Rattle.oct_period.specs.declared.computing.ComputeError.TheVariants.{TooMany, AtLimit, OutOfMemory}
use Rattle.oct_period.proofs.computing.next_block.Goals as goal

-- why a block is computed, or is not

too_many : (held n : ℕ) → (n ≡ 0 → ⊥) → MAX_ITEMS < n → TooMany ≡ unwrap_or (compute_fault held n) OutOfMemory
too_many held n some over = grind (arith, nat_tests)

at_limit : (held start n : ℕ) → (n ≡ 0 → ⊥) → n ≤ MAX_ITEMS → start ≡ held → start ≤ LIMIT → LIMIT - start ≡ 0 → AtLimit ≡ unwrap_or (compute_fault held n) OutOfMemory
at_limit held start n some few is within none =
    let all : held ≡ LIMIT = omega (arith, is, within, none) in
    grind (arith, nat_tests)

faultless : (held start n : ℕ) → (n ≡ 0 → ⊥) → n ≤ MAX_ITEMS → start ≡ held → (LIMIT - start ≡ 0 → ⊥) → compute_fault held n ≡ None
faultless held start n some few is left =
    let room : held ≡ LIMIT → ⊥ = λ all. left (omega (arith, is, all)) in
    grind (arith, nat_tests)

pub returns-clause-right : goal.returns-clause-right
returns-clause-right g c =
    let game = c.args.ledger.now in
    rw (c.in-Ok-new.ensures.ok, c.code.ensures.value, c.known-start.ensures.value, c.in-Ok.ensures.values) (next_is_true game.code (blocks_in game.blocks) c.min.result)

pub returns-then-count-eq0-clause-error : goal.returns-then-count-eq0-clause-error
returns-then-count-eq0-clause-error g c = sym (ap (λ n. unwrap_or (compute_fault (known (blocks_in c.args.ledger.now.blocks)) n) OutOfMemory) c.if-count-eq0.true)

pub returns-clause-ok : goal.returns-clause-ok
returns-clause-ok g c = rw (c.in-Ok-new.ensures.ok, c.code.ensures.value, c.in-Ok.ensures.values, c.min.ensures, c.known-start.ensures.value) refl

pub returns-clause-accepted : goal.returns-clause-accepted
returns-clause-accepted g c = faultless _ _ _ c.if-count-eq0.false c.if-count-gt-MAX_ITEMS.false c.known-start.ensures.value c.if-left-eq0.false

pub returns-then-count-eq0-clause-ok : goal.returns-then-count-eq0-clause-ok
returns-then-count-eq0-clause-ok g c = tt

pub returns-then-count-eq0-clause-right : goal.returns-then-count-eq0-clause-right
returns-then-count-eq0-clause-right g c = tt

pub returns-then-count-eq0-clause-accepted : goal.returns-then-count-eq0-clause-accepted
returns-then-count-eq0-clause-accepted g c = tt

pub returns-then-count-gt-MAX_ITEMS-clause-ok : goal.returns-then-count-gt-MAX_ITEMS-clause-ok
returns-then-count-gt-MAX_ITEMS-clause-ok g c = tt

pub returns-then-count-gt-MAX_ITEMS-clause-right : goal.returns-then-count-gt-MAX_ITEMS-clause-right
returns-then-count-gt-MAX_ITEMS-clause-right g c = tt

pub returns-then-count-gt-MAX_ITEMS-clause-accepted : goal.returns-then-count-gt-MAX_ITEMS-clause-accepted
returns-then-count-gt-MAX_ITEMS-clause-accepted g c = tt

pub returns-then-left-eq0-clause-ok : goal.returns-then-left-eq0-clause-ok
returns-then-left-eq0-clause-ok g c = tt

pub returns-then-left-eq0-clause-right : goal.returns-then-left-eq0-clause-right
returns-then-left-eq0-clause-right g c = tt

pub returns-then-left-eq0-clause-accepted : goal.returns-then-left-eq0-clause-accepted
returns-then-left-eq0-clause-accepted g c = tt

pub returns-in_default-clause-ok : goal.returns-in_default-clause-ok
returns-in_default-clause-ok g c = tt

pub returns-in_default-clause-right : goal.returns-in_default-clause-right
returns-in_default-clause-right g c = tt

pub returns-in_default-clause-accepted : goal.returns-in_default-clause-accepted
returns-in_default-clause-accepted g c = tt

pub returns-clause-error : goal.returns-clause-error
returns-clause-error g c = tt

pub returns-then-left-eq0-clause-error : goal.returns-then-left-eq0-clause-error
returns-then-left-eq0-clause-error g c = at_limit _ _ _ c.if-count-eq0.false c.if-count-gt-MAX_ITEMS.false c.known-start.ensures.value c.known-start.ensures.within c.if-left-eq0.true

pub returns-then-count-gt-MAX_ITEMS-clause-error : goal.returns-then-count-gt-MAX_ITEMS-clause-error
returns-then-count-gt-MAX_ITEMS-clause-error g c = too_many _ _ c.if-count-eq0.false c.if-count-gt-MAX_ITEMS.true

pub returns-in_default-clause-error : goal.returns-in_default-clause-error
returns-in_default-clause-error g c =
    sym (ap (λ fault. unwrap_or fault OutOfMemory) (faultless _ _ _ c.if-count-eq0.false c.if-count-gt-MAX_ITEMS.false c.known-start.ensures.value c.if-left-eq0.false))
