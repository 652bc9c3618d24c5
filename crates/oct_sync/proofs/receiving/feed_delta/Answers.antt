use Rattle.std.proofs.Common.{◌≡◌, ◌+◌, ◌-◌, Bool, true, false, length, Result, Err, refl, sym, ap, ◌∙◌, arith}
use Rattle.std.specs.Result.{result_eq}
use Rattle.oct_delta.specs.declared.error.DeltaError.{DeltaError}
use Rattle.oct_delta.specs.declared.error.DeltaError.TheVariants as errors
use Rattle.oct_sync.proofs.Payloads.{fed_counted, fed_rest}
use Rattle.oct_sync.proofs.receiving.feed_delta.Goals as goal

-- a result that was told from a refusal of memory is none
is_none : (u : Unit {0} → Unit {0} → Bool) (e : DeltaError → DeltaError → Bool) (r : Result (Unit {0}) DeltaError) (b : Bool) → b ≡ result_eq u e r (Err errors.OutOfMemory) → b ≡ false → e errors.OutOfMemory errors.OutOfMemory ≡ true
    → r ≡ Err errors.OutOfMemory → ⊥
is_none u e r b told apart same h =
    let clash : true ≡ false = sym same ∙ ap (λ x. result_eq u e x (Err errors.OutOfMemory)) (sym h) ∙ sym told ∙ apart in cc

pub returns-clause-head : goal.returns-clause-head
returns-clause-head g c = refl

pub returns-clause-missing : goal.returns-clause-missing
returns-clause-missing g c = omega (arith, c.requires.fits)

pub returns-clause-counted : goal.returns-clause-counted
returns-clause-counted g c =
    let counts : c.args.delta.missing - length c.args.piece.now + length c.args.piece.now ≡ c.args.delta.missing = omega (arith, c.requires.fits) in
    fed_counted c.args.delta.head.items c.args.delta.missing _ c.args.piece.now c.args.piece.now counts (λ i. let byte = c.type_inv.piece i in omega (arith, byte)) c.feed-fed.result c.args.delta.reader c.feed-fed.new.self c.requires.counted c.feed-fed.ensures.ok c.feed-fed.ensures.failed c.feed-fed.ensures.err

pub returns-clause-rest : goal.returns-clause-rest
returns-clause-rest g c rest is =
    let counts : c.args.delta.missing - length c.args.piece.now + length c.args.piece.now ≡ c.args.delta.missing = omega (arith, c.requires.fits) in
    fed_rest c.args.delta.head.items c.args.delta.missing _ c.args.piece.now rest counts (λ i. let byte = c.type_inv.piece i in omega (arith, byte)) c.feed-fed.result c.args.delta.reader c.feed-fed.new.self (is_none _ _ _ _ c.eq.ensures c.if-eq.false refl) c.requires.counted
    c.feed-fed.ensures.ok c.feed-fed.ensures.version c.feed-fed.ensures.refused c.feed-fed.ensures.failed c.feed-fed.ensures.err is
