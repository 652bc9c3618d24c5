use Rattle.std.proofs.Common.{◌≡◌, true, false, [], Ok, Err, IsErrOf, sym, ◌∙◌, arith, refl}
use Rattle.std.specs.Result.{is_err}
use Rattle.oct_join.specs.Clock.{Clock}
use Rattle.oct_join.specs.Entries.{Entries}
use Rattle.oct_delta.specs.declared.error.ClockError.TheVariants.{Refused, OutOfMemory}
use Rattle.oct_delta.specs.Bytes.{IsBytes}
use Rattle.oct_delta.specs.Text.{Bytes}
use Rattle.oct_delta.specs.Clocks.{IsClockText, entries_at}
use Rattle.oct_delta.proofs.ClockTexts.{no_clock, text_of_entries, clock_is_read, some_clock}
use Rattle.oct_delta.proofs.Decoded.{on_err, on_ok}
use Rattle.oct_delta.proofs.clock.decode_clock.Goals as goal

no_error : {T E : Type 0} (x : T) (e : E) → IsErrOf (Ok x) e → ⊥
no_error x e h = cc

other_error : {T : Type 0} → IsErrOf {T = T} (Err OutOfMemory) Refused → ⊥
other_error h = cc

some_text : (bytes : Bytes) → IsBytes bytes → (es : Entries) × (entries_at bytes ≡ Ok (es, [])) → (t : Clock) × IsClockText bytes t
some_text bytes fits read = let found = some_clock bytes read.0 fits read.1 in (found.0, found.1)

pub returns-then-is_err-clause-refused : goal.returns-then-is_err-clause-refused
returns-then-is_err-clause-refused g c = (λ _. no_clock c.args.bytes.now (on_err c.check_clock.result (sym c.is_err.ensures.value ∙ c.if-is_err.true) c.check_clock.ensures.err), λ _. refl)

pub returns-in-Ok-clause-ok : goal.returns-in-Ok-clause-ok
returns-in-Ok-clause-ok g c = text_of_entries c.args.bytes.now c.in-Ok.clock (λ i. omega (arith, c.type_inv.bytes i)) c.in-Ok.ensures.ok

pub returns-in-Ok-clause-read : goal.returns-in-Ok-clause-read
returns-in-Ok-clause-read g c = clock_is_read c.args.bytes.now c.in-Ok.clock c.in-Ok.ensures.ok

pub returns-in-Ok-clause-refused : goal.returns-in-Ok-clause-refused
returns-in-Ok-clause-refused g c =
    (λ e. absurd (no_error c.in-Ok.clock Refused e), λ none. absurd (none c.in-Ok.clock (text_of_entries c.args.bytes.now c.in-Ok.clock (λ i. omega (arith, c.type_inv.bytes i)) c.in-Ok.ensures.ok)))

pub returns-in-Err-clause-refused : goal.returns-in-Err-clause-refused
returns-in-Err-clause-refused g c =
    let found = some_text c.args.bytes.now (λ i. omega (arith, c.type_inv.bytes i)) (on_ok c.check_clock.result (sym c.is_err.ensures.value ∙ c.if-is_err.false) c.check_clock.ensures.ok) in
    (λ e. absurd (other_error e), λ none. absurd (none found.0 found.1))

pub returns-in-Err-clause-memory : goal.returns-in-Err-clause-memory
returns-in-Err-clause-memory g c = λ _. some_text c.args.bytes.now (λ i. omega (arith, c.type_inv.bytes i)) (on_ok c.check_clock.result (sym c.is_err.ensures.value ∙ c.if-is_err.false) c.check_clock.ensures.ok)
