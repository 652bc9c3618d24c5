-- A state that goes on under another author, or not; and a number that is used twice.
use Rattle.std.proofs.Common.{◌≡◌, ◌≢◌, ◌↔◌, ℕ, Bool, true, false, cond, Result, Ok, Err, refl, sym, ap, ◌∙◌}
use Rattle.std.specs.Result.{IsErrOf}
use Rattle.std.proofs.lemmas.Bool.{ne_eqb}
use Rattle.oct_delta.specs.Text.{Bytes}
use Rattle.oct_record.specs.Content.{RecordContent}
use Rattle.oct_record.specs.Numbers.{holds_any}
use Rattle.oct_record.specs.declared.error.RenumberError.{RenumberError}
use Rattle.oct_record.specs.declared.error.RenumberError.TheVariants.{Zero, Held}
use Rattle.census_state.specs.Lines.{renumbered_line}
use Rattle.census_state.specs.Refusals.{renumber_fault}
use Rattle.census_state.specs.States.{renumber, renumbered}
use Rattle.census_state.specs.Steps.{◌>>=◌}
use Rattle.census_state.specs.Stored.{loaded, saved}
use Rattle.census_state.specs.declared.fault.Fault.{Fault}
use Rattle.census_state.specs.declared.fault.Fault.TheVariants as fault

module _ (id : ℕ) (state : Bytes) (some : id ≢ 0) where
  steps : renumber id state ≡ (loaded state >>= λ r. renumbered r id)
  steps = ap (λ b. cond b (Err fault.Zero) (loaded state >>= λ r. renumbered r id)) (ne_eqb id 0 some)

  -- the state is refused
  pub not_loaded : (e : Fault) → loaded state ≡ Err e → renumber id state ≡ Err e
  not_loaded e load = steps ∙ ap (λ l. l >>= λ r. renumbered r id) load

  -- the number is refused
  pub not_renumbered : (r : RecordContent) (result : Result ℕ RenumberError) (cause : RenumberError) → loaded state ≡ Ok r → result ≡ Err cause
      → IsErrOf result Zero ↔ (id ≡ 0) → IsErrOf result Held ↔ ((id ≢ 0) × (holds_any r.ops id ≡ true)) → renumber id state ≡ Err (renumber_fault cause)
  not_renumbered r result Zero load is zero held = absurd (some (zero.0 is))
  not_renumbered r result Held load is zero held =
      steps ∙ ap (λ l. l >>= λ q. renumbered q id) load
      ∙ ap (λ b. cond b (Err fault.Held) (saved (record r { author = id }) (renumbered_line r.author id))) (held.0 is).1

  ok_err : {was : ℕ} {e : RenumberError} → ◌≡◌ {A = Result ℕ RenumberError} (Ok was) (Err e) → ⊥
  ok_err e = cc

  clear : (result : Result ℕ RenumberError) (was : ℕ) (b : Bool) → result ≡ Ok was → (b ≡ true → result ≡ Err Held) → b ≡ false
  clear result was true is held = absurd (ok_err (sym is ∙ held refl))
  clear result was false is held = refl

  -- it is taken
  pub renumber_saves : (r q : RecordContent) (result : Result ℕ RenumberError) (was : ℕ) (text : Bytes) → loaded state ≡ Ok r → result ≡ Ok was
      → IsErrOf result Held ↔ ((id ≢ 0) × (holds_any r.ops id ≡ true)) → q ≡ record r { author = id } → was ≡ r.author → text ≡ renumbered_line was id
      → renumber id state ≡ saved q text
  renumber_saves r q result was text load is held new old spelled =
      steps ∙ ap (λ l. l >>= λ p. renumbered p id) load
      ∙ ap (λ b. cond b (Err fault.Held) (saved (record r { author = id }) (renumbered_line r.author id)))
      (clear result was (holds_any r.ops id) is (λ here. held.1 (some, here)))
      ∙ (λ i. saved (sym new i) (sym (spelled ∙ ap (λ n. renumbered_line n id) old) i))
