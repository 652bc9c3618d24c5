-- All operations as one delta, or why they are none.
use Rattle.std.proofs.Common.{arith, ◌≡◌, ◌≢◌, ◌<◌, ◌≤◌, ◌^◌, cond, Some, None, Ok, Err, length, codes, refl, sym, ap, ◌∙◌}
use Rattle.std.specs.List.{All}
use Rattle.std.proofs.lemmas.Bool.{le-ltb, lt-ltb}
use Rattle.oct_delta.specs.Delta.{encoded}
use Rattle.oct_delta.specs.Text.{Bytes}
use Rattle.oct_delta.specs.declared.error.EncodeError.{EncodeError}
use Rattle.oct_delta.specs.declared.error.EncodeError.TheVariants.{TooMany, OutOfMemory}
use Rattle.oct_join.specs.Clock as clock
use Rattle.oct_ops.specs.Operations.{listed}
use Rattle.oct_ops.specs.Valid.{IsOp}
use Rattle.oct_record.specs.Content.{RecordContent}
use Rattle.oct_store.specs.Summary.{beyond}
use Rattle.census_fold.specs.Deltas.{delta_of}
use Rattle.census_state.specs.Lines.{number_line}
use Rattle.census_state.specs.Refusals.{encode_fault}
use Rattle.census_state.specs.declared.fault.Fault.TheVariants as fault
use Rattle.census_fold.proofs.Wholes.{all_beyond}

-- a refusal of all operations
pub delta_refused : (r : RecordContent) (t : clock.Clock) (cause : EncodeError) → t ≡ clock.empty → All IsOp (listed r.ops)
    → (cause ≡ TooMany → 2 ^ 32 ≤ length (listed (beyond r.ops t)))
    → encode_fault cause ≢ fault.OutOfMemory → delta_of (listed r.ops) ≡ Err (encode_fault cause)
delta_refused r t TooMany none valid many other =
    let most : 2 ^ 32 ≤ length (listed r.ops) = (let e = ap (λ ops. length (listed ops)) (ap (beyond r.ops) none ∙ all_beyond r.ops valid) in let m = many refl in omega (arith, e, m)) in
    ap (λ b. cond b (Ok (record { state = None; file = Some (encoded (listed r.ops)); text = number_line (codes "operations ") (length (listed r.ops)) })) (Err fault.TooMany)) (le-ltb _ _ most)
delta_refused r t OutOfMemory none valid many other = absurd (other refl)

pub delta_given : (r : RecordContent) (t : clock.Clock) (file text : Bytes) → t ≡ clock.empty → All IsOp (listed r.ops) → file ≡ encoded (listed (beyond r.ops t))
    → length (listed (beyond r.ops t)) < 2 ^ 32 → text ≡ number_line (codes "operations ") (length (listed r.ops))
    → delta_of (listed r.ops) ≡ Ok (record { state = None; file = Some file; text = text })
delta_given r t file text none valid is few spelled =
    let whole = ap listed (ap (beyond r.ops) none ∙ all_beyond r.ops valid) in
    let fits : length (listed r.ops) < 2 ^ 32 = (let e = ap length whole in omega (arith, e, few)) in
    ap (λ b. cond b (Ok (record { state = None; file = Some (encoded (listed r.ops)); text = number_line (codes "operations ") (length (listed r.ops)) })) (Err fault.TooMany)) (lt-ltb _ _ fits)
    ∙ (λ i. Ok (record { state = None; file = Some (sym (is ∙ ap encoded whole) i); text = sym spelled i }))
