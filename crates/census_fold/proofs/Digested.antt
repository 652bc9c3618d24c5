-- What a file holds, the one text of it, and its digest.
use Rattle.std.proofs.Common.{arith, ◌≡◌, ◌≢◌, ◌<◌, ◌≤◌, ◌^◌, inl, inr, true, false, cond, List, Some, Result, Ok, Err, length, refl, sym, ap, subst, ◌∙◌}
use Rattle.std.specs.Prelude.{IsSome, IsTrue, is_some, nat_le}
use Rattle.std.proofs.lemmas.Bool.{and_from, and_parts, le-ltb, lt-ltb}
use Rattle.oct_code.specs.declared.limits.TheConstants.{LIMIT, OLD_LIMIT}
use Rattle.oct_delta.specs.Decoding.{read_delta}
use Rattle.oct_delta.specs.Delta.{encoded, Fits, IsDeltaText, IsOpList}
use Rattle.oct_delta.specs.Taken.{operations_of, set_of_read}
use Rattle.oct_delta.specs.Text.{Bytes}
use Rattle.oct_delta.specs.declared.error.EncodeError.{EncodeError}
use Rattle.oct_delta.specs.declared.error.EncodeError.TheVariants.{TooMany, OutOfMemory}
use Rattle.oct_delta.proofs.Deltas.{Law}
use Rattle.oct_ops.specs.Body.{Body, Operation}
use Rattle.oct_ops.specs.Body as kind
use Rattle.oct_ops.specs.Limits.{keeps_limit}
use Rattle.oct_ops.specs.Operations.{Operations, listed, set_of}
use Rattle.oct_ops.specs.OrderLaws.{op_cmp_total, op_cmp_exact}
use Rattle.oct_ops.specs.SetLaws.{set_of-listed}
use Rattle.oct_record.specs.Content.{RecordContent}
use Rattle.oct_record.specs.States.{has_tag}
use Rattle.census_fold.specs.Digests.{digest_of, digest_of_set, digits_of, operations_in, text_of, DigestIsOfSet, IsFileOf, TextIsOfOneSet}
use Rattle.census_state.specs.Refusals.{encode_fault}
use Rattle.census_state.specs.States.{delta_of, delta_refusal}
use Rattle.census_state.specs.Steps.{◌>>=◌}
use Rattle.census_state.specs.Stored.{loaded}
use Rattle.census_state.specs.declared.fault.Fault.{Fault}
use Rattle.census_state.specs.declared.fault.Fault.TheVariants as fault
use Rattle.census_state.proofs.StoredStates.{state_read}

-- ---- reading

pub of_state : (file : Bytes) (r : RecordContent) → has_tag file ≡ true → loaded file ≡ Ok r → operations_in file ≡ Ok r.ops
of_state file r tagged load =
    ap (λ b. cond b (loaded file >>= λ q. Ok q.ops) (delta_of file)) tagged ∙ ap (λ l. l >>= λ q. Ok q.ops) load

pub of_no_state : (file : Bytes) (e : Fault) → has_tag file ≡ true → loaded file ≡ Err e → operations_in file ≡ Err e
of_no_state file e tagged load =
    ap (λ b. cond b (loaded file >>= λ q. Ok q.ops) (delta_of file)) tagged ∙ ap (λ l. l >>= λ q. Ok q.ops) load

pub of_delta : (file : Bytes) (ops : Operations) → has_tag file ≡ false → IsSome (read_delta file) → ops ≡ operations_of file → operations_in file ≡ Ok ops
of_delta file ops untagged read is =
    ap (λ b. cond b (loaded file >>= λ q. Ok q.ops) (delta_of file)) untagged
    ∙ ap (λ t. cond t (Ok (operations_of file)) (Err (fault.Merge (delta_refusal file)))) read
    ∙ ap Ok (sym is)

pub of_no_delta : (file : Bytes) (e : Fault) → has_tag file ≡ false → delta_of file ≡ Err e → operations_in file ≡ Err e
of_no_delta file e untagged none = ap (λ b. cond b (loaded file >>= λ q. Ok q.ops) (delta_of file)) untagged ∙ none

-- ---- the text

pub written : (ops : Operations) (text : Bytes) → length (listed ops) < 2 ^ 32 → text ≡ encoded (listed ops) → text_of ops ≡ Ok text
written ops text few is = ap (λ b. cond b (Ok (encoded (listed ops))) (Err fault.TooMany)) (lt-ltb _ _ few) ∙ ap Ok (sym is)

pub not_written : (ops : Operations) (cause : EncodeError) → (cause ≡ TooMany → 2 ^ 32 ≤ length (listed ops))
    → encode_fault cause ≢ fault.OutOfMemory → text_of ops ≡ Err (encode_fault cause)
not_written ops TooMany many other = ap (λ b. cond b (Ok (encoded (listed ops))) (Err fault.TooMany)) (le-ltb _ _ (many refl))
not_written ops OutOfMemory many other = absurd (other refl)

-- ---- the digest

pub set_digested : (ops : Operations) (text digits : Bytes) → text_of ops ≡ Ok text → digits ≡ digits_of text → digest_of_set ops ≡ Ok digits
set_digested ops text digits spelled is = ap (λ t. t >>= λ u. Ok (digits_of u)) spelled ∙ ap Ok (sym is)

pub no_text : (ops : Operations) (e : Fault) → text_of ops ≡ Err e → digest_of_set ops ≡ Err e
no_text ops e none = ap (λ t. t >>= λ u. Ok (digits_of u)) none

pub as_its_set : (file : Bytes) (ops : Operations) (r : Result Bytes Fault) → operations_in file ≡ Ok ops → digest_of_set ops ≡ r → digest_of file ≡ r
as_its_set file ops r held is = ap (λ h. h >>= digest_of_set) held ∙ is

pub not_read : (file : Bytes) (e : Fault) → operations_in file ≡ Err e → digest_of file ≡ Err e
not_read file e none = ap (λ h. h >>= digest_of_set) none

-- ---- laws

few_in : (bytes : Bytes) (ops : List Operation) → IsDeltaText bytes ops → length ops < 2 ^ 32
few_in bytes ops (inl d) = d.list.few
few_in bytes ops (inr d) = d.list.few

-- no delta begins as a state
untagged : (bytes : Bytes) (ops : List Operation) → IsDeltaText bytes ops → has_tag bytes ≡ false
untagged bytes ops (inl d) = ap has_tag d.spelled
untagged bytes ops (inr d) = ap has_tag d.spelled

pub digest_is_of_set : Law → DigestIsOfSet
digest_is_of_set law file ops are (inl s) =
    as_its_set file ops (Ok (digits_of (encoded (listed ops))))
    (of_state file (record { author = s.0; ops = ops }) (ap has_tag s.1.spelled) (state_read law file s.0 ops are s.1))
    (set_digested ops (encoded (listed ops)) _ (written ops (encoded (listed ops)) (few_in s.1.rest (listed ops) s.1.list) refl) refl)
digest_is_of_set law file ops are (inr d) =
    let read : read_delta file ≡ Some (listed ops) = (law file (listed ops) are).1 d in
    as_its_set file ops (Ok (digits_of (encoded (listed ops))))
    (of_delta file ops (untagged file (listed ops) d) (ap is_some read) (sym (ap set_of_read read ∙ set_of-listed op_cmp_total op_cmp_exact ops)))
    (set_digested ops (encoded (listed ops)) _ (written ops (encoded (listed ops)) (few_in file (listed ops) d) refl) refl)

-- what keeps the old limit keeps the new one
keeps_more : (b : Body) → IsTrue (keeps_limit OLD_LIMIT b) → IsTrue (keeps_limit LIMIT b)
keeps_more (kind.Block b) h = grind (arith, h)
keeps_more (kind.Period p) h =
    let parts = and_parts (nat_le p.start OLD_LIMIT) (nat_le p.period OLD_LIMIT) h in
    and_from (nat_le p.start LIMIT) (nat_le p.period LIMIT) (grind (arith, parts.0)) (grind (arith, parts.1))
keeps_more (kind.Note n) h = refl
keeps_more (kind.Removal r) h = refl

wider : (o : Operation) → Fits OLD_LIMIT o → Fits LIMIT o
wider o f = record { valid = f.valid; within = keeps_more o.body f.within }

wide : (bytes : Bytes) (ops : List Operation) → IsDeltaText bytes ops → IsOpList LIMIT ops
wide bytes ops (inl d) = record { few = d.list.few; each = λ i o lt. wider _ (d.list.each i o lt); rising = d.list.rising }
wide bytes ops (inr d) = d.list

in_file : (file : Bytes) (ops : Operations) → IsFileOf file ops → IsOpList LIMIT (listed ops)
in_file file ops (inl s) = wide s.1.rest (listed ops) s.1.list
in_file file ops (inr d) = wide file (listed ops) d

module _ (one : (bytes : Bytes) (a b : List Operation) → IsDeltaText bytes a → IsDeltaText bytes b → a ≡ b) (is_text : (ops : List Operation) → IsOpList LIMIT ops → IsDeltaText (encoded ops) ops) where
  pub text_is_of_one_set : TextIsOfOneSet
  text_is_of_one_set a b r s p q same =
      let lists : listed r ≡ listed s = one (encoded (listed r)) (listed r) (listed s) (is_text (listed r) (in_file a r p)) (subst (λ (z : Bytes). IsDeltaText z (listed s)) (sym same) (is_text (listed s) (in_file b s q))) in
      sym (set_of-listed op_cmp_total op_cmp_exact r) ∙ ap set_of lists ∙ set_of-listed op_cmp_total op_cmp_exact s
