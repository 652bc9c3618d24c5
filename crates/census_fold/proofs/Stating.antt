-- The status of a state, by what the state holds and by the digest of that.
use Rattle.std.proofs.Common.{◌≡◌, ◌++◌, Ok, Err, length, sym, ap, ◌∙◌}
use Rattle.oct_delta.specs.Text.{Bytes}
use Rattle.oct_log.specs.Status.{status_text}
use Rattle.oct_ops.specs.Operations.{listed}
use Rattle.oct_record.specs.Content.{RecordContent}
use Rattle.oct_text.specs.Words.{Text}
use Rattle.census_fold.specs.Digests.{digest_of_set}
use Rattle.census_fold.specs.Statuses.{file_lines, status}
use Rattle.census_state.specs.Steps.{◌>>=◌}
use Rattle.census_state.specs.Stored.{loaded}
use Rattle.census_state.specs.declared.fault.Fault.{Fault}

abbrev told : Bytes → RecordContent → Bytes → Text
told state held digits = status_text held.author (listed held.ops) ++ file_lines digits (length state)

pub of_held : (state : Bytes) (held : RecordContent) (digits text : Bytes) → loaded state ≡ Ok held → digest_of_set held.ops ≡ Ok digits
    → text ≡ status_text held.author (listed held.ops) ++ file_lines digits (length state) → status state ≡ Ok text
of_held state held digits text load digest is =
    ap (λ found. found >>= λ replica. digest_of_set replica.ops >>= λ read. Ok (told state replica read)) load
    ∙ ap (λ found. found >>= λ read. Ok (told state held read)) digest
    ∙ ap Ok (sym is)

pub not_loaded : (state : Bytes) (e : Fault) → loaded state ≡ Err e → status state ≡ Err e
not_loaded state e load = ap (λ found. found >>= λ replica. digest_of_set replica.ops >>= λ read. Ok (told state replica read)) load

pub not_digested : (state : Bytes) (held : RecordContent) (e : Fault) → loaded state ≡ Ok held → digest_of_set held.ops ≡ Err e → status state ≡ Err e
not_digested state held e load digest =
    ap (λ found. found >>= λ replica. digest_of_set replica.ops >>= λ read. Ok (told state replica read)) load
    ∙ ap (λ found. found >>= λ read. Ok (told state held read)) digest
