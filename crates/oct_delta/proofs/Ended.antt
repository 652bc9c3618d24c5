-- What no piece after the last tells.
use Rattle.std.proofs.Common.{◌≡◌, ◌↔◌, ◌+◌, ◌<◌, List, ◌++◌, length, Option, Some, None, Result, Ok, Err, refl, sym, ap, subst, ◌∙◌, arith, inl, inr}
use Rattle.std.specs.Prelude.{IfOk, IfSome, IsErrOf, drop}
use Rattle.std.specs.List.{flat_map}
use Rattle.std.proofs.lemmas.List.{length-append}
use Rattle.oct_ops.specs.Body.{Operation}
use Rattle.oct_delta.specs.declared.error.DeltaError.{DeltaError}
use Rattle.oct_delta.specs.declared.error.DeltaError.TheVariants as faults
use Rattle.oct_delta.specs.declared.format.Edition.{Edition}
use Rattle.oct_delta.specs.declared.format.Edition.TheVariants.{First, Second}
use Rattle.oct_delta.specs.declared.state.ReaderState.{ReaderState}
use Rattle.oct_delta.specs.Text.{Bytes, u32, op_bytes, list_bytes}
use Rattle.oct_delta.specs.Delta.{old_format, new_format, IsDeltaText}
use Rattle.oct_delta.specs.Formats.{format}
use Rattle.oct_delta.specs.Decoding.{format_at}
use Rattle.oct_delta.specs.ReaderState.{fed, HasTag}
use Rattle.oct_delta.proofs.Deltas.{format_named}

-- what the answer says of the bytes that were fed
pub record Ends {A : Type 0} (s : ReaderState A) (r : Result (List Operation) DeltaError) : Type 0 where
  pub ok : IfOk r (λ ops. IfSome (fed s) (λ bytes. IsDeltaText bytes ops))
  pub version : IsErrOf r faults.Version → IfSome (fed s) (λ bytes. format_at bytes ≡ None)
  pub refused : IsErrOf r faults.Refused → IfSome (fed s) (λ bytes. HasTag bytes × ((ops : List Operation) → ¬ IsDeltaText bytes ops))
  pub failed : IsErrOf r faults.Failed ↔ (fed s ≡ None)
  pub memory : ¬ IsErrOf r faults.OutOfMemory

some_none : (bytes : Bytes) → Some bytes ≡ None → ⊥
some_none bytes e = cc

not_failed : {A : Type 0} (s : ReaderState A) (bytes : Bytes) → fed s ≡ Some bytes → fed s ≡ None → ⊥
not_failed s bytes is none = some_none bytes (sym is ∙ none)

no_tag : (bytes : Bytes) → length bytes < 4 → format_at bytes ≡ None
no_tag bytes lt =
    elim (format_named bytes) [
      | inl none ↦ none
      | inr there ↦ absurd (too_short there.0 (drop 4 bytes) there.1)
    ]
  where
    too_short : (e : Edition) (list : Bytes) → bytes ≡ (format e).tag ++ list → ⊥
    too_short First list is = let len : length bytes ≡ 4 + length list = ap length is ∙ length-append (format First).tag list in omega (arith, len, lt)
    too_short Second list is = let len : length bytes ≡ 4 + length list = ap length is ∙ length-append (format Second).tag list in omega (arith, len, lt)

list_length : (ops : List Operation) → length (list_bytes ops) ≡ 4 + length (flat_map op_bytes ops)
list_length ops = length-append (u32 (length ops)) (flat_map op_bytes ops)

no_text : (bytes : Bytes) → length bytes < 8 → (ops : List Operation) → ¬ IsDeltaText bytes ops
no_text bytes lt ops (inl text) = let len : length bytes ≡ 4 + length (list_bytes ops) = ap length text.spelled ∙ length-append old_format.tag (list_bytes ops) in omega (arith, len, list_length ops, lt)
no_text bytes lt ops (inr text) = let len : length bytes ≡ 4 + length (list_bytes ops) = ap length text.spelled ∙ length-append new_format.tag (list_bytes ops) in omega (arith, len, list_length ops, lt)

module _ {A : Type 0} (s : ReaderState A) where
  pub before_tag : (bytes : Bytes) → fed s ≡ Some bytes → length bytes < 4 → Ends s (Err faults.Version)
  before_tag bytes is lt = record {
    ok = tt;
    version = λ _. subst (λ (v : Option Bytes). IfSome v (λ b. format_at b ≡ None)) (sym is) (no_tag bytes lt);
    refused = λ e. absurd cc;
    failed = (λ e. absurd cc, λ none. absurd (not_failed s bytes is none));
    memory = λ e. cc;
  }

  refusal : (bytes : Bytes) → fed s ≡ Some bytes → IfSome (fed s) (λ b. HasTag b × ((ops : List Operation) → ¬ IsDeltaText b ops)) → Ends s (Err faults.Refused)
  refusal bytes is told = record {
    ok = tt;
    version = λ e. absurd cc;
    refused = λ _. told;
    failed = (λ e. absurd cc, λ none. absurd (not_failed s bytes is none));
    memory = λ e. cc;
  }

  pub before_list : (bytes : Bytes) → fed s ≡ Some bytes → length bytes < 8 → HasTag bytes → Ends s (Err faults.Refused)
  before_list bytes is lt tag = refusal bytes is (subst (λ (v : Option Bytes). IfSome v (λ b. HasTag b × ((ops : List Operation) → ¬ IsDeltaText b ops))) (sym is) (tag, no_text bytes lt))

  pub within_list : (bytes : Bytes) → fed s ≡ Some bytes → IfSome (fed s) (λ b. HasTag b × ((ops : List Operation) → ¬ IsDeltaText b ops)) → Ends s (Err faults.Refused)
  within_list = refusal

  pub after_list : (bytes : Bytes) (ops : List Operation) → fed s ≡ Some bytes → IfSome (fed s) (λ b. IsDeltaText b ops) → Ends s (Ok ops)
  after_list bytes ops is told = record {
    ok = told;
    version = λ e. absurd cc;
    refused = λ e. absurd cc;
    failed = (λ e. absurd cc, λ none. absurd (not_failed s bytes is none));
    memory = λ e. cc;
  }

  pub after_refusal : fed s ≡ None → Ends s (Err faults.Failed)
  after_refusal none = record {
    ok = tt;
    version = λ e. absurd cc;
    refused = λ e. absurd cc;
    failed = (λ _. none, λ _. refl);
    memory = λ e. cc;
  }
