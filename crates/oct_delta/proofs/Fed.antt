-- What one more piece tells.
use Rattle.std.proofs.Common.{◌≡◌, ◌↔◌, ◌++◌, Option, Some, None, Result, Ok, Err, OnOk, OnErr, refl, sym, ap, subst}
use Rattle.std.specs.Prelude.{IfSome, IsErrOf, IsSome}
use Rattle.std.proofs.lemmas.Bool.{false≢true}
use Rattle.oct_delta.specs.declared.error.DeltaError.{DeltaError}
use Rattle.oct_delta.specs.declared.error.DeltaError.TheVariants as faults
use Rattle.oct_delta.specs.declared.state.ReaderState.{ReaderState}
use Rattle.oct_delta.specs.declared.state.ReaderState.TheVariants.{Begun, Reading, Failed}
use Rattle.oct_delta.specs.Text.{Bytes}
use Rattle.oct_delta.specs.ReaderState.{fed, IsReaderState, HasTag, IsForeign, IsHopeless, Tells}
use Rattle.oct_delta.proofs.Pieces.{has_tag}

-- what the answer says of the bytes that were fed before and after it
pub record Feeds (r : Result (Unit {0}) DeltaError) (old new : Option Bytes) (piece : Bytes) : Type 0 where
  pub ok : OnOk r (IfSome old (λ bytes. new ≡ Some (bytes ++ piece)))
  pub tag : OnOk r (IfSome new (λ bytes. ¬ IsForeign bytes))
  pub version : IsErrOf r faults.Version → IfSome old (λ bytes. IsForeign (bytes ++ piece))
  pub refused : IsErrOf r faults.Refused → IfSome old (λ bytes. HasTag (bytes ++ piece) × IsHopeless (bytes ++ piece))
  pub failed : IsErrOf r faults.Failed ↔ (old ≡ None)
  pub err : OnErr r (new ≡ None)

not_foreign : (bytes : Bytes) → HasTag bytes → ¬ IsForeign bytes
not_foreign bytes there foreign = false≢true (subst IsSome foreign.1 there)

known : {A : Type 0} (s : ReaderState A) → IsReaderState s → IfSome (fed s) (λ bytes. ¬ IsForeign bytes)
known (Begun v) h = λ foreign. not_foreign v.items (h.1 foreign.0) foreign
known (Reading p) h = not_foreign _ (has_tag p.edition _)
known Failed h = tt

no_error : {T : Type 0} (x : T) (e : DeltaError) → IsErrOf (Ok x) e → ⊥
no_error x e w = cc

same_error : {T : Type 0} (e f : DeltaError) → IsErrOf {T = T} (Err e) f → e ≡ f
same_error e f w = cc

some_none : (bytes : Bytes) → Some bytes ≡ None → ⊥
some_none bytes e = cc

on_taking : {A : Type 0} (t : ReaderState A) (old : Option Bytes) (piece : Bytes) → IsErrOf (Ok t) faults.Failed ↔ (old ≡ None) → IfSome old (λ bytes. Tells (Ok t) (bytes ++ piece)) → Feeds (Ok tt) old (fed t) piece
on_taking t None piece failed tells = absurd (no_error t faults.Failed (failed.1 refl))
on_taking t (Some bytes) piece failed tells = record {
  ok = tells.1;
  tag = known t tells.0;
  version = λ w. absurd (no_error tt faults.Version w);
  refused = λ w. absurd (no_error tt faults.Refused w);
  failed = (λ w. absurd (no_error tt faults.Failed w), λ none. absurd (some_none bytes none));
  err = tt;
}

on_refusal : (A : Type 0) (e : DeltaError) (old : Option Bytes) (piece : Bytes) → IsErrOf {T = ReaderState A} (Err e) faults.Failed ↔ (old ≡ None) → IfSome old (λ bytes. Tells {A = A} (Err e) (bytes ++ piece)) → Feeds (Err e) old None piece
on_refusal A e old piece failed tells =
    let at : (f : DeltaError) → e ≡ f → IfSome old (λ bytes. Tells {A = A} (Err f) (bytes ++ piece)) = λ f same. subst (λ (x : DeltaError). IfSome old (λ bytes. Tells {A = A} (Err x) (bytes ++ piece))) same tells in record {
      ok = tt;
      tag = tt;
      version = λ w. at faults.Version (same_error e faults.Version w);
      refused = λ w. at faults.Refused (same_error e faults.Refused w);
      failed = (λ w. failed.0 (ap (λ (x : DeltaError). Err x) (same_error e faults.Failed w)), λ none. ap (λ (x : DeltaError). Err x) (same_error e faults.Failed (failed.1 none)));
      err = refl;
    }

pub taken : {A : Type 0} (s t : ReaderState A) (old : Option Bytes) (piece : Bytes) → fed s ≡ old → IsErrOf (Ok t) faults.Failed ↔ (fed s ≡ None) → IfSome (fed s) (λ bytes. Tells (Ok t) (bytes ++ piece)) → Feeds (Ok tt) old (fed t) piece
taken {A} s t old piece is failed tells =
    on_taking t old piece (subst (λ (v : Option Bytes). IsErrOf {T = ReaderState A} (Ok t) faults.Failed ↔ (v ≡ None)) is failed)
    (subst (λ (v : Option Bytes). IfSome v (λ bytes. Tells (Ok t) (bytes ++ piece))) is tells)

pub refused : {A : Type 0} (s left : ReaderState A) (e : DeltaError) (r : Result (Unit {0}) DeltaError) (old : Option Bytes) (piece : Bytes) → fed s ≡ old → left ≡ Failed → r ≡ Err e → IsErrOf {T = ReaderState A} (Err e) faults.Failed ↔ (fed s ≡ None)
    → IfSome (fed s) (λ bytes. Tells {A = A} (Err e) (bytes ++ piece)) → Feeds r old (fed left) piece
refused {A} s left e r old piece is none same failed tells =
    subst (λ (v : Option Bytes). Feeds r old v piece) (sym (ap fed none))
    (subst (λ (x : Result (Unit {0}) DeltaError). Feeds x old None piece) (sym same)
    (on_refusal A e old piece (subst (λ (v : Option Bytes). IsErrOf {T = ReaderState A} (Err e) faults.Failed ↔ (v ≡ None)) is failed)
    (subst (λ (v : Option Bytes). IfSome v (λ bytes. Tells {A = A} (Err e) (bytes ++ piece))) is tells)))
