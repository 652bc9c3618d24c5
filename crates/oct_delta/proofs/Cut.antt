-- What is told of the bytes of some pieces holds with those that follow.
use Rattle.std.proofs.Common.{◌≡◌, ℕ, zero, suc, List, [], ◌∷◌, ◌++◌, length, get_or, Option, Err, take, drop, Some, None, refl, sym, ap, subst, ◌∙◌, arith, inl, inr}
use denote.Ref.{Bor}
use Rattle.std.specs.Prelude.{IfSome, IsErrOf, IsSome, ◌<◌}
use Rattle.oct_ops.specs.Body.{Operation}
use Rattle.std.proofs.lemmas.Bool.{false≢true}
use Rattle.std.proofs.lemmas.List.{append_assoc, take-append-le, take-append-drop}
use Rattle.std.proofs.Math.Seq.{take-append_seam}
use Rattle.oct_delta.specs.declared.error.DeltaError.{DeltaError}
use Rattle.oct_delta.specs.declared.format.Edition.{Edition}
use Rattle.oct_delta.specs.declared.format.Edition.TheVariants.{First, Second}
use Rattle.oct_delta.specs.Text.{Bytes}
use Rattle.oct_delta.specs.Delta.{Format, IsDeltaText}
use Rattle.oct_delta.specs.Formats.{format}
use Rattle.oct_delta.specs.Decoding.{format_at}
use Rattle.oct_delta.specs.ReaderState.{HasTag, IsForeign, IsHopeless, together}
use Rattle.oct_delta.proofs.Deltas.{named, format_named}
use Rattle.oct_delta.proofs.Pieces.{has_tag}

tag_length : (e : Edition) → length (format e).tag ≡ 4
tag_length First = refl
tag_length Second = refl

-- a tag is not undone by what follows
pub tag_stays : (bytes more : Bytes) → HasTag bytes → HasTag (bytes ++ more)
tag_stays bytes more there =
    elim (format_named bytes) [
      | inl none ↦ absurd (false≢true (subst IsSome none there))
      | inr at ↦ subst HasTag (sym (ap (λ b. b ++ more) at.1 ∙ append_assoc (format at.0).tag (drop 4 bytes) more)) (has_tag at.0 (drop 4 bytes ++ more))
    ]

-- nor is it made by it
pub foreign_stays : (bytes more : Bytes) → IsForeign bytes → format_at (bytes ++ more) ≡ None
foreign_stays bytes more foreign =
    elim (format_named (bytes ++ more)) [
      | inl none ↦ none
      | inr at ↦ absurd (none_some (format at.0) (sym foreign.1 ∙ ap format_at (tagged at.0 at.1) ∙ named at.0 (drop 4 bytes)))
    ]
  where
    tagged : (e : Edition) → bytes ++ more ≡ (format e).tag ++ drop 4 (bytes ++ more) → bytes ≡ (format e).tag ++ drop 4 bytes
    tagged e is =
        let front : take 4 bytes ≡ (format e).tag =
        sym (take-append-le 4 bytes more foreign.0) ∙ ap (take 4) is
        ∙ subst (λ n. take n ((format e).tag ++ drop 4 (bytes ++ more)) ≡ (format e).tag) (tag_length e) (take-append_seam (format e).tag (drop 4 (bytes ++ more))) in
        sym (take-append-drop 4 bytes) ∙ ap (λ b. b ++ drop 4 bytes) front

    none_some : (f : Format) → None ≡ Some f → ⊥
    none_some f e = cc

-- the pieces before one, that one, and those after it
pub cut_at : (pieces : List (Bor Bytes)) (i : ℕ) (d : Bor Bytes) → i < length pieces → together pieces ≡ together (take i pieces) ++ (get_or pieces i d).now ++ together (drop (suc i) pieces)
cut_at [] i d lt = absurd (omega (arith, lt))
cut_at (p ∷ ps) zero d lt = refl
cut_at (p ∷ ps) (suc i) d lt =
    let front = together (take i ps) in
    let piece = (get_or ps i d).now in
    let rest = together (drop (suc i) ps) in
    ap (λ b. p.now ++ b) (cut_at ps i d (omega (arith, lt)))
    ∙ sym (append_assoc p.now (front ++ piece) rest)
    ∙ ap (λ b. b ++ rest) (sym (append_assoc p.now front piece))

pub version_stays : (old : Option Bytes) (front piece rest all : Bytes) → old ≡ Some front → all ≡ front ++ piece ++ rest → IfSome old (λ b. IsForeign (b ++ piece)) → format_at all ≡ None
version_stays old front piece rest all is cut told =
    ap format_at cut ∙ foreign_stays (front ++ piece) rest (subst (λ v. IfSome v (λ b. IsForeign (b ++ piece))) is told)

pub refusal_stays : (old : Option Bytes) (front piece rest all : Bytes) → old ≡ Some front → all ≡ front ++ piece ++ rest → IfSome old (λ b. HasTag (b ++ piece) × IsHopeless (b ++ piece)) → HasTag all × ((ops : List Operation) → ¬ IsDeltaText all ops)
refusal_stays old front piece rest all is cut told =
    let at : HasTag (front ++ piece) × IsHopeless (front ++ piece) = subst (λ v. IfSome v (λ b. HasTag (b ++ piece) × IsHopeless (b ++ piece))) is told in
    (subst HasTag (sym cut) (tag_stays (front ++ piece) rest at.0), λ ops text. at.1 rest ops (subst (λ b. IsDeltaText b ops) cut text))

-- the error of a piece is that of all
pub of_piece : {T : Type 0} (e f : DeltaError) → IsErrOf {T = T} (Err e) f → IsErrOf {T = Unit {0}} (Err e) f
of_piece {T} e f w = let same : e ≡ f = cc in ap (λ (x : DeltaError). Err x) same
