-- A text that is written piece by piece.
use Rattle.std.proofs.Common.{◌≡◌, List, [], ◌++◌, ℕ, Option, refl, sym, ap, ◌∙◌, append_assoc, append-nil, subst}
use Rattle.std.proofs.KnownBytes.{Appends-nil, Appends-trans}
use Rattle.std.specs.Io.KnownBytes.{Appends}
use Rattle.written.specs.Output.{AppendsFront}

-- of this text some was written, a piece is put together, and the rest is still to come
pub record IsUnderway (old now : Option (List ℕ)) (text piece rest : List ℕ) : Type 0 where
  pub written : List ℕ
  pub there : Appends old now written
  pub parts : written ++ (piece ++ rest) ≡ text

pub begun : (old : Option (List ℕ)) (piece rest : List ℕ) → IsUnderway old old (piece ++ rest) piece rest
begun old piece rest = record { written = []; there = Appends-nil old; parts = refl }

-- a front of the piece is written
pub spilled : (old now later : Option (List ℕ)) (text piece next rest : List ℕ) → IsUnderway old now text piece rest → AppendsFront now later piece next → IsUnderway old later text next rest
spilled old now later text piece next rest h more =
    let front = more.0 in
    record {
      written = h.written ++ front;
      there = Appends-trans old now later h.written front h.there more.1;
      parts = append_assoc h.written front (next ++ rest) ∙ ap (λ t. h.written ++ t) (sym (append_assoc front next rest) ∙ ap (λ p. p ++ rest) more.2) ∙ h.parts;
    }

-- the piece has more of the rest
pub put : (old now : Option (List ℕ)) (text piece next rest : List ℕ) → IsUnderway old now text piece (next ++ rest) → IsUnderway old now text (piece ++ next) rest
put old now text piece next rest h = record {
  written = h.written;
  there = h.there;
  parts = ap (λ t. h.written ++ t) (append_assoc piece next rest) ∙ h.parts;
}

-- the same, of what is equal
pub moved : (old here now : Option (List ℕ)) (text one piece rest : List ℕ) → here ≡ now → one ≡ piece → IsUnderway old now text piece rest → IsUnderway old here text one rest
moved old here now text one piece rest same alike h =
    subst (λ o. IsUnderway old o text one rest) (sym same) (subst (λ p. IsUnderway old now text p rest) (sym alike) h)

-- the last piece is written
pub done : (old now later : Option (List ℕ)) (text piece : List ℕ) → IsUnderway old now text piece [] → Appends now later piece → Appends old later text
done old now later text piece h more =
    subst (Appends old later) (sym (ap (λ t. h.written ++ t) (append-nil piece)) ∙ h.parts) (Appends-trans old now later h.written piece h.there more)

-- ---- what a function leaves that writes some of a text

-- the text that was put together before, of which the rest may still be in the piece
pub started : (old now : Option (List ℕ)) (text piece rest : List ℕ) → AppendsFront old now text piece → IsUnderway old now (text ++ rest) piece rest
started old now text piece rest h = record {
  written = h.0;
  there = h.1;
  parts = sym (append_assoc h.0 piece rest) ∙ ap (λ t. t ++ rest) h.2;
}

-- nothing is to come
pub fronted : (old now : Option (List ℕ)) (text piece : List ℕ) → IsUnderway old now text piece [] → AppendsFront old now text piece
fronted old now text piece h = (h.written, h.there, ap (λ t. h.written ++ t) (sym (append-nil piece)) ∙ h.parts)

-- the piece and more behind it is written
pub ended : (old now later : Option (List ℕ)) (text piece more : List ℕ) → AppendsFront old now text piece → Appends now later (piece ++ more) → Appends old later (text ++ more)
ended old now later text piece more h last =
    subst (Appends old later) (sym (append_assoc h.0 piece more) ∙ ap (λ t. t ++ more) h.2) (Appends-trans old now later h.0 (piece ++ more) h.1 last)
