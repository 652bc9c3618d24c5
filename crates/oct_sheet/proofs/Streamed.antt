-- Texts that are put behind a piece, of which a front may be written at any time.
use Rattle.std.proofs.Common.{◌≡◌, ℕ, List, [], ◌++◌, Option, sym, ap, ◌∙◌, append_assoc, subst}
use Rattle.std.proofs.KnownBytes.{Appends-nil, Appends-trans}
use Rattle.std.specs.Io.KnownBytes.{Appends}
use Rattle.written.proofs.Piecewise.{IsUnderway}
use Rattle.written.specs.Output.{AppendsFront}

-- a text is put there, and nothing is written
pub front_put : (old : Option (List ℕ)) (piece next text : List ℕ) → next ≡ piece ++ text → AppendsFront old old (piece ++ text) next
front_put old piece next text e = ([], Appends-nil old, e)

-- a text, and another one behind it
pub front_then : (old now later : Option (List ℕ)) (piece mid next one two : List ℕ) → AppendsFront old now (piece ++ one) mid → AppendsFront now later (mid ++ two) next
    → AppendsFront old later (piece ++ (one ++ two)) next
front_then old now later piece mid next one two h k = (
  h.0 ++ k.0,
  Appends-trans old now later h.0 k.0 h.1 k.1,
  append_assoc h.0 k.0 next ∙ ap (λ t. h.0 ++ t) k.2 ∙ sym (append_assoc h.0 mid two) ∙ ap (λ t. t ++ two) h.2 ∙ append_assoc piece one two,
)

-- a front of what is there is written
pub front_spilled : (old now later : Option (List ℕ)) (whole mid next : List ℕ) → AppendsFront old now whole mid → AppendsFront now later mid next → AppendsFront old later whole next
front_spilled old now later whole mid next h k =
    (h.0 ++ k.0, Appends-trans old now later h.0 k.0 h.1 k.1, append_assoc h.0 k.0 next ∙ ap (λ t. h.0 ++ t) k.2 ∙ h.2)

-- all that is left is written
pub front_done : (old now later : Option (List ℕ)) (whole piece : List ℕ) → AppendsFront old now whole piece → Appends now later piece → Appends old later whole
front_done old now later whole piece h k = subst (Appends old later) h.2 (Appends-trans old now later h.0 piece h.1 k)

-- ---- while a loop goes on

-- the piece and what is to come are the text
pub underway : (old : Option (List ℕ)) (text piece rest : List ℕ) → piece ++ rest ≡ text → IsUnderway old old text piece rest
underway old text piece rest e = record { written = []; there = Appends-nil old; parts = e }

-- some of what is to come is put there
pub underway_put : (old now : Option (List ℕ)) (text piece next rest more : List ℕ) → next ++ more ≡ piece ++ rest → IsUnderway old now text piece rest → IsUnderway old now text next more
underway_put old now text piece next rest more e h = record { written = h.written; there = h.there; parts = ap (λ t. h.written ++ t) e ∙ h.parts }

-- the rest is put there
pub underway_left : (old now : Option (List ℕ)) (text piece next rest : List ℕ) → next ≡ piece ++ rest → IsUnderway old now text piece rest → AppendsFront old now text next
underway_left old now text piece next rest e h = (h.written, h.there, ap (λ t. h.written ++ t) e ∙ h.parts)
