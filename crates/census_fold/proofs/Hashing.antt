-- A text that is hashed piece by piece.
use Rattle.std.proofs.Common.{◌≡◌, List, [], ◌++◌, length, refl, sym, ap, ◌∙◌, append_assoc, append-nil, subst}
use Rattle.std.specs.List.{flat_map}
use Rattle.sha2.specs.Hashers.{Holds256}
use Rattle.sha2.specs.declared.Sha256.{Sha256}
use Rattle.oct_delta.specs.Delta.{encoded, format_of, head_bytes}
use Rattle.oct_delta.specs.Text.{Bytes, op_bytes, u32}
use Rattle.oct_ops.specs.Body.{Operation}

-- of this text the hasher has some, a piece is put together, and the rest is still to come
pub record IsHashing (hasher : Sha256) (text piece rest : Bytes) : Type 0 where
  pub taken : Bytes
  pub holds : Holds256 hasher taken
  pub parts : taken ++ (piece ++ rest) ≡ text

pub begun : (hasher : Sha256) (piece rest : Bytes) → Holds256 hasher [] → IsHashing hasher (piece ++ rest) piece rest
begun hasher piece rest empty = record { taken = []; holds = empty; parts = refl }

-- the hasher takes the piece
pub flushed : (old new : Sha256) (text piece rest : Bytes) → IsHashing old text piece rest → ((m : Bytes) → Holds256 old m → Holds256 new (m ++ piece)) → IsHashing new text [] rest
flushed old new text piece rest h more = record {
  taken = h.taken ++ piece;
  holds = more h.taken h.holds;
  parts = append_assoc h.taken piece rest ∙ h.parts;
}

-- the piece has more of the rest
pub put : (hasher : Sha256) (text piece next rest : Bytes) → IsHashing hasher text piece (next ++ rest) → IsHashing hasher text (piece ++ next) rest
put hasher text piece next rest h = record {
  taken = h.taken;
  holds = h.holds;
  parts = ap (λ t. h.taken ++ t) (append_assoc piece next rest) ∙ h.parts;
}

-- the same, of what is equal
pub moved : (here now : Sha256) (text one piece rest : Bytes) → here ≡ now → one ≡ piece → IsHashing now text piece rest → IsHashing here text one rest
moved here now text one piece rest same alike h =
    subst (λ s. IsHashing s text one rest) (sym same) (subst (λ p. IsHashing now text p rest) (sym alike) h)

-- the hasher takes the last piece
pub done : (old new : Sha256) (text piece : Bytes) → IsHashing old text piece [] → ((m : Bytes) → Holds256 old m → Holds256 new (m ++ piece)) → Holds256 new text
done old new text piece h more =
    subst (Holds256 new) (sym (ap (λ t. h.taken ++ t) (append-nil piece)) ∙ h.parts) (more h.taken h.holds)

-- the text of a list is its head, and then its operations
pub headed : (head : Bytes) (one other all : List Operation) → head ≡ head_bytes one → one ≡ all → other ≡ all → head ++ flat_map op_bytes other ≡ encoded all
headed head one other all is first second =
    (λ i. is i ++ flat_map op_bytes (second i))
    ∙ ap (λ ops. head_bytes ops ++ flat_map op_bytes all) first
    ∙ append_assoc (format_of all).tag (u32 (length all)) (flat_map op_bytes all)
