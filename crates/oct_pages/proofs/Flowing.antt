-- A text that is written by way of a piece, and what of it is written where that fails.
use Rattle.std.specs.Result.{OnErr}
use Rattle.std.proofs.Common.{Result, Ok, Err, ◌≡◌, ℕ, List, [], ◌∷◌, ◌++◌, zero, suc, take, Option, refl, sym, ap, ◌∙◌, append_assoc, append-nil, subst}
use Rattle.std.proofs.KnownBytes.{Appends-nil, Appends-trans}
use Rattle.std.specs.Io.KnownBytes.{Appends}
use Rattle.written.specs.Output.{AppendsFront, AppendsPrefix}
use Rattle.written.proofs.Piecewise.{IsUnderway, put, spilled}

-- ---- prefixes

-- a prefix of a text is one of more
prefix_of_more : (n : ℕ) (text more : List ℕ) → (k : ℕ) × (take k (text ++ more) ≡ take n text)
prefix_of_more zero text more = (zero, refl)
prefix_of_more (suc n) [] more = (zero, refl)
prefix_of_more (suc n) (x ∷ text) more =
    let rest = prefix_of_more n text more in
    (suc rest.0, ap (λ l. x ∷ l) rest.1)

behind_front : (front text : List ℕ) (n : ℕ) → (k : ℕ) × (take k (front ++ text) ≡ front ++ take n text)
behind_front [] text n = (n, refl)
behind_front (x ∷ front) text n =
    let rest = behind_front front text n in
    (suc rest.0, ap (λ l. x ∷ l) rest.1)

pub prefix_longer : (old now : Option (List ℕ)) (text more : List ℕ) → AppendsPrefix old now text → AppendsPrefix old now (text ++ more)
prefix_longer old now text more h =
    let same = prefix_of_more h.0 text more in
    (same.0, subst (Appends old now) (sym same.1) h.1)

-- a front was written, and then a prefix of what follows
pub prefix_behind : (old now later : Option (List ℕ)) (front text : List ℕ) → Appends old now front → AppendsPrefix now later text → AppendsPrefix old later (front ++ text)
prefix_behind old now later front text first h =
    let same = behind_front front text h.0 in
    (same.0, subst (Appends old later) (sym same.1) (Appends-trans old now later front (take h.0 text) first h.1))

-- ---- a text that is underway

-- what is next was put behind the piece
pub passed : (old now later : Option (List ℕ)) (text piece next rest left : List ℕ) → IsUnderway old now text piece (next ++ rest) → AppendsFront now later (piece ++ next) left → IsUnderway old later text left rest
passed old now later text piece next rest left h more = spilled old now later text (piece ++ next) left rest (put old now text piece next rest h) more

-- or a prefix of it was written
pub cut_off : (old now later : Option (List ℕ)) (text piece next rest : List ℕ) → IsUnderway old now text piece (next ++ rest) → AppendsPrefix now later (piece ++ next) → AppendsPrefix old later text
cut_off old now later text piece next rest h more =
    subst (AppendsPrefix old later) (ap (λ t. h.written ++ t) (append_assoc piece next rest) ∙ h.parts)
    (prefix_behind old now later h.written ((piece ++ next) ++ rest) h.there (prefix_longer now later (piece ++ next) rest more))

-- the last of it was put behind the piece
pub last_passed : (old now later : Option (List ℕ)) (text piece next left : List ℕ) → IsUnderway old now text piece next → AppendsFront now later (piece ++ next) left → AppendsFront old later text left
last_passed old now later text piece next left h more = (
  h.written ++ more.0,
  Appends-trans old now later h.written more.0 h.there more.1,
  append_assoc h.written more.0 left ∙ ap (λ t. h.written ++ t) more.2 ∙ h.parts,
)

-- or a prefix of it was written
pub last_cut_off : (old now later : Option (List ℕ)) (text piece next : List ℕ) → IsUnderway old now text piece next → AppendsPrefix now later (piece ++ next) → AppendsPrefix old later text
last_cut_off old now later text piece next h more =
    subst (AppendsPrefix old later) h.parts (prefix_behind old now later h.written (piece ++ next) h.there more)

-- ---- a text of which the end is in the piece

-- it is written
pub front_done : (old now later : Option (List ℕ)) (text piece : List ℕ) → AppendsFront old now text piece → Appends now later piece → Appends old later text
front_done old now later text piece h last = subst (Appends old later) h.2 (Appends-trans old now later h.0 piece h.1 last)

-- or a prefix of it
pub front_fails : (old now later : Option (List ℕ)) (text piece : List ℕ) → AppendsFront old now text piece → AppendsPrefix now later piece → AppendsPrefix old later text
front_fails old now later text piece h last = subst (AppendsPrefix old later) h.2 (prefix_behind old now later h.0 piece h.1 last)

-- ---- a piece that is full

-- it is written, and then what had no room
pub both_written : (old now later : Option (List ℕ)) (piece text left : List ℕ) → Appends old now piece → Appends now later text → left ≡ [] → AppendsFront old later (piece ++ text) left
both_written old now later piece text left first second none =
    (piece ++ text, Appends-trans old now later piece text first second, ap (λ l. (piece ++ text) ++ l) none ∙ append-nil (piece ++ text))

pub nothing_written : (old : Option (List ℕ)) (text left : List ℕ) → left ≡ text → AppendsFront old old text left
nothing_written old text left same = ([], Appends-nil old, same)

-- ---- what holds whatever the error

pub whatever : {T E P : Type 0} (r : Result T E) → P → OnErr r P
whatever (Ok x) p = tt
whatever (Err e) p = p
