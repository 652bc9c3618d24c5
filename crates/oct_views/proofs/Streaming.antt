-- Parts of a text that are put behind a piece, one after another, of which a front may be written at any time.
use Rattle.std.proofs.Common.{arith, ◌≡◌, ◌≢◌, ℕ, ◌+◌, ◌<◌, get_or, List, [], ◌∷◌, ◌++◌, length, length-append, take, drop, take-append-drop, Option, refl, sym, ap, ◌∙◌, append_assoc, append-nil, subst}
use Rattle.std.specs.Prelude.{codes}
use Rattle.std.specs.List.{concat, flat_map}
use Rattle.std.proofs.lemmas.Grind.{flat_map-append}
use Rattle.std.proofs.lemmas.List.{take_all}
use Rattle.std.proofs.lemmas.List.Folds.{concat-append}
use Rattle.oct_ops.proofs.Growing.{cut_back, extends_by, extends_trans, grown_each}
use Rattle.oct_sheet.proofs.Streamed.{front_put, front_then}
use Rattle.oct_tables.proofs.TableLaws.{table-some}
use Rattle.oct_tables.specs.Tables.{table, table_end, table_head}
use Rattle.written.specs.Output.{AppendsFront}

one_more : (parts : List (List ℕ)) (part : List ℕ) → concat (parts ++ part ∷ []) ≡ concat parts ++ part
one_more parts part = concat-append parts (part ∷ []) ∙ ap (λ t. concat parts ++ t) (append-nil part)

-- these parts are put behind a piece
pub record ArePut (old now : Option (List ℕ)) (piece : List ℕ) (parts : List (List ℕ)) (next : List ℕ) : Type 0 where
  pub front : AppendsFront old now (piece ++ concat parts) next

pub none_put : (old : Option (List ℕ)) (piece : List ℕ) → ArePut old old piece [] piece
none_put old piece = record { front = front_put old piece piece [] (sym (append-nil piece)) }

-- one part more, of which some may be written
pub streamed : (old now later : Option (List ℕ)) (piece : List ℕ) (parts : List (List ℕ)) (mid next part : List ℕ) → ArePut old now piece parts mid → AppendsFront now later (mid ++ part) next
    → ArePut old later piece (parts ++ part ∷ []) next
streamed old now later piece parts mid next part h more = record {
  front = subst (λ t. AppendsFront old later (piece ++ t) next) (sym (one_more parts part)) (front_then old now later piece mid next (concat parts) part h.front more);
}

-- one part more, of which nothing is written
pub appended : (old now : Option (List ℕ)) (piece : List ℕ) (parts : List (List ℕ)) (mid next part : List ℕ) → ArePut old now piece parts mid → next ≡ mid ++ part
    → ArePut old now piece (parts ++ part ∷ []) next
appended old now piece parts mid next part h e = streamed old now now piece parts mid next part h (front_put now mid next part e)

-- the texts of the items before i, and then the next one's
pub each_put : {X : Type 0} (text : X → List ℕ) (xs : List X) (i : ℕ) (x other : X) (old now later : Option (List ℕ)) (piece mid put next : List ℕ)
    → i < length xs → x ≡ get_or xs i other → AppendsFront old now (piece ++ flat_map text (take i xs)) mid → put ≡ mid ++ text x → AppendsFront now later put next
    → AppendsFront old later (piece ++ flat_map text (take (i + 1) xs)) next
each_put text xs i x other old now later piece mid put next within is so_far e spilt =
    let before = flat_map text (take i xs) in
    subst (λ t. AppendsFront old later t next)
    (sym (append_assoc piece before (text x)) ∙ grown_each text xs i x other piece (piece ++ before) ((piece ++ before) ++ text x) within is refl refl)
    (front_then old now later piece mid next before (text x) so_far (subst (λ t. AppendsFront now later t next) e spilt))

-- ---- a table

table-none : (caption : List ℕ) (columns : List (List ℕ)) (rows : List ℕ) → length rows ≡ 0 → table caption columns rows ≡ []
table-none caption columns [] none = refl
table-none caption columns (b ∷ rows) none = absurd (omega arith)

-- no row has a text, and the head is taken back
pub table_left_out : {X : Type 0} (text : X → List ℕ) (caption : List ℕ) (columns : List (List ℕ)) (xs : List X) (n : ℕ) (piece begun mid next : List ℕ)
    → begun ≡ piece ++ table_head (codes "plain") caption columns → mid ≡ begun ++ flat_map text (take n xs) → length mid ≡ length begun → n ≡ length xs → next ≡ take (length piece) mid
    → next ≡ piece ++ table caption columns (flat_map text xs)
table_left_out text caption columns xs n piece begun mid next e f none all cut =
    let before = flat_map text (take n xs) in
    let same : before ≡ flat_map text xs = ap (flat_map text) (take_all n xs (omega (arith, all))) in
    let more : length mid ≡ length begun + length before = ap length f ∙ length-append begun before in
    let empty : length (flat_map text xs) ≡ 0 = sym (ap length same) ∙ omega (arith, more, none) in
    cut_back (length piece) piece mid next refl (extends_trans piece begun mid (extends_by piece begun _ e) (extends_by begun mid _ f)) cut
    ∙ sym (append-nil piece) ∙ ap (λ t. piece ++ t) (sym (table-none caption columns (flat_map text xs) empty))

-- the first n rows, of which one has a text, and the others, of which some may be written
pub table_put : {X : Type 0} (text : X → List ℕ) (caption : List ℕ) (columns : List (List ℕ)) (xs : List X) (n : ℕ) (old later : Option (List ℕ)) (piece begun mid next end : List ℕ)
    → begun ≡ piece ++ table_head (codes "plain") caption columns → mid ≡ begun ++ flat_map text (take n xs) → length mid ≢ length begun
    → AppendsFront old later (mid ++ flat_map text (drop n xs)) next → end ≡ next ++ table_end
    → AppendsFront old later (piece ++ table caption columns (flat_map text xs)) end
table_put text caption columns xs n old later piece begun mid next end e f some rest g =
    let head = table_head (codes "plain") caption columns in
    let before = flat_map text (take n xs) in
    let behind = flat_map text (drop n xs) in
    let split : before ++ behind ≡ flat_map text xs = sym (flat_map-append text (take n xs) (drop n xs)) ∙ ap (flat_map text) (take-append-drop n xs) in
    let more : length mid ≡ length begun + length before = ap length f ∙ length-append begun before in
    let all : length (flat_map text xs) ≡ length before + length behind = sym (ap length split) ∙ length-append before behind in
    let filled : 0 < length (flat_map text xs) = omega (arith, more, all, some) in
    subst (λ t. AppendsFront old later (piece ++ t) end)
    (ap (λ t. head ++ t) (sym (append_assoc before behind (table_end ++ [])) ∙ ap (λ t. t ++ (table_end ++ [])) split) ∙ sym (table-some (codes "plain") caption columns (flat_map text xs) filled))
    (appended _ _ _ _ _ _ _ (streamed _ _ _ _ _ _ _ _ (appended _ _ _ _ _ _ _ (appended _ _ _ _ _ _ _ (none_put old piece) e) f) rest) g).front

-- no row is there
pub no_row_put : {X : Type 0} (text : X → List ℕ) (caption : List ℕ) (columns : List (List ℕ)) (xs : List X) (old : Option (List ℕ)) (piece : List ℕ)
    → length xs ≡ 0 → AppendsFront old old (piece ++ table caption columns (flat_map text xs)) piece
no_row_put text caption columns [] old piece none = front_put old piece piece [] (sym (append-nil piece))
no_row_put text caption columns (x ∷ xs) old piece none = absurd (omega arith)

filled_each : {X : Type 0} (text : X → List ℕ) (xs : List X) → ((x : X) → 0 < length (text x)) → 0 < length xs → 0 < length (flat_map text xs)
filled_each text [] filled some = absurd (omega arith)
filled_each text (x ∷ xs) filled some = let here = filled x in omega (arith, here, length-append (text x) (flat_map text xs))

-- rows that all have a text, of which some may be written
pub rows_put : {X : Type 0} (text : X → List ℕ) (caption : List ℕ) (columns : List (List ℕ)) (xs : List X) (old later : Option (List ℕ)) (piece begun next end : List ℕ)
    → ((x : X) → 0 < length (text x)) → 0 < length xs
    → begun ≡ piece ++ table_head (codes "plain") caption columns → AppendsFront old later (begun ++ flat_map text xs) next → end ≡ next ++ table_end
    → AppendsFront old later (piece ++ table caption columns (flat_map text xs)) end
rows_put text caption columns xs old later piece begun next end filled some e rows g =
    subst (λ t. AppendsFront old later (piece ++ t) end) (sym (table-some (codes "plain") caption columns (flat_map text xs) (filled_each text xs filled some)))
    (appended _ _ _ _ _ _ _ (streamed _ _ _ _ _ _ _ _ (appended _ _ _ _ _ _ _ (none_put old piece) e) rows) g).front

-- a text whose front is not empty
pub filled_front : (front rest : List ℕ) → 0 < length front → 0 < length (front ++ rest)
filled_front front rest some = omega (arith, length-append front rest)
