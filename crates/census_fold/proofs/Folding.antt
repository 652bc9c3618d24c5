-- The lines of an input and the byte strings that they spell come to one set.
use Rattle.std.proofs.Common.{◌≡◌, true, false, List, [], ◌∷◌, Option, Some, None, Result, Ok, Err, refl, sym, ap, ◌∙◌}
use Rattle.std.specs.List.{All, AllByRecursion, cons_option, filter_map, flat_map}
use Rattle.std.specs.Option.{option_and_then}
use Rattle.std.specs.Prelude.{is_none, unwrap_or}
use Rattle.std.specs.Result.{result_ok}
use Rattle.std.proofs.lemmas.List.Elements.{All-from_recursion}
use Rattle.hex.specs.Hex.{decode_of}
use Rattle.hex.specs.declared.error.FromHexError.{FromHexError}
use Rattle.hex.proofs.HexLemmas.{decode_of-ok}
use Rattle.oct_delta.specs.Bytes.{IsBytes}
use Rattle.oct_delta.specs.Decoding.{read_delta}
use Rattle.oct_delta.specs.Taken.{operations_of_all, set_of_read}
use Rattle.oct_delta.specs.Text.{Bytes}
use Rattle.oct_delta.proofs.Deltas.{reads}
use Rattle.oct_delta.proofs.Spelled.{spell_together}
use Rattle.oct_ops.specs.Body.{Operation}
use Rattle.oct_ops.specs.Operations.{Operations, empty, listed, set_of, union}
use Rattle.oct_ops.specs.OrderLaws.{op_cmp_total, op_cmp_exact}
use Rattle.oct_ops.specs.SetLaws.{union-empty, union_comm}
use Rattle.oct_pages.specs.Catalogue.{catalogue}
use Rattle.oct_replica.proofs.Headline.{union_is_printed}
use Rattle.census_fold.specs.Folded.{FoldedIsPrinted, FoldedIsSpelled, FoldedIsUnion, IsDeltaLine, RefusedIsNoDelta, filled_lines, is_refused, operations_of_line, strings_of, taken_of_line, unhexed}
use Rattle.census_fold.proofs.Taking.{set_of-append}

-- ---- the union

none_first : (s : Operations) → union (set_of []) s ≡ s
none_first s = union_comm op_cmp_total op_cmp_exact empty s ∙ union-empty op_cmp_total op_cmp_exact s

read_or_none : (read : Option (List Operation)) → set_of (unwrap_or read []) ≡ set_of_read read
read_or_none None = refl
read_or_none (Some ops) = refl

-- one line, by the bytes that it spells
line_first : (bytes : Option Bytes) (strings : List Bytes) → union (set_of (unwrap_or (option_and_then read_delta bytes) [])) (operations_of_all strings) ≡ operations_of_all (cons_option bytes strings)
line_first None strings = none_first (operations_of_all strings)
line_first (Some bytes) strings = ap (λ s. union s (operations_of_all strings)) (read_or_none (read_delta bytes))

lines_together : (lines : List Bytes) → set_of (flat_map taken_of_line lines) ≡ operations_of_all (filter_map unhexed lines)
lines_together [] = refl
lines_together (line ∷ rest) =
    set_of-append (taken_of_line line) (flat_map taken_of_line rest)
    ∙ ap (union (set_of (taken_of_line line))) (lines_together rest)
    ∙ line_first (unhexed line) (filter_map unhexed rest)

pub folded_is_union : FoldedIsUnion
folded_is_union input = ap (λ s. catalogue (listed s)) (lines_together (filled_lines input))

pub folded_is_printed : FoldedIsPrinted
folded_is_printed input = folded_is_union input ∙ sym (union_is_printed (strings_of input))

-- ---- what is spelled

digits_are_bytes : (line bytes : Bytes) → unhexed line ≡ Some bytes → IsBytes bytes
digits_are_bytes line bytes h = (decode_of-ok line bytes (by (decode_of line) refl)).3
  where
    by : (r : Result Bytes FromHexError) → decode_of line ≡ r → decode_of line ≡ Ok bytes
    by (Ok found) e = let same : Some found ≡ Some bytes = sym (ap result_ok e) ∙ h in e ∙ ap (λ (b : Bytes). Ok b) (some_same same)
      where
        some_same : Some found ≡ Some bytes → found ≡ bytes
        some_same s = cc
    by (Err fault) e = let none : None ≡ Some bytes = sym (ap result_ok e) ∙ h in cc

bytes_kept : (line : Bytes) (bytes : Option Bytes) (rest : List Bytes) → unhexed line ≡ bytes → AllByRecursion IsBytes rest → AllByRecursion IsBytes (cons_option bytes rest)
bytes_kept line None rest e are = are
bytes_kept line (Some bytes) rest e are = (digits_are_bytes line bytes e, are)

strings_are_bytes : (lines : List Bytes) → AllByRecursion IsBytes (filter_map unhexed lines)
strings_are_bytes [] = tt
strings_are_bytes (line ∷ rest) = bytes_kept line (unhexed line) (filter_map unhexed rest) refl (strings_are_bytes rest)

pub folded_is_spelled : FoldedIsSpelled
folded_is_spelled input ops spell =
    let are : All IsBytes (strings_of input) = All-from_recursion IsBytes (strings_of input) (strings_are_bytes (filled_lines input)) in
    folded_is_union input ∙ ap (λ s. catalogue (listed s)) (sym ((spell_together (strings_of input) ops are).0 spell))

-- ---- what is refused

spelled_line : (line bytes : Bytes) → unhexed line ≡ Some bytes → operations_of_line line ≡ read_delta bytes
spelled_line line bytes e = ap (option_and_then read_delta) e

taken_is_delta : (line : Bytes) (ops : List Operation) → operations_of_line line ≡ Some ops → IsDeltaLine line
taken_is_delta line ops h = by (unhexed line) refl
  where
    by : (o : Option Bytes) → unhexed line ≡ o → IsDeltaLine line
    by None e = let none : None ≡ Some ops = sym (ap (option_and_then read_delta) e) ∙ h in cc
    by (Some bytes) e = record {
      bytes = bytes;
      digits = e;
      ops = ops;
      text = (reads bytes ops (digits_are_bytes line bytes e)).0 (sym (spelled_line line bytes e) ∙ h);
    }

refused_no_delta : (line : Bytes) → is_refused line ≡ true → IsDeltaLine line → ⊥
refused_no_delta line refused d =
    let some = spelled_line line d.bytes d.digits ∙ (reads d.bytes d.ops (digits_are_bytes line d.bytes d.digits)).1 d.text in
    let same : false ≡ true = sym (ap is_none some) ∙ refused in
    cc

no_delta_refused : (line : Bytes) → (IsDeltaLine line → ⊥) → is_refused line ≡ true
no_delta_refused line other = by (operations_of_line line) refl
  where
    by : (o : Option (List Operation)) → operations_of_line line ≡ o → is_refused line ≡ true
    by None e = ap is_none e
    by (Some ops) e = absurd (other (taken_is_delta line ops e))

pub refused_is_no_delta : RefusedIsNoDelta
refused_is_no_delta line = (refused_no_delta line, no_delta_refused line)
