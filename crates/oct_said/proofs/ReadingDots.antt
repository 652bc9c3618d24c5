-- The text of a dot is read as this dot.
use Rattle.std.proofs.Common.{◌≡◌, ℕ, ◌+◌, ◌<◌, ◌^◌, Bool, true, false, ◌&&◌, cond, ◌++◌, length, drop, Option, Some, None, refl, sym, ap, ◌∙◌, arith, length-append}
use Rattle.std.specs.Prelude.{codes, nat_eq, nat_le, nat_lt, if◌then◌else◌}
use Rattle.std.specs.Cmp.Lexicographic.{pointwise}
use Rattle.std.specs.Fmt.{decimal}
use Rattle.std.proofs.Math.Seq.{drop-append_seam}
use Rattle.std.proofs.lemmas.Bool.{le-leb, lt-leb, lt-ltb}
use Rattle.std.proofs.lemmas.Slice.Eq.{bytes_eq-Decides}
use Rattle.oct_ops.specs.Faults.{is_dot}
use Rattle.oct_ops.specs.Operation.{Dot, dot_of}
use Rattle.oct_ops.specs.Valid.{IsDot}
use Rattle.oct_text.specs.Words.{Text, dot_text}
use Rattle.oct_said.specs.Dots.{dot_by, if_dot, if_spelled, number_behind}
use Rattle.oct_said.specs.Laws.{DotsAreRead, ReadDotsAreWritten}
use Rattle.oct_said.specs.Lines.{number_of}
use Rattle.oct_said.proofs.Reading.{number_read}

-- ---- what is written is read

number_there : (d : Dot) → d.number < 2 ^ 32 → number_behind d.author (dot_text d) ≡ Some d.number
number_there d small =
    let lead = decimal d.author ++ codes "." in
    let first = length-append lead (decimal d.number) in
    let more = length-append (decimal d.author) (codes ".") in
    let long : nat_le (length (dot_text d)) (length (decimal d.author)) ≡ false = lt-leb (length (dot_text d)) (length (decimal d.author)) (omega (arith, first, more)) in
    ap (λ t. if t then None else number_of (drop (length (decimal d.author) + 1) (dot_text d))) long
    ∙ ap (λ n. number_of (drop n (dot_text d))) (sym more) ∙ ap number_of (drop-append_seam lead (decimal d.number))
    ∙ number_read d.number (omega (arith, small))

dot_there : (d : Dot) → IsDot d → if_dot (dot_of d.author d.number) ≡ Some d
dot_there d valid =
    λ i. if lt-ltb d.number (2 ^ 32) valid.number.1 i && (le-leb 1 d.author valid.author.0 i && le-leb 1 d.number valid.number.0 i) then Some d else None

pub dots_are_read : DotsAreRead
dots_are_read d valid =
    let text = dot_text d in
    ap (dot_by d.author text) (number_there d valid.number.1) ∙ ap (if_spelled text) (dot_there d valid)
    ∙ ap (λ t. if t then Some d else None) ((bytes_eq-Decides text text).1 refl)

-- ---- what is read was written

abbrev author_of : Option Dot → ℕ → ℕ
author_of None a = a
author_of (Some d) a = d.author

abbrev text_in : Option Dot → Text → Text
text_in None t = t
text_in (Some d) t = dot_text d

pub dots_are_written : ReadDotsAreWritten
dots_are_written author text d read = by (number_behind author text) read
  where
    kept : (e : Dot) (t : Bool) → e.author ≡ author → pointwise nat_eq (dot_text e) text ≡ t → cond t (Some e) None ≡ Some d → (d.author ≡ author) × (text ≡ dot_text d)
    kept e true own same is =
        (sym (ap (λ o. author_of o author) is) ∙ own, sym ((bytes_eq-Decides (dot_text e) text).0 same) ∙ ap (λ o. text_in o text) is)
    kept e false own other is = cc

    there : (e : Dot) (t : Bool) → e.author ≡ author → if_spelled text (cond t (Some e) None) ≡ Some d → (d.author ≡ author) × (text ≡ dot_text d)
    there e true own is = kept e (pointwise nat_eq (dot_text e) text) own refl is
    there e false own is = cc

    by : (number : Option ℕ) → dot_by author text number ≡ Some d → (d.author ≡ author) × (text ≡ dot_text d)
    by None is = cc
    by (Some n) is = there (dot_of author n) (nat_lt n (2 ^ 32) && is_dot (dot_of author n)) refl is
