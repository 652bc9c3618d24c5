use Rattle.std.proofs.Common.{◌≡◌, ◌<◌, ℕ, List, ◌++◌, Bool, true, false, not, length, refl, sym, ◌∙◌, ap, arith, take, drop}
use Rattle.std.proofs.lemmas.List.{append_cancel_left, length-append, take-append-drop}
use Rattle.std.specs.Cmp.Lexicographic.{bytes_decides, pointwise}
use Rattle.std.specs.Prelude.{nat_eq}
use Rattle.sha2.specs.Sha256.{sha256}
use Rattle.sha2.proofs.Facts256.{length-sha256}
use Rattle.oct_saved.specs.Saved.{has_tag, summed_text, tag}
use Rattle.oct_saved.proofs.Same.{same_parts}
use Rattle.oct_saved.proofs.reading.summed.Goals as goal

tagged : (text rest : List ℕ) → text ≡ tag ++ rest → has_tag text ≡ true
tagged text rest e = ap has_tag e

too_short : (text rest : List ℕ) → text ≡ tag ++ rest → length rest < 32 → (body : List ℕ) → text ≡ summed_text body → ⊥
too_short text rest e lt body is =
    let behind = append_cancel_left tag rest (sha256 body ++ body) (sym e ∙ is) in
    omega (arith, ap length behind, length-append (sha256 body) body, length-sha256 body)

-- the sum that stands there is the one that was computed, where some bytes have this text
right_sum : (text rest body sum : List ℕ) → text ≡ tag ++ rest → rest ≡ sum ++ body → length sum ≡ 32 → (other : List ℕ) → text ≡ summed_text other → sha256 body ≡ sum
right_sum text rest body sum e parts len other is =
    let behind = append_cancel_left tag (sum ++ body) (sha256 other ++ other) (ap (λ (z : List ℕ). tag ++ z) (sym parts) ∙ sym e ∙ is) in
    let both = same_parts sum (sha256 other) body other (len ∙ sym (length-sha256 other)) behind in
    ap sha256 both.1 ∙ sym both.0

split : (rest sum body : List ℕ) → sum ≡ take 32 rest → body ≡ drop 32 rest → rest ≡ sum ++ body
split rest sum body begins ends = sym (take-append-drop 32 rest) ∙ cc

differs : (r : Bool) (xs ys : List ℕ) → r ≡ not (pointwise nat_eq xs ys) → r ≡ true → xs ≡ ys → ⊥
differs r xs ys is holds same =
    let test : pointwise nat_eq xs ys ≡ true = (bytes_decides xs ys).1 same in
    let not_so : r ≡ false = is ∙ ap not test in
    cc

agrees : (r : Bool) (xs ys : List ℕ) → r ≡ not (pointwise nat_eq xs ys) → r ≡ false → xs ≡ ys
agrees r xs ys is fails = (bytes_decides xs ys).0 (undone (pointwise nat_eq xs ys) (sym is ∙ fails))
  where
    undone : (b : Bool) → not b ≡ false → b ≡ true
    undone true e = refl
    undone false e = cc

pub returns-then-rest-lt-SUM-clause-err : goal.returns-then-rest-lt-SUM-clause-err
returns-then-rest-lt-SUM-clause-err c =
    let e = c.in-Some.ensures.some in
    (tagged c.args.text.now c.in-Some.rest.now e, too_short c.args.text.now c.in-Some.rest.now e c.if-rest-lt-SUM.true)

pub returns-then-ne-clause-err : goal.returns-then-ne-clause-err
returns-then-ne-clause-err c =
    let e = c.in-Some.ensures.some in
    let rest = c.in-Some.rest.now in
    let sum = c.split_at.result.0.now in
    let body = c.split_at.result.1.now in (
      tagged c.args.text.now rest e,
      λ other is. differs c.ne.result c.as_slice.result.now sum c.ne.ensures c.if-ne.true
          (c.as_slice.ensures ∙ c.digest.ensures ∙ right_sum c.args.text.now rest body sum e (split rest sum body c.split_at.ensures.front c.split_at.ensures.back) c.split_at.ensures.front_len other is),
    )

pub returns-clause-ok : goal.returns-clause-ok
returns-clause-ok c =
    let rest = c.in-Some.rest.now in
    let sum = c.split_at.result.0.now in
    let body = c.split_at.result.1.now in
    let same : sha256 body ≡ sum = sym (c.as_slice.ensures ∙ c.digest.ensures) ∙ agrees c.ne.result c.as_slice.result.now sum c.ne.ensures c.if-ne.false in
    c.in-Some.ensures.some ∙ ap (λ (z : List ℕ). tag ++ z) (split rest sum body c.split_at.ensures.front c.split_at.ensures.back ∙ ap (λ (z : List ℕ). z ++ body) (sym same))
