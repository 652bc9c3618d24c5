-- What is shown of lines, one after another.
use Rattle.std.proofs.Common.{arith, ◌≡◌, ◌≤◌, ℕ, zero, suc, ◌-◌, Bool, true, false, List, [], ◌∷◌, ◌++◌, length, take, drop, refl, sym, ap, ◌∙◌, append_assoc}
use Rattle.std.specs.Prelude.{nat_lt}
use Rattle.std.specs.List.{concat}
use Rattle.std.proofs.lemmas.List.{append-nil, drop_all}
use Rattle.std.proofs.lemmas.Bool.{false≢true}
use Rattle.std.proofs.lemmas.Bool.Decides.{nat_tests}
use Rattle.oct_pages.specs.Catalogue.{Text}
use Rattle.oct_pages.specs.Pager.{shows, passed, seen_line, seen, after, is_full, is_over, is_reached, AreShown}
use Rattle.oct_pages.specs.declared.pager.Pager.{Pager}
use Rattle.oct_pages.specs.declared.pager.Pager.TheVariants.{All, Page}

pub seen-append : (w : Pager) (xs ys : List Text) → seen w (xs ++ ys) ≡ seen w xs ++ seen (after w xs) ys
seen-append w [] ys = refl
seen-append w (x ∷ xs) ys = ap (λ t. seen_line w x ++ t) (seen-append (passed w) xs ys) ∙ sym (append_assoc (seen_line w x) (seen (passed w) xs) (seen (after (passed w) xs) ys))

pub after-append : (w : Pager) (xs ys : List Text) → after w (xs ++ ys) ≡ after (after w xs) ys
after-append w [] ys = refl
after-append w (x ∷ xs) ys = after-append (passed w) xs ys

-- ---- some lines, and then others

pub none_shown : (w : Pager) (text : Text) → AreShown w w text text []
none_shown w text = record { text = sym (append-nil text); pager = refl }

pub shown_then : (w v u : Pager) (a b c : Text) (xs ys : List Text) → AreShown w v a b xs → AreShown v u b c ys → AreShown w u a c (xs ++ ys)
shown_then w v u a b c xs ys s t = record {
  text =
      t.text ∙ (λ i. s.text i ++ seen (s.pager i) ys) ∙ append_assoc a (seen w xs) (seen (after w xs) ys)
      ∙ ap (λ r. a ++ r) (sym (seen-append w xs ys));
  pager = t.pager ∙ ap (λ v. after v ys) s.pager ∙ sym (after-append w xs ys);
}

pub line_shown : (w v : Pager) (old new line : Text) → true ≡ shows w → v ≡ passed w → new ≡ old ++ line → AreShown w v old new (line ∷ [])
line_shown w v old new line is moved grown = record {
  text =
      grown ∙ ap (λ t. old ++ t) (sym (append-nil line)
      ∙ ap (λ (b : Bool). elim b [ true ↦ line | false ↦ [] ] ++ []) is);
  pager = moved;
}

pub line_hidden : (w v : Pager) (old line : Text) → false ≡ shows w → v ≡ passed w → AreShown w v old old (line ∷ [])
line_hidden w v old line is moved = record {
  text = sym (append-nil old) ∙ ap (λ t. old ++ t) (ap (λ (b : Bool). elim b [ true ↦ line | false ↦ [] ] ++ []) is);
  pager = moved;
}

-- ---- lines in a loop

-- what is written and the rest make up all
pub record Showing (w v : Pager) (old new : Text) (all rest : List Text) : Type 0 where
  pub text : new ++ seen v rest ≡ old ++ seen w all
  pub pager : after v rest ≡ after w all

pub showing : (w : Pager) (text : Text) (all rest : List Text) → rest ≡ all → Showing w w text text all rest
showing w text all rest same = record { text = ap (λ l. text ++ seen w l) same; pager = ap (after w) same }

pub showing_next : (w v u : Pager) (old new next : Text) (all here xs rest : List Text) → here ≡ xs ++ rest → Showing w v old new all here → AreShown v u new next xs → Showing w u old next all rest
showing_next w v u old new next all here xs rest split so_far shown = record {
  text =
      (λ i. shown.text i ++ seen (shown.pager i) rest) ∙ append_assoc new (seen v xs) (seen (after v xs) rest)
      ∙ ap (λ t. new ++ t) (sym (seen-append v xs rest) ∙ ap (seen v) (sym split)) ∙ so_far.text;
  pager = ap (λ v. after v rest) shown.pager ∙ sym (after-append v xs rest) ∙ ap (after v) (sym split) ∙ so_far.pager;
}

pub all_shown : (w v : Pager) (old new : Text) (all rest : List Text) → rest ≡ [] → Showing w v old new all rest → AreShown w v old new all
all_shown w v old new all rest none so_far = record {
  text = sym (append-nil new) ∙ ap (λ l. new ++ seen v l) (sym none) ∙ so_far.text;
  pager = ap (after v) (sym none) ∙ so_far.pager;
}

-- ---- all lines, and those of a page

pub all_seen : (lines : List Text) → seen All lines ≡ concat lines
all_seen [] = refl
all_seen (line ∷ lines) = ap (λ t. line ++ t) (all_seen lines)

none_left : (lines : List Text) → seen (Page 0 0) lines ≡ []
none_left [] = refl
none_left (line ∷ lines) = none_left lines

pub page_seen : (before left : ℕ) (lines : List Text) → seen (Page before left) lines ≡ concat (take left (drop before lines))
page_seen zero zero lines = none_left lines
page_seen zero (suc left) [] = refl
page_seen zero (suc left) (line ∷ lines) = ap (λ t. line ++ t) (page_seen zero left lines)
page_seen (suc before) zero [] = refl
page_seen (suc before) (suc left) [] = refl
page_seen (suc before) left (line ∷ lines) = page_seen before left lines

none_after : (lines : List Text) → after (Page 0 0) lines ≡ Page 0 0
none_after [] = refl
none_after (line ∷ lines) = none_after lines

reached_at : (m n : ℕ) → m ≡ n → nat_lt m 64 ≡ nat_lt n 64
reached_at m n same = ap (λ k. nat_lt k 64) same

left_after : (before left : ℕ) (lines : List Text) → is_reached (after (Page before left) lines) ≡ nat_lt (left - (length lines - before)) 64
left_after zero zero lines = ap is_reached (none_after lines) ∙ reached_at 0 (0 - (length lines - 0)) (omega arith)
left_after zero (suc left) [] = reached_at (suc left) (suc left - (0 - 0)) (omega arith)
left_after zero (suc left) (line ∷ lines) = left_after zero left lines ∙ reached_at (left - (length lines - 0)) (suc left - (suc (length lines) - 0)) (omega arith)
left_after (suc before) left [] = reached_at left (left - (0 - suc before)) (omega arith)
left_after (suc before) left (line ∷ lines) = left_after before left lines ∙ reached_at (left - (length lines - before)) (left - (suc (length lines) - suc before)) (omega arith)

full : (before n : ℕ) → nat_lt (64 - (n - before)) 64 ≡ nat_lt before n
full before n = grind (arith, nat_tests)

-- a page is there if its first line is
pub page_reached : (before : ℕ) (lines : List Text) → is_reached (after (Page before 64) lines) ≡ nat_lt before (length lines)
page_reached before lines = left_after before 64 lines ∙ full before (length lines)

past : (before n : ℕ) → nat_lt before n ≡ false → n ≤ before
past before n h = grind (arith, nat_tests, h)

pub no_page : (before : ℕ) (lines : List Text) → nat_lt before (length lines) ≡ false → concat (take 64 (drop before lines)) ≡ []
no_page before lines none = ap (λ ls. concat (take 64 ls)) (drop_all before lines (past before (length lines) none))

-- ---- a page that is full

over_at : (before left : ℕ) (text : Text) (lines : List Text) → is_full before left ≡ true → AreShown (Page before left) (Page before left) text text lines
over_at zero zero text lines is = record { text = sym (append-nil text) ∙ ap (λ t. text ++ t) (sym (none_left lines)); pager = sym (none_after lines) }
over_at zero (suc left) text lines is = absurd (false≢true is)
over_at (suc before) left text lines is = absurd (false≢true is)

pub over_shown : (w : Pager) (text : Text) (lines : List Text) → is_over w ≡ true → AreShown w w text text lines
over_shown All text lines is = absurd (false≢true is)
over_shown (Page before left) text lines is = over_at before left text lines is
