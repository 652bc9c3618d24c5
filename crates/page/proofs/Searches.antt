-- What a search found, and why it ended early.
use Rattle.std.proofs.Common.{◌≡◌, ℕ, ◌+◌, ◌^◌, ◌<◌, ◌≤◌, List, [], ◌++◌, length, drop, get_or, Option, Some, None, refl, ap, sym, subst, subst₂, ◌∙◌, inl, inr, append-nil, append_assoc}
use Rattle.std.proofs.lemmas.List.{drop_all, drop_more}
use Rattle.oct_bfile.specs.Bfile.{row_text, rows_text}
use Rattle.oct_code.specs.Code.{Code}
use Rattle.oct_mex.specs.NimValues.{nim_value}
use Rattle.oct_mex.specs.Periods.{NoneIsShown}
use Rattle.oct_mex.specs.declared.period.SeenPeriod.{SeenPeriod}
use Rattle.oct_search.specs.Found.{IsFound, IsLeastShown}
use Rattle.oct_search.specs.Known.{Known}
use Rattle.oct_search.specs.declared.error.SearchError.{SearchError}
use Rattle.oct_search.specs.declared.error.SearchError.TheVariants as search
use Rattle.oct_text.specs.Words.{Text}
use Rattle.oct_text.specs.declared.form.Form.TheVariants.{Lines}
use Rattle.census_search.specs.SearchTexts.{game_line}
use Rattle.census_search.specs.Searching.{IsSearchFault, IsSearched}
use Rattle.census_state.specs.Refusals.{search_fault}

-- what is found among the nim-values, and the line that says so
pub searched : (c : Code) (count : ℕ) (game : Known) (found : Option SeenPeriod) (text : Text) → game.code ≡ c → game.len ≤ count → (found ≡ None → game.len ≡ count)
    → IsFound game.code game.len found → text ≡ game_line game.code found game.len → IsSearched Lines c count [] text
searched c count game None text same few all none says =
    inr (record {
      none = subst₂ (λ code n. NoneIsShown code n n) same (all refl) none;
      is = subst₂ (λ code n. text ≡ game_line code None n) same (all refl) says ∙ sym (append-nil (game_line c None count));
    })
searched c count game (Some seen) text same few all least says =
    inl (record {
      seen = seen;
      values = game.len;
      few = few;
      least = subst (λ code. IsLeastShown code game.len seen) same least;
      is = subst (λ code. text ≡ game_line code (Some seen) game.len) same says ∙ sym (append-nil (game_line c (Some seen) game.len));
    })

-- a nim-value that is too great is one of those that were asked for
pub past_from : (c : Code) (count : ℕ) (game : Known) (e : SearchError) → game.code ≡ c → game.len < count → (e ≡ search.PastValue → 2 ^ 16 ≤ nim_value game.code game.len) → IsSearchFault c count (search_fault e)
past_from c count game search.PastValue same within great =
    record { heap = game.len; within = within; great = subst (λ code. 2 ^ 16 ≤ nim_value code game.len) same (great refl) }
past_from c count game search.OutOfMemory same within great = tt

-- ---- the rows of a list

-- the next row at the end of a text
pub row_more : (text next values whole : List ℕ) (i value : ℕ) → i < length values → value ≡ get_or values i 0 → next ≡ text ++ row_text i value
    → text ++ rows_text i (drop i values) ≡ whole → next ++ rows_text (i + 1) (drop (i + 1) values) ≡ whole
row_more text next values whole i value within is grown so_far =
    let row = row_text i value in
    let rest = rows_text (i + 1) (drop (i + 1) values) in
    let opens : rows_text i (drop i values) ≡ row ++ rest = ap (rows_text i) (drop_more values i 0 within) ∙ ap (λ v. row_text i v ++ rest) (sym is) in
    ap (λ t. t ++ rest) grown ∙ append_assoc text row rest ∙ ap (λ t. text ++ t) (sym opens) ∙ so_far

-- all rows
pub rows_end : (text values whole : List ℕ) (i : ℕ) → length values ≤ i → text ++ rows_text i (drop i values) ≡ whole → text ≡ whole
rows_end text values whole i past so_far = sym (append-nil text) ∙ ap (λ rest. text ++ rows_text i rest) (sym (drop_all i values past)) ∙ so_far
