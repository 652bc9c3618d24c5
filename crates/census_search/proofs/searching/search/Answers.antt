use Rattle.std.proofs.Common.{◌≡◌, ◌≤◌, ℕ, List, Option, None, Some, refl, ap, subst, subst₂, ◌∙◌, inl, inr, arith}
use Rattle.oct_code.specs.Code.{Code}
use Rattle.oct_mex.specs.Periods.{NoneIsShown}
use Rattle.oct_mex.specs.declared.period.SeenPeriod.{SeenPeriod}
use Rattle.oct_text.specs.Words.{Text}
use Rattle.oct_search.specs.Found.{IsFound, IsLeastShown}
use Rattle.oct_search.specs.Known.{Known}
use Rattle.census_search.specs.SearchTexts.{search_text}
use Rattle.census_search.specs.Searching.{IsSearched}
use Rattle.oct_text.specs.declared.form.Form.{Form}
use Rattle.census_search.proofs.searching.search.Goals as goal

-- what is found among the nim-values, and the text that says so
searched : (form : Form) (c : Code) (count : ℕ) (heaps : List ℕ) (game : Known) (found : Option SeenPeriod) (text : Text) → game.code ≡ c → game.len ≤ count → (found ≡ None → game.len ≡ count)
    → IsFound game.code game.len found → text ≡ search_text form game.code found game.len heaps → IsSearched form c count heaps text
searched form c count heaps game None text same few all none says =
    inr (record {
      none = subst₂ (λ code n. NoneIsShown code n n) same (all refl) none;
      is = subst₂ (λ code n. text ≡ search_text form code None n heaps) same (all refl) says;
    })
searched form c count heaps game (Some seen) text same few all least says =
    inl (record {
      seen = seen;
      values = game.len;
      few = few;
      least = subst (λ code. IsLeastShown code game.len seen) same least;
      is = subst (λ code. text ≡ search_text form code (Some seen) game.len heaps) same says;
    })

pub returns-clause-ok : goal.returns-clause-ok
returns-clause-ok g c =
    let known = c.in_ok-found.ensures in
    let none = ap (λ (k : Known). k.len) c.new-game.ensures in
    searched c.args.form c.args.code c.args.count c.args.heaps.now c.search.new.self c.in_ok-found.found c.in_ok-search_text.field-0.items
    (known.code ∙ ap (λ (k : Known). k.code) c.new-game.ensures) (omega (arith, known.most, none)) (λ nothing. omega (arith, known.all nothing, none)) known.found c.in_ok-search_text.ensures
