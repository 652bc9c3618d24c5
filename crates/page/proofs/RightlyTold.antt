-- What is left of an answer is left of a right one.
use Rattle.std.proofs.Common.{◌≡◌, ℕ, ◌⊎◌, inl, inr, Result, Ok, Err, IfOk, IfErr, refl, ap, sym, subst, ◌∙◌}
use Rattle.oct_delta.specs.Text.{Bytes}
use Rattle.oct_text.specs.Words.{Text}
use Rattle.census_state.specs.Steps.{◌>>=◌}
use Rattle.census_state.proofs.Stepping.{stopped, then_with}
use Rattle.census_state.specs.declared.fault.Fault.{Fault}
use Rattle.census_state.specs.declared.fault.Fault.TheVariants as fault
use Rattle.oct_code.specs.Code.{Code}
use Rattle.page.specs.Answers.{IsListedIn, IsRight, IsSearchedIn}
use Rattle.page.specs.Telling.{Answer, IsTold, Tells}

-- the answer, or want of memory in place of its fault, where that is right too
pub rightly_told : {V : Type 0} (r : Result V Fault) (items : V → Text) (right : Answer → Type 0) (number : ℕ) (old new : Bytes) (whole : ℕ)
    → IfOk r (λ v. right (Ok (items v))) → IfErr r (λ e. right (Err e)) → right (Err fault.OutOfMemory)
    → IfOk r (λ v. IsTold (Ok (items v)) number old new whole)
    → IfErr r (λ e. IsTold (Err e) number old new whole ⊎ IsTold (Err fault.OutOfMemory) number old new whole)
    → Tells right number old new whole
rightly_told (Ok v) items right number old new whole ok err lacking told failed = record { answer = Ok (items v); is_right = ok; told = told }
rightly_told (Err e) items right number old new whole ok err lacking told failed = elim failed [
  | inl this ↦ record { answer = Err e; is_right = err; told = this }
  | inr memory ↦ record { answer = Err fault.OutOfMemory; is_right = lacking; told = memory }
]

pub lacking_told : (right : Answer → Type 0) (number : ℕ) (old new : Bytes) (whole : ℕ) → right (Err fault.OutOfMemory) → IsTold (Err fault.OutOfMemory) number old new whole → Tells right number old new whole
lacking_told right number old new whole lacking told = record { answer = Err fault.OutOfMemory; is_right = lacking; told = told }

-- ---- want of memory is an answer that is right

pub lacks : (right : Answer) → IsRight right (Err fault.OutOfMemory)
lacks right other = absurd (other refl)

pub search_lacks : (game : Result Code Fault) (count : ℕ) → IsSearchedIn game count (Err fault.OutOfMemory)
search_lacks (Ok c) count = tt
search_lacks (Err e) count = lacks (Err e)

pub list_lacks : (game : Result Code Fault) (count : ℕ) → IsListedIn game count (Err fault.OutOfMemory)
list_lacks (Ok c) count = tt
list_lacks (Err e) count = lacks (Err e)

-- a refused question is answered by its fault
pub search_refused : (game : Result Code Fault) (count : ℕ) (e : Fault) → game ≡ Err e → IsSearchedIn game count (Err e)
search_refused game count e is = subst (λ g. IsSearchedIn g count (Err e)) (sym is) (λ other. refl)

pub list_refused : (game : Result Code Fault) (count : ℕ) (e : Fault) → game ≡ Err e → IsListedIn game count (Err e)
list_refused game count e is = subst (λ g. IsListedIn g count (Err e)) (sym is) (λ other. refl)

-- a question that is allowed is answered of its game
pub search_allowed : (game : Result Code Fault) (c : Code) (count : ℕ) (answer : Answer) → game ≡ Ok c → IsSearchedIn (Ok c) count answer → IsSearchedIn game count answer
search_allowed game c count answer is done = subst (λ g. IsSearchedIn g count answer) (sym is) done

pub list_allowed : (game : Result Code Fault) (c : Code) (count : ℕ) (answer : Answer) → game ≡ Ok c → IsListedIn (Ok c) count answer → IsListedIn game count answer
list_allowed game c count answer is done = subst (λ g. IsListedIn g count answer) (sym is) done

pub answered : (game : Result Code Fault) (text_of : Code → Text) (c : Code) (text : Text) → game ≡ Ok c → text ≡ text_of c → IsRight (game >>= λ d. Ok (text_of d)) (Ok text)
answered game text_of c text is says other = ap Ok says ∙ sym (then_with game (λ d. Ok (text_of d)) c is)

pub refused : (game : Result Code Fault) (text_of : Code → Text) (e : Fault) → game ≡ Err e → IsRight (game >>= λ d. Ok (text_of d)) (Err e)
refused game text_of e is other = sym (stopped game (λ d. Ok (text_of d)) e is)
