-- Steps that were taken, and one that was refused.
use Rattle.std.proofs.Common.{◌≡◌, Option, None, Result, Ok, Err, sym, ap, ◌∙◌}
use Rattle.census_state.specs.Steps.{◌>>=◌, because, unless}

-- the next step is taken with what the last one gave
pub then_with : {A B E : Type 0} (step : Result A E) (next : A → Result B E) (x : A) → step ≡ Ok x → (step >>= next) ≡ next x
then_with step next x is = ap (λ r. r >>= next) is

-- none is taken after a fault
pub stopped : {A B E : Type 0} (step : Result A E) (next : A → Result B E) (e : E) → step ≡ Err e → (step >>= next) ≡ Err e
stopped step next e is = ap (λ r. r >>= next) is

-- a step that has no fault gives its value
pub allowed : {A E F : Type 0} (cause : E → F) (fault : Option E) (value x : A) → fault ≡ None → x ≡ value → because cause (unless fault value) ≡ Ok x
allowed cause fault value x none is = ap (λ f. because cause (unless f value)) none ∙ ap Ok (sym is)
