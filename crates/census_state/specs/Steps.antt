-- Steps that may fail, one after another.
use Rattle.std.specs.Prelude.{Option, Some, None, Result, Ok, Err}

-- the next step, where there was no fault
infixl 10 ◌>>=◌
abbrev pub ◌>>=◌ : {A B E : Type 0} → Result A E → (A → Result B E) → Result B E
(Ok x) >>= f = f x
(Err e) >>= f = Err e

-- the value, where it has no fault
abbrev pub unless : {A E : Type 0} → Option E → A → Result A E
unless None x = Ok x
unless (Some e) x = Err e

-- the value, where there is one
abbrev pub found : {A E : Type 0} → E → Option A → Result A E
found e None = Err e
found e (Some x) = Ok x

-- the same fault under another name
abbrev pub because : {A E F : Type 0} → (E → F) → Result A E → Result A F
because cause (Ok x) = Ok x
because cause (Err e) = Err (cause e)
