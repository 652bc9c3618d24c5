-- The long periods of games, once a further one is there.
use Rattle.std.proofs.Common.{◌≡◌, Bool, true, false, cond, List, [], ◌∷◌, ◌++◌, Option, Some, None, refl, sym, ap, ◌∙◌, append-nil}
use Rattle.std.specs.List.{filter, filter_map}
use Rattle.std.specs.Ordering.{eq_by_cmp}
use Rattle.std.specs.Cmp.{Equal-is}
use Rattle.std.proofs.lemmas.List.Elements.{filter-append, filter_map-append}
use Rattle.oct_code.specs.Code.{Code, code_cmp}
use Rattle.oct_code.specs.CodeOrder.{code_cmp_exact}
use Rattle.oct_ops.specs.Body.{Operation}
use Rattle.oct_said.specs.Noting.{long_period_of, said_of}
use Rattle.oct_said.specs.Said.{said_at, said_here}
use Rattle.oct_said.specs.declared.noting.LongPeriod.{LongPeriod}

-- one more note says what it says
pub said_more : (notes : List Operation) (o : Operation) (c : Code) → said_of (notes ++ o ∷ []) c ≡ said_of notes c ++ said_here c (long_period_of o)
said_more notes o c =
    ap (filter own) (filter_map-append long_period_of notes (o ∷ [])) ∙ filter-append own (filter_map long_period_of notes) (filter_map long_period_of (o ∷ []))
    ∙ ap (λ l. said_of notes c ++ l) (last (long_period_of o) refl)
  where
    own : LongPeriod → Bool
    own long = eq_by_cmp code_cmp long.code c

    last : (long : Option LongPeriod) → long_period_of o ≡ long → filter own (filter_map long_period_of (o ∷ [])) ≡ said_here c (long_period_of o)
    last None is = cc
    last (Some long) is = cc

-- a game has its periods, and one more behind them
pub put_behind : {S : Type 0} (periods : S → List LongPeriod) (old new : Code → Option S) (long : LongPeriod) (mid : S) → periods mid ≡ said_at periods (old long.code) ++ long ∷ []
    → ((c : Code) → new c ≡ cond (eq_by_cmp code_cmp long.code c) (Some mid) (old c)) → (c : Code) → said_at periods (new c) ≡ said_at periods (old c) ++ said_here c (Some long)
put_behind periods old new long mid grown put c = ap (said_at periods) (put c) ∙ by (eq_by_cmp code_cmp long.code c) refl
  where
    by : (t : Bool) → eq_by_cmp code_cmp long.code c ≡ t → said_at periods (cond t (Some mid) (old c)) ≡ said_at periods (old c) ++ cond t (long ∷ []) []
    by true same = grown ∙ ap (λ d. said_at periods (old d) ++ long ∷ []) (code_cmp_exact long.code c ((Equal-is (code_cmp long.code c)).0 same))
    by false other = sym (append-nil (said_at periods (old c)))
