-- One schedule of two replicas: what the first issues, saves and sends, the second has after a delivery. And what a replica
-- computes of 0.137, of which it knows nothing.
use Rattle.std.proofs.Common.{◌≡◌, ◌+◌, true, false, not, ◌&&◌, ◌||◌, cond, ◌==◌, leb, ltb, List, [], ◌∷◌, ◌++◌, Some, None, refl, ap, ◌∙◌}
use Rattle.std.specs.List.{list_any, filter}
use Rattle.std.specs.Option.{unwrap_or}
use Rattle.std.specs.Cmp.{eq_by_cmp_equiv}
use Rattle.std.specs.Ordering.{nat_cmp}
use Rattle.std.specs.FinMap as finmap
use Rattle.oct_code.specs.Code.{Code}
use Rattle.oct_ops.specs.Operation.{claimed}
use Rattle.oct_ops.specs.Operations.{Operations, empty, contains, insert, listed, set_of}
use Rattle.oct_ops.specs.OrderLaws.{op_cmp_total, op_cmp_exact}
use Rattle.oct_ops.specs.SetLaws as laws
use Rattle.oct_ops.specs.Body.{Body, Operation}
use Rattle.oct_join.specs.Clock.{Clock, covers}
use Rattle.oct_store.specs.Summary.{last, beyond}
use Rattle.oct_period.specs.Computing.{compute_fault, next_block}
use Rattle.oct_replica.specs.World.{World, Local, start, with_replica, is_own_saved, step, after}
use Rattle.oct_record.specs.Taking.{last_number}
use Rattle.oct_replica.specs.World.Event.{Issue, Save, Send, Deliver, Restart}
use Rattle.oct_period.specs.declared.computing.ComputeError.TheVariants.{Zero, TooMany, AtLimit}

no_clock : Clock
no_clock = finmap.empty

abbrev first_op : Body → Operation
first_op body = record { dot = record { author = 1; number = 1 }; body = body }

abbrev one : Body → Operations
one body = insert empty (first_op body)

abbrev fresh : Local
fresh = record { held = empty; saved = empty }

listed-one : (body : Body) → listed (one body) ≡ first_op body ∷ []
listed-one body = laws.listed-set_of op_cmp_total op_cmp_exact (first_op body ∷ []) refl

issued : (body : Body) → step (start 2) (Issue 1 body) ≡ record { replicas = record { held = one body; saved = empty } ∷ fresh ∷ []; packets = [] }
issued body = ap (λ (ops : List Operation). elim (ltb (last ops 1) last_number) [
  | true ↦ with_replica (start 2) 1 (record { held = insert empty (record { dot = record { author = 1; number = last ops 1 + 1 }; body = body }); saved = empty })
  | false ↦ start 2
]) (laws.listed-empty op_cmp_total op_cmp_exact)

has_one : (body : Body) → contains (one body) (first_op body) ≡ true
has_one body =
    laws.contains-insert op_cmp_total op_cmp_exact empty (first_op body) (first_op body)
    ∙ ap (λ b. b || contains empty (first_op body)) ((eq_by_cmp_equiv op_cmp_total).refl (first_op body))

all_saved : (body : Body) → is_own_saved (record { held = one body; saved = one body }) 1 ≡ true
all_saved body =
    ap (λ ops. not (list_any (λ (o : Operation). (o.dot.author == 1) && not (contains (one body) o)) ops)) (listed-one body)
    ∙ ap (λ t. not ((not t) || false)) (has_one body)

not_covered : (body : Body) → covers no_clock (first_op body).dot ≡ false
unfolding no_clock
not_covered body = ap (λ n. leb 1 (unwrap_or n 0)) (finmap.get-empty nat_cmp 1)

all_beyond : (body : Body) → listed (beyond (one body) no_clock) ≡ first_op body ∷ []
all_beyond body =
    ap (λ ops. listed (set_of (filter (λ (o : Operation). not (covers no_clock o.dot)) ops))) (listed-one body)
    ∙ ap (λ t. listed (set_of (cond (not t) (first_op body ∷ []) []))) (not_covered body)
    ∙ listed-one body

abbrev saved : Body → World
saved body = record { replicas = record { held = one body; saved = one body } ∷ fresh ∷ []; packets = [] }

sent : (body : Body) → step (saved body) (Send 1 no_clock) ≡ record { replicas = record { held = one body; saved = one body } ∷ fresh ∷ []; packets = (first_op body ∷ []) ∷ [] }
sent body =
    ap (λ t. elim t [ true ↦ record (saved body) { packets = [] ++ listed (beyond (one body) no_clock) ∷ [] } | false ↦ saved body ]) (all_saved body)
    ∙ ap (λ ops. record (saved body) { packets = ops ∷ [] }) (all_beyond body)

arrives : (body : Body) → after 2 (Issue 1 body ∷ Save 1 ∷ Send 1 no_clock ∷ Deliver 0 2 1 ∷ [])
    ≡ record { replicas = record { held = one body; saved = one body } ∷ record { held = one body; saved = empty } ∷ []; packets = (first_op body ∷ []) ∷ [] }
arrives body =
    ap (λ w. step (step (step w (Save 1)) (Send 1 no_clock)) (Deliver 0 2 1)) (issued body)
    ∙ ap (λ w. step w (Deliver 0 2 1)) (sent body)

-- where the second then restarts, it has nothing
lost : (body : Body) → after 2 (Issue 1 body ∷ Save 1 ∷ Send 1 no_clock ∷ Deliver 0 2 1 ∷ Restart 2 ∷ [])
    ≡ record { replicas = record { held = one body; saved = one body } ∷ fresh ∷ []; packets = (first_op body ∷ []) ∷ [] }
lost body = ap (λ w. step w (Restart 2)) (arrives body)

abbrev unsaved : Body → World
unsaved body = record { replicas = record { held = one body; saved = empty } ∷ fresh ∷ []; packets = [] }

none_saved : (body : Body) → is_own_saved (record { held = one body; saved = empty }) 1 ≡ false
none_saved body =
    ap (λ ops. not (list_any (λ (o : Operation). (o.dot.author == 1) && not (contains empty o)) ops)) (listed-one body)
    ∙ ap (λ t. not ((not t) || false)) (laws.contains-empty op_cmp_total op_cmp_exact (first_op body))

-- what is not saved is not sent
kept_back : (body : Body) → after 2 (Issue 1 body ∷ Send 1 no_clock ∷ []) ≡ unsaved body
kept_back body =
    ap (λ w. step w (Send 1 no_clock)) (issued body)
    ∙ ap (λ t. elim t [ true ↦ record (unsaved body) { packets = [] ++ listed (beyond (one body) no_clock) ∷ [] } | false ↦ unsaved body ]) (none_saved body)

-- ---- next values

abbrev dawsons_chess : Code
dawsons_chess = record { head = 0; digits = 1 ∷ 3 ∷ 7 ∷ [] }

five_values : next_block dawsons_chess [] 5 ≡ claimed dawsons_chess 1 (1 ∷ 1 ∷ 2 ∷ 0 ∷ 3 ∷ [])
five_values = refl

no_values : compute_fault 65536 0 ≡ Some Zero
no_values = refl

many_values : compute_fault 65536 1025 ≡ Some TooMany
many_values = refl

at_limit : compute_fault 65536 1024 ≡ Some AtLimit
at_limit = refl

last_value : compute_fault 65535 1024 ≡ None
last_value = refl
