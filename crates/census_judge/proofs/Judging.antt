-- What became of the operations of a game.
use Rattle.std.proofs.Common.{◌≡◌, ℕ, zero, suc, ◌+◌, ◌-◌, ◌<◌, Bool, true, false, not, ◌||◌, eqb, leb, List, [], ◌∷◌, ◌++◌, cond, Option, Some, None, refl, sym, ap, ◌∙◌, subst, append_assoc, arith}
use Rattle.std.specs.Option.{unwrap_or}
use Rattle.std.specs.List.{cons_option, flat_map, list_all, list_any}
use Rattle.std.proofs.lemmas.Bool.{and_from}
use Rattle.std.specs.Cmp.{Equal-is, first_so}
use Rattle.oct_code.specs.Code.{Code, code_cmp}
use Rattle.oct_code.specs.CodeOrder.{code_cmp_exact}
use Rattle.oct_mex.specs.NimValues.{nim_value}
use Rattle.oct_ops.specs.Body as kind
use Rattle.oct_ops.specs.Body.{Body, Operation}
use Rattle.oct_ops.specs.Games.{is_of_game}
use Rattle.oct_ops.specs.Operation.{Dot, Block, Period}
use Rattle.oct_ops.specs.Operations.{Operations, contains}
use Rattle.oct_ops.specs.Sets as sets
use Rattle.oct_pages.specs.Catalogue.{block_of_game, if_some, under}
use Rattle.oct_period.specs.GameContent.{GameContent}
use Rattle.oct_period.specs.Periods.{first_break, needs, period_status, status_at}
use Rattle.oct_period.specs.declared.status.PeriodStatus.{PeriodStatus}
use Rattle.oct_period.specs.declared.status.PeriodStatus.TheVariants.{Proved, Refuted, Pending}
use Rattle.oct_verify.specs.Known.{known}
use Rattle.census_judge.specs.Verdicts.{judged_by, judged_op, verdict_of}

-- ---- operations that were there before

-- of a game of which nothing is new nothing is said
pub none_new : (before : Operations) (game : GameContent) (ops : List Operation) → list_any (λ o. not (contains before o)) ops ≡ false → flat_map (judged_op before game) ops ≡ []
none_new before game [] h = refl
none_new before game (o ∷ ops) h = by (contains before o) h (none_new before game ops)
  where
    by : (t : Bool) → (not t || list_any (λ x. not (contains before x)) ops) ≡ false → (list_any (λ x. not (contains before x)) ops ≡ false → flat_map (judged_op before game) ops ≡ [])
        → cond t [] (judged_by game.code o.dot (verdict_of game o.body)) ++ flat_map (judged_op before game) ops ≡ []
    by true k rest = rest k
    by false k rest = cc

-- ---- the blocks and claims of a game

-- a block of the game is one that the game has
pub held_block : (game : GameContent) (d : Dot) (body : Body) (b : Block) → body ≡ kind.Block b → is_of_game game.code body ≡ true
    → list_all (sets.contains game.blocks) (cons_option (under d (block_of_game game.code body)) []) ≡ true → sets.contains game.blocks (d, b) ≡ true
held_block game d body b is same here =
    let P : Body → Type 0 = λ x. is_of_game game.code x ≡ true → list_all (sets.contains game.blocks) (cons_option (under d (block_of_game game.code x)) []) ≡ true → sets.contains game.blocks (d, b) ≡ true in
    subst P (sym is) (λ so there. first_so _ _ (subst (λ t. list_all (sets.contains game.blocks) (cons_option (under d (if_some t b)) []) ≡ true) so there)) same here

-- a claim of the game names it
pub its_claim : (c : Code) (body : Body) (p : Period) → body ≡ kind.Period p → is_of_game c body ≡ true → p.code ≡ c
its_claim c body p is same =
    let P : Body → Type 0 = λ x. is_of_game c x ≡ true → p.code ≡ c in
    subst P (sym is) (λ so. code_cmp_exact p.code c ((Equal-is (code_cmp p.code c)).0 so)) same

-- ---- a claim that is refuted

break_within : (c : Code) (period count n at : ℕ) → first_break c period count n ≡ Some at → at < n + count
break_within c period zero n at h = cc
break_within c period (suc count) n at h =
    elim (eqb (nim_value c (n + period)) (nim_value c n)) as (λ t. ◌≡◌ {A = Option ℕ} (elim t [ true ↦ first_break c period count (n + 1) | false ↦ Some n ]) (Some at) → at < n + suc count) [
      | true ↦ λ k. let later : at < n + 1 + count = break_within c period count (n + 1) at k in omega arith
      | false ↦ λ k. let here : n ≡ at = ap (λ o. unwrap_or o n) k in omega arith
    ] h

refuted_by : (k : ℕ) (p : Period) (x : Option ℕ) (at : ℕ) → status_at k p x ≡ Refuted at → x ≡ Some at
refuted_by k p (Some n) at h = ap (λ s. place s n) h
  where
    place : PeriodStatus → ℕ → Option ℕ
    place Proved n = Some n
    place (Refuted m) n = Some m
    place (Pending m) n = Some n
refuted_by k p None at h = elim (leb (needs p) k) as (λ t. ◌≡◌ {A = PeriodStatus} (elim t [ true ↦ Proved | false ↦ Pending (needs p) ]) (Refuted at) → ◌≡◌ {A = Option ℕ} None (Some at)) [
  | true ↦ λ is. cc
  | false ↦ λ is. cc
] h

-- both nim-values that differ are known
pub broken_within : (blocks : List Block) (p : Period) (at : ℕ) → period_status blocks p ≡ Refuted at → at + p.period < known blocks
broken_within blocks p at h =
    let count = known blocks - (p.start + p.period) in
    let found = refuted_by (known blocks) p (first_break p.code p.period count p.start) at h in
    let within : at < p.start + count = break_within p.code p.period count p.start at found in
    let some = some_count p.code p.period count p.start at found in
    omega arith
  where
    some_count : (c : Code) (period count n at : ℕ) → first_break c period count n ≡ Some at → 0 < count
    some_count c period zero n at h = cc
    some_count c period (suc count) n at h = omega arith

-- ---- one operation after another

-- what is said of one more
pub one_judged : {X Y : Type 0} (f : X → List Y) (x : X) (rest its : List X) (old new all : List Y) → its ≡ x ∷ rest → new ≡ old ++ f x → old ++ flat_map f its ≡ all → new ++ flat_map f rest ≡ all
one_judged f x rest its old new all steps pushed so_far =
    ap (λ l. l ++ flat_map f rest) pushed ∙ append_assoc old (f x) (flat_map f rest) ∙ ap (λ t. old ++ flat_map f t) (sym steps) ∙ so_far

-- of what each of a list has, the first has it
pub first_held : {X : Type 0} (p : X → Bool) (m : Option X) (rest : List X) → list_all p (cons_option m rest) ≡ true → list_all p (cons_option m []) ≡ true
first_held p None rest h = refl
first_held p (Some x) rest h = and_from _ _ (first_so (p x) (list_all p rest) h) refl
