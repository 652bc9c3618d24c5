-- The live notes of a set are those of its notes and removals alone.
use Rattle.std.proofs.Common.{◌≡◌, ℕ, Bool, true, false, not, ◌&&◌, ◌||◌, cond, List, [], ◌∷◌, map, refl, sym, ap, ◌∙◌}
use Rattle.std.specs.List.{list_any, filter}
use Rattle.std.specs.Cmp.{first_so}
use Rattle.oct_ops.specs.Arranged.{arranged}
use Rattle.oct_ops.specs.Body.{Body, Operation}
use Rattle.oct_ops.specs.Body as kind
use Rattle.oct_ops.specs.DotOrder.{dot_cmp}
use Rattle.oct_ops.specs.Operation.{Dot}
use Rattle.oct_ops.specs.Operations.{Operations, listed}
use Rattle.oct_ops.specs.OrderLaws.{op_cmp_total, op_cmp_exact}
use Rattle.oct_ops.specs.SetLaws.{listed-keep}
use Rattle.oct_notes.specs.Notes.{is_note, concerns_notes, notes_of, names_dot, is_removed, is_live, is_named, note_order, live_notes, live_dots}

abbrev kept : List Operation → List Operation
kept ops = filter (λ o. concerns_notes o.body) ops

-- ---- tests that only notes or removals pass

module _ (p : Operation → Bool) (only : (o : Operation) → p o ≡ true → concerns_notes o.body ≡ true) where
  fails : (o : Operation) → concerns_notes o.body ≡ false → p o ≡ false
  fails o other = elim (p o) as (λ b. p o ≡ b → b ≡ false) [ true ↦ λ passes. sym (only o passes) ∙ other | false ↦ λ _. refl ] refl

  any-kept : (ops : List Operation) → list_any p (kept ops) ≡ list_any p ops
  any-kept [] = refl
  any-kept (o ∷ ops) =
      elim (concerns_notes o.body) as (λ b. concerns_notes o.body ≡ b → list_any p (cond b (o ∷ kept ops) (kept ops)) ≡ (p o || list_any p ops)) [
        | true ↦ λ _. ap (λ b. p o || b) (any-kept ops)
        | false ↦ λ other. any-kept ops ∙ sym (ap (λ b. b || list_any p ops) (fails o other))
      ] refl

  filter-kept : (ops : List Operation) → filter p (kept ops) ≡ filter p ops
  filter-kept [] = refl
  filter-kept (o ∷ ops) =
      elim (concerns_notes o.body) as (λ b. concerns_notes o.body ≡ b → filter p (cond b (o ∷ kept ops) (kept ops)) ≡ cond (p o) (o ∷ filter p ops) (filter p ops)) [
        | true ↦ λ _. ap (λ l. cond (p o) (o ∷ l) l) (filter-kept ops)
        | false ↦ λ other. filter-kept ops ∙ sym (ap (λ b. cond b (o ∷ filter p ops) (filter p ops)) (fails o other))
      ] refl

naming : (d : Dot) (o : Operation) → names_dot d o.body ≡ true → concerns_notes o.body ≡ true
naming d o h = elim o.body as (λ b. names_dot d b ≡ true → concerns_notes b ≡ true) [ kind.Block b ↦ λ e. e | kind.Period p ↦ λ e. e | kind.Note n ↦ λ e. refl | kind.Removal r ↦ λ e. refl ] h

noting : (o : Operation) → is_note o.body ≡ true → concerns_notes o.body ≡ true
noting o h = elim o.body as (λ b. is_note b ≡ true → concerns_notes b ≡ true) [ kind.Block b ↦ λ e. e | kind.Period p ↦ λ e. e | kind.Note n ↦ λ e. refl | kind.Removal r ↦ λ e. refl ] h

pub same_test : (p q : Operation → Bool) → ((o : Operation) → p o ≡ q o) → (ops : List Operation) → filter p ops ≡ filter q ops
same_test p q same [] = refl
same_test p q same (o ∷ ops) = λ i. cond (same o i) (o ∷ same_test p q same ops i) (same_test p q same ops i)

removed-kept : (ops : List Operation) (d : Dot) → is_removed (kept ops) d ≡ is_removed ops d
removed-kept ops d = any-kept (λ o. names_dot d o.body) (naming d) ops

live-kept : (ops : List Operation) (o : Operation) → is_live (kept ops) o ≡ is_live ops o
live-kept ops o = ap (λ b. is_note o.body && not b) (removed-kept ops o.dot)

-- ---- the lists

pub live_notes-of : (ops : Operations) → live_notes (listed (notes_of ops)) ≡ live_notes (listed ops)
live_notes-of ops =
    ap live_notes (listed-keep op_cmp_total op_cmp_exact (λ o. concerns_notes o.body) ops)
    ∙ ap (arranged note_order)
    (same_test (is_live (kept (listed ops))) (is_live (listed ops)) (live-kept (listed ops)) (kept (listed ops))
    ∙ filter-kept (is_live (listed ops)) (λ o h. noting o (first_so (is_note o.body) _ h)) (listed ops))

pub live_dots-of : (ops : Operations) (name : List ℕ) → live_dots (listed (notes_of ops)) name ≡ live_dots (listed ops) name
live_dots-of ops name =
    ap (λ l. live_dots l name) (listed-keep op_cmp_total op_cmp_exact (λ o. concerns_notes o.body) ops)
    ∙ ap (λ l. arranged dot_cmp (map (λ o. o.dot) l))
    (same_test (λ o. is_live (kept (listed ops)) o && is_named name o) (λ o. is_live (listed ops) o && is_named name o) (λ o. ap (λ b. b && is_named name o) (live-kept (listed ops) o)) (kept (listed ops))
    ∙ filter-kept (λ o. is_live (listed ops) o && is_named name o) (λ o h. noting o (first_so (is_note o.body) _ (first_so (is_live (listed ops) o) _ h))) (listed ops))
