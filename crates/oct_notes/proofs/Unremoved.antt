-- A note is live exactly where it is in the set and no removal of the set names its dot.
use Rattle.std.proofs.Common.{◌≡◌, Bool, true, false, not, ◌&&◌, ◌||◌, List, [], ◌∷◌, refl, sym, ap, ◌∙◌, subst}
use Rattle.std.specs.Prelude.{Contains}
use Rattle.std.specs.List.{filter, list_any}
use Rattle.std.specs.declared.cmp.Ordering.{Ordering}
use Rattle.std.specs.Ordering.{eq_by_cmp}
use Rattle.std.specs.Cmp.{IsTotalOrder, Equal-is, both_ways, eq_by_cmp_equiv, first_so, second_so}
use Rattle.std.specs.FinMap.{IsAntisymmetric}
use Rattle.std.proofs.lemmas.Map.Views.{list_any-from_Contains, Contains-from_any, any-filter_same}
use Rattle.std.proofs.lemmas.Bool.{and_from, or_left, or_right}
use Rattle.oct_ops.specs.Arranged.{arranged}
use Rattle.oct_ops.specs.Body.{Body, Operation}
use Rattle.oct_ops.specs.Body as kind
use Rattle.oct_ops.specs.DotOrder.{dot_cmp}
use Rattle.oct_ops.specs.Operation.{Dot}
use Rattle.oct_ops.specs.Operations.{Operations, contains, insert, listed}
use Rattle.oct_ops.specs.Order.{op_cmp}
use Rattle.oct_ops.specs.OrderLaws.{op_cmp_total, op_cmp_exact, dot_cmp_total, dot_cmp_exact}
use Rattle.oct_ops.specs.Sets.{set_of, rises}
use Rattle.oct_ops.specs.SetLaws.{contains-listed, contains-set_of, contains-insert, listed-arranged, listed-rises}
use Rattle.oct_notes.specs.Laws.{IsUnremoved, Removes, RemovesNothing}
use Rattle.oct_notes.specs.Notes.{is_note, is_live, is_removed, names_dot, note_order, live_notes}
use Rattle.oct_notes.proofs.Arranging.{is_arranged}
use Rattle.oct_notes.proofs.Lives.{note_order_total, note_order_exact}

module _ {K : Type 0} (R : K → K → Ordering) (total : IsTotalOrder R) (exact : IsAntisymmetric R) where
  -- an order's test of membership is membership
  member : (x : K) (xs : List K) → Contains xs x → list_any (eq_by_cmp R x) xs ≡ true
  member x xs = list_any-from_Contains (eq_by_cmp_equiv total) x xs

  from_member : (x : K) (xs : List K) → list_any (eq_by_cmp R x) xs ≡ true → Contains xs x
  from_member x xs = Contains-from_any (λ y z tied. exact y z ((Equal-is (R y z)).0 tied)) x xs

  any-arranged : (x : K) (xs : List K) → list_any (eq_by_cmp R x) (arranged R xs) ≡ list_any (eq_by_cmp R x) xs
  any-arranged x xs = ap (list_any (eq_by_cmp R x)) (sym (listed-arranged total exact xs)) ∙ sym (contains-listed (set_of {R = R} xs) x) ∙ contains-set_of total exact xs x

  any-filter : (p : K → Bool) (x : K) (xs : List K) → list_any (eq_by_cmp R x) (filter p xs) ≡ (p x && list_any (eq_by_cmp R x) xs)
  any-filter p x xs = any-filter_same (eq_by_cmp R x) p (p x) (λ y tied. ap p (sym (exact x y ((Equal-is (R x y)).0 tied)))) xs

-- ---- what removes a dot

names-from : (d : Dot) (b : Body) → Removes b d → names_dot d b ≡ true
names-from d (kind.Block b) h = absurd h
names-from d (kind.Period p) h = absurd h
names-from d (kind.Note n) h = absurd h
names-from d (kind.Removal r) h = member dot_cmp dot_cmp_total dot_cmp_exact d r.dots h

removes-from : (d : Dot) (b : Body) → names_dot d b ≡ true → Removes b d
removes-from d (kind.Block b) h = cc
removes-from d (kind.Period p) h = cc
removes-from d (kind.Note n) h = cc
removes-from d (kind.Removal r) h = from_member dot_cmp dot_cmp_total dot_cmp_exact d r.dots h

-- an operation of the list that names the dot
removed-by : (ops : List Operation) (d : Dot) (o : Operation) → list_any (eq_by_cmp op_cmp o) ops ≡ true → names_dot d o.body ≡ true → is_removed ops d ≡ true
removed-by [] d o here names = cc
removed-by (p ∷ ops) d o here names = elim (eq_by_cmp op_cmp o p) as (λ t. eq_by_cmp op_cmp o p ≡ t → (t || list_any (eq_by_cmp op_cmp o) ops) ≡ true → (names_dot d p.body || is_removed ops d) ≡ true) [
  | true ↦ λ tied _. or_left _ _ (ap (λ q. names_dot d q.body) (sym (op_cmp_exact o p ((Equal-is (op_cmp o p)).0 tied))) ∙ names)
  | false ↦ λ _ later. or_right _ _ (removed-by ops d o later names)
] refl here

not_removed : (ops : List Operation) (d : Dot) → ((o : Operation) → list_any (eq_by_cmp op_cmp o) ops ≡ true → ¬ Removes o.body d) → is_removed ops d ≡ false
not_removed [] d none = refl
not_removed (p ∷ ops) d none = elim (names_dot d p.body) as (λ b. names_dot d p.body ≡ b → (b || is_removed ops d) ≡ false) [
  | true ↦ λ names. absurd (none p (or_left _ _ ((eq_by_cmp_equiv op_cmp_total).refl p)) (removes-from d p.body names))
  | false ↦ λ _. not_removed ops d (λ o later. none o (or_right _ _ later))
] refl

not_true : (b : Bool) → not b ≡ true → b ≡ true → ⊥
not_true true h k = let clash : false ≡ true = h in cc
not_true false h k = let clash : false ≡ true = k in cc

module _ (ops : Operations) (note : Operation) where
  abbrev all : List Operation
  all = listed ops

  abbrev kept : List Operation
  kept = filter (is_live all) all

  -- the live notes are those that the filter keeps, in another order
  pub live_is_unremoved : Contains (live_notes all) note → IsUnremoved ops note
  live_is_unremoved live =
      let among = from_member note_order note_order_total note_order_exact note kept (sym (any-arranged note_order note_order_total note_order_exact note kept) ∙ member note_order note_order_total note_order_exact note (live_notes all) live) in
      let passes = sym (any-filter op_cmp op_cmp_total op_cmp_exact (is_live all) note all) ∙ member op_cmp op_cmp_total op_cmp_exact note kept among in
      let is = first_so (is_live all note) _ passes in
      record {
        held = contains-listed ops note ∙ second_so (is_live all note) _ passes;
        noted = first_so (is_note note.body) _ is;
        unremoved = λ op here removes. not_true (is_removed all note.dot) (second_so (is_note note.body) _ is) (removed-by all note.dot op (sym (contains-listed ops op) ∙ here) (names-from note.dot op.body removes));
      }

  pub unremoved_is_live : IsUnremoved ops note → Contains (live_notes all) note
  unremoved_is_live is =
      let live : is_live all note ≡ true = and_from _ _ is.noted (ap not (not_removed all note.dot (λ o here. is.unremoved o (contains-listed ops o ∙ here)))) in
      let among = from_member op_cmp op_cmp_total op_cmp_exact note kept (any-filter op_cmp op_cmp_total op_cmp_exact (is_live all) note all ∙ and_from _ _ live (sym (contains-listed ops note) ∙ is.held)) in
      from_member note_order note_order_total note_order_exact note (live_notes all)
      (any-arranged note_order note_order_total note_order_exact note kept ∙ member note_order note_order_total note_order_exact note kept among)

-- the live notes rise
pub live_rise : (ops : Operations) → rises note_order (live_notes (listed ops)) ≡ true
live_rise ops =
    ap (rises note_order) (sym (listed-arranged note_order_total note_order_exact (filter (is_live (listed ops)) (listed ops))))
    ∙ listed-rises note_order (set_of (filter (is_live (listed ops)) (listed ops)))

-- ---- an operation that removes nothing

module _ (ops : Operations) (op : Operation) (removes_nothing : RemovesNothing ops op) where
  -- what is in the larger set is the operation or was there
  inserted : (o : Operation) → contains (insert ops op) o ≡ true → ((o ≡ op) → contains ops o ≡ true) → contains ops o ≡ true
  inserted o here new = elim (eq_by_cmp op_cmp o op) as (λ t. eq_by_cmp op_cmp o op ≡ t → (t || contains ops o) ≡ true → contains ops o ≡ true) [
    | true ↦ λ tied _. new (op_cmp_exact o op ((Equal-is (op_cmp o op)).0 tied))
    | false ↦ λ _ later. later
  ] refl (sym (contains-insert op_cmp_total op_cmp_exact ops op o) ∙ here)

  held_in_both : (o : Operation) → contains ops o ≡ true → contains (insert ops op) o ≡ true
  held_in_both o here = contains-insert op_cmp_total op_cmp_exact ops op o ∙ or_right _ _ here

  still : (note : Operation) → IsUnremoved ops note → IsUnremoved (insert ops op) note
  still note is = record {
    held = held_in_both note is.held;
    noted = is.noted;
    unremoved = λ o here removes. elim (eq_by_cmp op_cmp o op) as (λ t. eq_by_cmp op_cmp o op ≡ t → (t || contains ops o) ≡ true → ⊥) [
      | true ↦ λ tied _. removes_nothing.nothing note is.held is.noted (subst (λ p. Removes p.body note.dot) (op_cmp_exact o op ((Equal-is (op_cmp o op)).0 tied)) removes)
      | false ↦ λ _ later. is.unremoved o later removes
    ] refl (sym (contains-insert op_cmp_total op_cmp_exact ops op o) ∙ here);
  }

  before : (note : Operation) → IsUnremoved (insert ops op) note → IsUnremoved ops note
  before note is = record {
    held = inserted note is.held (λ same. let clash : true ≡ false = sym is.noted ∙ ap (λ o. is_note o.body) same ∙ removes_nothing.no_note in cc);
    noted = is.noted;
    unremoved = λ o here. is.unremoved o (held_in_both o here);
  }

pub all_stay : (ops : Operations) (op : Operation) → RemovesNothing ops op → live_notes (listed (insert ops op)) ≡ live_notes (listed ops)
all_stay ops op nothing =
    is_arranged note_order note_order_total note_order_exact (live_notes (listed (insert ops op))) (filter (is_live (listed ops)) (listed ops)) (live_rise (insert ops op)) (λ note.
    both_ways _ _
    (λ here. member note_order note_order_total note_order_exact note (live_notes (listed ops)) (unremoved_is_live ops note (before ops op nothing note (live_is_unremoved (insert ops op) note (from_member note_order note_order_total note_order_exact note _ here)))))
    (λ here. member note_order note_order_total note_order_exact note (live_notes (listed (insert ops op))) (unremoved_is_live (insert ops op) note (still ops op nothing note (live_is_unremoved ops note (from_member note_order note_order_total note_order_exact note _ here)))))
    ∙ any-arranged note_order note_order_total note_order_exact note (filter (is_live (listed ops)) (listed ops)))
