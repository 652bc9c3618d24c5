-- The live notes of a set, as the loops gather them.
use Rattle.std.proofs.Common.{◌≡◌, ℕ, ◌==◌, Bool, true, false, not, ◌&&◌, ◌||◌, cond, List, [], ◌∷◌, ◌++◌, map, sym, ap, ◌∙◌, subst, append_assoc}
use Rattle.std.proofs.lemmas.Cmp.{nat_list_cmp_total}
use Rattle.std.proofs.lemmas.List.{append-nil}
use Rattle.std.proofs.lemmas.List.Folds.{list_any-append}
use Rattle.std.specs.List.{filter, list_any, list_all, dedup, AllByRecursion}
use Rattle.std.specs.List.Sorted.{IsSorted, IsPermutation}
use Rattle.std.specs.Ordering.{nat_cmp, eq_by_cmp, is_lt, is_gt}
use Rattle.std.specs.Cmp.{IsTotalOrder, then_total, on_total, tied_then, unsigned_tied, first_so, second_so}
use Rattle.std.specs.FinMap.{IsAntisymmetric}
use Rattle.std.proofs.lemmas.Bool.{and_right}
use Rattle.std.proofs.Math.Bool.{or_assoc}
use Rattle.oct_code.specs.CodeOrder.{both_tie}
use Rattle.oct_code.specs.Tests.{not_above}
use Rattle.oct_ops.specs.Arranged.{arranged}
use Rattle.oct_ops.specs.Body.{Operation}
use Rattle.oct_ops.specs.Body as kind
use Rattle.oct_ops.specs.DotOrder.{dot_cmp}
use Rattle.oct_ops.specs.Operation.{Dot, Removal}
use Rattle.oct_ops.specs.Operations.{Operations, keep, listed}
use Rattle.oct_ops.specs.Sets.{rises}
use Rattle.oct_ops.specs.Order.{op_cmp, body_cmp}
use Rattle.oct_ops.specs.OrderLaws.{op_cmp_total, op_cmp_exact, dot_cmp_total, dot_cmp_exact}
use Rattle.oct_ops.specs.SetLaws.{listed-keep, listed-rises}
use Rattle.oct_notes.specs.Notes.{AreRemoved, is_note, is_live, is_named, is_removed, leaves, live_notes, live_dots, name_of, names_dot, note_order}
use Rattle.oct_notes.proofs.Arranging.{NeverFalls, dedup_is_arranged, sorted_is_arranged}
use Rattle.oct_notes.proofs.Kept.{same_test}

pub note_order_total : IsTotalOrder note_order
note_order_total = then_total (on_total (λ o. name_of o.body) nat_list_cmp_total) op_cmp_total

pub note_order_exact : IsAntisymmetric note_order
note_order_exact o p tie = op_cmp_exact o p (both_tie _ _ tie).1

-- ---- the dots that removals name

pub removed_next : (all rest : List Operation) (o : Operation) (r : Removal) (dots more named : List Dot) (d : Dot) (whole : Bool) → all ≡ o ∷ rest → o.body ≡ kind.Removal r → named ≡ r.dots → more ≡ dots ++ named → (list_any (eq_by_cmp dot_cmp d) dots || is_removed all d) ≡ whole → (list_any (eq_by_cmp dot_cmp d) more || is_removed rest d) ≡ whole
removed_next all rest o r dots more named d whole next is names added before =
    ap (λ l. list_any (eq_by_cmp dot_cmp d) l || is_removed rest d) (added ∙ ap (λ l. dots ++ l) names)
    ∙ ap (λ b. b || is_removed rest d) (list_any-append (eq_by_cmp dot_cmp d) dots r.dots)
    ∙ or_assoc (list_any (eq_by_cmp dot_cmp d) dots) (list_any (eq_by_cmp dot_cmp d) r.dots) (is_removed rest d)
    ∙ sym (ap (λ b. list_any (eq_by_cmp dot_cmp d) dots || (names_dot d b || is_removed rest d)) is)
    ∙ sym (ap (λ l. list_any (eq_by_cmp dot_cmp d) dots || is_removed l d) next) ∙ before

-- ---- the notes that they leave

live_left : (ops : List Operation) (dots : List Dot) → AreRemoved ops dots → (o : Operation) → leaves dots o ≡ is_live ops o
live_left ops dots are o = ap (λ b. is_note o.body && not b) (are o.dot)

-- a set's operations that pass a test rise
filter_rises : (p : Operation → Bool) (ops : Operations) → rises op_cmp (filter p (listed ops)) ≡ true
filter_rises p ops = ap (rises op_cmp) (sym (listed-keep op_cmp_total op_cmp_exact p ops)) ∙ listed-rises op_cmp (keep p ops)

pub left_are_live : (ops : Operations) (dots : List Dot) (done rest : List Operation) → AreRemoved (listed ops) dots → rest ≡ [] → done ++ filter (leaves dots) rest ≡ filter (leaves dots) (listed ops) → done ≡ filter (is_live (listed ops)) (listed ops)
left_are_live ops dots done rest are none before =
    sym (append-nil done) ∙ sym (ap (λ l. done ++ filter (leaves dots) l) none) ∙ before
    ∙ same_test (leaves dots) (is_live (listed ops)) (live_left (listed ops) dots are) (listed ops)

pub sorted_are_live : (ops : Operations) (left notes : List Operation) → left ≡ filter (is_live (listed ops)) (listed ops) → IsPermutation left notes → IsSorted note_order notes → notes ≡ live_notes (listed ops)
sorted_are_live ops left notes is permuted sorted =
    sorted_is_arranged op_cmp note_order op_cmp_total op_cmp_exact note_order_total note_order_exact (filter (is_live (listed ops)) (listed ops)) notes (filter_rises (is_live (listed ops)) ops) (subst (λ l. IsPermutation l notes) is permuted) sorted

-- ---- the dots of the live notes of a name

abbrev pub same_dot : Dot → Dot → Bool
same_dot d e = (d.author == e.author) && (d.number == e.number)

dot_ties : (d e : Dot) → same_dot d e ≡ eq_by_cmp dot_cmp d e
dot_ties d e = sym (λ i. unsigned_tied d.author e.author i && unsigned_tied d.number e.number i) ∙ tied_then (nat_cmp d.author e.author) (nat_cmp d.number e.number)

dots_after : (o : Operation) (ops : List Operation) → list_all (λ p. is_lt (op_cmp o p)) ops ≡ true → AllByRecursion (λ d. is_gt (dot_cmp o.dot d) ≡ false) (map (λ p. p.dot) ops)
dots_after o [] below = tt
dots_after o (p ∷ ops) below = (not_above (dot_cmp o.dot p.dot) (body_cmp o.body p.body) (first_so _ _ below), dots_after o ops (second_so _ _ below))

-- the dots of operations that rise do not fall
dots_level : (ops : List Operation) → rises op_cmp ops ≡ true → NeverFalls dot_cmp (map (λ o. o.dot) ops)
dots_level [] rising = tt
dots_level (o ∷ ops) rising = (dots_after o ops (first_so _ _ rising), dots_level ops (second_so _ _ rising))

-- a note of the name that they leave
abbrev pub shows : List Dot → List ℕ → Operation → Bool
shows dots name o = leaves dots o && is_named name o

module _ (removed : List Dot) (name : List ℕ) (all rest : List Operation) (o : Operation) (next : all ≡ o ∷ rest) (done whole : List Dot) (before : done ++ map (λ p. p.dot) (filter (shows removed name) all) ≡ whole) where
  kept : shows removed name o ≡ false → done ++ map (λ p. p.dot) (filter (shows removed name) rest) ≡ whole
  kept fails =
      sym (ap (λ b. done ++ map (λ p. p.dot) (cond b (o ∷ filter (shows removed name) rest) (filter (shows removed name) rest))) fails)
      ∙ sym (ap (λ l. done ++ map (λ p. p.dot) (filter (shows removed name) l)) next) ∙ before

  pub other_name : is_named name o ≡ false → done ++ map (λ p. p.dot) (filter (shows removed name) rest) ≡ whole
  other_name fails = kept (and_right (leaves removed o) _ fails)

  pub not_left : leaves removed o ≡ false → done ++ map (λ p. p.dot) (filter (shows removed name) rest) ≡ whole
  not_left fails = kept (ap (λ b. b && is_named name o) fails)

  pub shown : (dot : Dot) (more : List Dot) → more ≡ done ++ (dot ∷ []) → dot ≡ o.dot → leaves removed o ≡ true → is_named name o ≡ true → more ++ map (λ p. p.dot) (filter (shows removed name) rest) ≡ whole
  shown dot more added same left named =
      let both : shows removed name o ≡ true = ap (λ b. b && is_named name o) left ∙ named in
      ap (λ l. l ++ map (λ p. p.dot) (filter (shows removed name) rest)) (added ∙ ap (λ d. done ++ (d ∷ [])) same) ∙ append_assoc done (o.dot ∷ []) (map (λ p. p.dot) (filter (shows removed name) rest))
      ∙ sym (ap (λ b. done ++ map (λ p. p.dot) (cond b (o ∷ filter (shows removed name) rest) (filter (shows removed name) rest))) both)
      ∙ sym (ap (λ l. done ++ map (λ p. p.dot) (filter (shows removed name) l)) next) ∙ before

pub dots_are_live : (ops : Operations) (removed : List Dot) (name : List ℕ) (done dots : List Dot) (rest : List Operation) → AreRemoved (listed ops) removed → rest ≡ [] → done ++ map (λ o. o.dot) (filter (shows removed name) rest) ≡ map (λ o. o.dot) (filter (shows removed name) (listed ops)) → dots ≡ dedup same_dot done → dots ≡ live_dots (listed ops) name
dots_are_live ops removed name done dots rest are none before deduped =
    let is : done ≡ map (λ o. o.dot) (filter (shows removed name) (listed ops)) = sym (append-nil done) ∙ sym (ap (λ l. done ++ map (λ o. o.dot) (filter (shows removed name) l)) none) ∙ before in
    deduped ∙ ap (dedup same_dot) is
    ∙ dedup_is_arranged dot_cmp same_dot dot_cmp_total dot_cmp_exact dot_ties _ (dots_level (filter (shows removed name) (listed ops)) (filter_rises (shows removed name) ops))
    ∙ ap (λ l. arranged dot_cmp (map (λ o. o.dot) l)) (same_test (shows removed name) (λ o. is_live (listed ops) o && is_named name o) (λ o. ap (λ b. b && is_named name o) (live_left (listed ops) removed are o)) (listed ops))
