-- What the loops over the groups of a set's operations gather.
use Rattle.std.proofs.Common.{arith, ◌≡◌, ℕ, zero, suc, ◌+◌, ◌≤◌, ◌==◌, max, Bool, true, false, ◌&&◌, cond, List, [], ◌∷◌, ◌++◌, map, length, Option, Some, None, refl, sym, ap, ◌∙◌, eq-eqb}
use Rattle.std.proofs.lemmas.Bool.{ne_eqb, eqb-true}
use Rattle.std.specs.Prelude.{nat_le, unwrap_or}
use Rattle.std.specs.List.{fold, filter, list_all, AllByRecursion}
use Rattle.std.specs.Ordering.{nat_cmp, eq_by_cmp, is_lt, is_gt, ordering_then}
use Rattle.std.specs.declared.cmp.Ordering.{Ordering}
use Rattle.std.specs.declared.cmp.Ordering.TheVariants.{Less, Equal, Greater}
use Rattle.std.specs.Cmp.{nat_cmp_total, eq_by_cmp_equiv, unsigned_tied, tied_then, first_so, second_so}
use Rattle.std.specs.FinMap.{nat_cmp-IsAntisymmetric}
use Rattle.oct_code.specs.Tests.{not_above}
use Rattle.oct_ops.specs.Arranged.{arranged}
use Rattle.oct_ops.specs.Body.{Operation}
use Rattle.oct_ops.specs.DotOrder.{dot_cmp}
use Rattle.oct_ops.specs.Operation.{Dot}
use Rattle.oct_ops.specs.Order.{op_cmp}
use Rattle.oct_ops.specs.OrderLaws.{dot_cmp_total, dot_cmp_exact}
use Rattle.oct_ops.specs.Sets.{rises}
use Rattle.oct_join.specs.Clock.{Clock, empty, through as known, raised}
use Rattle.oct_store.specs.Summary.{numbers_of, last, through, positive, dots, contents}
use Rattle.oct_store.specs.Rows.{author_rows, fork_rows, fork_or_none, unseen, with_number, uncounted, with_content}
use Rattle.oct_store.specs.declared.author.Author.{Author}
use Rattle.oct_store.specs.declared.fork.Fork.{Fork}
use Rattle.oct_store.proofs.Groups.{collect, Ordered, groups_are, shown_all, shows, goes_on, ends, starts, last_shown, none_open}
use Rattle.oct_store.proofs.Throughs.{run, step, run_is_clock, known_here, known_there, none_known, clash}

-- ---- operations in order are in the order of their dots, and of their authors

not_past_first : (a b : Ordering) → is_gt (ordering_then a b) ≡ false → is_gt a ≡ false
not_past_first Less b h = refl
not_past_first Equal b h = refl
not_past_first Greater b h = cc

module _ {K : Type 0} (R : K → K → Ordering) (key : Operation → K) (kept : (o p : Operation) → is_lt (op_cmp o p) ≡ true → is_gt (R (key o) (key p)) ≡ false) where
  least_of : (o : Operation) (ops : List Operation) → list_all (λ p. is_lt (op_cmp o p)) ops ≡ true → AllByRecursion (λ p. is_gt (R (key o) (key p)) ≡ false) ops
  least_of o [] h = tt
  least_of o (p ∷ ops) h = (kept o p (first_so _ _ h), least_of o ops (second_so (is_lt (op_cmp o p)) _ h))

  ordered_of : {G : Type 0} (name : G → K) (blank : K → G) (grow : G → Operation → G) (ops : List Operation) → rises op_cmp ops ≡ true → Ordered R key name blank grow ops
  ordered_of name blank grow [] h = tt
  ordered_of name blank grow (o ∷ ops) h = (least_of o ops (first_so _ _ h), ordered_of name blank grow ops (second_so (list_all (λ p. is_lt (op_cmp o p)) ops) _ h))

by_author : (o p : Operation) → is_lt (op_cmp o p) ≡ true → is_gt (nat_cmp o.dot.author p.dot.author) ≡ false
by_author o p h = not_past_first (nat_cmp o.dot.author p.dot.author) _ (not_above (dot_cmp o.dot p.dot) _ h)

by_dot : (o p : Operation) → is_lt (op_cmp o p) ≡ true → is_gt (dot_cmp o.dot p.dot) ≡ false
by_dot o p h = not_above (dot_cmp o.dot p.dot) _ h

-- ---- authors

numbers_of-next : (o : Operation) (rest : List Operation) (author : ℕ) (b : Bool) → (o.dot.author == author) ≡ b → numbers_of (o ∷ rest) author ≡ cond b (o.dot.number ∷ numbers_of rest author) (numbers_of rest author)
numbers_of-next o rest author true is = ap (λ b. map (λ p. p.dot.number) (cond b (o ∷ filter (λ p. p.dot.author == author) rest) (filter (λ p. p.dot.author == author) rest))) is
numbers_of-next o rest author false is = ap (λ b. map (λ p. p.dot.number) (cond b (o ∷ filter (λ p. p.dot.author == author) rest) (filter (λ p. p.dot.author == author) rest))) is

abbrev author_of : Operation → ℕ
author_of o = o.dot.author

abbrev name_of : Author → ℕ
name_of a = a.author

abbrev seen : Author → Operation → Author
seen a o = with_number a o.dot.number

abbrev alone : Author → List Author
alone a = a ∷ []

-- the rows of the operations that are left, where the first may belong to an author whose row is open
abbrev pub authors_from : Option Author → List Operation → List Author
authors_from = shows nat_cmp author_of name_of unseen seen alone

step_own : (t : Clock) (o : Operation) (through : ℕ) → known t o.dot.author ≡ through → known (step t o) o.dot.author ≡ cond (through + 1 == o.dot.number) o.dot.number through
step_own t o through is =
    elim (known t o.dot.author + 1 == o.dot.number) as (λ b. (known t o.dot.author + 1 == o.dot.number) ≡ b → known (cond b (raised t o.dot.author o.dot.number) t) o.dot.author ≡ cond b o.dot.number through) [
      | true ↦ λ e. let next = eqb-true (known t o.dot.author + 1) o.dot.number e in known_here [] o t o.dot.author o.dot.number (omega (arith, next)) ∙ omega (arith, next)
      | false ↦ λ _. is
    ] refl
    ∙ ap (λ k. cond (k + 1 == o.dot.number) o.dot.number through) is

step_other : (t : Clock) (o : Operation) (q : ℕ) → (q ≡ o.dot.author → ⊥) → known (step t o) q ≡ known t q
step_other t o q other =
    elim (known t o.dot.author + 1 == o.dot.number) as (λ b. (known t o.dot.author + 1 == o.dot.number) ≡ b → known (cond b (raised t o.dot.author o.dot.number) t) q ≡ known t q) [
      | true ↦ λ e. let next = eqb-true (known t o.dot.author + 1) o.dot.number e in known_there [] o t o.dot.author o.dot.number q (omega (arith, next)) other
      | false ↦ λ _. refl
    ] refl

row : Author → Clock → List Operation → Author
row a t ops = record { author = a.author; through = known (run t ops) a.author; last = fold max a.last (numbers_of ops a.author) }

collected : (a : Author) (t : Clock) (ops : List Operation) → known t a.author ≡ a.through → collect nat_cmp author_of name_of unseen seen a ops ≡ row a t ops
unfolding row
collected a t [] is = λ i. record { author = a.author; through = sym is i; last = a.last }
collected a t (o ∷ ops) is =
    elim (eq_by_cmp nat_cmp a.author o.dot.author) as (λ b. eq_by_cmp nat_cmp a.author o.dot.author ≡ b → collect nat_cmp author_of name_of unseen seen (cond b (seen a o) a) ops ≡ row a t (o ∷ ops)) [
      | true ↦ λ e.
          let same : a.author ≡ o.dot.author = eqb-true a.author o.dot.author (sym (unsigned_tied a.author o.dot.author) ∙ e) in
          let held : known (step t o) a.author ≡ (seen a o).through = ap (known (step t o)) same ∙ step_own t o a.through (ap (known t) (sym same) ∙ is) in
          collected (seen a o) (step t o) ops held
          ∙ (λ i. record { author = a.author; through = known (run (step t o) ops) a.author; last = sym (ap (fold max a.last) (numbers_of-next o ops a.author true (eq-eqb o.dot.author a.author (sym same)))) i })
      | false ↦ λ e.
          let other : a.author ≡ o.dot.author → ⊥ = λ same. clash (unsigned_tied a.author o.dot.author ∙ eq-eqb a.author o.dot.author same) e in
          collected a (step t o) ops (step_other t o a.author other ∙ is)
          ∙ (λ i. record { author = a.author; through = known (run (step t o) ops) a.author; last = sym (ap (fold max a.last) (numbers_of-next o ops a.author false (ne_eqb o.dot.author a.author (λ same. other (sym same))))) i })
    ] refl

all_alone : (rows : List Author) → shown_all nat_cmp author_of name_of unseen seen alone rows ≡ rows
all_alone [] = refl
all_alone (a ∷ rows) = ap (λ l. a ∷ l) (all_alone rows)

unwrap_positive : (n : ℕ) → unwrap_or (positive n) 0 ≡ n
unwrap_positive zero = refl
unwrap_positive (suc n) = refl

pub authors_are : (ops : List Operation) → rises op_cmp ops ≡ true → authors_from None ops ≡ author_rows ops
unfolding row
authors_are ops rising =
    let whole : (k : ℕ) → collect nat_cmp author_of name_of unseen seen (unseen k) ops ≡ record { author = k; through = through ops k; last = last ops k } = λ k.
    collected (unseen k) empty ops (ap (λ x. unwrap_or x 0) (none_known k))
    ∙ (λ i. record { author = k; through = (ap (λ x. unwrap_or x 0) (run_is_clock ops rising k) ∙ unwrap_positive (through ops k)) i; last = last ops k }) in
    all_alone _
    ∙ groups_are nat_cmp author_of name_of unseen seen nat_cmp_total nat_cmp-IsAntisymmetric (λ k. refl) (λ g x. refl) ops (ordered_of nat_cmp author_of by_author name_of unseen seen ops rising)
    ∙ (λ i. map (λ k. whole k i) (arranged nat_cmp (map author_of ops)))

-- ---- forks

abbrev dot_of : Operation → Dot
dot_of o = o.dot

abbrev fork_dot : Fork → Dot
fork_dot f = f.dot

abbrev counted : Fork → Operation → Fork
counted f o = with_content f

-- the forks of the operations that are left, where the first may belong to a dot whose contents are being counted
abbrev pub forks_from : Option Fork → List Operation → List Fork
forks_from = shows dot_cmp dot_of fork_dot uncounted counted fork_or_none

count_from : ℕ → Dot → List Operation → ℕ
count_from n d ops = fold (λ a (o : Operation). a + cond (eq_by_cmp dot_cmp o.dot d) 1 0) n ops

counted_all : (f : Fork) (ops : List Operation) → collect dot_cmp dot_of fork_dot uncounted counted f ops ≡ record { dot = f.dot; contents = count_from f.contents f.dot ops }
unfolding count_from
counted_all f [] = refl
counted_all f (o ∷ ops) =
    elim (eq_by_cmp dot_cmp f.dot o.dot) as (λ b. eq_by_cmp dot_cmp f.dot o.dot ≡ b → collect dot_cmp dot_of fork_dot uncounted counted (cond b (with_content f) f) ops ≡ record { dot = f.dot; contents = count_from (f.contents + cond (eq_by_cmp dot_cmp o.dot f.dot) 1 0) f.dot ops }) [
      | true ↦ λ e. counted_all (with_content f) ops ∙ (λ i. record { dot = f.dot; contents = count_from (f.contents + cond (sym (turned e) i) 1 0) f.dot ops })
      | false ↦ λ e. counted_all f ops ∙ (λ i. record { dot = f.dot; contents = count_from ((plus_none ∙ ap (λ b. f.contents + cond b 1 0) (sym (turned e))) i) f.dot ops })
    ] refl
  where
    turned : {b : Bool} → eq_by_cmp dot_cmp f.dot o.dot ≡ b → eq_by_cmp dot_cmp o.dot f.dot ≡ b
    turned e = (eq_by_cmp_equiv dot_cmp_total).symm o.dot f.dot ∙ e

    plus_none : f.contents ≡ f.contents + 0
    plus_none = omega arith

those_shown : (count : Dot → ℕ) (ds : List Dot) → shown_all dot_cmp dot_of fork_dot uncounted counted fork_or_none (map (λ d. record { dot = d; contents = count d }) ds) ≡ map (λ d. record { dot = d; contents = count d }) (filter (λ d. nat_le 2 (count d)) ds)
those_shown count [] = refl
those_shown count (d ∷ ds) =
    elim (nat_le 2 (count d)) as (λ b. cond b (record { dot = d; contents = count d } ∷ []) [] ++ shown_all dot_cmp dot_of fork_dot uncounted counted fork_or_none (map (λ e. record { dot = e; contents = count e }) ds) ≡ map (λ e. record { dot = e; contents = count e }) (cond b (d ∷ filter (λ e. nat_le 2 (count e)) ds) (filter (λ e. nat_le 2 (count e)) ds))) [
      | true ↦ ap (λ l. record { dot = d; contents = count d } ∷ l) (those_shown count ds)
      | false ↦ those_shown count ds
    ]

pub forks_are : (ops : List Operation) → rises op_cmp ops ≡ true → forks_from None ops ≡ fork_rows ops
unfolding count_from
forks_are ops rising =
    ap (shown_all dot_cmp dot_of fork_dot uncounted counted fork_or_none)
    (groups_are dot_cmp dot_of fork_dot uncounted counted dot_cmp_total dot_cmp_exact (λ k. refl) (λ g x. refl) ops (ordered_of dot_cmp dot_of by_dot fork_dot uncounted counted ops rising)
    ∙ (λ i. map (λ d. counted_all (uncounted d) ops i) (arranged dot_cmp (dots ops))))
    ∙ those_shown (contents ops) (arranged dot_cmp (dots ops))

-- how many contents are counted so far
abbrev pub contents_of : Option Fork → ℕ
contents_of None = 0
contents_of (Some f) = f.contents

-- ---- the steps of the loops

pub one_open : {G : Type 0} {current : Option G} {g h : G} → current ≡ Some g → current ≡ Some h → g ≡ h
one_open {h} is too = ap (λ c. unwrap_or c h) (sym is ∙ too)

module _ (all rest : List Operation) (o : Operation) (next : all ≡ o ∷ rest) (done whole : List Author) (current : Option Author) (before : done ++ authors_from current all ≡ whole) (author number : ℕ) (of_author : author ≡ o.dot.author) (of_number : number ≡ o.dot.number) where
  pub author_goes_on : (a new : Author) → current ≡ Some a → a.author ≡ author → new ≡ with_number a number → done ++ authors_from (Some new) rest ≡ whole
  author_goes_on a new open_row same grown =
      goes_on nat_cmp author_of name_of unseen seen alone all rest o next done whole a new
      (unsigned_tied a.author o.dot.author ∙ eq-eqb a.author o.dot.author (same ∙ of_author))
      (grown ∙ ap (with_number a) of_number)
      (ap (λ c. done ++ authors_from c all) (sym open_row) ∙ before)

  pub author_ends : (a new : Author) (more : List Author) → current ≡ Some a → (a.author ≡ author → ⊥) → more ≡ done ++ a ∷ [] → new ≡ with_number (unseen author) number → more ++ authors_from (Some new) rest ≡ whole
  author_ends a new more open_row other added begun =
      ends nat_cmp author_of name_of unseen seen alone all rest o next done whole a new more
      (unsigned_tied a.author o.dot.author ∙ ne_eqb a.author o.dot.author (λ same. other (same ∙ sym of_author)))
      (begun ∙ (λ i. with_number (unseen (of_author i)) (of_number i))) added
      (ap (λ c. done ++ authors_from c all) (sym open_row) ∙ before)

  pub author_starts : (new : Author) → current ≡ None → new ≡ with_number (unseen author) number → done ++ authors_from (Some new) rest ≡ whole
  author_starts new no_row begun =
      starts nat_cmp author_of name_of unseen seen alone all rest o next done whole new
      (begun ∙ (λ i. with_number (unseen (of_author i)) (of_number i)))
      (ap (λ c. done ++ authors_from c all) (sym no_row) ∙ before)

module _ (all : List Operation) (none : all ≡ []) (done whole : List Author) (current : Option Author) (before : done ++ authors_from current all ≡ whole) where
  pub author_last : (a : Author) (more : List Author) → current ≡ Some a → more ≡ done ++ a ∷ [] → more ≡ whole
  author_last a more open_row added = last_shown nat_cmp author_of name_of unseen seen alone all none done whole a more added (ap (λ c. done ++ authors_from c all) (sym open_row) ∙ before)

  pub no_author : (items : List Author) → current ≡ None → items ≡ done → items ≡ whole
  no_author items no_row kept = kept ∙ none_open nat_cmp author_of name_of unseen seen alone all none done whole (ap (λ c. done ++ authors_from c all) (sym no_row) ∙ before)

dot_tied : (d e : Dot) → eq_by_cmp dot_cmp d e ≡ ((d.author == e.author) && (d.number == e.number))
dot_tied d e = sym (tied_then (nat_cmp d.author e.author) (nat_cmp d.number e.number)) ∙ (λ i. unsigned_tied d.author e.author i && unsigned_tied d.number e.number i)

module _ (all rest : List Operation) (o : Operation) (next : all ≡ o ∷ rest) (done whole : List Fork) (current : Option Fork) (before : done ++ forks_from current all ≡ whole) where
  pub fork_goes_on : (f new : Fork) (d : Dot) (items : List Fork) → current ≡ Some f → d ≡ o.dot → ((f.dot.author == d.author) && (f.dot.number == d.number)) ≡ true → items ≡ done → new ≡ with_content f → items ++ forks_from (Some new) rest ≡ whole
  fork_goes_on f new d items open_fork of_dot same kept grown =
      ap (λ fs. fs ++ forks_from (Some new) rest) kept
      ∙ goes_on dot_cmp dot_of fork_dot uncounted counted fork_or_none all rest o next done whole f new
      (ap (eq_by_cmp dot_cmp f.dot) (sym of_dot) ∙ dot_tied f.dot d ∙ same) grown
      (ap (λ c. done ++ forks_from c all) (sym open_fork) ∙ before)

  pub fork_ends : (f new : Fork) (d e : Dot) (items : List Fork) → current ≡ Some f → d ≡ o.dot → ((f.dot.author == d.author) && (f.dot.number == d.number)) ≡ false → e ≡ o.dot → items ≡ done ++ fork_or_none f → new ≡ with_content (uncounted e) → items ++ forks_from (Some new) rest ≡ whole
  fork_ends f new d e items open_fork of_dot other of_dot_too added begun =
      ends dot_cmp dot_of fork_dot uncounted counted fork_or_none all rest o next done whole f new items
      (ap (eq_by_cmp dot_cmp f.dot) (sym of_dot) ∙ dot_tied f.dot d ∙ other) (begun ∙ ap (λ x. with_content (uncounted x)) of_dot_too) added
      (ap (λ c. done ++ forks_from c all) (sym open_fork) ∙ before)

  pub fork_starts : (new : Fork) (e : Dot) (items : List Fork) → current ≡ None → e ≡ o.dot → items ≡ done → new ≡ with_content (uncounted e) → items ++ forks_from (Some new) rest ≡ whole
  fork_starts new e items no_fork of_dot kept begun =
      ap (λ fs. fs ++ forks_from (Some new) rest) kept
      ∙ starts dot_cmp dot_of fork_dot uncounted counted fork_or_none all rest o next done whole new
      (begun ∙ ap (λ x. with_content (uncounted x)) of_dot)
      (ap (λ c. done ++ forks_from c all) (sym no_fork) ∙ before)

-- a fork's contents and what is left are no more than there are operations
pub room_left : (all rest : List Operation) (o : Operation) (current : Option Fork) (held : ℕ) (new : Fork) → all ≡ o ∷ rest → contents_of current + length all ≤ held → new.contents ≤ contents_of current + 1 → new.contents + length rest ≤ held
room_left all rest o current held new next room grown = let one_less : length all ≡ suc (length rest) = ap (λ l. length l) next in omega (arith, one_less, room, grown)

module _ (all : List Operation) (none : all ≡ []) (done whole : List Fork) (current : Option Fork) (before : done ++ forks_from current all ≡ whole) where
  pub fork_last : (f : Fork) (items : List Fork) → current ≡ Some f → items ≡ done ++ fork_or_none f → items ≡ whole
  fork_last f items open_fork added = last_shown dot_cmp dot_of fork_dot uncounted counted fork_or_none all none done whole f items added (ap (λ c. done ++ forks_from c all) (sym open_fork) ∙ before)

  pub no_fork : (items : List Fork) → current ≡ None → items ≡ done → items ≡ whole
  no_fork items none_counted kept = kept ∙ none_open dot_cmp dot_of fork_dot uncounted counted fork_or_none all none done whole (ap (λ c. done ++ forks_from c all) (sym none_counted) ∙ before)
