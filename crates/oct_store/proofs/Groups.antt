-- A list in the order of its keys, gathered into one group for each key, by a loop that keeps the last group open.
use Rattle.std.proofs.Common.{◌≡◌, true, false, cond, List, [], ◌∷◌, ◌++◌, map, Option, Some, None, refl, sym, ap, ◌∙◌, subst, append_assoc}
use Rattle.std.proofs.lemmas.List.{append-nil}
use Rattle.std.specs.List.{AllByRecursion}
use Rattle.std.specs.Ordering.{eq_by_cmp, is_eq, is_gt, ordering_reverse, match_ordering}
use Rattle.std.specs.declared.cmp.Ordering.{Ordering}
use Rattle.std.specs.declared.cmp.Ordering.TheVariants.{Less, Equal, Greater}
use Rattle.std.specs.Cmp.{IsTotalOrder, Equal-is, tied_itself, alike_right}
use Rattle.std.specs.FinMap.{IsAntisymmetric}
use Rattle.std.specs.BTreeSet.{insert_key}
use Rattle.oct_ops.specs.Arranged.{arranged}

-- neither greater nor tied
less_is : (r : Ordering) → is_eq r ≡ false → is_gt r ≡ false → r ≡ Less
less_is Less tied greater = refl
less_is Equal tied greater = cc
less_is Greater tied greater = cc

module _ {K X G : Type 0} (R : K → K → Ordering) (key : X → K) (name : G → K) (blank : K → G) (grow : G → X → G) where
  abbrev begin : X → G
  begin x = grow (blank (key x)) x

  -- the groups of the items, of which the first may belong to the open group
  abbrev pub groups : Option G → List X → List G
  groups None [] = []
  groups None (x ∷ xs) = groups (Some (begin x)) xs
  groups (Some g) [] = g ∷ []
  groups (Some g) (x ∷ xs) = cond (eq_by_cmp R (name g) (key x)) (groups (Some (grow g x)) xs) (g ∷ groups (Some (begin x)) xs)

  -- a group with those of the items that are its own
  abbrev pub collect : G → List X → G
  collect g [] = g
  collect g (x ∷ xs) = collect (cond (eq_by_cmp R (name g) (key x)) (grow g x) g) xs

  -- no key is below k
  abbrev AtLeast : K → List X → Type 0
  AtLeast k xs = AllByRecursion (λ x. is_gt (R k (key x)) ≡ false) xs

  -- no key is below one before it
  abbrev pub Ordered : List X → Type 0
  Ordered [] = Unit {0}
  Ordered (x ∷ xs) = AtLeast (key x) xs × Ordered xs

  -- the keys but k, each once
  abbrev others : K → List X → List K
  others k [] = []
  others k (x ∷ xs) = cond (eq_by_cmp R k (key x)) (others k xs) (key x ∷ others (key x) xs)

  abbrev Above : K → List K → Type 0
  Above k ls = AllByRecursion (λ l. R k l ≡ Less) ls

  module _ (total : IsTotalOrder R) (exact : IsAntisymmetric R) (name_blank : (k : K) → name (blank k) ≡ k) (name_grow : (g : G) (x : X) → name (grow g x) ≡ name g) where
    above_of : (k l : K) (ls : List K) → R k l ≡ Less → Above l ls → Above k ls
    above_of k l [] less all = tt
    above_of k l (m ∷ ls) less all = (total.trans k l m less all.0, above_of k l ls less all.1)

    others_above : (k : K) (xs : List X) → AtLeast k xs → Ordered xs → Above k (others k xs)
    others_above k [] least ordered = tt
    others_above k (x ∷ xs) least ordered = elim (eq_by_cmp R k (key x)) as (λ b. eq_by_cmp R k (key x) ≡ b → Above k (cond b (others k xs) (key x ∷ others (key x) xs))) [
      | true ↦ λ _. others_above k xs least.1 ordered.1
      | false ↦ λ e. let less = less_is (R k (key x)) e least.0 in (less, above_of k (key x) (others (key x) xs) less (others_above (key x) xs ordered.0 ordered.1))
    ] refl

    -- the keys of a list in order are those of its first item and the others
    keys_are : (x : X) (xs : List X) → Ordered (x ∷ xs) → arranged R (map key (x ∷ xs)) ≡ key x ∷ others (key x) xs
    keys_are x [] ordered = refl
    keys_are x (y ∷ ys) ordered =
        ap (λ ks. insert_key R ks (key x)) (keys_are y ys ordered.1)
        ∙ elim (R (key x) (key y)) as (λ o. R (key x) (key y) ≡ o → match_ordering o (key x ∷ key y ∷ others (key y) ys) (key y ∷ others (key y) ys) (key y ∷ insert_key R (others (key y) ys) (key x)) ≡ key x ∷ cond (is_eq o) (others (key x) ys) (key y ∷ others (key y) ys)) [
          | Less ↦ λ _. refl
          | Equal ↦ λ e. ap (λ k. k ∷ others k ys) (sym (exact (key x) (key y) e))
          | Greater ↦ λ e. let clash : true ≡ false = sym (ap is_gt e) ∙ ordered.0.0 in cc
        ] refl

    -- an item below a key is no part of its group
    passed_over : (k : K) (x : X) (xs : List X) → R (key x) k ≡ Less → collect (blank k) xs ≡ collect (blank k) (x ∷ xs)
    passed_over k x xs less =
        let greater : R (name (blank k)) (key x) ≡ Greater = ap (λ l. R l (key x)) (name_blank k) ∙ total.antisymm k (key x) ∙ ap ordering_reverse less in
        sym (ap (λ o. collect (cond (is_eq o) (grow (blank k) x) (blank k)) xs) greater)

    all_passed_over : (x : X) (xs : List X) (ks : List K) → Above (key x) ks → map (λ k. collect (blank k) xs) ks ≡ map (λ k. collect (blank k) (x ∷ xs)) ks
    all_passed_over x xs [] above = refl
    all_passed_over x xs (k ∷ ks) above = λ i. passed_over k x xs above.0 i ∷ all_passed_over x xs ks above.1 i

    -- items above a group's key are no part of it
    untouched : (g : G) (l : K) (xs : List X) → R (name g) l ≡ Less → AtLeast l xs → collect g xs ≡ g
    untouched g l [] less least = refl
    untouched g l (x ∷ xs) less least =
        let below : is_eq (R (name g) (key x)) ≡ false =
        elim (R l (key x)) as (λ o. R l (key x) ≡ o → is_gt o ≡ false → is_eq (R (name g) (key x)) ≡ false) [
          | Less ↦ λ e _. ap is_eq (total.trans (name g) l (key x) less e)
          | Equal ↦ λ e _. ap is_eq (sym (alike_right total l (key x) (name g) e) ∙ less)
          | Greater ↦ λ e h. cc
        ] refl least.0 in
        ap (λ b. collect (cond b (grow g x) g) xs) below ∙ untouched g l xs less least.1

    begun : (x : X) (xs : List X) → collect (begin x) xs ≡ collect (blank (key x)) (x ∷ xs)
    begun x xs =
        let own : R (name (blank (key x))) (key x) ≡ Equal = ap (λ k. R k (key x)) (name_blank (key x)) ∙ tied_itself total (key x) in
        sym (ap (λ o. collect (cond (is_eq o) (begin x) (blank (key x))) xs) own)

    of_open : (g : G) (xs : List X) → AtLeast (name g) xs → Ordered xs → groups (Some g) xs ≡ collect g xs ∷ map (λ k. collect (blank k) xs) (others (name g) xs)
    of_open g [] least ordered = refl
    of_open g (x ∷ xs) least ordered =
        let name_begin : name (begin x) ≡ key x = name_grow (blank (key x)) x ∙ name_blank (key x) in
        elim (eq_by_cmp R (name g) (key x)) as (λ b. eq_by_cmp R (name g) (key x) ≡ b → cond b (groups (Some (grow g x)) xs) (g ∷ groups (Some (begin x)) xs) ≡ collect (cond b (grow g x) g) xs ∷ map (λ k. collect (blank k) (x ∷ xs)) (cond b (others (name g) xs) (key x ∷ others (key x) xs))) [
          | true ↦ λ e.
              let same : name g ≡ key x = exact (name g) (key x) ((Equal-is (R (name g) (key x))).0 e) in
              of_open (grow g x) xs (subst (λ k. AtLeast k xs) (sym (name_grow g x)) least.1) ordered.1
              ∙ ap (λ k. collect (grow g x) xs ∷ map (λ l. collect (blank l) xs) (others k xs)) (name_grow g x)
              ∙ ap (λ gs. collect (grow g x) xs ∷ gs) (all_passed_over x xs (others (name g) xs) (subst (λ k. Above k (others (name g) xs)) same (others_above (name g) xs least.1 ordered.1)))
          | false ↦ λ e.
              ap (λ gs. g ∷ gs) (of_open (begin x) xs (subst (λ k. AtLeast k xs) (sym name_begin) ordered.0) ordered.1
              ∙ ap (λ k. collect (begin x) xs ∷ map (λ l. collect (blank l) xs) (others k xs)) name_begin
              ∙ (λ i. begun x xs i ∷ all_passed_over x xs (others (key x) xs) (others_above (key x) xs ordered.0 ordered.1) i))
              ∙ ap (λ h. h ∷ map (λ k. collect (blank k) (x ∷ xs)) (key x ∷ others (key x) xs)) (sym (untouched g (key x) xs (less_is (R (name g) (key x)) e least.0) ordered.0))
        ] refl

    -- one group for each key, with all that is its own
    pub groups_are : (xs : List X) → Ordered xs → groups None xs ≡ map (λ k. collect (blank k) xs) (arranged R (map key xs))
    groups_are [] ordered = refl
    groups_are (x ∷ xs) ordered =
        let name_begin : name (begin x) ≡ key x = name_grow (blank (key x)) x ∙ name_blank (key x) in
        of_open (begin x) xs (subst (λ k. AtLeast k xs) (sym name_begin) ordered.0) ordered.1
        ∙ ap (λ k. collect (begin x) xs ∷ map (λ l. collect (blank l) xs) (others k xs)) name_begin
        ∙ (λ i. begun x xs i ∷ all_passed_over x xs (others (key x) xs) (others_above (key x) xs ordered.0 ordered.1) i)
        ∙ ap (map (λ k. collect (blank k) (x ∷ xs))) (sym (keys_are x xs ordered))

-- ---- the loop, which shows each group when it is done

module _ {K X G H : Type 0} (R : K → K → Ordering) (key : X → K) (name : G → K) (blank : K → G) (grow : G → X → G) (shown : G → List H) where
  abbrev pub shown_all : List G → List H
  shown_all [] = []
  shown_all (g ∷ gs) = shown g ++ shown_all gs

  abbrev pub shows : Option G → List X → List H
  shows open_group xs = shown_all (groups R key name blank grow open_group xs)

  module _ (all rest : List X) (x : X) (next : all ≡ x ∷ rest) (done whole : List H) where
    pub goes_on : (g new : G) → eq_by_cmp R (name g) (key x) ≡ true → new ≡ grow g x → done ++ shows (Some g) all ≡ whole → done ++ shows (Some new) rest ≡ whole
    goes_on g new own grown before =
        ap (λ h. done ++ shows (Some h) rest) grown
        ∙ sym (ap (λ b. done ++ shown_all (cond b (groups R key name blank grow (Some (grow g x)) rest) (g ∷ groups R key name blank grow (Some (grow (blank (key x)) x)) rest))) own)
        ∙ sym (ap (λ xs. done ++ shows (Some g) xs) next) ∙ before

    pub ends : (g new : G) (more : List H) → eq_by_cmp R (name g) (key x) ≡ false → new ≡ grow (blank (key x)) x → more ≡ done ++ shown g → done ++ shows (Some g) all ≡ whole → more ++ shows (Some new) rest ≡ whole
    ends g new more other begun added before =
        (λ i. added i ++ shows (Some (begun i)) rest)
        ∙ append_assoc done (shown g) (shows (Some (grow (blank (key x)) x)) rest)
        ∙ sym (ap (λ b. done ++ shown_all (cond b (groups R key name blank grow (Some (grow g x)) rest) (g ∷ groups R key name blank grow (Some (grow (blank (key x)) x)) rest))) other)
        ∙ sym (ap (λ xs. done ++ shows (Some g) xs) next) ∙ before

    pub starts : (new : G) → new ≡ grow (blank (key x)) x → done ++ shows None all ≡ whole → done ++ shows (Some new) rest ≡ whole
    starts new begun before = ap (λ h. done ++ shows (Some h) rest) begun ∙ sym (ap (λ xs. done ++ shows None xs) next) ∙ before

  module _ (all : List X) (none : all ≡ []) (done whole : List H) where
    pub last_shown : (g : G) (more : List H) → more ≡ done ++ shown g → done ++ shows (Some g) all ≡ whole → more ≡ whole
    last_shown g more added before = added ∙ ap (λ hs. done ++ hs) (sym (append-nil (shown g))) ∙ sym (ap (λ xs. done ++ shows (Some g) xs) none) ∙ before

    pub none_open : done ++ shows None all ≡ whole → done ≡ whole
    none_open before = sym (append-nil done) ∙ sym (ap (λ xs. done ++ shows None xs) none) ∙ before
