-- The operations of each game and the notes beside a set, after a change.
use Rattle.std.proofs.Common.{◌≡◌, ◌≢◌, Bool, true, false, not, ◌&&◌, ◌||◌, cond, List, [], ◌∷◌, length, Option, Some, None, refl, sym, ap, ◌∙◌, subst}
use Rattle.std.specs.Prelude.{IfSome, unwrap_or}
use Rattle.std.specs.List.{filter, list_any}
use Rattle.std.specs.Option.{option_eq}
use Rattle.std.specs.Ordering.{eq_by_cmp, is_eq}
use Rattle.std.specs.Cmp.{Equal-is, tied_itself}
use Rattle.std.proofs.lemmas.Bool.{false≢true}
use Rattle.std.proofs.lemmas.Map.Views.{any-filter_same}
use Rattle.oct_code.specs.Code.{Code, code_cmp, code_eq}
use Rattle.oct_code.specs.CodeOrder.{code_cmp_exact}
use Rattle.oct_ops.specs.Body as kind
use Rattle.oct_ops.specs.Body.{Body, Operation}
use Rattle.oct_ops.specs.Operations.{Operations, contains, empty, insert, keep, listed, remove, set_of}
use Rattle.oct_ops.specs.Order.{op_cmp}
use Rattle.oct_ops.specs.OrderLaws.{op_cmp_total, op_cmp_exact}
use Rattle.oct_ops.specs.SetLaws.{contains-empty, contains-insert, contains-listed, contains-remove, contains-set_of, listed-empty, listed-keep, same_set, set_of-listed}
use Rattle.oct_ops.specs.Games.{game_of, game_of_body, of_code}
use Rattle.oct_notes.specs.Notes.{concerns_notes}
use Rattle.oct_record.specs.Index.{AreBeside, AreFilled, Index, filed, has_game, held_at, index_of, noted, unfiled, unnoted}
use Rattle.oct_store.specs.Summary.{of_game}

-- ---- the operations of a set that pass a test

keep-empty : (p : Operation → Bool) → keep p empty ≡ empty
keep-empty p = ap (λ ops. set_of (filter p ops)) (listed-empty op_cmp_total op_cmp_exact)

-- an operation that ties with another passes where that does
tied : (p : Operation → Bool) (o x : Operation) → eq_by_cmp op_cmp o x ≡ true → p o ≡ p x
tied p o x e = ap p (op_cmp_exact o x ((Equal-is (op_cmp o x)).0 e))

contains-keep : (p : Operation → Bool) (s : Operations) (o : Operation) → contains (keep p s) o ≡ (p o && contains s o)
contains-keep p s o =
    contains-set_of op_cmp_total op_cmp_exact (filter p (listed s)) o
    ∙ any-filter_same (eq_by_cmp op_cmp o) p (p o) (λ x e. sym (tied p o x e)) (listed s)
    ∙ ap (λ b. p o && b) (sym (contains-listed s o))

-- by whether the two tie, whether each passes, and whether the one is held
put_test : (e a b h : Bool) → (e ≡ true → a ≡ b) → (a && (e || h)) ≡ cond b (e || (a && h)) (a && h)
put_test true true true h same = refl
put_test true false true h same = same refl
put_test true true false h same = absurd (false≢true (sym (same refl)))
put_test true false false h same = refl
put_test false true true h same = refl
put_test false false true h same = refl
put_test false true false h same = refl
put_test false false false h same = refl

out_test : (e a b h : Bool) → (e ≡ true → a ≡ b) → (a && (not e && h)) ≡ cond b (not e && (a && h)) (a && h)
out_test true true true h same = refl
out_test true false true h same = refl
out_test true true false h same = absurd (false≢true (sym (same refl)))
out_test true false false h same = refl
out_test false true true h same = refl
out_test false false true h same = refl
out_test false true false h same = refl
out_test false false false h same = refl

has_cond : (b : Bool) (s t : Operations) (o : Operation) → contains (cond b s t) o ≡ cond b (contains s o) (contains t o)
has_cond true s t o = refl
has_cond false s t o = refl

keep-insert : (p : Operation → Bool) (s : Operations) (x : Operation) → keep p (insert s x) ≡ cond (p x) (insert (keep p s) x) (keep p s)
keep-insert p s x = same_set op_cmp_total op_cmp_exact _ _ (λ o.
    contains-keep p (insert s x) o
    ∙ ap (λ b. p o && b) (contains-insert op_cmp_total op_cmp_exact s x o)
    ∙ put_test (eq_by_cmp op_cmp o x) (p o) (p x) (contains s o) (tied p o x)
    ∙ (λ i. cond (p x) (eq_by_cmp op_cmp o x || sym (contains-keep p s o) i) (sym (contains-keep p s o) i))
    ∙ ap (λ b. cond (p x) b (contains (keep p s) o)) (sym (contains-insert op_cmp_total op_cmp_exact (keep p s) x o))
    ∙ sym (has_cond (p x) (insert (keep p s) x) (keep p s) o))

keep-remove : (p : Operation → Bool) (s : Operations) (x : Operation) → keep p (remove s x) ≡ cond (p x) (remove (keep p s) x) (keep p s)
keep-remove p s x = same_set op_cmp_total op_cmp_exact _ _ (λ o.
    contains-keep p (remove s x) o
    ∙ ap (λ b. p o && b) (contains-remove op_cmp_total op_cmp_exact s x o)
    ∙ out_test (eq_by_cmp op_cmp o x) (p o) (p x) (contains s o) (tied p o x)
    ∙ (λ i. cond (p x) (not (eq_by_cmp op_cmp o x) && sym (contains-keep p s o) i) (sym (contains-keep p s o) i))
    ∙ ap (λ b. cond (p x) b (contains (keep p s) o)) (sym (contains-remove op_cmp_total op_cmp_exact (keep p s) x o))
    ∙ sym (has_cond (p x) (remove (keep p s) x) (keep p s) o))

-- ---- what is beside a set

pub beside_nothing : (index : Index) (notes : Operations) → ((c : Code) → index c ≡ None) → notes ≡ empty → AreBeside empty index notes
beside_nothing index notes none no_notes = record {
  games = λ c. ap (λ found. unwrap_or found empty) (none c) ∙ sym (keep-empty (of_code c));
  notes = no_notes ∙ sym (keep-empty (λ (o : Operation). concerns_notes o.body));
}

pub beside_same : (ops : Operations) (old new : Index) (held more : Operations) → AreBeside ops old held → ((q : Code) → held_at new q ≡ held_at old q) → more ≡ held → AreBeside ops new more
beside_same ops old new held more beside games notes = record { games = λ q. games q ∙ beside.games q; notes = notes ∙ beside.notes }

module _ (ops : Operations) (old new : Index) (held more : Operations) (o : Operation) (beside : AreBeside ops old held) where
  pub beside_more : ((q : Code) → held_at new q ≡ filed o q (held_at old q)) → more ≡ noted o held → AreBeside (insert ops o) new more
  beside_more games notes = record {
    games = λ q. games q ∙ ap (filed o q) (beside.games q) ∙ sym (keep-insert (of_code q) ops o);
    notes = notes ∙ ap (noted o) beside.notes ∙ sym (keep-insert (λ (x : Operation). concerns_notes x.body) ops o);
  }

  pub beside_less : ((q : Code) → held_at new q ≡ unfiled o q (held_at old q)) → more ≡ unnoted o held → AreBeside (remove ops o) new more
  beside_less games notes = record {
    games = λ q. games q ∙ ap (unfiled o q) (beside.games q) ∙ sym (keep-remove (of_code q) ops o);
    notes = notes ∙ ap (unnoted o) beside.notes ∙ sym (keep-remove (λ (x : Operation). concerns_notes x.body) ops o);
  }

-- ---- an operation that is taken out again

taken_out : (e h : Bool) → (e ≡ true → h ≡ false) → (not e && (e || h)) ≡ h
taken_out true h absent = sym (absent refl)
taken_out false h absent = refl

pub remove-insert : (ops : Operations) (o : Operation) → contains ops o ≡ false → remove (insert ops o) o ≡ ops
remove-insert ops o absent = same_set op_cmp_total op_cmp_exact (remove (insert ops o) o) ops (λ p.
    contains-remove op_cmp_total op_cmp_exact (insert ops o) o p
    ∙ ap (λ b. not (eq_by_cmp op_cmp p o) && b) (contains-insert op_cmp_total op_cmp_exact ops o p)
    ∙ taken_out (eq_by_cmp op_cmp p o) (contains ops p) (λ t. ap (contains ops) (op_cmp_exact p o ((Equal-is (op_cmp p o)).0 t)) ∙ absent))

-- ---- one game that is changed

-- an operation is of the game of its code alone
of_its_code : (o : Operation) (code q : Code) → game_of o ≡ Some code → of_code q o ≡ eq_by_cmp code_cmp code q
of_its_code o code q is = ap (λ g. option_eq code_eq g (Some q)) is

-- what is found after the set of one game was made another
abbrev pub IsPut : Index → Index → Code → Operations → Type 0
IsPut old new code held = (q : Code) → new q ≡ cond (eq_by_cmp code_cmp code q) (Some held) (old q)

pub changed_at : (old new : Index) (code : Code) (mid : Operations) (more : Operations → Operations) (o : Operation) → game_of o ≡ Some code → mid ≡ more (held_at old code) → IsPut old new code mid
    → (q : Code) → held_at new q ≡ cond (of_code q o) (more (held_at old q)) (held_at old q)
changed_at old new code mid more o is grown put q =
    ap (λ t. unwrap_or t empty) (put q)
    ∙ by (eq_by_cmp code_cmp code q) refl
    ∙ ap (λ b. cond b (more (held_at old q)) (held_at old q)) (sym (of_its_code o code q is))
  where
    by : (b : Bool) → eq_by_cmp code_cmp code q ≡ b → unwrap_or (cond b (Some mid) (old q)) empty ≡ cond b (more (held_at old q)) (held_at old q)
    by true e = grown ∙ ap (λ c. more (held_at old c)) (code_cmp_exact code q ((Equal-is (code_cmp code q)).0 e))
    by false e = refl

pub same_at : (old new : Index) (code : Code) (mid : Operations) → mid ≡ held_at old code → IsPut old new code mid → (q : Code) → held_at new q ≡ held_at old q
same_at old new code mid same put q = ap (λ t. unwrap_or t empty) (put q) ∙ by (eq_by_cmp code_cmp code q) refl
  where
    by : (b : Bool) → eq_by_cmp code_cmp code q ≡ b → unwrap_or (cond b (Some mid) (old q)) empty ≡ held_at old q
    by true e = same ∙ ap (held_at old) (code_cmp_exact code q ((Equal-is (code_cmp code q)).0 e))
    by false e = refl

-- what is found is what is held, and where nothing is found nothing is
pub found_at : (index : Index) (code : Code) (held : Operations) → Some held ≡ index code → held ≡ held_at index code
found_at index code held found = ap (λ t. unwrap_or t empty) found

pub none_at : (index : Index) (code : Code) → None ≡ index code → empty ≡ held_at index code
none_at index code none = ap (λ t. unwrap_or t empty) none

-- ---- operations of a game are no notes

pub of_no_notes : (o : Operation) (code : Code) → game_of o ≡ Some code → concerns_notes o.body ≡ false
of_no_notes o code is = by o.body is
  where
    by : (body : Body) → game_of_body body ≡ Some code → concerns_notes body ≡ false
    by (kind.Block b) e = refl
    by (kind.Period p) e = refl
    by (kind.Note n) e = cc
    by (kind.Removal r) e = cc

pub of_no_game : (o : Operation) → game_of o ≡ None → concerns_notes o.body ≡ true
of_no_game o none = by o.body none
  where
    by : (body : Body) → game_of_body body ≡ None → concerns_notes body ≡ true
    by (kind.Block b) e = cc
    by (kind.Period p) e = cc
    by (kind.Note n) e = refl
    by (kind.Removal r) e = refl

pub no_code : (o : Operation) (q : Code) → game_of o ≡ None → of_code q o ≡ false
no_code o q none = ap (λ g. option_eq code_eq g (Some q)) none

-- taking out of nothing leaves nothing
remove-empty : (o : Operation) → remove empty o ≡ empty
remove-empty o = same_set op_cmp_total op_cmp_exact (remove empty o) empty (λ p.
    contains-remove op_cmp_total op_cmp_exact empty o p ∙ ap (λ b. not (eq_by_cmp op_cmp p o) && b) (none p) ∙ nothing (not (eq_by_cmp op_cmp p o)) ∙ sym (none p))
  where
    none : (p : Operation) → contains empty p ≡ false
    none = contains-empty op_cmp_total op_cmp_exact

    nothing : (b : Bool) → (b && false) ≡ false
    nothing true = refl
    nothing false = refl

pub unfiled_nothing : (old : Index) (code : Code) (o : Operation) → game_of o ≡ Some code → None ≡ old code → (q : Code) → held_at old q ≡ unfiled o q (held_at old q)
unfiled_nothing old code o is none q = by (eq_by_cmp code_cmp code q) refl ∙ ap (λ b. cond b (remove (held_at old q) o) (held_at old q)) (sym (of_its_code o code q is))
  where
    by : (b : Bool) → eq_by_cmp code_cmp code q ≡ b → held_at old q ≡ cond b (remove (held_at old q) o) (held_at old q)
    by true e =
        let nothing : held_at old q ≡ empty = ap (held_at old) (sym (code_cmp_exact code q ((Equal-is (code_cmp code q)).0 e))) ∙ sym (none_at old code none) in
        nothing ∙ sym (remove-empty o) ∙ ap (λ s. remove s o) (sym nothing)
    by false e = refl

-- a test that says whether an operation is new
pub is_held : (held new : Bool) → new ≡ not held → new ≡ false → held ≡ true
is_held true new told is = refl
is_held false new told is = absurd (false≢true (sym is ∙ told))

pub is_absent : (held new : Bool) → new ≡ not held → new ≡ true → held ≡ false
is_absent true new told is = absurd (false≢true (sym told ∙ is))
is_absent false new told is = refl

-- ---- no game is found without operations

pub insert_filled : (s : Operations) (o : Operation) → insert s o ≢ empty
insert_filled s o none =
    let has : contains (insert s o) o ≡ true =
    contains-insert op_cmp_total op_cmp_exact s o o ∙ ap (λ b. b || contains s o) (ap is_eq (tied_itself op_cmp_total o)) in
    false≢true (sym (contains-empty op_cmp_total op_cmp_exact o) ∙ ap (λ t. contains t o) (sym none) ∙ has)

pub nothing_filled : (index : Index) → ((c : Code) → index c ≡ None) → AreFilled index
nothing_filled index none c = subst (λ found. IfSome found (λ (held : Operations). held ≢ empty)) (sym (none c)) tt

pub put_filled : (old new : Index) (code : Code) (mid : Operations) → mid ≢ empty → IsPut old new code mid → AreFilled old → AreFilled new
put_filled old new code mid some put filled q = subst (λ found. IfSome found (λ (held : Operations). held ≢ empty)) (sym (put q)) (by (eq_by_cmp code_cmp code q))
  where
    by : (b : Bool) → IfSome (cond b (Some mid) (old q)) (λ (held : Operations). held ≢ empty)
    by true = some
    by false = filled q

pub still_filled : (old new : Index) (code : Code) (held mid : Operations) → Some held ≡ old code → mid ≡ held → IsPut old new code mid → AreFilled old → AreFilled new
still_filled old new code held mid found same put filled =
    let some : held ≢ empty = subst (λ o. IfSome o (λ (s : Operations). s ≢ empty)) (sym found) (filled code) in
    put_filled old new code mid (λ none. some (sym same ∙ none)) put filled

pub none_listed : (s : Operations) → length (listed s) ≡ 0 → s ≡ empty
none_listed s none = sym (set_of-listed op_cmp_total op_cmp_exact s) ∙ ap set_of (nil (listed s) none)
  where
    nil : (xs : List Operation) → length xs ≡ 0 → xs ≡ []
    nil [] h = refl
    nil (x ∷ xs) h = cc

pub some_listed : (s : Operations) → (length (listed s) ≡ 0 → ⊥) → s ≢ empty
some_listed s some none = some (ap (λ t. length (listed t)) none ∙ ap length (listed-empty op_cmp_total op_cmp_exact))

-- a game that lost its last operation, and then goes
module _ (old last new : Index) (code : Code) (mid : Operations) (put : IsPut old last code mid) (gone : (q : Code) → new q ≡ cond (eq_by_cmp code_cmp code q) None (last q)) where
  gone_at : (q : Code) → new q ≡ cond (eq_by_cmp code_cmp code q) None (cond (eq_by_cmp code_cmp code q) (Some mid) (old q))
  gone_at q = gone q ∙ ap (cond (eq_by_cmp code_cmp code q) None) (put q)

  pub drop_same : mid ≡ empty → (q : Code) → held_at new q ≡ held_at last q
  drop_same none q = ap (λ t. unwrap_or t empty) (gone_at q) ∙ by (eq_by_cmp code_cmp code q) ∙ ap (λ t. unwrap_or t empty) (sym (put q))
    where
      by : (b : Bool) → unwrap_or (cond b None (cond b (Some mid) (old q))) empty ≡ unwrap_or (cond b (Some mid) (old q)) empty
      by true = sym none
      by false = refl

  pub drop_filled : AreFilled old → AreFilled new
  drop_filled filled q = subst (λ found. IfSome found (λ (held : Operations). held ≢ empty)) (sym (gone_at q)) (by (eq_by_cmp code_cmp code q))
    where
      by : (b : Bool) → IfSome (cond b None (cond b (Some mid) (old q))) (λ (held : Operations). held ≢ empty)
      by true = tt
      by false = filled q

-- ---- the games that have operations

none_kept : (p : Operation → Bool) (xs : List Operation) → list_any p xs ≡ false → filter p xs ≡ []
none_kept p [] h = refl
none_kept p (x ∷ xs) h = by (p x) h (none_kept p xs)
  where
    by : (b : Bool) → (b || list_any p xs) ≡ false → (list_any p xs ≡ false → filter p xs ≡ []) → cond b (x ∷ filter p xs) (filter p xs) ≡ []
    by true e rest = cc
    by false e rest = rest e

any_kept : (p : Operation → Bool) (xs : List Operation) → list_any p xs ≡ true → filter p xs ≢ []
any_kept p [] h = λ _. false≢true h
any_kept p (x ∷ xs) h = by (p x) h (any_kept p xs)
  where
    by : (b : Bool) → (b || list_any p xs) ≡ true → (list_any p xs ≡ true → filter p xs ≢ []) → cond b (x ∷ filter p xs) (filter p xs) ≢ []
    by true e rest = λ none. cc
    by false e rest = rest e

pub index_is : (ops : Operations) (index : Index) → ((c : Code) → held_at index c ≡ of_game ops c) → AreFilled index → (c : Code) → index c ≡ index_of ops c
index_is ops index games filled c = by (index c) (has_game ops c) refl refl
  where
    by : (found : Option Operations) (has : Bool) → index c ≡ found → has_game ops c ≡ has → index c ≡ index_of ops c
    by None true is has =
        let nothing : of_game ops c ≡ empty = sym (games c) ∙ ap (λ t. unwrap_or t empty) is in
        absurd (any_kept (of_code c) (listed ops) has
        (sym (listed-keep op_cmp_total op_cmp_exact (of_code c) ops) ∙ ap listed nothing ∙ listed-empty op_cmp_total op_cmp_exact))
    by None false is has = is ∙ sym (ap (λ b. cond b (Some (of_game ops c)) None) has)
    by (Some held) true is has =
        is ∙ ap Some (ap (λ t. unwrap_or t empty) (sym is) ∙ games c) ∙ sym (ap (λ b. cond b (Some (of_game ops c)) None) has)
    by (Some held) false is has =
        let some : held ≢ empty = subst (λ o. IfSome o (λ (s : Operations). s ≢ empty)) is (filled c) in
        let kept : held ≡ of_game ops c = ap (λ t. unwrap_or t empty) (sym is) ∙ games c in
        absurd (some (kept ∙ ap set_of (none_kept (of_code c) (listed ops) has)))
