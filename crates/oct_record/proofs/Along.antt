-- Operations of a list, taken in one after the other.
use Rattle.std.proofs.Common.{Fits, w32, arith, ◌≡◌, ◌≢◌, ◌↔◌, ℕ, zero, suc, ◌+◌, ◌^◌, ◌<◌, ◌≤◌, inl, inr, Some, Result, Ok, Err, IfErr, IsErrOf, Bool, true, false, not, ◌||◌, cond, List, [], ◌∷◌, ◌++◌, length, take, drop, refl, sym, ap, ◌∙◌, subst}
use Rattle.std.specs.Prelude.{get_or}
use Rattle.std.specs.List.{list_all, list_any}
use Rattle.std.specs.declared.cmp.Ordering.{Ordering}
use Rattle.std.specs.declared.cmp.Ordering.TheVariants.{Less, Equal, Greater}
use Rattle.std.specs.Ordering.{eq_by_cmp, is_lt}
use Rattle.std.specs.Cmp.{Equal-is, tied_itself, first_so, second_so}
use Rattle.std.proofs.lemmas.Bool.{false≢true}
use Rattle.std.proofs.lemmas.List.{drop_more, length-append, length-drop, take_more}
use Rattle.std.proofs.lemmas.List.Elements.{filter-append}
use Rattle.oct_ops.specs.Body.{Operation}
use Rattle.oct_ops.specs.Operations.{contains, insert, listed, set_of, union}
use Rattle.oct_ops.specs.Order.{op_cmp}
use Rattle.oct_ops.specs.OrderLaws.{op_cmp_total, op_cmp_exact}
use Rattle.oct_ops.specs.Sets.{rises}
use Rattle.oct_ops.specs.SetLaws.{contains-set_of, contains-union, insert_comm, listed-set_of, union-insert, union-empty}
use Rattle.oct_record.specs.Content.{RecordContent}
use Rattle.oct_delta.specs.Text.{Bytes}
use Rattle.oct_delta.specs.Delta.{IsDeltaText}
use Rattle.oct_delta.specs.Decoding.{read_delta}
use Rattle.oct_delta.specs.Taken.{operations_of, set_of_read}
use Rattle.oct_delta.proofs.Deltas.{text_rising}
use Rattle.oct_delta.specs.declared.error.DeltaFault.{DeltaFault}
use Rattle.oct_record.specs.Taking.{with_all, unheld, count_new, IsCut, IsCutBy, LeavesAt}
use Rattle.oct_record.specs.declared.error.TakeError.{TakeError}
use Rattle.oct_record.specs.declared.error.TakeError.TheVariants.{Version, Refused, OutOfMemory}

-- ---- a rising list has an operation once

not_tied : (o : Ordering) → o ≡ Equal → is_lt o ≡ true → ⊥
not_tied Less e h = cc
not_tied Equal e h = false≢true h
not_tied Greater e h = cc

apart : (x y : Operation) → is_lt (op_cmp y x) ≡ true → eq_by_cmp op_cmp x y ≡ false
apart x y below = by (eq_by_cmp op_cmp x y) refl
  where
    by : (b : Bool) → eq_by_cmp op_cmp x y ≡ b → b ≡ false
    by false e = refl
    by true e =
        let same : x ≡ y = op_cmp_exact x y ((Equal-is (op_cmp x y)).0 e) in
        absurd (not_tied (op_cmp y y) (tied_itself op_cmp_total y) (ap (λ z. is_lt (op_cmp y z)) (sym same) ∙ below))

all_at : (y : Operation) (xs : List Operation) (i : ℕ) (x : Operation) → list_all (λ z. is_lt (op_cmp y z)) xs ≡ true → i < length xs → x ≡ get_or xs i x → is_lt (op_cmp y x) ≡ true
all_at y [] i x h lt is = absurd (omega (arith, lt))
all_at y (z ∷ xs) zero x h lt is = ap (λ w. is_lt (op_cmp y w)) is ∙ first_so _ _ h
all_at y (z ∷ xs) (suc i) x h lt is = all_at y xs i x (second_so (is_lt (op_cmp y z)) _ h) (omega (arith, lt)) is

none_before : (xs : List Operation) (i : ℕ) (x : Operation) → rises op_cmp xs ≡ true → i < length xs → x ≡ get_or xs i x → list_any (eq_by_cmp op_cmp x) (take i xs) ≡ false
none_before [] i x h lt is = absurd (omega (arith, lt))
none_before (y ∷ xs) zero x h lt is = refl
none_before (y ∷ xs) (suc i) x h lt is =
    let here = apart x y (all_at y xs i x (first_so (list_all (λ z. is_lt (op_cmp y z)) xs) (rises op_cmp xs) h) (omega (arith, lt)) is) in
    let later = none_before xs i x (second_so (list_all (λ z. is_lt (op_cmp y z)) xs) (rises op_cmp xs) h) (omega (arith, lt)) is in
    λ j. here j || later j

-- ---- the first so many

pub set_of-end : (xs : List Operation) (x : Operation) → set_of (xs ++ x ∷ []) ≡ insert (set_of xs) x
set_of-end [] x = refl
set_of-end (y ∷ xs) x = ap (λ s. insert s y) (set_of-end xs x) ∙ insert_comm op_cmp_total op_cmp_exact (set_of xs) x y

-- the first so many operations are in, the rest is still to come, and so many of the first are new
pub record TakesAlong (old now : RecordContent) (list rest : List Operation) (passed new : ℕ) : Type 0 where
  pub held : now ≡ with_all old (set_of (take passed list))
  pub left : rest ≡ drop passed list
  pub count : new ≡ count_new old.ops (take passed list)
  pub few : new ≤ passed
  pub most : passed ≤ length list

pub takes_start : (old : RecordContent) (list rest : List Operation) → rest ≡ list → TakesAlong old old list rest 0 0
takes_start old list rest all = record {
  held = ap (λ s. record { author = old.author; ops = s }) (sym (union-empty op_cmp_total op_cmp_exact old.ops));
  left = all;
  count = refl;
  few = omega arith;
  most = omega arith;
}

module _ (old now : RecordContent) (list rest next : List Operation) (i count : ℕ) (x : Operation) (along : TakesAlong old now list rest i count) (step : rest ≡ x ∷ next) where
  pub within : i < length list
  within = omega (arith, length-drop i list, ap length (sym step ∙ along.left))

  from_here : x ∷ next ≡ get_or list i x ∷ drop (i + 1) list
  from_here = sym step ∙ along.left ∙ drop_more list i x within

  is_next : x ≡ get_or list i x
  is_next = ap (λ l. get_or l 0 x) from_here

  left_next : next ≡ drop (i + 1) list
  left_next = ap (drop 1) from_here

-- where the next is refused
pub takes_cut : (old now new : RecordContent) (list rest next : List Operation) (i count : ℕ) (x : Operation) → TakesAlong old now list rest i count → rest ≡ x ∷ next → new ≡ now
    → IsCut old new list i
takes_cut old now new list rest next i count x along step same = record {
  due = within old now list rest next i count x along step;
  held = same ∙ along.held;
}

-- where the next is not made
pub takes_short : (old now : RecordContent) (list rest : List Operation) (i count : ℕ) → TakesAlong old now list rest i count → rest ≢ [] → IsCut old now list i
takes_short old now list [] i count along some = absurd (some refl)
takes_short old now list (x ∷ next) i count along some = takes_cut old now now list (x ∷ next) next i count x along refl refl

module _ (old now new : RecordContent) (list rest next : List Operation) (i count : ℕ) (x : Operation) (rising : rises op_cmp list ≡ true) (along : TakesAlong old now list rest i count)
    (step : rest ≡ x ∷ next) (added : new ≡ record now { ops = insert now.ops x }) where
  lt : i < length list
  lt = within old now list rest next i count x along step

  is : x ≡ get_or list i x
  is = is_next old now list rest next i count x along step

  one_more : take (i + 1) list ≡ take i list ++ x ∷ []
  one_more = take_more list i x lt ∙ ap (λ (y : Operation). take i list ++ y ∷ []) (sym is)

  held_next : new ≡ with_all old (set_of (take (i + 1) list))
  held_next =
      added ∙ ap (λ (r : RecordContent). record r { ops = insert r.ops x }) along.held
      ∙ ap (λ s. record { author = old.author; ops = s })
      (sym (union-insert op_cmp_total op_cmp_exact old.ops (set_of (take i list)) x) ∙ ap (union old.ops) (sym (set_of-end (take i list) x) ∙ ap set_of (sym one_more)))

  or_none : (a b : Bool) → b ≡ false → (a || b) ≡ a
  or_none true b h = refl
  or_none false b h = h

  seen : contains now.ops x ≡ contains old.ops x
  seen =
      ap (λ (r : RecordContent). contains r.ops x) along.held ∙ contains-union op_cmp_total op_cmp_exact old.ops (set_of (take i list)) x
      ∙ or_none (contains old.ops x) _ (contains-set_of op_cmp_total op_cmp_exact (take i list) x ∙ none_before list i x rising lt is)

  counted : (b : Bool) → not (contains old.ops x) ≡ b → count_new old.ops (take (i + 1) list) ≡ count_new old.ops (take i list) + cond b 1 0
  counted b e =
      ap (λ xs. length (unheld old.ops xs)) one_more
      ∙ ap length (filter-append (λ o. not (contains old.ops o)) (take i list) (x ∷ []))
      ∙ length-append (unheld old.ops (take i list)) (unheld old.ops (x ∷ []))
      ∙ ap (λ n. count_new old.ops (take i list) + n) (ap (λ t. length (cond t (x ∷ []) [])) e ∙ one b)
    where
      one : (b : Bool) → length (cond b (x ∷ []) []) ≡ cond b 1 0
      one true = refl
      one false = refl

  pub takes_new : true ≡ not (contains now.ops x) → TakesAlong old new list next (i + 1) (count + 1)
  takes_new e =
      let more = counted true (ap not (sym seen) ∙ sym e) in
      record { held = held_next; left = left_next old now list rest next i count x along step; count = omega (arith, along.count, more); few = omega (arith, along.few); most = omega (arith, lt) }

  pub takes_held : false ≡ not (contains now.ops x) → TakesAlong old new list next (i + 1) count
  takes_held e =
      let more = counted false (ap not (sym seen) ∙ sym e) in
      record { held = held_next; left = left_next old now list rest next i count x along step; count = omega (arith, along.count, more); few = omega (arith, along.few); most = omega (arith, lt) }

take_whole : (xs : List Operation) (i : ℕ) → length xs ≤ i → take i xs ≡ xs
take_whole [] zero le = refl
take_whole [] (suc i) le = refl
take_whole (x ∷ xs) zero le = absurd (omega (arith, le))
take_whole (x ∷ xs) (suc i) le = ap (λ ys. x ∷ ys) (take_whole xs i (omega (arith, le)))

pub takes_done : (old now : RecordContent) (list rest : List Operation) (i count : ℕ) → rest ≡ [] → TakesAlong old now list rest i count
    → (now ≡ with_all old (set_of list)) × (count ≡ count_new old.ops list)
takes_done old now list rest i count none along =
    let all = take_whole list i (omega (arith, length-drop i list, ap length (sym none ∙ along.left))) in
    (along.held ∙ ap (λ xs. with_all old (set_of xs)) all, along.count ∙ ap (count_new old.ops) all)

-- ---- refusals

pub cut_leaves : (old new : RecordContent) (list ops : List Operation) → ops ≡ list → (e : TakeError) → IsCutBy old new list e → LeavesAt old new ops e
cut_leaves old new list ops same Version h = absurd h
cut_leaves old new list ops same Refused h = absurd h
cut_leaves old new list ops same (OutOfMemory done) h = subst (λ (l : List Operation). IsCut old new l done) (sym same) h

pub cut_is_no_version : (old new : RecordContent) (list : List Operation) (r : Result ℕ TakeError) → IfErr r (IsCutBy old new list) → IsErrOf r Version → ⊥
cut_is_no_version old new list (Ok n) cut is = cc
cut_is_no_version old new list (Err Version) cut is = cut
cut_is_no_version old new list (Err Refused) cut is = cut
cut_is_no_version old new list (Err (OutOfMemory done)) cut is = cc

pub cut_is_no_refusal : (old new : RecordContent) (list : List Operation) (r : Result ℕ TakeError) → IfErr r (IsCutBy old new list) → IsErrOf r Refused → ⊥
cut_is_no_refusal old new list (Ok n) cut is = cc
cut_is_no_refusal old new list (Err Version) cut is = cut
cut_is_no_refusal old new list (Err Refused) cut is = cut
cut_is_no_refusal old new list (Err (OutOfMemory done)) cut is = cc

-- an error is not another one
pub not_refused : (P : Type 0) → ¬ P → IsErrOf {T = ℕ} (Err Version) Refused ↔ P
not_refused P none = (λ e. cc, λ p. absurd (none p))

pub memory_no_version : (done : ℕ) (P : Type 0) → ¬ P → IsErrOf {T = ℕ} (Err (OutOfMemory done)) Version ↔ P
memory_no_version done P none = (λ e. cc, λ p. absurd (none p))

pub memory_no_refusal : (done : ℕ) (P : Type 0) → ¬ P → IsErrOf {T = ℕ} (Err (OutOfMemory done)) Refused ↔ P
memory_no_refusal done P none = (λ e. cc, λ p. absurd (none p))

-- what is read is no error
pub read_no_error : (ops : List Operation) (e : DeltaFault) → IsErrOf {T = List Operation} (Ok ops) e → ⊥
read_no_error ops e is = cc

-- ---- the operations of a text

pub text_few : (bytes : Bytes) (ops : List Operation) → IsDeltaText bytes ops → length ops < 2 ^ 32
text_few bytes ops (inl d) = d.list.few
text_few bytes ops (inr d) = d.list.few

pub read_set : (bytes : Bytes) (ops : List Operation) → read_delta bytes ≡ Some ops → operations_of bytes ≡ set_of ops
read_set bytes ops read = ap set_of_read read

pub read_list : (bytes : Bytes) (ops : List Operation) → IsDeltaText bytes ops → read_delta bytes ≡ Some ops → listed (operations_of bytes) ≡ ops
read_list bytes ops text read = ap listed (read_set bytes ops read) ∙ listed-set_of op_cmp_total op_cmp_exact ops (text_rising bytes ops text)

-- what is counted along a list of few operations fits
pub one_more_fits : (n i k : ℕ) → n ≤ i → i < k → k < 2 ^ 32 → Fits w32 (n + 1)
one_more_fits n i k le lt few = omega (arith, le, lt, few)
