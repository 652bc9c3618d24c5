-- What the first wrong place of a block says.
use Rattle.std.proofs.Common.{◌≡◌, ◌≢◌, ℕ, ◌+◌, ◌-◌, ◌<◌, ◌≤◌, zero, suc, true, false, List, [], ◌∷◌, length, take, drop, get_or, slice_index, ◌==◌, Some, None, is_none, MatchOption, refl, sym, ap, subst, ◌∙◌, arith}
use Rattle.std.proofs.lemmas.List.{get_or-take, get_or-drop, length-drop}
use Rattle.std.proofs.lemmas.Bool.{eqb-true, eqb-false, eq-eqb, ne_eqb, true≢false}
use Rattle.oct_code.specs.Code.{Code}
use Rattle.oct_mex.specs.NimValues.{nim_value, nim_values}
use Rattle.oct_mex.proofs.NimValues.{nim_values-at, nim_values-length}
use Rattle.oct_ops.specs.Operation.{Block, claimed}
use Rattle.oct_verify.specs.Known.{first_wrong, is_true, end, known, verdict_at, verdict}
use Rattle.oct_verify.specs.Next.{next_values}
use Rattle.oct_verify.specs.Laws.{claimed_at, IsRight, IsLeastWrong, ProvedIsRight, RefutedIsLeastWrong}
use Rattle.oct_verify.specs.declared.status.Status.TheVariants.{Proved, Refuted}

module _ (c : Code) where
  -- the values from place n on are those of the heaps below the index i
  abbrev pub AgreeBelow : ℕ → List ℕ → ℕ → Type 0
  AgreeBelow n vs i = (k : ℕ) → k < i → slice_index vs k ≡ nim_value c (n + k)

  tail_agrees : (n v i : ℕ) (vs : List ℕ) → AgreeBelow n (v ∷ vs) (suc i) → AgreeBelow (n + 1) vs i
  tail_agrees n v i vs h k lt = h (suc k) (omega arith) ∙ ap (nim_value c) (let e : n + suc k ≡ n + 1 + k = omega arith in e)

  head_agrees : (n v i : ℕ) (vs : List ℕ) → AgreeBelow n (v ∷ vs) (suc i) → v ≡ nim_value c n
  head_agrees n v i vs h = h 0 (omega arith) ∙ ap (nim_value c) (let e : n + 0 ≡ n = omega arith in e)

  pub none_wrong : (n : ℕ) (vs : List ℕ) → AgreeBelow n vs (length vs) → first_wrong c n vs ≡ None
  none_wrong n [] h = refl
  none_wrong n (v ∷ vs) h = rw (eq-eqb v (nim_value c n) (head_agrees n v (length vs) vs h), first_wrong) (none_wrong (n + 1) vs (tail_agrees n v (length vs) vs h))

  pub one_wrong : (n i : ℕ) (vs : List ℕ) → i < length vs → AgreeBelow n vs i → slice_index vs i ≢ nim_value c (n + i) → first_wrong c n vs ≡ Some (n + i)
  one_wrong n i [] lt h ne = absurd (omega arith)
  one_wrong n zero (v ∷ vs) lt h ne =
      rw (ne_eqb v (nim_value c n) (λ e. ne (e ∙ ap (nim_value c) (let f : n ≡ n + 0 = omega arith in f))), first_wrong) (ap Some (let f : n ≡ n + 0 = omega arith in f))
  one_wrong n (suc i) (v ∷ vs) lt h ne =
      rw (eq-eqb v (nim_value c n) (head_agrees n v i vs h), first_wrong)
      (one_wrong (n + 1) i vs (omega arith) (tail_agrees n v i vs h) (λ e. ne (e ∙ ap (nim_value c) (let f : n + 1 + i ≡ n + suc i = omega arith in f)))
      ∙ ap Some (let f : n + 1 + i ≡ n + suc i = omega arith in f))

  -- the first wrong place: where it is, and that no value before it is wrong
  pub record IsFirstWrong (n : ℕ) (vs : List ℕ) (m : ℕ) : Type 0 where
    pub from : n ≤ m
    pub within : m < n + length vs
    pub wrong : slice_index vs (m - n) ≢ nim_value c m
    pub before : AgreeBelow n vs (m - n)

  more_agree : (n v i : ℕ) (vs : List ℕ) → v ≡ nim_value c n → AgreeBelow (n + 1) vs i → AgreeBelow n (v ∷ vs) (suc i)
  more_agree n v i vs e h zero lt = e ∙ ap (nim_value c) (let f : n ≡ n + 0 = omega arith in f)
  more_agree n v i vs e h (suc k) lt = h k (omega arith) ∙ ap (nim_value c) (let f : n + 1 + k ≡ n + suc k = omega arith in f)

  later_wrong : (n v : ℕ) (vs : List ℕ) (m : ℕ) → v ≡ nim_value c n → IsFirstWrong (n + 1) vs m → IsFirstWrong n (v ∷ vs) m
  later_wrong n v vs m e h =
      let step : suc (m - (n + 1)) ≡ m - n = omega (arith, h.from) in
      record {
        from = omega (arith, h.from);
        within = omega (arith, h.within);
        wrong = λ w. h.wrong (ap (λ k. slice_index (v ∷ vs) k) step ∙ w);
        before = subst (AgreeBelow n (v ∷ vs)) step (more_agree n v (m - (n + 1)) vs e h.before);
      }

  pub wrong_cases : (n : ℕ) (vs : List ℕ) → MatchOption (first_wrong c n vs) (AgreeBelow n vs (length vs)) (IsFirstWrong n vs)
  wrong_cases n [] = λ k lt. absurd (omega arith)
  wrong_cases n (v ∷ vs) =
      elim (v == nim_value c n) as (λ b. (v == nim_value c n) ≡ b → MatchOption (elim b [ true ↦ first_wrong c (n + 1) vs | false ↦ Some n ]) (AgreeBelow n (v ∷ vs) (suc (length vs))) (IsFirstWrong n (v ∷ vs))) [
        | true ↦ λ same. elim (first_wrong c (n + 1) vs) as (λ o. MatchOption o (AgreeBelow (n + 1) vs (length vs)) (IsFirstWrong (n + 1) vs) → MatchOption o (AgreeBelow n (v ∷ vs) (suc (length vs))) (IsFirstWrong n (v ∷ vs))) [
          | None ↦ λ h. more_agree n v (length vs) vs (eqb-true v (nim_value c n) same) h
          | Some m ↦ λ h. later_wrong n v vs m (eqb-true v (nim_value c n) same) h
        ] (wrong_cases (n + 1) vs)
        | false ↦ λ differ. record {
          from = omega arith;
          within = omega arith;
          wrong = λ e. eqb-false v (nim_value c n) differ (ap (λ k. slice_index (v ∷ vs) k) (let z : 0 ≡ n - n = omega arith in z) ∙ e);
          before = λ k lt. absurd (omega arith);
        }
      ] refl

  -- a place of the window of nim-values that a block is compared with
  pub at_window : (start stop len i : ℕ) → stop ≤ len → i < stop - start → get_or (take (stop - start) (drop start (nim_values c len))) i 0 ≡ nim_value c (start + i)
  at_window start stop len i le lt =
      get_or-take (stop - start) _ i 0 lt
      ∙ get_or-drop start _ i 0
      ∙ nim_values-at c len (start + i) (omega arith)

-- a right block agrees with the nim-values at each index, and the other way round
agree_from_right : (b : Block) → IsRight b → AgreeBelow b.code b.start b.values (length b.values)
agree_from_right b h k lt = ap (λ i. slice_index b.values i) (let e : k ≡ b.start + k - b.start = omega arith in e) ∙ h (b.start + k) (omega arith) (omega arith)

right_from_agree : (b : Block) → AgreeBelow b.code b.start b.values (length b.values) → IsRight b
right_from_agree b h n low high = h (n - b.start) (omega arith) ∙ ap (nim_value b.code) (let e : b.start + (n - b.start) ≡ n = omega arith in e)

pub proved_from_right : (b : Block) → IsRight b → verdict b ≡ Proved
proved_from_right b h = ap (verdict_at b) (none_wrong b.code b.start b.values (agree_from_right b h))

least_from_first : (b : Block) (m : ℕ) → IsFirstWrong b.code b.start b.values m → IsLeastWrong b m (claimed_at b m) (nim_value b.code m)
least_from_first b m h = record {
  low = h.from;
  high = h.within;
  says = refl;
  is = refl;
  wrong = h.wrong;
  before = λ n low lt. h.before (n - b.start) (omega (arith, h.from)) ∙ ap (nim_value b.code) (let e : b.start + (n - b.start) ≡ n = omega arith in e);
}

-- the verdict is a proof of a true block, or the refutation at the least wrong place
pub data Verdict (b : Block) : Type 0 where
  proved : verdict b ≡ Proved → is_true b ≡ true → IsRight b → Verdict b
  refuted : (m : ℕ) → verdict b ≡ Refuted m (claimed_at b m) (nim_value b.code m) → is_true b ≡ false → IsLeastWrong b m (claimed_at b m) (nim_value b.code m) → Verdict b

pub verdict_cases : (b : Block) → Verdict b
verdict_cases b =
    elim (first_wrong b.code b.start b.values) as (λ o. first_wrong b.code b.start b.values ≡ o → MatchOption o (AgreeBelow b.code b.start b.values (length b.values)) (IsFirstWrong b.code b.start b.values) → Verdict b) [
      | None ↦ λ e agree. proved (ap (verdict_at b) e) (ap is_none e) (right_from_agree b agree)
      | Some m ↦ λ e wrong. refuted m (ap (verdict_at b) e) (ap is_none e) (least_from_first b m wrong)
    ] refl (wrong_cases b.code b.start b.values)

pub proved_from_true : (b : Block) → is_true b ≡ true → verdict b ≡ Proved
proved_from_true b h = elim (verdict_cases b) [
  | proved p right just ↦ p
  | refuted m p wrong least ↦ absurd (true≢false (sym h ∙ wrong))
]

pub compared_equal : (b : Block) (len : ℕ) → end b ≤ len → b.values ≡ take (end b - b.start) (drop b.start (nim_values b.code len)) → Proved ≡ verdict b
compared_equal b len le same =
    sym (proved_from_right b (right_from_agree b (λ k lt. ap (λ vs. slice_index vs k) same ∙ at_window b.code b.start (end b) len k le (omega arith))))

pub compared_differ : (b : Block) (len i : ℕ) → end b ≤ len
    → i < length b.values → slice_index b.values i ≢ slice_index (take (end b - b.start) (drop b.start (nim_values b.code len))) i
    → ((k : ℕ) → k < i → slice_index b.values k ≡ slice_index (take (end b - b.start) (drop b.start (nim_values b.code len))) k)
    → Refuted (b.start + i) (slice_index b.values i) (slice_index (take (end b - b.start) (drop b.start (nim_values b.code len))) i) ≡ verdict b
compared_differ b len i le lt ne before =
    let here = at_window b.code b.start (end b) len i le (omega arith) in
    let e = one_wrong b.code b.start i b.values lt (λ k below. before k below ∙ at_window b.code b.start (end b) len k le (omega arith)) (λ same. ne (same ∙ sym here)) in
    rw (e, here) (ap (λ j. Refuted (b.start + i) (slice_index b.values j) (nim_value b.code (b.start + i))) (let back : i ≡ b.start + i - b.start = omega arith in back))

pub proved-is_right : ProvedIsRight
proved-is_right b = (
  (λ e. elim (verdict_cases b) [ proved p right just ↦ just | refuted m p wrong least ↦ cc (sym p ∙ e) ]),
  proved_from_right b,
)

pub refuted-is_least : RefutedIsLeastWrong
refuted-is_least b at claimed truth e = elim (verdict_cases b) [
  | proved p right just ↦ cc (sym p ∙ e)
  | refuted m p wrong least ↦
      let same = sym p ∙ e in
      let at_is : m ≡ at = cc same in
      let claimed_is : claimed_at b m ≡ claimed = cc same in
      let truth_is : nim_value b.code m ≡ truth = cc same in
      subst (λ n. IsLeastWrong b n claimed truth) at_is (subst (λ v. IsLeastWrong b m v truth) claimed_is (subst (λ v. IsLeastWrong b m (claimed_at b m) v) truth_is least))
]

-- the next values are the right ones
pub next_is_true : (c : Code) (blocks : List Block) (count : ℕ) → is_true (claimed c (known blocks) (next_values c blocks count)) ≡ true
next_is_true c blocks count =
    let start = known blocks in
    let all = nim_values c (start + count) in
    ap is_none (none_wrong c start (drop start all) (λ k lt.
    get_or-drop start all k 0 ∙ nim_values-at c (start + count) (start + k) (omega (arith, length-drop start all, nim_values-length c (start + count)))))
