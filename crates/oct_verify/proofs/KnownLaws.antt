-- The known length is the greatest one, and grows with the blocks.
use Rattle.std.proofs.Common.{◌≡◌, ℕ, zero, suc, ◌+◌, ◌<◌, ◌≤◌, ◌⊎◌, Bool, true, false, nat_le, nat_lt, List, [], ◌∷◌, arith, subst, refl, sym, ap, ◌∙◌, inl, inr, leb-true, ltb-true}
use Rattle.std.proofs.lemmas.Bool.{and_from, le-leb, lt-ltb, true≢false, cases_lt, lt-ltb, le-ltb, or_cases, false_from_ne_true}
use Rattle.std.proofs.lemmas.List.Folds.{list_any_at, Any-from_list_any}
use Rattle.std.specs.Cmp.{first_so, second_so}
use Rattle.oct_ops.specs.Operation.{Block}
use Rattle.oct_verify.specs.Known.{is_true, end, has_place, shows, is_shown, first_failing, reach, known, IsKnownLength, verdict}
use Rattle.oct_verify.specs.Laws.{AreAmong, KnownLengthIsGreatest, KnownLengthIsOne, KnownLengthGrows, SettledStays}
use Rattle.oct_verify.specs.declared.status.Status.{Status}
use Rattle.oct_verify.specs.declared.status.Status.TheVariants.{Pending}

-- what a search that goes up finds: all before it pass, and it fails unless the tries are spent
record Found (test : ℕ → Bool) (tries n m : ℕ) : Type 0 where
  from : n ≤ m
  pass : (k : ℕ) → n ≤ k → k < m → test k ≡ true
  stop : (test m ≡ false) ⊎ (m ≡ n + tries)

found : (test : ℕ → Bool) (tries n : ℕ) → Found test tries n (first_failing test tries n)
found test zero n = record { from = omega arith; pass = λ k a b. absurd (omega arith); stop = inr (omega arith) }
found test (suc tries) n =
    elim (test n) as (λ b. test n ≡ b → Found test (suc tries) n (elim b [ true ↦ first_failing test tries (n + 1) | false ↦ n ])) [
      | true ↦ λ passes.
          let rest = found test tries (n + 1) in
          record {
            from = omega (arith, rest.from);
            pass = λ k a b. elim (cases_lt n k) [ inl after ↦ rest.pass k (omega arith) b | inr before ↦ let same : n ≡ k = omega arith in subst (λ j. test j ≡ true) same passes ];
            stop = elim rest.stop [ inl fails ↦ inl fails | inr spent ↦ inr (omega arith) ];
          }
      | false ↦ λ fails. record { from = omega arith; pass = λ k a b. absurd (omega arith); stop = inl fails }
    ] refl

-- ---- what shows a place

-- a true block shows its places
pub shows-place : (b : Block) (n : ℕ) → b.start ≤ n → n < end b → is_true b ≡ true → shows n b ≡ true
shows-place b n low high right = rw (and_from (nat_le b.start n) (nat_lt n (end b)) (le-leb b.start n low) (lt-ltb n (end b) high), shows) right

-- what shows a place is a true block that has it
pub shown-by : (b : Block) (n : ℕ) → shows n b ≡ true → (b.start ≤ n) × (n < end b) × (is_true b ≡ true)
shown-by b n = elim (has_place b n) as (λ c. has_place b n ≡ c → elim c [ true ↦ is_true b | false ↦ false ] ≡ true → (b.start ≤ n) × (n < end b) × (is_true b ≡ true)) [
  | true ↦ λ has h. (leb-true b.start n (first_so (nat_le b.start n) (nat_lt n (end b)) has), ltb-true n (end b) (second_so (nat_le b.start n) (nat_lt n (end b)) has), h)
  | false ↦ λ has h. absurd (true≢false (sym h))
] refl

-- a place that is shown is below the reach
shown_below : (blocks : List Block) (n : ℕ) → is_shown blocks n ≡ true → n < reach blocks
shown_below [] n h = absurd (true≢false (sym h))
shown_below (b ∷ blocks) n h = elim (or_cases (shows n b) (is_shown blocks n) h) [
  | inl here ↦ let below : n < end b = (shown-by b n here).1 in omega arith
  | inr later ↦ let below : n < reach blocks = shown_below blocks n later in omega arith
]

pub shown_among : (some all : List Block) (n : ℕ) → AreAmong some all → is_shown some n ≡ true → is_shown all n ≡ true
shown_among some all n among h =
    let found = Any-from_list_any (shows n) some h in
    let there = among found.1 (found.0, found.2, found.3) in
    list_any_at (shows n) all there.0 found.1 there.1 (ap (shows n) there.2 ∙ found.4)

-- ---- the known length

pub known_is : KnownLengthIsGreatest
known_is blocks =
    let search = found (is_shown blocks) (reach blocks) 1 in
    record {
      some = search.from;
      shown = λ n low high. search.pass n low high;
      greatest = elim search.stop [
        | inl fails ↦ fails
        | inr spent ↦
            false_from_ne_true (is_shown blocks (known blocks)) (λ shown. let below : known blocks < reach blocks = shown_below blocks (known blocks) shown in omega (arith, spent))
      ];
    }

-- the known length of some blocks is at most that of more
known_upto : (some all : List Block) (m n : ℕ) → AreAmong some all → IsKnownLength some m → IsKnownLength all n → m ≤ n
known_upto some all m n among a b = elim (cases_lt n m) [
  | inr upto ↦ upto
  | inl less ↦ absurd (true≢false (sym (shown_among some all n among (a.shown n b.some less)) ∙ b.greatest))
]

-- no other number is
pub known_unique : (blocks : List Block) (k m : ℕ) → IsKnownLength blocks k → IsKnownLength blocks m → k ≡ m
known_unique blocks k m a b =
    let upto = known_upto blocks blocks k m (λ b here. here) a b in
    let from = known_upto blocks blocks m k (λ b here. here) b a in
    omega arith

pub known_one : KnownLengthIsOne
known_one blocks m h = known_unique blocks m (known blocks) h (known_is blocks)

pub known_grows : KnownLengthGrows
known_grows some all among = known_upto some all (known some) (known all) among (known_is some) (known_is all)

-- ---- statuses

abbrev pub status_by : ℕ → Block → Status
status_by m b = elim (nat_lt m b.start) [ true ↦ Pending | false ↦ verdict b ]

pub waits : (m : ℕ) (b : Block) → m < b.start → status_by m b ≡ Pending
waits m b beyond = rw (lt-ltb m b.start beyond, status_by) refl

pub settled : (m : ℕ) (b : Block) → b.start ≤ m → status_by m b ≡ verdict b
settled m b reached = rw (le-ltb m b.start reached, status_by) refl

pub settled_stays : SettledStays
settled_stays some all b among is_settled =
    let grows = known_grows some all among in
    elim (cases_lt (known some) b.start) [
      | inl beyond ↦ absurd (is_settled (waits (known some) b beyond))
      | inr reached ↦ settled (known all) b (omega arith) ∙ sym (settled (known some) b reached)
    ]
