-- What stays of sets.
use Rattle.std.proofs.Common.{◌≡◌, ℕ, ◌+◌, ◌-◌, ◌*◌, ◌%◌, ◌^◌, ◌<◌, ◌≤◌, List, length, map, slice_index, sym, subst, subst₂, ap, arith, vec_len, vec_capacity, Vec}
use Rattle.oct_code.specs.Code.{Code, len}
use Rattle.oct_sets.specs.Plans.{AreSplits, HasStep, IsPlan, IsShapedPlan}
use Rattle.oct_sets.specs.Sets.{ArePairs, AreTwins, IsBlock, IsRightOf, IsShapedOf}
use Rattle.oct_sets.specs.declared.plan.Plan.{Plan}
use Rattle.oct_sets.specs.declared.plan.TheConstants.{BLOCK, LOW}
use Rattle.oct_sets.specs.declared.sets_of.SetsOf.{SetsOf}

pub shaped_new : {W A : Type 0} (digits reach width : ℕ) (p : Plan A) (splits : List ℕ) (new : SetsOf W A) → new.reach ≡ reach → new.plan ≡ p → new.splits.items ≡ splits → IsShapedPlan (2 ^ digits) reach width p
    → ((k : ℕ) → k < length splits → slice_index splits k < width) → p.back + reach ≤ vec_len new.words → vec_len new.words ≤ 2 * p.back → 2 * p.back ≤ vec_capacity new.words → p.back + new.twins ≤ vec_len new.words → p.back < 2 ^ 62 → vec_len new.words ≤ p.back + new.heap → width ≤ new.heap
    → vec_len new.block ≡ BLOCK → new.start ≤ new.heap → new.heap < new.ready → (new.ready - new.start) % LOW ≡ 0 → new.ready ≤ new.start + BLOCK → IsShapedOf digits reach width new
shaped_new {A = A} digits reach width p splits new is plan same shaped low words twice spare twins high behind least block started within groups ready =
    let back : new.plan.back ≡ p.back = ap (λ (q : Plan A). q.back) plan in
    record {
      reach = is;
      plan = subst (IsShapedPlan (2 ^ digits) reach width) (sym plan) shaped;
      splits = subst (λ xs. (k : ℕ) → k < length xs → slice_index xs k < width) (sym same) low;
      words = omega (arith, words, back);
      twice = omega (arith, twice, back);
      spare = omega (arith, spare, back);
      twins = omega (arith, twins, back);
      high = omega (arith, high, back);
      behind = omega (arith, behind, back);
      least = least;
      block = block;
      started = started;
      within = within;
      groups = groups;
      ready = ready;
    }

pub right_new : {W A : Type 0} (number : W → ℕ) (digits : ℕ) (c : Code) (heaps : List ℕ) (reach start ready : ℕ) (p : Plan A) (splits : List ℕ) (new : SetsOf W A) → new.plan ≡ p → new.splits.items ≡ splits → new.start ≡ start → new.ready - new.start ≡ ready
    → IsPlan c heaps reach (HasStep c p) → AreSplits c splits → ArePairs c new.heap p.back (map number new.words.items) → AreTwins c new.heap p.back p.apart new.twins (map number new.words.items) → IsBlock digits c start p ready (map number new.block.items) → 2 * reach + len c < start → IsRightOf number digits c heaps reach new
right_new {A = A} number digits c heaps reach start ready p splits new plan same started filled is are pairs twins block room = record {
  plan = subst (λ q. IsPlan c heaps reach (HasStep c q)) (sym plan) is;
  splits = subst (AreSplits c) (sym same) are;
  pairs = subst (λ (q : Plan A). ArePairs c new.heap q.back (map number new.words.items)) (sym plan) pairs;
  twins = subst (λ (q : Plan A). AreTwins c new.heap q.back q.apart new.twins (map number new.words.items)) (sym plan) twins;
  block = subst (λ q. IsBlock digits c new.start q (new.ready - new.start) (map number new.block.items)) (sym plan)
      (subst₂ (λ n k. IsBlock digits c n p k (map number new.block.items)) (sym started) (sym filled) block);
  room = omega (arith, room, started);
}

pub block_as : {A : Type 0} (digits : ℕ) (c : Code) (n m : ℕ) (p q : Plan A) (ready more : ℕ) (block : List ℕ) → n ≡ m → p ≡ q → ready ≡ more → IsBlock digits c n p ready block → IsBlock digits c m q more block
block_as digits c n m p q ready more block start plan filled is =
    subst (λ r. IsBlock digits c m r more block) plan (subst₂ (λ k j. IsBlock digits c k p j block) start filled is)

-- the same words are so of sets that are at the same heap by the same plan
pub pairs_as : {W A : Type 0} (number : W → ℕ) (c : Code) (new old : SetsOf W A) (words : Vec W A) → old.heap ≡ new.heap → old.plan ≡ new.plan → ArePairs c old.heap old.plan.back (map number words.items) → ArePairs c new.heap new.plan.back (map number words.items)
pairs_as {A = A} number c new old words heap plan are = subst₂ (λ n (p : Plan A). ArePairs c n p.back (map number words.items)) heap plan are

pub twins_as : {W A : Type 0} (number : W → ℕ) (c : Code) (new old : SetsOf W A) (words : Vec W A) (many few : ℕ) → old.heap ≡ new.heap → old.plan ≡ new.plan → few ≡ many
    → AreTwins c old.heap old.plan.back old.plan.apart few (map number words.items) → AreTwins c new.heap new.plan.back new.plan.apart many (map number words.items)
twins_as {A = A} number c new old words many few heap plan same are =
    subst (λ k. AreTwins c new.heap new.plan.back new.plan.apart k (map number words.items)) same
    (subst₂ (λ n (p : Plan A). AreTwins c n p.back p.apart few (map number words.items)) heap plan are)
