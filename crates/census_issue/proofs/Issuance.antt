-- Blocks of the next nim-values, one after another.
use Rattle.std.proofs.Common.{arith, ◌≡◌, ℕ, zero, suc, ◌+◌, ◌-◌, ◌<◌, ◌≤◌, cond, min, Ok, Err, refl, sym, ap, ◌∙◌, nat_le}
use Rattle.std.proofs.lemmas.Bool.{le-leb, lt-leb}
use Rattle.oct_code.specs.Code.{Code}
use Rattle.oct_ops.specs.declared.limits.TheConstants.{MAX_ITEMS}
use Rattle.oct_record.specs.Content.{RecordContent}
use Rattle.census_issue.specs.Extending.{extended_by, extended_to, known_in, with_values}
use Rattle.census_state.specs.Steps.{◌>>=◌}
use Rattle.census_state.specs.declared.fault.Fault.{Fault}

pub none_left : (c : Code) (count : ℕ) (r : RecordContent) (issued : ℕ) → extended_by zero c count r issued ≡ Ok (extended_to r issued)
unfolding extended_by
none_left c count r issued = refl

one_left : (blocks : ℕ) (c : Code) (count : ℕ) (r : RecordContent) (issued : ℕ)
    → extended_by (suc blocks) c count r issued
    ≡ cond (nat_le count (known_in r.ops c)) (Ok (extended_to r issued)) (with_values r c (min (count - known_in r.ops c) MAX_ITEMS) >>= λ next. extended_by blocks c count next (issued + 1))
unfolding extended_by
one_left blocks c count r issued = refl

-- enough values are known
pub enough : (blocks : ℕ) (c : Code) (count : ℕ) (r : RecordContent) (issued : ℕ) → count ≤ known_in r.ops c → extended_by blocks c count r issued ≡ Ok (extended_to r issued)
enough zero c count r issued h = none_left c count r issued
enough (suc blocks) c count r issued h =
    one_left blocks c count r issued
    ∙ ap (λ b. cond b (Ok (extended_to r issued)) (with_values r c (min (count - known_in r.ops c) MAX_ITEMS) >>= λ next. extended_by blocks c count next (issued + 1))) (le-leb count (known_in r.ops c) h)

-- a block is to be issued
pub wants_more : (blocks later : ℕ) (c : Code) (count : ℕ) (r : RecordContent) (issued : ℕ) → blocks ≡ suc later → known_in r.ops c < count
    → extended_by blocks c count r issued ≡ (with_values r c (min (count - known_in r.ops c) MAX_ITEMS) >>= λ next. extended_by later c count next (issued + 1))
wants_more blocks later c count r issued is less =
    ap (λ n. extended_by n c count r issued) is
    ∙ one_left later c count r issued
    ∙ ap (λ b. cond b (Ok (extended_to r issued)) (with_values r c (min (count - known_in r.ops c) MAX_ITEMS) >>= λ next. extended_by later c count next (issued + 1))) (lt-leb count (known_in r.ops c) less)

-- it is issued, or refused
module _ (blocks later : ℕ) (c : Code) (count : ℕ) (r : RecordContent) (issued k n : ℕ) (is : blocks ≡ suc later) (held : k ≡ known_in r.ops c) (less : k < count) (size : n ≡ min (count - k) MAX_ITEMS) where
  begun : extended_by blocks c count r issued ≡ (with_values r c n >>= λ next. extended_by later c count next (issued + 1))
  begun =
      wants_more blocks later c count r issued is (omega (arith, held, less))
      ∙ ap (λ m. with_values r c m >>= λ next. extended_by later c count next (issued + 1)) (ap (λ j. min (count - j) MAX_ITEMS) (sym held) ∙ sym size)

  pub went_on : (next : RecordContent) → with_values r c n ≡ Ok next → extended_by blocks c count r issued ≡ extended_by later c count next (issued + 1)
  went_on next made = begun ∙ ap (λ s. s >>= λ next. extended_by later c count next (issued + 1)) made

  pub refused : (e : Fault) → with_values r c n ≡ Err e → extended_by blocks c count r issued ≡ Err e
  refused e made = begun ∙ ap (λ s. s >>= λ next. extended_by later c count next (issued + 1)) made

-- after the last
pub all_issued : (blocks : ℕ) (c : Code) (count : ℕ) (r : RecordContent) (issued n : ℕ) → blocks ≡ 0 → issued ≡ n → extended_by blocks c count r issued ≡ Ok (extended_to r n)
all_issued blocks c count r issued n none is = ap (λ b. extended_by b c count r issued) none ∙ none_left c count r issued ∙ ap (λ m. Ok (extended_to r m)) is
