-- A proved claim settles blocks past the known length, and what is settled stays so.
use Rattle.std.proofs.Common.{◌≡◌, ◌<◌, ◌≤◌, Bool, true, false, not, ◌&&◌, ◌||◌, cond, nat_lt, List, [], ◌∷◌, Some, None, refl, sym, ap, subst, ◌∙◌, inl, inr, arith}
use Rattle.std.proofs.lemmas.Bool.{cases_lt, lt-ltb, le-ltb}
use Rattle.std.proofs.lemmas.List.Elements.{All-contains, All-head, All-tail}
use Rattle.std.proofs.lemmas.List.Folds.{list_any_at, Any-from_list_any}
use Rattle.std.specs.List.{All}
use Rattle.std.proofs.Math.Bool.{and-false, and-true}
use Rattle.oct_code.specs.Code.{Code}
use Rattle.oct_ops.specs.Operation.{Block, Period}
use Rattle.oct_verify.specs.Known.{known, verdict}
use Rattle.oct_verify.specs.Laws.{AreAmong}
use Rattle.oct_verify.specs.declared.status.Status.{Status}
use Rattle.oct_verify.specs.declared.status.Status.TheVariants.{Pending}
use Rattle.oct_verify.proofs.KnownLaws.{known_grows, settled}
use Rattle.oct_period.specs.Claims.{Claim, AreOfGame, periods_of, first_proved}
use Rattle.oct_period.specs.FarBlocks.{has_proved, block_status}
use Rattle.oct_period.specs.FarLaws.{StatusByBlocks, NearStatusByBlocks, ClaimsAreAmong, SettledBlocksStay}
use Rattle.oct_period.specs.Laws.{IsLater}
use Rattle.oct_period.specs.Periods.{is_proved, period_status}
use Rattle.oct_period.specs.Proved.{IsProvedOf}
use Rattle.oct_period.proofs.HeapValues.{proved_so}
use Rattle.oct_period.proofs.Statuses.{settled_claims_stay}

-- ---- the first proved claim

module _ (blocks : List Block) where
  -- it is proved, and so one is
  pub found_proved : (code : Code) (claims : List Claim) (x : Claim) → Some x ≡ first_proved blocks claims → AreOfGame code claims → IsProvedOf code blocks x.1
  found_proved code [] x h each = cc
  found_proved code (d ∷ claims) x h each =
      elim (is_proved (period_status blocks d.1)) as (λ b. is_proved (period_status blocks d.1) ≡ b → Some x ≡ cond b (Some d) (first_proved blocks claims) → IsProvedOf code blocks x.1) [
        | true ↦ λ e k.
            let same : d ≡ x = cc k in
            subst (λ (y : Claim). IsProvedOf code blocks y.1) same (record { game = All-head (λ (y : Claim). y.1.code ≡ code) d claims each; proved = proved_so (period_status blocks d.1) e })
        | false ↦ λ e k. found_proved code claims x k (All-tail (λ (y : Claim). y.1.code ≡ code) d claims each)
      ] refl h

  pub found_has : (claims : List Claim) (x : Claim) → Some x ≡ first_proved blocks claims → has_proved blocks (periods_of claims) ≡ true
  found_has [] x h = cc
  found_has (d ∷ claims) x h = elim (is_proved (period_status blocks d.1)) as (λ b. Some x ≡ cond b (Some d) (first_proved blocks claims) → (b || has_proved blocks (periods_of claims)) ≡ true) [
    | true ↦ λ k. refl
    | false ↦ λ k. found_has claims x k
  ] h

  pub none_has : (claims : List Claim) → None ≡ first_proved blocks claims → has_proved blocks (periods_of claims) ≡ false
  none_has [] h = refl
  none_has (d ∷ claims) h = elim (is_proved (period_status blocks d.1)) as (λ b. None ≡ cond b (Some d) (first_proved blocks claims) → (b || has_proved blocks (periods_of claims)) ≡ false) [
    | true ↦ λ k. cc
    | false ↦ λ k. none_has claims k
  ] h

-- ---- statuses

abbrev status_if : Bool → Block → Status
status_if waiting b = elim waiting [ true ↦ Pending | false ↦ verdict b ]

-- a proved claim settles each block
pub far_settled : (blocks : List Block) (claims : List Period) (b : Block) → has_proved blocks claims ≡ true → block_status blocks claims b ≡ verdict b
far_settled blocks claims b some = ap (λ t. status_if (nat_lt (known blocks) b.start && not t) b) some ∙ ap (λ t. status_if t b) (and-false (nat_lt (known blocks) b.start))

-- without one the blocks past the known length wait
pub far_waits : (blocks : List Block) (claims : List Period) (b : Block) → known blocks < b.start → has_proved blocks claims ≡ false → block_status blocks claims b ≡ Pending
far_waits blocks claims b beyond none = ap (λ t. status_if (nat_lt (known blocks) b.start && not t) b) none ∙ ap (λ t. status_if (t && true) b) (lt-ltb (known blocks) b.start beyond)

pub near_settled : (blocks : List Block) (claims : List Period) (b : Block) → b.start ≤ known blocks → block_status blocks claims b ≡ verdict b
near_settled blocks claims b reached = ap (λ t. status_if (t && not (has_proved blocks claims)) b) (le-ltb (known blocks) b.start reached)

pub status_by_blocks : StatusByBlocks
status_by_blocks blocks b = ap (λ t. status_if t b) (and-true (nat_lt (known blocks) b.start))

pub near_status_by_blocks : NearStatusByBlocks
near_status_by_blocks blocks claims b reached = near_settled blocks claims b reached ∙ sym (settled (known blocks) b reached)

-- a proved claim stays one
proved_stays : (some all : List Block) (p : Period) → AreAmong some all → IsLater p → is_proved (period_status some p) ≡ true → is_proved (period_status all p) ≡ true
proved_stays some all p among later h =
    let proved = proved_so (period_status some p) h in
    ap is_proved (settled_claims_stay some all p among later (λ n pending. cc (sym proved ∙ pending)) ∙ proved)

has_stays : (some all : List Block) (claims more : List Period) → AreAmong some all → ClaimsAreAmong claims more → All IsLater claims → has_proved some claims ≡ true → has_proved all more ≡ true
has_stays some all claims more among among_claims each h =
    let found = Any-from_list_any (λ p. is_proved (period_status some p)) claims h in
    let there = among_claims found.1 (found.0, found.2, found.3) in
    let later = All-contains IsLater claims found.1 each (found.0, found.2, found.3) in
    list_any_at (λ p. is_proved (period_status all p)) more there.0 found.1 there.1
    (ap (λ p. is_proved (period_status all p)) there.2 ∙ proved_stays some all found.1 among later found.4)

pub settled_blocks_stay : SettledBlocksStay
settled_blocks_stay some all claims more b among among_claims each is_settled =
    elim (cases_lt (known some) b.start) [
      | inr reached ↦ let grows = known_grows some all among in near_settled all more b (omega arith) ∙ sym (near_settled some claims b reached)
      | inl beyond ↦
          elim (has_proved some claims) as (λ t. has_proved some claims ≡ t → block_status all more b ≡ block_status some claims b) [
            | true ↦ λ e. far_settled all more b (has_stays some all claims more among among_claims each e) ∙ sym (far_settled some claims b e)
            | false ↦ λ e. absurd (is_settled (far_waits some claims b beyond e))
          ] refl
    ]
