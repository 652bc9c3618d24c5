use Rattle.std.proofs.Common.{◌<◌, ◌≤◌, ◌∙◌, MatchOption, not, sym, ap, subst, arith}
use Rattle.std.proofs.lemmas.Bool.{false≢true}
use Rattle.oct_verify.specs.Filed.{Filed}
use Rattle.oct_verify.specs.Kept.{is_pending}
use Rattle.oct_verify.specs.Shelf.{IsKept, IsNextReached}
use Rattle.oct_verify.proofs.Keeping.{parked_from_first}
use Rattle.chunked.specs.Chunked.{chunked}
use Rattle.oct_verify.proofs.Growing.{first_waiting}
use Rattle.oct_verify.proofs.shelf.Shelf.next_reached.Goals as goal

pub returns-then-start-self : goal.returns-then-start-self
returns-then-start-self g c =
    let known = c.args.self.now.known in
    let first = first_waiting c.args.self.now c.partition_point.result c.in_ok-place.place c.item_at.result.now c.requires c.in_ok-place.ensures.0 c.in_ok-place.ensures.1 c.partition_point.ensures.point c.item_at.ensures in
    record {
      inside = c.in_ok-place.ensures.0;
      next = first.next;
      waits = first.waits;
      reached = λ d. subst (λ (e : Filed). e.block.start ≤ known) (sym (first.is d)) (omega (arith, c.if-start-self.true, c.start.ensures, ap (λ b. b.start) c.block.ensures));
    }

pub returns-else-start-self : goal.returns-else-start-self
returns-else-start-self g c =
    let known = c.args.self.now.known in
    let entry = c.item_at.result.now in
    let first = first_waiting c.args.self.now c.partition_point.result c.in_ok-place.place entry c.requires c.in_ok-place.ensures.0 c.in_ok-place.ensures.1 c.partition_point.ensures.point c.item_at.ensures in
    let later = subst (λ (e : Filed). known < e.block.start) (sym (first.is entry)) (omega (arith, c.if-start-self.false, c.start.ensures, ap (λ b. b.start) c.block.ensures)) in
    record { halfway = c.requires; parked = parked_from_first (chunked c.args.self.now.entries) c.args.self.now.comparer.checks known entry c.requires.settling.rising first.waits later }

-- none waits
pub returns-in_err-place : goal.returns-in_err-place
returns-in_err-place g c =
    subst (λ r. MatchOption r (IsKept c.args.self.now) (IsNextReached c.args.self.now)) (sym c.from_residual.ensures) (record {
      halfway = c.requires;
      parked = λ k d lo hi. absurd (false≢true (sym (ap (λ s. not (is_pending s)) (c.requires.settling.waiting k d lo hi))
          ∙ c.partition_point.ensures.point.0 k d (omega arith) (omega (arith, hi, c.in_err-place.ensures))));
    })
