use Rattle.std.proofs.Common.{arith, ◌≡◌, ◌+◌, ◌-◌, ◌<◌, ℕ, List, if◌then◌else◌, slice_index, sym, subst, ◌∙◌}
use Rattle.std.proofs.lemmas.Bool.{false≢true}
use Rattle.oct_mex.specs.NimValues.{nim_value}
use Rattle.oct_mex.specs.Windows.{window}
use Rattle.oct_window.proofs.Trails.{one_settled}
use Rattle.oct_window.proofs.Watching.{comes_again, goes_on}
use Rattle.oct_window.proofs.watch.Watch.push_next.Goals as goal

pub returns-else-ends_with-clause-stepped : goal.returns-else-ends_with-clause-stepped
returns-else-ends_with-clause-stepped g c watched right =
    let old = c.args.self.now in
    let v = old.window in
    let w = c.push_by.new.self in
    let same = c.push_by.ensures.same in
    let fits = c.requires.watchable in
    let yes = c.if-not-push_by.false in
    let known = c.push_by.ensures.known watched.known right in
    let next : w.count ≡ v.count + 1 = subst (λ b. w.count ≡ (if b then v.count + 1 else v.count)) yes c.push_by.ensures.count in
    let told = subst (λ (xs : List ℕ). (i : ℕ) → i < window w.code w.reach → slice_index xs i ≡ nim_value w.code (w.count - window w.code w.reach + i)) (sym c.deref.ensures.value) in
    record {
      known = known;
      marked = goes_on v.code w.code v.rare.mask w.rare.mask v.reach w.reach old.at v.count w.count old.mark.items same.code same.mask same.reach next fits.behind fits.passed fits.shaped.near
          watched.marked (c.push_by.ensures.settled watched.known right yes) (λ again. false≢true (sym c.if-ends_with.false ∙ (c.ends_with.ensures known).1 (told again)));
    }

pub returns-then-ends_with-clause-stepped : goal.returns-then-ends_with-clause-stepped
returns-then-ends_with-clause-stepped g c watched right =
    let old = c.args.self.now in
    let v = old.window in
    let w = c.push_by.new.self in
    let same = c.push_by.ensures.same in
    let fits = c.requires.watchable in
    let yes = c.if-not-push_by.false in
    let known = c.push_by.ensures.known watched.known right in
    let next : w.count ≡ v.count + 1 = subst (λ b. w.count ≡ (if b then v.count + 1 else v.count)) yes c.push_by.ensures.count in
    let again = subst (λ (xs : List ℕ). (i : ℕ) → i < window w.code w.reach → slice_index xs i ≡ nim_value w.code (w.count - window w.code w.reach + i)) c.deref.ensures.value
    ((c.ends_with.ensures known).0 c.if-ends_with.true) in
    comes_again v.code w.code v.rare.mask w.rare.mask v.reach w.reach old.at v.count w.count old.mark.items same.code same.mask same.reach next fits.behind fits.passed fits.shaped.near
    watched.marked (c.push_by.ensures.settled watched.known right yes) known.fit known.common again

pub returns-then-ends_with-clause-passed : goal.returns-then-ends_with-clause-passed
returns-then-ends_with-clause-passed g c watched right =
    let v = c.args.self.now.window in
    let w = c.push_by.new.self in
    let yes = c.if-not-push_by.false in
    let next : w.count ≡ v.count + 1 = subst (λ b. w.count ≡ (if b then v.count + 1 else v.count)) yes c.push_by.ensures.count in
    one_settled v w c.push_by.ensures.same (omega arith) (c.push_by.ensures.settled watched.known right yes)

pub returns-else-ends_with-clause-passed : goal.returns-else-ends_with-clause-passed
returns-else-ends_with-clause-passed g c watched right =
    let v = c.args.self.now.window in
    let w = c.push_by.new.self in
    let yes = c.if-not-push_by.false in
    let next : w.count ≡ v.count + 1 = subst (λ b. w.count ≡ (if b then v.count + 1 else v.count)) yes c.push_by.ensures.count in
    one_settled v w c.push_by.ensures.same (omega arith) (c.push_by.ensures.settled watched.known right yes)
