use Rattle.std.proofs.Common.{◌≡◌, ◌-◌, List, ℕ, drop, eqb, length, subst}
use Rattle.std.specs.Cmp.Lexicographic.{pointwise}
use Rattle.oct_window.proofs.Held.{ends_known}
use Rattle.oct_window.proofs.window.Window.ends_with.Goals as goal

pub returns : goal.returns
returns g c known =
    let w = c.args.self.now in
    let values = c.args.values.now in
    ends_known w.code w.reach w.count w.held.items values c.ends_with.result known.held c.requires.size
    (subst (λ (xs : List ℕ). c.ends_with.result ≡ pointwise eqb values (drop (length xs - length values) xs)) c.deref.ensures.value c.ends_with.ensures.value)
