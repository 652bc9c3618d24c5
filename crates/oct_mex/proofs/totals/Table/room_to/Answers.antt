use Rattle.std.proofs.Common.{Bool, List, sym, subst, subst₂}
use Rattle.oct_mex.specs.Totals.{Knows}
use Rattle.oct_mex.proofs.totals.Table.room_to.Goals as goal

pub returns-in_err-reserve_exact : goal.returns-in_err-reserve_exact
returns-in_err-reserve_exact g c = λ mask all knows.
    subst (λ (x : List Bool). Knows mask all c.args.self.now.total c.args.self.now.end x c.args.self.now.misses.items) (sym c.reserve_exact.ensures.items) knows

pub returns : goal.returns
returns g c = λ mask all knows.
    subst₂ (Knows mask all c.args.self.now.total c.args.self.now.end) (sym c.reserve_exact.ensures.items) (sym c.reserve_exact-2.ensures.items) knows
