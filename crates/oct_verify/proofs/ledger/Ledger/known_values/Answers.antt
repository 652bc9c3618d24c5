use Rattle.std.proofs.Common.{◌≡◌, ◌≤◌, ap, ◌∙◌, arith, take, length}
use Rattle.oct_mex.specs.NimValues.{nim_values}
use Rattle.oct_mex.proofs.NimValues.{nim_values-one, nim_values-take, nim_values-length}
use Rattle.oct_verify.specs.Filing.{GameBlocks, blocks_in}
use Rattle.oct_verify.specs.Known.{known}
use Rattle.oct_verify.proofs.Answered.{known_is}
use Rattle.oct_verify.proofs.ledger.Ledger.known_values.Goals as goal

-- nothing is held, and place 0 is known
pub returns-then-held-known-clause-values : goal.returns-then-held-known-clause-values
returns-then-held-known-clause-values g c =
    let shelf = c.self.inside.shelf in
    let code = shelf.comparer.values.code in
    let one : 1 ≡ shelf.known = omega (arith, c.self.invariant.halfway.held, c.self.invariant.halfway.settling.positive, c.as_slice-held.ensures.len) in
    nim_values-one code ∙ ap (nim_values code) (one ∙ known_is shelf c.self.invariant) ∙ ap (λ (game : GameBlocks). nim_values game.code (known (blocks_in game.blocks))) c.self.view_is

pub returns-else-held-known-clause-values : goal.returns-else-held-known-clause-values
returns-else-held-known-clause-values g c =
    let shelf = c.self.inside.shelf in
    let code = shelf.comparer.values.code in
    let le : shelf.known ≤ shelf.comparer.values.len = omega (arith, c.as_slice-held.ensures.len) in
    ap (take shelf.known) c.as_slice-held.ensures.values
    ∙ nim_values-take code shelf.comparer.values.len shelf.known le
    ∙ ap (nim_values code) (known_is shelf c.self.invariant)
    ∙ ap (λ (game : GameBlocks). nim_values game.code (known (blocks_in game.blocks))) c.self.view_is

pub returns-then-held-known-clause-len : goal.returns-then-held-known-clause-len
returns-then-held-known-clause-len g c = ap length (returns-then-held-known-clause-values g c) ∙ nim_values-length c.args.self.now.code (known (blocks_in c.args.self.now.blocks))

pub returns-else-held-known-clause-len : goal.returns-else-held-known-clause-len
returns-else-held-known-clause-len g c = ap length (returns-else-held-known-clause-values g c) ∙ nim_values-length c.args.self.now.code (known (blocks_in c.args.self.now.blocks))
