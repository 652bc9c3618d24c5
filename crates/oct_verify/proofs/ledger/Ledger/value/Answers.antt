use Rattle.std.proofs.Common.{ap, nat_lt, ◌∙◌}
use Rattle.oct_mex.proofs.NimValues.{nim_values-length}
use Rattle.oct_verify.specs.Filing.{blocks_in}
use Rattle.oct_verify.specs.Known.{known}
use Rattle.oct_verify.proofs.Lookup.{looked_up}
use Rattle.oct_verify.proofs.ledger.Ledger.value.Goals as goal

pub returns : goal.returns
returns g c =
    let game = c.args.self.now in
    let known_len = known (blocks_in game.blocks) in
    let lookup = rw c.known_values.ensures.values at c.get.ensures.lookup in
    c.copied.ensures ∙ looked_up game.code known_len c.args.heap c.get.result (lookup.0 ∙ ap (nat_lt c.args.heap) (nim_values-length game.code known_len)) lookup.1
