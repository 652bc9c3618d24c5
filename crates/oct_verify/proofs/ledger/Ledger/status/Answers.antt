use Rattle.std.proofs.Common.{sym, ap, ◌∙◌}
use Rattle.oct_ops.specs.Sets.{contains}
use Rattle.oct_verify.specs.Filed.{Filed}
use Rattle.oct_verify.specs.Filing.{Filing, GameBlocks, blocks_in}
use Rattle.oct_verify.specs.Known.{status}
use Rattle.chunked.specs.Chunked.{chunked, index_of}
use Rattle.oct_verify.proofs.Answered.{status_is}
use Rattle.oct_verify.proofs.Searching.{gap_not_filed}
use Rattle.oct_verify.proofs.ledger.Ledger.status.Goals as goal

pub unreachable-requires : goal.unreachable-requires
unreachable-requires g c =
    let target : Filing = (c.args.dot.now, c.args.block.now) in
    let entries = c.self.inside.shelf.entries in
    gap_not_filed (chunked entries) target (index_of entries c.in-Err.field-0) c.in-Err.ensures.1 (ap (λ (g : GameBlocks). contains g.blocks target) c.self.view_is ∙ c.requires)

pub returns : goal.returns
returns g c =
    let target : Filing = (c.args.dot.now, c.args.block.now) in
    let entries = c.self.inside.shelf.entries in
    let entry = c.item_at.result.now in
    c.status.ensures ∙ ap (λ (e : Filed). e.status) (sym c.item_at.ensures)
    ∙ status_is c.self.inside.shelf c.self.invariant target (index_of entries c.in-Ok.place) entry c.in-Ok.ensures.1
    ∙ ap (λ (g : GameBlocks). status (blocks_in g.blocks) c.args.block.now) c.self.view_is
