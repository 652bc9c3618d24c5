use Rattle.std.proofs.Common.{arith, ◌≡◌, ◌-◌, min, Result, Ok, Err, OnOk, ap, ◌∙◌}
use Rattle.oct_ops.specs.Operation.{claimed}
use Rattle.oct_ops.specs.Sets as sets
use Rattle.oct_ops.specs.declared.limits.TheConstants.{MAX_ITEMS}
use Rattle.oct_period.specs.GameContent.{GameContent}
use Rattle.oct_verify.specs.Filing.{GameBlocks, blocks_in}
use Rattle.oct_verify.specs.Known.{known}
use Rattle.census_search.proofs.FirstGames.{block_added}
use Rattle.census_search.proofs.first_games.add_block.Goals as goal
use Rattle.census_search.proofs.first_games.add_block.Goals.{in-Ok-add_block, in-Err}

on_ok : {X Y P : Type 0} (r : Result X Y) → P → OnOk r P
on_ok (Ok x) p = p
on_ok (Err e) p = tt

pub returns-clause-ok : goal.returns-clause-ok
returns-clause-ok g c =
    let game = c.args.game.now in
    let same = c.in_ok-values.ensures.same in
    let start = c.known-start.ensures.value ∙ ap (λ (l : GameBlocks). known (blocks_in l.blocks)) c.ledger.ensures in
    let code = c.code.ensures ∙ ap (λ (h : GameContent). h.code) same in
    let values = c.in_ok-values.ensures.values in
    let room : c.min.result ≡ min (c.args.count - known (blocks_in game.blocks)) MAX_ITEMS = omega (arith, c.min.ensures, start) in
    elim c.match-add_block.branch [
      | in-Ok-add_block w ↦
          on_ok c.match-add_block.result (block_added game c.add_block.new.self c.args.count c.min.result c.in-Ok-new.dot c.in-Ok.block c.requires.end c.requires.more room
          (c.in-Ok.ensures.ok ∙ (λ i. claimed (code i) (start i) (values i)))
          (w.in-Ok-add_block.ensures.ok ∙ ap (λ (h : GameContent). record h { blocks = sets.insert h.blocks (c.in-Ok-new.dot, c.in-Ok.block) }) same))
      | in-Err w ↦ rw w.result-is tt
    ]
