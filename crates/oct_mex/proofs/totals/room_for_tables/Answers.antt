use Rattle.std.proofs.Common.{arith, ◌++◌, ◌∷◌, []}
use Rattle.std.proofs.lemmas.List.Elements.{All-push, All-same, All-set}
use Rattle.oct_mex.specs.Totals.{IsTable}
use Rattle.oct_mex.proofs.Tables.{held_at}
use Rattle.oct_mex.proofs.totals.room_for_tables.Goals as goal

pub returns-in_err-push : goal.returns-in_err-push
returns-in_err-push g c = λ mask all kept. All-same (IsTable mask all) c.push.new.self.items c.loop.tables.items c.in_err-push.ensures.items (c.loop.invariant mask all kept)

pub loop-preserved : goal.loop-preserved
loop-preserved g c = λ mask all kept.
    All-same (IsTable mask all) c.push.new.self.items (c.loop.tables.items ++ c.empty_table.result ∷ []) c.in_ok-push.ensures.items
    (All-push (IsTable mask all) c.loop.tables.items c.empty_table.result (c.loop.invariant mask all kept) (c.empty_table.ensures mask all))

pub returns-in_err-room_to : goal.returns-in_err-room_to
returns-in_err-room_to g c = λ mask all kept.
    let now = c.loop-at.invariant.kept mask all kept in
    All-set (IsTable mask all) c.loop-at.tables.items c.loop-at.at c.room_to.new.self (c.room_to.ensures mask all (held_at (IsTable mask all) c.loop-at.tables.items c.loop-at.at c.index_mut.result.now (omega arith) c.index_mut.ensures.value now)) now

pub loop-at-preserved : goal.loop-at-preserved
loop-at-preserved g c = record {
  len = c.loop-at.invariant.len;
  kept = λ mask all kept.
      let now = c.loop-at.invariant.kept mask all kept in
      All-set (IsTable mask all) c.loop-at.tables.items c.loop-at.at c.room_to.new.self (c.room_to.ensures mask all (held_at (IsTable mask all) c.loop-at.tables.items c.loop-at.at c.index_mut.result.now (omega arith) c.index_mut.ensures.value now)) now;
}
