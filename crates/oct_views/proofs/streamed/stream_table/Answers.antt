use Rattle.std.proofs.Common.{arith, ◌≡◌, ◌≢◌, ◌++◌, drop, length, map, take, ap, ◌∙◌, subst}
use Rattle.std.specs.List.{flat_map}
use Rattle.oct_sheet.proofs.Streamed.{front_put}
use Rattle.oct_views.proofs.Streaming.{table_left_out, table_put}
use Rattle.written.specs.Output.{AppendsFront}
use Rattle.oct_views.proofs.streamed.stream_table.Goals as goal

pub returns-then-len-first : goal.returns-then-len-first
returns-then-len-first g c =
    let piece = c.args.piece.now.items in
    let mid = c.append_first.new.out.items in
    let at : c.len-before.result ≡ length piece = omega (arith, c.len-before.ensures) in
    let same : length mid ≡ length c.append_table_head.new.out.items = omega (arith, c.len.ensures, c.len-first.ensures, c.if-len-first.true) in
    front_put (g.W.Write.contents c.args.out.now) piece c.truncate.new.self.items _
    (table_left_out (g.S.Rows.text c.args.way.now) c.args.caption.now (map (λ name. name.now) c.args.columns.now) c.args.rows.now c.in_ok-begun.begun piece c.append_table_head.new.out.items mid
    c.truncate.new.self.items c.in_ok-append_table_head.ensures.ok c.in_ok-begun.ensures.ok same (c.in_ok-begun.ensures.all same)
    (c.truncate.ensures.items ∙ ap (λ n. take n mid) at))

pub returns : goal.returns
returns g c =
    let text = g.S.Rows.text c.args.way.now in
    let contents = g.W.Write.contents in
    let mid = c.append_first.new.out.items in
    let begun = c.append_table_head.new.out.items in
    let some : length mid ≢ length begun = λ (same : length mid ≡ length begun). absurd (omega (arith, same, c.len.ensures, c.len-first.ensures, c.if-len-first.false)) in
    let rest : AppendsFront (contents c.args.out.now) (contents c.stream_rows.new.out) (mid ++ flat_map text (drop c.in_ok-begun.begun c.args.rows.now)) c.stream_rows.new.piece.items =
    subst (λ rows. AppendsFront (contents c.args.out.now) (contents c.stream_rows.new.out) (mid ++ flat_map text rows) c.stream_rows.new.piece.items) c.rows_from.ensures c.in_ok-stream_rows.ensures in
    table_put text c.args.caption.now (map (λ name. name.now) c.args.columns.now) c.args.rows.now c.in_ok-begun.begun (contents c.args.out.now) (contents c.stream_rows.new.out)
    c.args.piece.now.items begun mid c.stream_rows.new.piece.items c.append_table_end.new.out.items
    c.in_ok-append_table_head.ensures.ok c.in_ok-begun.ensures.ok some rest c.in_ok-append_table_end.ensures.ok
