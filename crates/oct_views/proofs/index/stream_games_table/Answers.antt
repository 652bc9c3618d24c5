use Rattle.std.proofs.Common.{arith, ◌<◌, ◌++◌, [], ◌∷◌, length, sym, ◌∙◌, subst}
use Rattle.std.specs.Prelude.{codes, true, false, List}
use Rattle.std.specs.List.{concat, flat_map}
use Rattle.std.proofs.lemmas.Bool.{eqb-false, eqb-true}
use Rattle.oct_ops.specs.Body.{Operation}
use Rattle.oct_sheet.specs.Summary.{is_refuted}
use Rattle.oct_sheet.specs.declared.summary.Summary.{Summary}
use Rattle.oct_views.proofs.Streaming.{filled_front, no_row_put, rows_put}
use Rattle.oct_views.specs.Columns.{cell, columns_of, heads}
use Rattle.oct_views.specs.Game.{said_in_row}
use Rattle.oct_views.specs.Index.{game_row, games_caption, link_text, row_begin, row_head}
use Rattle.oct_views.specs.declared.columns.Column.{Column}
use Rattle.oct_views.specs.declared.index.Anchor.TheVariants as anchors
use Rattle.oct_views.specs.declared.index.Links.{Links}
use Rattle.written.specs.Output.{AppendsFront}
use Rattle.oct_views.proofs.index.stream_games_table.Goals as goal

game_row-some : (way : Links) (notes : List Operation) (columns : List Column) (row : Summary) → 0 < length (game_row way notes columns row)
game_row-some way notes columns row =
    filled_front (row_head way notes row) (concat (flat_map (cell row) columns ∷ codes "</tr>\n" ∷ []))
    (filled_front (row_begin (is_refuted row)) (concat (link_text way anchors.Game row.code ∷ said_in_row notes row.code ∷ codes "</th>" ∷ []))
    (elim (is_refuted row) as (λ b. 0 < length (row_begin b)) [ true ↦ omega arith | false ↦ omega arith ]))

pub returns-then-is_empty : goal.returns-then-is_empty
returns-then-is_empty g c =
    let rows = c.args.rows.now in
    let columns = columns_of rows in
    no_row_put (game_row c.args.links c.args.remarks.now columns) (games_caption (length rows)) (heads columns) rows (g.W.Write.contents c.args.out.now) c.args.piece.now.items
    (eqb-true _ _ (sym c.if-is_empty.ensures))

pub returns : goal.returns
returns g c =
    let rows = c.args.rows.now in
    let columns = columns_of rows in
    let contents = g.W.Write.contents in
    let begun = c.append_table_head.new.out.items in
    let next = c.stream_game_rows.new.piece.items in
    let later = contents c.stream_game_rows.new.out in
    let row = game_row c.args.links c.args.remarks.now in
    rows_put (row columns) (games_caption (length rows)) (heads columns) rows (contents c.args.out.now) later
    c.args.piece.now.items begun next c.append_table_end.new.out.items
    (game_row-some c.args.links c.args.remarks.now columns) (omega (arith, eqb-false _ _ (sym c.if-is_empty.ensures)))
    (rw (c.deref-3.ensures.value, c.in_ok-heads.ensures, c.deref.ensures.value, c.in_ok-columns.ensures, c.deref-2.ensures.value, c.in_ok-caption.ensures) at c.in_ok-append_table_head.ensures.ok)
    (subst (λ cs. AppendsFront (contents c.args.out.now) later (begun ++ flat_map (row cs) rows) next) (c.deref-4.ensures.value ∙ c.in_ok-columns.ensures) c.in_ok-stream_game_rows.ensures)
    c.in_ok-append_table_end.ensures.ok
