use Rattle.std.proofs.Common.{arith, ◌≡◌, ◌≢◌, ◌<◌, ◌++◌, [], ◌∷◌, ℕ, length, refl, subst}
use Rattle.std.specs.Prelude.{codes, List}
use Rattle.std.specs.List.{concat, flat_map}
use Rattle.std.specs.Fmt.{decimal}
use Rattle.oct_sheet.specs.declared.periodic.Periodic.{Periodic}
use Rattle.oct_tables.specs.Tables.{table}
use Rattle.oct_views.proofs.Streaming.{filled_front, no_row_put, rows_put}
use Rattle.oct_views.specs.Index.{link_text, periodic_row}
use Rattle.oct_views.specs.declared.index.Anchor.TheVariants as anchors
use Rattle.oct_views.specs.declared.index.Links.{Links}
use Rattle.written.specs.Output.{AppendsFront}
use Rattle.oct_views.proofs.index.stream_periods.Goals as goal

abbrev columns : List (List ℕ)
columns = codes "period" ∷ codes "start" ∷ codes "code" ∷ []

periodic_row-some : (way : Links) (p : Periodic) → 0 < length (periodic_row way p)
periodic_row-some way p =
    filled_front (concat (codes "<tr><th scope=\"row\">" ∷ decimal p.period ∷ codes "</th><td>" ∷ decimal p.start ∷ codes "</td><td>" ∷ []))
    (concat (link_text way anchors.Game p.code ∷ codes "</td></tr>\n" ∷ []))
    (filled_front (codes "<tr><th scope=\"row\">") (concat (decimal p.period ∷ codes "</th><td>" ∷ decimal p.start ∷ codes "</td><td>" ∷ [])) (omega arith))

pub returns-then-is_empty : goal.returns-then-is_empty
returns-then-is_empty g c =
    let text = periodic_row c.args.links in
    let piece = c.args.piece.now.items in
    let old = g.W.Write.contents c.args.out.now in
    subst (λ rows. AppendsFront old old (piece ++ table (codes "Games by period") columns (flat_map text rows)) piece) c.in_ok-found.ensures
    (no_row_put text (codes "Games by period") columns c.in_ok-found.found.keys old piece (c.if-is_empty.ensures.0 refl))

pub returns : goal.returns
returns g c =
    let text = periodic_row c.args.links in
    let piece = c.args.piece.now.items in
    let contents = g.W.Write.contents in
    let old = contents c.args.out.now in
    let later = contents c.stream_periodic_rows.new.out in
    let end = c.append_table_end.new.out.items in
    let found = c.in_ok-found.found.keys in
    let none : length found ≢ 0 = λ (e : length found ≡ 0). cc (c.if-is_empty.ensures.1 e) in
    subst (λ rows. AppendsFront old later (piece ++ table (codes "Games by period") columns (flat_map text rows)) end) c.in_ok-found.ensures
    (rows_put text (codes "Games by period") columns found old later piece c.append_table_head.new.out.items c.stream_periodic_rows.new.piece.items end
    (periodic_row-some c.args.links) (omega (arith, none)) c.in_ok-append_table_head.ensures.ok c.in_ok-stream_periodic_rows.ensures c.in_ok-append_table_end.ensures.ok)
