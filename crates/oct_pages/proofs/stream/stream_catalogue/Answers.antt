use Rattle.std.proofs.Common.{◌≡◌, ◌∷◌, ◌++◌, sym, ap, ◌∙◌, subst}
use Rattle.std.proofs.lemmas.List.Folds.{concat-append}
use Rattle.std.proofs.lemmas.Result.{on_ok_weaker}
use Rattle.std.specs.Io.KnownBytes.{Appends}
use Rattle.std.specs.List.{concat, flat_map}
use Rattle.oct_ops.specs.Operations.{listed}
use Rattle.written.proofs.Piecewise.{ended}
use Rattle.oct_pages.specs.Catalogue.{game_lines, games, heading, lines_among}
use Rattle.written.specs.Output.{AppendsFront}
use Rattle.oct_pages.specs.Rest.{lines_after_games}
use Rattle.oct_pages.proofs.Pagers.{all_seen}
use Rattle.oct_pages.proofs.RestLines.{lines_split}
use Rattle.oct_pages.proofs.stream.stream_catalogue.Goals as goal

pub returns : goal.returns
returns g c =
    let part = listed c.args.part.now.ops in
    let whole = listed c.args.whole.now.ops in
    let old = g.W.Write.contents c.args.out.now in
    let now = g.W.Write.contents c.stream_games.new.out in
    let later = g.W.Write.contents c.write_all.new.self in
    let front = heading ++ concat (flat_map (game_lines part) (games part)) in
    let rest = lines_after_games part whole in
    let piece = c.stream_games.new.piece.items in
    let begun = c.in_ok-append_text.ensures.ok ∙ ap (λ t. t ++ heading) c.new-piece.ensures.items in
    let games_written = subst (λ t. AppendsFront old now (t ++ concat (flat_map (game_lines part) (games part))) piece) begun c.in_ok-stream_games.ensures in
    let last = c.in_ok-append_rest.ensures.ok.text ∙ ap (λ t. piece ++ t) (all_seen (lines_after_games (listed c.store.result.now) (listed c.store-2.result.now))
    ∙ ap (λ store. concat (lines_after_games (listed store) (listed c.store-2.result.now))) c.store.ensures ∙ ap (λ store. concat (lines_after_games part (listed store))) c.store-2.ensures) in
    let all : front ++ concat rest ≡ concat (lines_among part whole) = sym (concat-append (heading ∷ flat_map (game_lines part) (games part)) rest) ∙ ap concat (sym (lines_split part whole)) in
    on_ok_weaker c.write_all.result (λ wrote.
    subst (Appends old later) all (ended old now later front piece (concat rest) games_written
    (subst (Appends now later) (c.deref.ensures.value ∙ last) wrote))) c.write_all.ensures.bytes
