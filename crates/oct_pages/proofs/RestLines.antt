-- The lines of a catalogue are those up to its games, and the rest.
use Rattle.std.proofs.Common.{◌≡◌, List, [], ◌∷◌, ◌++◌, map, append_assoc}
use Rattle.std.specs.List.{flat_map}
use Rattle.oct_ops.specs.Body.{Operation}
use Rattle.oct_store.specs.Summary as summary
use Rattle.oct_notes.specs.Notes.{live_notes}
use Rattle.oct_pages.specs.Catalogue.{Text, author_line, ending, fork_line, game_lines, games, heading, lines_among, note_line}
use Rattle.oct_pages.specs.Rest.{lines_after_games}

regrouped : (first notes forks authors last : List Text) → first ++ notes ++ forks ++ authors ++ last ≡ first ++ (notes ++ forks ++ authors ++ last)
regrouped first notes forks authors last = simp append_assoc

pub lines_split : (part whole : List Operation) → lines_among part whole ≡ (heading ∷ flat_map (game_lines part) (games part)) ++ lines_after_games part whole
lines_split part whole = regrouped (heading ∷ flat_map (game_lines part) (games part)) (map note_line (live_notes part)) (map (fork_line part) (summary.forks part)) (map (author_line whole) (summary.authors whole)) (ending ∷ [])
