-- The text of a document is that of its members, one after another.
use Rattle.std.proofs.Common.{◌≡◌, [], ◌∷◌, ◌++◌, ap, ◌∙◌, append_assoc}
use Rattle.std.specs.Prelude.{codes}
use Rattle.std.specs.List.{concat}
use Rattle.core.specs.Fmt.{digits}
use Rattle.json.specs.Print.{escape_byte}
use Rattle.oct_json.specs.Json.{document_of}
use Rattle.serde_json.specs.Data.{Data}
use Rattle.serde_json.specs.Written.{compact_text}

pub document_text : (authors forks games notes : Data)
    → concat ((codes "{\"authors\":" ++ compact_text authors) ∷ (codes ",\"census\":2,\"forks\":" ++ compact_text forks) ∷ (codes ",\"games\":" ++ compact_text games)
    ∷ (codes ",\"notes\":" ++ compact_text notes) ∷ codes "}" ∷ []) ≡ compact_text (document_of authors forks games notes)
unfolding escape_byte digits
document_text authors forks games notes =
    let a = compact_text authors in
    let f = compact_text forks in
    let g = compact_text games in
    let n = compact_text notes in
    let notes_on = codes ",\"notes\":" ++ (n ++ codes "}") in
    let games_on = codes ",\"games\":" ++ (g ++ notes_on) in
    let forks_on = codes ",\"census\":2,\"forks\":" ++ (f ++ games_on) in
    let begin = codes "{\"authors\":" in
    ap (λ t. (begin ++ a) ++ ((codes ",\"census\":2,\"forks\":" ++ f) ++ ((codes ",\"games\":" ++ g) ++ t))) (append_assoc (codes ",\"notes\":") n (codes "}"))
    ∙ ap (λ t. (begin ++ a) ++ ((codes ",\"census\":2,\"forks\":" ++ f) ++ t)) (append_assoc (codes ",\"games\":") g notes_on)
    ∙ ap (λ t. (begin ++ a) ++ t) (append_assoc (codes ",\"census\":2,\"forks\":") f games_on)
    ∙ append_assoc begin a forks_on
