use Rattle.std.proofs.Common.{◌≡◌, drop, map}
use Rattle.census_state.specs.Codes.{codes_of}
use Rattle.census_state.proofs.CodeTexts.{after}
use Rattle.census_state.proofs.codes.read_codes.Given as goal

abbrev pub invariant-loop-word : goal.invariant-loop-word
invariant-loop-word l = codes_of (map (λ word. word.items) l.words) ≡ after l.codes.items (codes_of (map (λ word. word.items) (drop l.word-index l.words)))
