use Rattle.std.proofs.Common.{◌≡◌, ◌<◌, ◌≤◌, ◌+◌, List, ℕ, take, length, arith, ap, ◌∙◌, rules}
use Rattle.std.specs.Prelude.{Option, Some, None, IfSome, option_map}
use Rattle.std.proofs.lemmas.List.{take_all, length-take}
use Rattle.census_state.proofs.input.read_whole.Goals as goal

-- all of the first n + 1 known bytes, of which there are at most n, are all of them
whole_from_first : (known : Option (List ℕ)) (n : ℕ) (bytes : List ℕ) → IfSome (option_map (take (n + 1)) known) (λ xs. bytes ≡ xs) → length bytes ≤ n
    → IfSome known (λ xs. bytes ≡ xs)
whole_from_first None n bytes h short = h
whole_from_first (Some xs) n bytes h short = h ∙ take_all (n + 1) xs (omega (arith, ap length h, length-take (n + 1) xs))

-- more than n of the first n + 1 known bytes are more than n known bytes
longer_than : (known : Option (List ℕ)) (n : ℕ) (bytes : List ℕ) → IfSome (option_map (take (n + 1)) known) (λ xs. bytes ≡ xs) → n < length bytes → IfSome known (λ xs. n < length xs)
longer_than None n bytes h long = tt
longer_than (Some xs) n bytes h long = omega (arith, long, ap length h, length-take (n + 1) xs)

pub returns-in-Ok-clause-too_long : goal.returns-in-Ok-clause-too_long
returns-in-Ok-clause-too_long g c = λ _. longer_than (g.R.Read.remaining c.args.reader.now) c.args.limit c.read_to_end.new.buf.items (search rules) (omega (arith, c.if-len-limit.true, c.len.ensures))

pub returns-in-Ok-clause-faults : goal.returns-in-Ok-clause-faults
returns-in-Ok-clause-faults g c = tt

pub returns-in-Ok-2-clause-whole : goal.returns-in-Ok-2-clause-whole
returns-in-Ok-2-clause-whole g c = whole_from_first (g.R.Read.remaining c.args.reader.now) c.args.limit _ (search rules) (omega (arith, c.read_to_end.new.buf.ok.0))
