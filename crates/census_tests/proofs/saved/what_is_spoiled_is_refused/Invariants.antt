use Rattle.std.proofs.Common.{◌≡◌, vec_len}
use Rattle.census_tests.proofs.saved.what_is_spoiled_is_refused.Given as goal

abbrev pub invariant-loop-at : goal.invariant-loop-at
invariant-loop-at g l = vec_len l.text ≡ vec_len l.initial.text
