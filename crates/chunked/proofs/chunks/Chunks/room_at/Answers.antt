use Rattle.std.proofs.Common.{◌≡◌, ℕ, ◌+◌, ◌-◌, ◌^◌, ◌<◌, refl, ◌∙◌, arith}
use Rattle.std.proofs.lemmas.Result.{err_from_is_err_and}
use Rattle.chunked.proofs.chunks.Chunks.room_at.Goals as goal

-- one more can be counted
countable : (len now : ℕ) → len < 2 ^ 64 → now ≡ len → (len ≡ 2 ^ 64 - 1 → ⊥) → now + 1 < 2 ^ 64
countable len now small same more = omega (arith, small, same, more)

pub returns-then-self-clause-chunked : goal.returns-then-self-clause-chunked
returns-then-self-clause-chunked g c = c.requires.chunked

pub returns-then-self-clause-same : goal.returns-then-self-clause-same
returns-then-self-clause-same g c = refl

pub returns-then-self-clause-ok : goal.returns-then-self-clause-ok
returns-then-self-clause-ok g c = tt

pub start-requires-clause-chunked : goal.start-requires-clause-chunked
start-requires-clause-chunked g c = c.requires.chunked

pub start-requires-clause-near : goal.start-requires-clause-near
start-requires-clause-near g c = c.requires.near

pub returns-in_err-start-clause-chunked : goal.returns-in_err-start-clause-chunked
returns-in_err-start-clause-chunked g c = c.start.ensures.chunked

pub returns-in_err-start-clause-same : goal.returns-in_err-start-clause-same
returns-in_err-start-clause-same g c = c.start.ensures.same

pub returns-in_err-start-clause-ok : goal.returns-in_err-start-clause-ok
returns-in_err-start-clause-ok g c = rw (err_from_is_err_and c.from_residual.result c.from_residual.ensures.1).1 tt

pub split_long-requires-clause-chunked : goal.split_long-requires-clause-chunked
split_long-requires-clause-chunked g c = c.start.ensures.chunked

pub split_long-requires-clause-beside : goal.split_long-requires-clause-beside
split_long-requires-clause-beside g c = c.in_ok-start.ensures.ok.0

pub returns-in_err-place-clause-chunked : goal.returns-in_err-place-clause-chunked
returns-in_err-place-clause-chunked g c = c.split_long.ensures.chunked

pub returns-in_err-place-clause-same : goal.returns-in_err-place-clause-same
returns-in_err-place-clause-same g c = c.split_long.ensures.same ∙ c.start.ensures.same

pub returns-in_err-place-clause-ok : goal.returns-in_err-place-clause-ok
returns-in_err-place-clause-ok g c = rw (err_from_is_err_and c.from_residual-in_err-place.result c.from_residual-in_err-place.ensures.1).1 tt

pub reserve-requires-clause-chunked : goal.reserve-requires-clause-chunked
reserve-requires-clause-chunked g c = c.split_long.ensures.chunked

pub reserve-requires-clause-beside : goal.reserve-requires-clause-beside
reserve-requires-clause-beside g c = c.in_ok-place.ensures.ok.0

pub reserve-requires-clause-count : goal.reserve-requires-clause-count
reserve-requires-clause-count g c = countable _ _ c.requires.chunked.small (c.split_long.ensures.len ∙ c.start.ensures.len) c.if-self.false

pub returns-in_err-reserve-clause-chunked : goal.returns-in_err-reserve-clause-chunked
returns-in_err-reserve-clause-chunked g c = c.reserve.ensures.chunked

pub returns-in_err-reserve-clause-same : goal.returns-in_err-reserve-clause-same
returns-in_err-reserve-clause-same g c = c.reserve.ensures.same ∙ c.split_long.ensures.same ∙ c.start.ensures.same

pub returns-in_err-reserve-clause-ok : goal.returns-in_err-reserve-clause-ok
returns-in_err-reserve-clause-ok g c = rw (err_from_is_err_and c.from_residual-in_err-reserve.result c.from_residual-in_err-reserve.ensures.1).1 tt

pub returns-clause-chunked : goal.returns-clause-chunked
returns-clause-chunked g c = c.reserve.ensures.chunked

pub returns-clause-same : goal.returns-clause-same
returns-clause-same g c = c.reserve.ensures.same ∙ c.split_long.ensures.same ∙ c.start.ensures.same

pub returns-clause-ok : goal.returns-clause-ok
returns-clause-ok g c = (c.reserve.ensures.beside, c.in_ok-reserve.ensures.ok, c.reserve.ensures.index ∙ c.in_ok-place.ensures.ok.1 ∙ c.in_ok-start.ensures.ok.1)
