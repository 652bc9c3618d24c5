use Rattle.std.proofs.Common.{MatchResult, Ok, Err}
use Rattle.chunked.specs.Chunked.{chunked, index_of, IsFound, IsGapAt, IsInside, IsNear}
use Rattle.oct_verify.specs.Filed.{Filed}
use Rattle.oct_verify.specs.Filing.{Filing, filing_cmp}
use Rattle.oct_verify.specs.Kept.{IsGap, IsPlaceOf, filing_of}
use Rattle.oct_verify.proofs.Searching.{parted_before, gap_at, place_at}
use Rattle.oct_verify.proofs.shelf.Shelf.place.Goals as goal

pub search-requires-clause-parted : goal.search-requires-clause-parted
search-requires-clause-parted g c = parted_before (chunked c.args.self.now.entries) c.requires.settling.rising (c.args.dot.now, c.args.block.now)

pub returns : goal.returns
returns g c =
    let target : Filing = (c.args.dot.now, c.args.block.now) in
    let s = c.args.self.now.entries in
    let rising = c.requires.settling.rising in
    elim c.search.result as (λ r.
    MatchResult r (λ p. IsInside s p × IsFound (λ (e : Filed). filing_cmp (filing_of e) target) (chunked s) (index_of s p)) (λ p. IsNear s p × IsGapAt (λ (e : Filed). filing_cmp (filing_of e) target) (chunked s) (index_of s p))
    → MatchResult r (λ p. IsInside s p × IsPlaceOf (chunked s) target (index_of s p)) (λ p. IsNear s p × IsGap (chunked s) target (index_of s p))) [
      | Ok p ↦ λ found. (found.0, place_at (chunked s) rising target (index_of s p) found.1)
      | Err p ↦ λ found. (found.0, gap_at (chunked s) rising target (index_of s p) found.1)
    ] c.search.ensures
