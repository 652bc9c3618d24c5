use Rattle.std.proofs.Common.{◌≡◌, List, ℕ, ◌++◌, ◌^◌, subst, arith}
use Rattle.oct_saved.specs.Numbers.{listing, place_scalars, stage_lists}
use Rattle.oct_saved.specs.Saved.{AreWords, number_bytes}
use Rattle.oct_saved.proofs.Bytes.{three_written}
use Rattle.oct_saved.proofs.Words.{fits_stage, listed_words, more_words}
use Rattle.oct_saved.proofs.writing.body_of.Goals as goal

pub returns-clause-bytes : goal.returns-clause-bytes
returns-clause-bytes g c =
    let p = c.args.place.now in
    let scalars = listing (place_scalars p) in
    three_written scalars (listing p.code.digits) (stage_lists p.stage) _ _ _
    (subst (λ (z : List ℕ). c.put_scalars.new.out.items ≡ z ++ number_bytes scalars) c.new-out.ensures.items c.in_ok-put_scalars.ensures.bytes)
    (subst (λ (z : List ℕ). c.put_list.new.out.items ≡ c.put_scalars.new.out.items ++ number_bytes (listing z)) c.digits.ensures.value c.in_ok-put_list.ensures.bytes) c.in_ok-put_stage.ensures.bytes

pub returns-clause-fits : goal.returns-clause-fits
returns-clause-fits g c =
    let p = c.args.place.now in
    let digits = subst (λ (xs : List ℕ). AreWords (listing xs)) c.digits.ensures.value (listed_words (2 ^ 8) c.digits.result.now (omega arith) c.in_ok-put_list.ensures.len c.in_ok-put_list.ensures.fits) in
    let behind = more_words (listing p.code.digits) (stage_lists p.stage) digits c.in_ok-put_stage.ensures.words in
    record {
      code = c.digits.ensures.valid;
      stage = fits_stage p.stage c.in_ok-put_scalars.ensures.masks c.in_ok-put_stage.ensures.mark;
      numbers = more_words (listing (place_scalars p)) (listing p.code.digits ++ stage_lists p.stage) c.in_ok-put_scalars.ensures.words behind;
    }
