use Rattle.std.proofs.Common.{ℕ, [], ◌∷◌, ◌∙◌, subst}
use Rattle.std.proofs.lemmas.Result.{on_ok_weaker}
use Rattle.oct_saved.specs.Saved.{AreWords}
use Rattle.oct_saved.proofs.Words.{comparing_words, watching_words}
use Rattle.oct_saved.proofs.writing.put_scalars.Goals as goal

pub returns-in_ok-put_numbers-in-Watching-clause-words : goal.returns-in_ok-put_numbers-in-Watching-clause-words
returns-in_ok-put_numbers-in-Watching-clause-words g c =
    let p = c.args.place.now in
    let w = c.in-Watching.watch in
    let front = subst (λ (h : ℕ). AreWords (0 ∷ h ∷ p.listed ∷ w.at ∷ [])) (c.from-head.ensures ∙ c.head.ensures.value) c.in_ok-put_numbers-in-Watching.ensures.fits in
    on_ok_weaker c.put_numbers-in-Watching.result (λ fits. watching_words p w c.in-Watching.is front (subst AreWords c.scalars_of.ensures.scalars fits)) c.put_numbers-in-Watching.ensures.fits

pub returns-in_ok-put_reader-in-Comparing-clause-words : goal.returns-in_ok-put_reader-in-Comparing-clause-words
returns-in_ok-put_reader-in-Comparing-clause-words g c =
    let p = c.args.place.now in
    let s = c.in-Comparing.seen in
    let front = subst (λ (h : ℕ). AreWords (1 ∷ h ∷ p.listed ∷ s.start ∷ s.values ∷ [])) (c.from-head.ensures ∙ c.head.ensures.value) c.in_ok-put_numbers-in-Comparing.ensures.fits in
    on_ok_weaker c.put_reader-in-Comparing.result
    (comparing_words p s c.in-Comparing.is front c.in_ok-put_numbers-in-Comparing-2.ensures.fits c.in_ok-put_reader-in-Comparing.ensures.words) c.put_reader-in-Comparing.ensures.words
