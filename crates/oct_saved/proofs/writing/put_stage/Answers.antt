use Rattle.std.proofs.Common.{ℕ, ◌<◌, ◌^◌, List, subst, sym, arith}
use Rattle.std.proofs.lemmas.Result.{on_ok_weaker}
use Rattle.std.specs.List.{All}
use Rattle.oct_saved.specs.Numbers.{listing, stage_lists, window_lists}
use Rattle.oct_saved.specs.Saved.{AreWords, FitsMark}
use Rattle.oct_saved.proofs.Words.{listed_words, more_words}
use Rattle.oct_saved.proofs.writing.put_stage.Goals as goal

pub returns-in_ok-put_lists-in-Watching-clause-words : goal.returns-in_ok-put_lists-in-Watching-clause-words
returns-in_ok-put_lists-in-Watching-clause-words g c =
    let w = c.in-Watching.watch in
    let mark : All (λ n. n < 2 ^ 16) c.deref.result.now → AreWords (listing w.mark.items) =
    λ fits. subst (λ (xs : List ℕ). AreWords (listing xs)) c.deref.ensures.value (listed_words (2 ^ 16) c.deref.result.now (omega arith) c.put_list.ensures.len fits) in
    on_ok_weaker c.put_list.result
    (λ fits. subst (λ s. AreWords (stage_lists s)) (sym c.in-Watching.is) (more_words (window_lists w.window) (listing w.mark.items) c.in_ok-put_lists-in-Watching.ensures.words (mark fits)))
    c.put_list.ensures.fits

pub returns-in_ok-put_lists-in-Watching-clause-mark : goal.returns-in_ok-put_lists-in-Watching-clause-mark
returns-in_ok-put_lists-in-Watching-clause-mark g c =
    on_ok_weaker c.put_list.result (λ fits. subst FitsMark (sym c.in-Watching.is) (subst (λ (xs : List ℕ). All (λ n. n < 2 ^ 16) xs) c.deref.ensures.value fits)) c.put_list.ensures.fits

pub returns-in_ok-put_lists-in-Comparing-clause-words : goal.returns-in_ok-put_lists-in-Comparing-clause-words
returns-in_ok-put_lists-in-Comparing-clause-words g c =
    let k = c.in-Comparing.seen.comparison in
    on_ok_weaker c.put_lists-in-Comparing-2.result
    (λ words. subst (λ s. AreWords (stage_lists s)) (sym c.in-Comparing.is) (more_words (window_lists k.first.window) (window_lists k.second.window) c.in_ok-put_lists-in-Comparing.ensures.words words))
    c.put_lists-in-Comparing-2.ensures.words
