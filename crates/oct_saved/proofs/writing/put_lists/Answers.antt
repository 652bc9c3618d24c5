use Rattle.std.proofs.Common.{ℕ, ◌<◌, ◌^◌, List, subst, arith}
use Rattle.std.proofs.lemmas.Result.{on_ok_weaker}
use Rattle.std.specs.List.{All}
use Rattle.oct_saved.specs.Numbers.{listing}
use Rattle.oct_saved.specs.Saved.{AreWords}
use Rattle.oct_saved.proofs.Words.{listed_words, more_words}
use Rattle.oct_saved.proofs.writing.put_lists.Goals as goal

pub returns-clause-words : goal.returns-clause-words
returns-clause-words g c =
    let w = c.args.window.now in
    let heaps = subst (λ (xs : List ℕ). AreWords (listing xs)) c.deref.ensures.value (listed_words (2 ^ 32) c.deref.result.now (omega arith) c.in_ok-put_list.ensures.len c.in_ok-put_list.ensures.fits) in
    let held : All (λ n. n < 2 ^ 16) c.deref-2.result.now → AreWords (listing w.held.items) =
    λ fits. subst (λ (xs : List ℕ). AreWords (listing xs)) c.deref-2.ensures.value (listed_words (2 ^ 16) c.deref-2.result.now (omega arith) c.put_list-2.ensures.len fits) in
    on_ok_weaker c.put_list-2.result (λ fits. more_words (listing w.rare.heaps.items) (listing w.held.items) heaps (held fits)) c.put_list-2.ensures.fits
