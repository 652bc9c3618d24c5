use Rattle.std.proofs.Common.{◌≡◌, ◌<◌, ◌^◌, ℕ, List, ◌∷◌, ◌++◌, slice_index, sym, ◌∙◌, ap, subst}
use Rattle.std.proofs.lemmas.List.{append_assoc, map-id}
use Rattle.std.proofs.lemmas.Result.{err_from_is_err_and}
use Rattle.std.specs.List.{All}
use Rattle.oct_saved.specs.Numbers.{listing, window_lists}
use Rattle.oct_saved.proofs.Fronts.{first_of, refuses_more, watch_listed, watch_small, watch_window}
use Rattle.oct_saved.proofs.input.Input.watch.Goals as goal

pub returns-in_err-window-clause-err : goal.returns-in_err-window-clause-err
returns-in_err-window-clause-err g c =
    let p = err_from_is_err_and c.from_residual.result c.from_residual.ensures.1 in
    rw (p.1, p.2) (refuses_more c.in_err-window.field-0.0 _ _ (watch_window c.args.code c.args.scalars.now c.args.self.now) c.in_err-window.ensures.err)

pub returns-in_err-list-clause-err : goal.returns-in_err-list-clause-err
returns-in_err-list-clause-err g c =
    let p = err_from_is_err_and c.from_residual-in_err-list.result c.from_residual-in_err-list.ensures.1 in
    rw (p.1, p.2) (refuses_more c.in_err-list.field-0.0 _ _ (watch_listed c.args.code c.in_ok-window.window c.args.scalars.now c.args.self.now _ c.in_ok-window.ensures.ok.front) c.in_err-list.ensures.err)

pub returns-in_err-mark-clause-err : goal.returns-in_err-mark-clause-err
returns-in_err-mark-clause-err g c =
    let p = err_from_is_err_and c.from_residual-in_err-mark.result c.from_residual-in_err-mark.ensures.1 in
    rw (p.1, p.2) (refuses_more c.in_err-mark.field-0.0 _ _ (watch_small c.args.code c.in_ok-window.window c.args.scalars.now c.args.self.now _ _ _ c.in_ok-window.ensures.ok.front c.in_ok-list.ensures.ok) c.in_err-mark.ensures.err)

pub returns-clause-ok : goal.returns-clause-ok
returns-clause-ok g c =
    let w = c.in_ok-window.window in
    let is = c.in_ok-window.ensures.ok in
    let mark = c.in_ok-mark.mark.items in
    let same : mark ≡ c.in_ok-list.field-0.now = sym (map-id mark) ∙ c.in_ok-mark.ensures.items in
    record {
      is = record {
        shaped = is.is.shaped;
        code = is.is.code;
        fits = record { mask = is.is.mask; mark = subst (λ (xs : List ℕ). All (λ n. n < 2 ^ 16) xs) (sym same) c.in_ok-mark.ensures.fit };
        scalars = ap (λ (xs : List ℕ). slice_index c.args.scalars.now 0 ∷ xs) is.is.scalars ∙ first_of c.args.scalars.now c.in-len1-up.len_at_least;
      };
      front = is.front ∙ ap (λ (xs : List ℕ). window_lists w ++ xs) (c.in_ok-list.ensures.ok ∙ ap (λ (xs : List ℕ). listing xs ++ c.list.new.self) (sym same)) ∙ sym (append_assoc (window_lists w) (listing mark) _);
    }
