use Rattle.std.proofs.Common.{◌≡◌, ℕ, List, ◌∷◌, ◌++◌, drop, slice_index, sym, ◌∙◌, ap, ap₂}
use Rattle.std.proofs.lemmas.List.{append_assoc, take-append-drop, take_rest}
use Rattle.std.proofs.lemmas.Result.{err_from_is_err_and}
use Rattle.oct_saved.specs.Numbers.{reader_scalars, window_lists}
use Rattle.oct_saved.proofs.Fronts.{behind, first_four, refuses_more, seen_first, seen_second}
use Rattle.oct_saved.proofs.input.Input.seen.Goals as goal

pub returns-in_err-reader-clause-err : goal.returns-in_err-reader-clause-err
returns-in_err-reader-clause-err g c =
    let p = err_from_is_err_and c.from_residual.result c.from_residual.ensures.1 in
    rw (p.1, p.2) (refuses_more c.in_err-reader.field-0.0 _ _ (seen_first c.args.code c.args.scalars.now c.split_at.result.0.now c.args.self.now c.split_at.ensures.front) c.in_err-reader.ensures.err)

pub returns-in_err-reader-2-clause-err : goal.returns-in_err-reader-2-clause-err
returns-in_err-reader-2-clause-err g c =
    let p = err_from_is_err_and c.from_residual-in_err-reader-2.result c.from_residual-in_err-reader-2.ensures.1 in
    rw (p.1, p.2) (refuses_more c.in_err-reader-2.field-0.0 _ _ (seen_second c.args.code c.in_ok-reader.field-0.window c.args.scalars.now c.split_at.result.1.now c.args.self.now _ c.split_at.ensures.back c.in_ok-reader.ensures.ok.front) c.in_err-reader-2.ensures.err)

pub returns-clause-ok : goal.returns-clause-ok
returns-clause-ok g c =
    let numbers = c.args.scalars.now in
    let a = c.in_ok-reader.ensures.ok in
    let b = c.in_ok-reader-2.ensures.ok in
    let first = c.in_ok-reader.field-0 in
    let second = c.in_ok-reader-2.field-0 in
    let readers : reader_scalars first ++ reader_scalars second ≡ drop 4 numbers =
    ap₂ ◌++◌ (a.is.scalars ∙ c.split_at.ensures.front) (b.is.scalars ∙ c.split_at.ensures.back) ∙ take-append-drop 6 (behind 4 numbers) ∙ take_rest numbers 4 in
    record {
      is = record {
        first = a.is.shaped;
        second = b.is.shaped;
        first_code = a.is.code;
        second_code = b.is.code;
        fits = record { first = a.is.mask; second = b.is.mask };
        scalars = ap (λ (xs : List ℕ). slice_index numbers 0 ∷ slice_index numbers 1 ∷ slice_index numbers 2 ∷ slice_index numbers 3 ∷ xs) readers ∙ first_four numbers c.in-len4-up.len_at_least;
      };
      front = a.front ∙ ap (λ (xs : List ℕ). window_lists first.window ++ xs) b.front ∙ sym (append_assoc (window_lists first.window) (window_lists second.window) _);
    }
