use Rattle.std.proofs.Common.{◌≡◌, ◌+◌, ◌-◌, ◌++◌, length, length-append, slice_index_or, ap, ap₂, ◌∙◌, arith, rules, vec_len, take, drop}
use Rattle.std.specs.List.{slice_range}
use Rattle.std.specs.Vec.{with_items}
use Rattle.std.proofs.lemmas.List.{get_or-take, same_lists}
use Rattle.std.proofs.Math.Seq.{take-append_seam}
use Rattle.oct_search.proofs.Copied.{row_copied}
use Rattle.oct_search.proofs.cells.push_copied.Goals as goal

pub returns-clause-row : goal.returns-clause-row
returns-clause-row g c =
    let number = g.T.Cell.number in
    let row = c.args.row.now in
    let cells = row.values.items in
    let n = vec_len row.values in
    let new = c.resize.new.self in
    let parts = c.split_at_mut-known in
    let known = parts.result.0.now in
    let next = c.copy_from_slice.new.self in
    let is = c.len-len.ensures in
    let longer : vec_len new ≡ n + c.args.count = search rules in
    let size : length known ≡ n = parts.ensures.front_len ∙ is in
    let known_is : known ≡ cells =
    same_lists known cells (size ∙ row.values.ok.0) (λ k d low.
    ap (λ xs. slice_index_or xs k d) parts.ensures.front ∙ get_or-take c.len-len.result c.deref_mut.result.now k d (omega (arith, low, size, is)) ∙ ap (λ xs. slice_index_or xs k d) c.deref_mut.ensures.value
    ∙ c.resize.ensures.by_index.0 k d (omega (arith, low, size, is)) (omega (arith, low, size))) in
    let next_is : next ≡ slice_range cells (n - c.args.period) (n - c.args.period + c.args.count) =
    c.copy_from_slice.ensures.after ∙ ap (λ xs. slice_range xs (c.len-len.result - c.args.period) (c.len-len.result - c.args.period + c.args.count)) known_is
    ∙ ap (λ m. slice_range cells (m - c.args.period) (m - c.args.period + c.args.count)) is in
    let whole : vec_len new ≡ length (known ++ next) = omega (arith, length-append known next, size, longer, c.copy_from_slice.ensures.len, parts.ensures.back_len, c.deref_mut.ensures.len, is) in
    let items : take (vec_len new) ((known ++ next) ++ drop (length (known ++ next)) new.items) ≡ cells ++ slice_range cells (n - c.args.period) (n - c.args.period + c.args.count) =
    ap (λ k. take k ((known ++ next) ++ drop (length (known ++ next)) new.items)) whole ∙ take-append_seam (known ++ next) (drop (length (known ++ next)) new.items) ∙ ap₂ (λ xs ys. xs ++ ys) known_is next_is in
    row_copied number c.args.code.now row c.requires.row (with_items new (known ++ next)) c.args.period c.args.count c.requires.on c.requires.few c.requires.none items longer (omega (arith, longer, c.requires.limited))
