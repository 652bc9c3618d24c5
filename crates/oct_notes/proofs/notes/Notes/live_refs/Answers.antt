use Rattle.std.proofs.Common.{rules, ◌∙◌}
use Rattle.std.specs.Ordering.{is_lt}
use Rattle.std.proofs.lemmas.List.{take_all}
use Rattle.std.proofs.lemmas.List.Sorted.{ranks_by, answers_always}
use Rattle.oct_notes.specs.Notes.{note_order}
use Rattle.oct_notes.proofs.Lives.{note_order_total, sorted_are_live}
use Rattle.oct_notes.proofs.notes.Notes.live_refs.Goals as goal

pub returns : goal.returns
returns g c =
    let sorted = c.sort_unstable_by.ensures.sorted (λ x y. is_lt (note_order x y)) (ranks_by note_order_total (λ x. x)) (answers_always _ _ _ (λ f a r h k. search rules)) in
    c.loop-row.invariant ∙ take_all _ _ c.loop-row-test.false ∙ c.deref-row-items.ensures.value
    ∙ sorted_are_live _ c.in_ok-rows.rows.items c.sort_unstable_by.new.self.items c.in_ok-rows.ensures c.sort_unstable_by.ensures.permutation sorted
