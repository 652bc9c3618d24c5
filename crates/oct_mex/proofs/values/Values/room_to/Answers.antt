use Rattle.std.proofs.Common.{ℕ, ap, arith, rules, subst, sym, vec_len, ◌∙◌}
use Rattle.std.specs.List.{All}
use Rattle.oct_mex.specs.NimValues.{nim_values}
use Rattle.oct_mex.specs.Periods.{GoesOn}
use Rattle.oct_mex.specs.Totals.{IsTable}
use Rattle.oct_mex.proofs.values.Values.room_to.Goals as goal

pub invariant_of-self : goal.invariant_of-self
invariant_of-self g c =
    let code = c.self.inside.code in
    record {
      few = search rules;
      row = c.room_to.ensures.row code c.self.invariant.row;
      within = search rules;
      reserved = search rules;
      few_used = search rules;
      table = search rules;
      limited = search rules;
      periodic = λ some. subst (λ (k : ℕ). GoesOn code k c.self.inside.period) (sym c.room_to.ensures.len) (c.self.invariant.periodic some);
      tables = λ none. subst (λ (k : ℕ). All (IsTable c.self.inside.mask (nim_values code k)) c.self.inside.tables.items) (sym c.room_to.ensures.len) (c.self.invariant.tables none);
      narrow = c.self.invariant.narrow;
      fewer = omega (arith, c.room_to.ensures.len, c.self.invariant.fewer);
    }

pub invariant_of-self-in_err-resize : goal.invariant_of-self-in_err-resize
invariant_of-self-in_err-resize g c =
    let code = c.self.inside.code in
    record {
      few = search rules;
      row = c.room_to.ensures.row code c.self.invariant.row;
      within = search rules;
      reserved = search rules;
      few_used = search rules;
      table = search rules;
      limited = search rules;
      periodic = λ some. subst (λ (k : ℕ). GoesOn code k c.self.inside.period) (sym c.room_to.ensures.len) (c.self.invariant.periodic some);
      tables = λ none. subst (λ (k : ℕ). All (IsTable c.self.inside.mask (nim_values code k)) c.self.inside.tables.items) (sym c.room_to.ensures.len) (c.self.invariant.tables none);
      narrow = c.make_room.ensures.items ∙ c.self.invariant.narrow ∙ ap (nim_values code) (sym c.make_room.ensures.len);
      fewer = omega (arith, c.make_room.ensures.len, c.room_to.ensures.len, c.self.invariant.fewer);
    }

pub invariant_of-self-in_err-room_for_tables : goal.invariant_of-self-in_err-room_for_tables
invariant_of-self-in_err-room_for_tables g c =
    let code = c.self.inside.code in
    record {
      few = search rules;
      row = c.room_to.ensures.row code c.self.invariant.row;
      within = search rules;
      reserved = search rules;
      few_used = search rules;
      table = search rules;
      limited = search rules;
      periodic = λ some. subst (λ (k : ℕ). GoesOn code k c.self.inside.period) (sym c.room_to.ensures.len) (c.self.invariant.periodic some);
      tables = λ none. subst (λ (k : ℕ). All (IsTable c.self.inside.mask (nim_values code k)) c.room_for_tables.new.tables.items) (sym c.room_to.ensures.len) (c.room_for_tables.ensures c.self.inside.mask (nim_values code (vec_len c.self.inside.row.values)) (c.self.invariant.tables none));
      narrow = c.make_room.ensures.items ∙ c.self.invariant.narrow ∙ ap (nim_values code) (sym c.make_room.ensures.len);
      fewer = omega (arith, c.make_room.ensures.len, c.room_to.ensures.len, c.self.invariant.fewer);
    }

pub invariant_of-self-then-self-count : goal.invariant_of-self-then-self-count
invariant_of-self-then-self-count g c =
    let code = c.self.inside.code in
    record {
      few = search rules;
      row = c.room_to.ensures.row code c.self.invariant.row;
      within = search rules;
      reserved = search rules;
      few_used = search rules;
      table = search rules;
      limited = search rules;
      periodic = λ some. subst (λ (k : ℕ). GoesOn code k c.self.inside.period) (sym c.room_to.ensures.len) (c.self.invariant.periodic some);
      tables = λ none. subst (λ (k : ℕ). All (IsTable c.self.inside.mask (nim_values code k)) c.room_for_tables.new.tables.items) (sym c.room_to.ensures.len) (c.room_for_tables.ensures c.self.inside.mask (nim_values code (vec_len c.self.inside.row.values)) (c.self.invariant.tables none));
      narrow = c.make_room.ensures.items ∙ c.self.invariant.narrow ∙ ap (nim_values code) (sym c.make_room.ensures.len);
      fewer = omega (arith, c.make_room.ensures.len, c.room_to.ensures.len, c.self.invariant.fewer);
    }

pub invariant_of-self-in_err-make_room : goal.invariant_of-self-in_err-make_room
invariant_of-self-in_err-make_room g c =
    let code = c.self.inside.code in
    record {
      few = search rules;
      row = c.room_to.ensures.row code c.self.invariant.row;
      within = search rules;
      reserved = search rules;
      few_used = search rules;
      table = search rules;
      limited = search rules;
      periodic = λ some. subst (λ (k : ℕ). GoesOn code k c.self.inside.period) (sym c.room_to.ensures.len) (c.self.invariant.periodic some);
      tables = λ none. subst (λ (k : ℕ). All (IsTable c.self.inside.mask (nim_values code k)) c.self.inside.tables.items) (sym c.room_to.ensures.len) (c.self.invariant.tables none);
      narrow = c.make_room.ensures.items ∙ c.self.invariant.narrow ∙ ap (nim_values code) (sym c.make_room.ensures.len);
      fewer = omega (arith, c.make_room.ensures.len, c.room_to.ensures.len, c.self.invariant.fewer);
    }
