use Rattle.std.proofs.Common.{◌≡◌, ◌+◌, ◌/◌, ◌<◌, ◌≤◌, ◌++◌, true, if◌then◌else◌, length, take, drop, inl, inr, ap, sym, subst, subst₂, ◌∙◌, arith, vec_len}
use Rattle.std.proofs.lemmas.Bool.{cases_Bool}
use Rattle.std.proofs.lemmas.List.Elements.{All-same}
use Rattle.std.proofs.lemmas.Nat.{mul-le}
use Rattle.oct_code.specs.Code.{len}
use Rattle.std.specs.List.{All}
use Rattle.oct_mex.specs.Held.{Held}
use Rattle.oct_mex.specs.NimValues.{nim_values}
use Rattle.oct_mex.specs.Totals.{IsTable}
use Rattle.oct_mex.proofs.Bounds.{length-moves, nim_value-le, nim_value-lt}
use Rattle.oct_mex.proofs.Contents.{held_is}
use Rattle.oct_mex.proofs.Pushed.{begun}
use Rattle.oct_mex.proofs.SeenPeriods.{goes_on_further}
use Rattle.oct_mex.proofs.Tables.{tables_next, written}
use Rattle.oct_mex.proofs.values.Values.push_next.Goals as goal

pub invariant_of-self-else-self-gt0 : goal.invariant_of-self-else-self-gt0
invariant_of-self-else-self-gt0 g c =
    let v = c.self.inside in
    let kept = c.self.invariant in
    let n = vec_len v.row.values in
    let room : n < v.room = omega (arith, c.requires, ap (λ (k : Held). k.len) c.self.view_is, ap (λ (k : Held). k.room) c.self.view_is) in
    let held : c.push_next_by.result ≡ true = elim (cases_Bool c.push_next_by.result) [
      | inl good ↦ good
      | inr lost ↦ absurd (omega (arith, c.push_next_by.ensures.past lost, nim_value-lt v.code n kept.few (omega (arith, room, kept.limited))))
    ] in
    let more : vec_len c.push_next_by.new.self.values ≡ n + 1 = c.push_next_by.ensures.len ∙ ap (λ b. if b then n + 1 else n) held in
    let wide = mul-le (len v.code + 1) (n / 2 + 1) (len v.code + 1) (v.room / 2 + 1) (omega arith) (omega (arith, room)) in
    let row = c.push_next_by.new.self in
    let all = nim_values v.code (vec_len row.values) in
    let mask = v.row.rare.mask in
    let size = vec_len v.tables in
    let first = c.follow_mask.new.tables in
    let rest = drop (length first) v.tables.items in
    let last = c.push_next_by.new.tables in
    let one : length first ≡ size = c.follow_mask.ensures.count ∙ c.deref_mut.ensures.len in
    let second : length last ≡ size = c.push_next_by.ensures.count ∙ c.deref_mut-else-self-gt0.ensures.len in
    let fewer : vec_len c.follow.new.self.values ≤ n = omega (arith, c.follow.ensures.within, c.deref.ensures.len) in
    let known : All (IsTable mask all) last = tables_next mask v.code n (vec_len row.values) last more (subst (λ xs. All (IsTable mask xs) last) kept.row.values c.push_next_by.ensures.tables) in
    record {
      few = kept.few;
      row = c.push_next_by.ensures.row;
      within = omega (arith, room, more);
      reserved = omega (arith, kept.reserved, c.push_next_by.ensures.room);
      few_used = elim c.push_next_by.ensures.used [
        | inl same ↦ omega (arith, same, kept.few_used)
        | inr double ↦ omega (arith, double.0, double.1, nim_value-le v.code n, length-moves v.code n, wide)
      ];
      table = kept.table;
      limited = kept.limited;
      periodic = λ some. goes_on_further v.code n (vec_len c.push_next_by.new.self.values) v.period (omega (arith, more)) (kept.periodic some);
      tables = λ none. All-same (IsTable mask all) (take size (last ++ drop (length last) (take size (first ++ rest)))) last (written size last (drop (length last) (take size (first ++ rest))) second) known;
      narrow = c.follow.ensures.begins ∙ ap (take (vec_len c.follow.new.self.values)) c.deref.ensures.value ∙ begun v.code n (vec_len c.follow.new.self.values) v.row.values.items kept.row.values fewer;
      fewer = omega (arith, fewer, more);
    }

pub returns-else-self-gt0 : goal.returns-else-self-gt0
returns-else-self-gt0 g c =
    let v = c.self.inside in
    let kept = c.self.invariant in
    let n = vec_len v.row.values in
    let room : n < v.room = omega (arith, c.requires, ap (λ (k : Held). k.len) c.self.view_is, ap (λ (k : Held). k.room) c.self.view_is) in
    let held : c.push_next_by.result ≡ true = elim (cases_Bool c.push_next_by.result) [
      | inl good ↦ good
      | inr lost ↦ absurd (omega (arith, c.push_next_by.ensures.past lost, nim_value-lt v.code n kept.few (omega (arith, room, kept.limited))))
    ] in
    let more : vec_len c.push_next_by.new.self.values ≡ n + 1 = c.push_next_by.ensures.len ∙ ap (λ b. if b then n + 1 else n) held in
    held_is (ap (λ (k : Held). k.code) c.self.view_is) (more ∙ ap (λ (k : Held). k.len + 1) c.self.view_is) (ap (λ (k : Held). k.room) c.self.view_is)

pub invariant_of-self : goal.invariant_of-self
invariant_of-self g c =
    let v = c.self.inside in
    let kept = c.self.invariant in
    let n = vec_len v.row.values in
    let room : n < v.room = omega (arith, c.requires, ap (λ (k : Held). k.len) c.self.view_is, ap (λ (k : Held). k.room) c.self.view_is) in
    let more = c.push_again.ensures.len in
    record {
      few = kept.few;
      row = c.push_again.ensures.row;
      within = omega (arith, room, more);
      reserved = omega (arith, kept.reserved, c.push_again.ensures.room);
      few_used = omega (arith, kept.few_used, c.push_again.ensures.used);
      table = kept.table;
      limited = kept.limited;
      periodic = λ some. goes_on_further v.code n (vec_len c.push_again.new.self.values) v.period (omega (arith, more)) (kept.periodic some);
      tables = λ none. absurd (omega (arith, none, c.if-self-gt0.true));
      narrow = kept.narrow;
      fewer = omega (arith, kept.fewer, more);
    }

-- the tables are right for the values before
pub push_next_by-requires-clause-tables : goal.push_next_by-requires-clause-tables
push_next_by-requires-clause-tables g c =
    let v = c.self.inside in
    let kept = c.self.invariant in
    let all = nim_values v.code (vec_len v.row.values) in
    let mask = v.row.rare.mask in
    let size = vec_len v.tables in
    let first = c.follow_mask.new.tables in
    let rest = drop (length first) v.tables.items in
    let one : length first ≡ size = c.follow_mask.ensures.count ∙ c.deref_mut.ensures.len in
    let now : All (IsTable mask all) first = c.follow_mask.ensures.kept all (subst (All (IsTable v.mask all)) (sym c.deref_mut.ensures.value) (kept.tables (omega arith))) in
    subst₂ (λ xs ys. All (IsTable mask xs) ys) (sym kept.row.values) (sym (c.deref_mut-else-self-gt0.ensures.value ∙ written size first rest one)) now

pub follow-requires-clause-begins : goal.follow-requires-clause-begins
follow-requires-clause-begins g c =
    let v = c.self.inside in
    let kept = c.self.invariant in
    kept.narrow ∙ sym (ap (take (vec_len v.narrow.values)) c.deref.ensures.value ∙ begun v.code (vec_len v.row.values) (vec_len v.narrow.values) v.row.values.items kept.row.values kept.fewer)
