use Rattle.std.proofs.Common.{◌≡◌, ◌+◌, ◌/◌, ◌<◌, ◌⊎◌, if◌then◌else◌, map, slice_index, inl, inr, ap, sym, subst, subst₂, ◌∙◌, arith, vec_len}
use Rattle.std.proofs.lemmas.Bool.{cases_Bool}
use Rattle.std.proofs.lemmas.Nat.{mul-le}
use Rattle.std.specs.List.{All}
use Rattle.oct_code.specs.Code.{len}
use Rattle.oct_mex.specs.Following.{Follows}
use Rattle.oct_mex.specs.Held.{Held}
use Rattle.oct_mex.specs.Mex.{IsMex}
use Rattle.oct_mex.specs.NimValues.{IsOptionValue, nim_value, nim_values}
use Rattle.oct_mex.specs.Periods.{GoesOn}
use Rattle.oct_mex.specs.Totals.{IsTable}
use Rattle.oct_mex.proofs.Bounds.{length-moves, nim_value-le}
use Rattle.oct_mex.proofs.Led.{first_zero, follows_on, leader_mex}
use Rattle.oct_mex.proofs.Pushed.{next_is}
use Rattle.oct_mex.proofs.SeenPeriods.{goes_on_further}
use Rattle.oct_mex.proofs.Tables.{tables_next}
use Rattle.oct_mex.proofs.values.Values.push_led.Goals as goal

pub is_led-requires-clause-empty : goal.is_led-requires-clause-empty
is_led-requires-clause-empty g c =
    subst (λ xs. slice_index (map (λ x. x) xs) 0 ≡ 0) (sym c.deref.ensures.value)
    (first_zero c.self.inside.code (vec_len c.self.inside.row.values) (map (λ x. x) c.self.inside.row.values.items) c.self.invariant.row.values)

-- both games have the same values so far
pub is_led-requires-clause-value : goal.is_led-requires-clause-value
is_led-requires-clause-value g c =
    let v = c.self.inside in
    let n = vec_len v.row.values in
    let leader = c.args.leader.now.code in
    let follows : Follows v.code leader n = subst (λ (k : Held). Follows k.code leader k.len) (sym c.self.view_is) c.requires.follows in
    let is : nim_value leader n ≡ c.value-value.result = ap (nim_value leader) (sym c.len.ensures) ∙ sym c.value-value.ensures in
    let mex = subst (IsMex (IsOptionValue leader (slice_index (map (λ x. x) v.row.values.items)) n)) is
    (leader_mex v.code leader n (map (λ x. x) v.row.values.items) c.self.invariant.row.values follows) in
    let here = subst₂ (λ d xs. IsMex (IsOptionValue d (slice_index (map (λ x. x) xs)) n) c.value-value.result) (sym c.code.ensures) (sym c.deref.ensures.value) mex in
    subst (λ k. IsMex (IsOptionValue c.code.result (slice_index (map (λ x. x) c.deref.result.now)) k) c.value-value.result) (sym c.deref.ensures.len) here

pub push_value-requires-clause-value : goal.push_value-requires-clause-value
push_value-requires-clause-value g c =
    let v = c.self.inside in
    let n = vec_len v.row.values in
    let all = map (λ x. x) v.row.values.items in
    let mex : IsMex (IsOptionValue v.code (slice_index all) n) c.value-value.result =
    subst₂ (λ xs k. IsMex (IsOptionValue v.code (slice_index (map (λ x. x) xs)) k) c.value-value.result) c.deref.ensures.value c.deref.ensures.len (c.is_led.ensures.0 c.if-not-is_led.false) in
    next_is v.code n c.value-value.result all c.self.invariant.row.values mex

pub invariant_of-self : goal.invariant_of-self
invariant_of-self g c =
    let v = c.self.inside in
    let kept = c.self.invariant in
    let n = vec_len v.row.values in
    let row = c.push_value.new.self in
    let m = vec_len row.values in
    let room : n < v.room = omega (arith, c.requires.room, ap (λ (k : Held). k.len) c.self.view_is, ap (λ (k : Held). k.room) c.self.view_is) in
    let wide = mul-le (len v.code + 1) (n / 2 + 1) (len v.code + 1) (v.room / 2 + 1) (omega arith) (omega (arith, room)) in
    let grown : (m ≡ n) ⊎ (m ≡ n + 1) = elim (cases_Bool c.push_value.result) [
      | inl held ↦ inr (c.push_value.ensures.len ∙ ap (λ b. if b then n + 1 else n) held)
      | inr lost ↦ inl (c.push_value.ensures.len ∙ ap (λ b. if b then n + 1 else n) lost)
    ] in
    record {
      few = kept.few;
      row = c.push_value.ensures.row;
      within = elim grown [ inl same ↦ omega (arith, room, same) | inr more ↦ omega (arith, room, more) ];
      reserved = omega (arith, kept.reserved, c.push_value.ensures.room);
      few_used = elim c.push_value.ensures.used [
        | inl same ↦ omega (arith, same, kept.few_used)
        | inr double ↦ omega (arith, double.0, double.1, nim_value-le v.code n, length-moves v.code n, wide)
      ];
      table = kept.table;
      limited = kept.limited;
      periodic = λ some. elim grown [
        | inl same ↦ subst (λ k. GoesOn v.code k v.period) (sym same) (kept.periodic some)
        | inr more ↦ goes_on_further v.code n m v.period (omega (arith, more)) (kept.periodic some)
      ];
      tables = λ none. elim grown [
        | inl same ↦ subst (λ k. All (IsTable v.mask (nim_values v.code k)) v.tables.items) (sym same) (kept.tables none)
        | inr more ↦ tables_next v.mask v.code n m v.tables.items more (kept.tables none)
      ];
      narrow = kept.narrow;
      fewer = elim grown [ inl same ↦ omega (arith, kept.fewer, same) | inr more ↦ omega (arith, kept.fewer, more) ];
    }

pub returns-clause-follows : goal.returns-clause-follows
returns-clause-follows g c = λ pushed.
    let v = c.self.inside in
    let n = vec_len v.row.values in
    let leader = c.args.leader.now.code in
    let follows : Follows v.code leader n = subst (λ (k : Held). Follows k.code leader k.len) (sym c.self.view_is) c.requires.follows in
    let all = map (λ x. x) v.row.values.items in
    let mex : IsMex (IsOptionValue v.code (slice_index all) n) c.value-value.result =
    subst₂ (λ xs k. IsMex (IsOptionValue v.code (slice_index (map (λ x. x) xs)) k) c.value-value.result) c.deref.ensures.value c.deref.ensures.len (c.is_led.ensures.0 c.if-not-is_led.false) in
    let own : c.value-value.result ≡ nim_value v.code n = next_is v.code n c.value-value.result all c.self.invariant.row.values mex in
    let led : c.value-value.result ≡ nim_value leader n = c.value-value.ensures ∙ ap (nim_value leader) c.len.ensures in
    subst (λ (k : Held). Follows k.code leader (k.len + 1)) c.self.view_is (follows_on v.code leader n follows (sym own ∙ led))
