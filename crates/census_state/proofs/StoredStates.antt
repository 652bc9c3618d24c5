-- The text of a state is read as the state, and other bytes are read as none.
use Rattle.std.proofs.Common.{arith, inl, inr, ◌≡◌, ◌≢◌, ℕ, ◌<◌, ◌≤◌, ◌^◌, Bool, true, false, cond, List, ◌++◌, length, take, drop, Option, Some, None, Result, Ok, Err, refl, sym, ap, subst, ◌∙◌, append_assoc, nat_eq, nat_lt}
use Rattle.std.specs.Prelude.{◌↔◌, option_map}
use Rattle.std.specs.Int.{w32, from_be_bytes}
use Rattle.std.specs.List.{All}
use Rattle.std.proofs.lemmas.Bool.{le-ltb, ltb-false, ne_eqb, eqb-false}
use Rattle.std.proofs.lemmas.List.{take_at, drop_at, take-append-drop, length-append, length-take}
use Rattle.std.proofs.lemmas.Nat.{be_bytes_4, from_be_bytes-to_be_bytes_4}
use Rattle.oct_ops.specs.Body.{Operation}
use Rattle.oct_ops.specs.Operations.{Operations, listed, set_of}
use Rattle.oct_ops.specs.OrderLaws.{op_cmp_total, op_cmp_exact}
use Rattle.oct_ops.specs.SetLaws.{listed-set_of, set_of-listed}
use Rattle.oct_ops.specs.Valid.{IsOp, IsU32}
use Rattle.oct_delta.specs.Bytes.{IsBytes}
use Rattle.oct_delta.specs.Decoding.{read_delta}
use Rattle.oct_delta.specs.Delta.{IsDeltaText}
use Rattle.oct_delta.specs.State.{IsState, state_tag}
use Rattle.oct_delta.specs.Text.{Bytes, u32}
use Rattle.oct_delta.proofs.Codecs.{IsBytes-drop, IsBytes-take}
use Rattle.oct_delta.proofs.Deltas.{Law, tag_there, text_rising}
use Rattle.oct_record.specs.Content.{RecordContent}
use Rattle.oct_record.specs.States.{RefusesState, has_tag}
use Rattle.oct_record.specs.declared.error.LoadError.{LoadError}
use Rattle.oct_record.specs.declared.error.LoadError.TheVariants.{Version, Refused, OutOfMemory}
use Rattle.census_state.specs.Refusals.{load_fault}
use Rattle.census_state.specs.Steps.{found}
use Rattle.census_state.specs.Stored.{loaded, read_authored, read_held}
use Rattle.census_state.specs.declared.fault.Fault.{Fault}
use Rattle.census_state.specs.declared.fault.Fault.TheVariants as fault

-- each operation of a text is valid
pub valid_each : (bytes : Bytes) (ops : List Operation) → IsDeltaText bytes ops → All IsOp ops
valid_each bytes ops (inl d) i o lt = (d.list.each i o lt).valid
valid_each bytes ops (inr d) i o lt = (d.list.each i o lt).valid

-- each operation of a state is valid
pub state_valid : (bytes : Bytes) (author : ℕ) (ops : Operations) → IsState bytes author ops → All IsOp (listed ops)
state_valid bytes author ops s = valid_each s.rest (listed ops) s.list

-- ---- a text is read

module _ (law : Law) where
  held_read : (author : ℕ) (rest : Bytes) (ops : Operations) → IsBytes rest → IsDeltaText rest (listed ops) → read_held author rest ≡ Some (record { author = author; ops = ops })
  held_read author rest ops are text =
      ap (option_map (λ (l : List Operation). record { author = author; ops = set_of l })) ((law rest (listed ops) are).1 text)
      ∙ ap (λ (s : Operations). Some (record { author = author; ops = s })) (set_of-listed op_cmp_total op_cmp_exact ops)

  authored_read : (author : ℕ) (rest : Bytes) (ops : Operations) → 1 ≤ author → IsU32 author → IsBytes rest → IsDeltaText rest (listed ops) → read_authored (u32 author ++ rest) ≡ Some (record { author = author; ops = ops })
  authored_read author rest ops some fits are text =
      let long : nat_lt (length (u32 author ++ rest)) 4 ≡ false = le-ltb _ _ (omega (arith, length-append (u32 author) rest)) in
      let number : from_be_bytes w32 (take 4 (u32 author ++ rest)) ≡ author = ap (from_be_bytes w32) (take_at (u32 author) rest 4 refl) ∙ from_be_bytes-to_be_bytes_4 author fits in
      let filled : nat_eq author 0 ≡ false = ne_eqb author 0 (λ e. omega (arith, e, some)) in
      let none : Option RecordContent = None in
      (λ i. cond (long i) none (cond (nat_eq (number i) 0) none (read_held (number i) (drop_at (u32 author) rest 4 refl i))))
      ∙ ap (λ b. cond b none (read_held author rest)) filled
      ∙ held_read author rest ops are text

  pub state_read : (bytes : Bytes) (author : ℕ) (ops : Operations) → IsBytes bytes → IsState bytes author ops → loaded bytes ≡ Ok (record { author = author; ops = ops })
  state_read bytes author ops are s =
      let spelled : bytes ≡ state_tag ++ (u32 author ++ s.rest) = s.spelled ∙ append_assoc state_tag (u32 author) s.rest in
      let rest_is : drop 8 bytes ≡ s.rest = ap (drop 8) spelled ∙ drop_at (u32 author) s.rest 4 refl in
      ap loaded spelled
      ∙ ap (found (fault.Load Refused)) (authored_read author s.rest ops s.author_fits.0 s.author_fits.1 (subst IsBytes rest_is (IsBytes-drop 8 bytes are)) s.list)

-- ---- what is read is a text

guard_some : {A : Type 0} (b : Bool) (o : Option A) (x : A) → cond b None o ≡ Some x → (b ≡ false) × (o ≡ Some x)
guard_some true o x e = absurd cc
guard_some false o x e = (refl, e)

option_of : {A B : Type 0} (f : A → B) (o : Option A) (y : B) → option_map f o ≡ Some y → (x : A) × (o ≡ Some x) × (f x ≡ y)
option_of f None y e = absurd cc
option_of f (Some x) y e = (x, refl, cc)

positive : (n : ℕ) → nat_eq n 0 ≡ false → 1 ≤ n
positive n h = let other : n ≢ 0 = eqb-false n 0 h in omega (arith, other)

err_ok : {r : RecordContent} {e : Fault} → ◌≡◌ {A = Result RecordContent Fault} (Err e) (Ok r) → ⊥
err_ok e = cc

some_of : {q r : RecordContent} → ◌≡◌ {A = Result RecordContent Fault} (Ok q) (Ok r) → Some q ≡ Some r
some_of e = cc

module _ (law : Law) where
  -- the bytes after a tag
  authored_state : (bytes : Bytes) (r : RecordContent) → IsBytes bytes → has_tag bytes ≡ true → read_authored (drop 4 bytes) ≡ Some r → IsState bytes r.author r.ops
  authored_state bytes r are tagged read =
      let found_bytes = drop 4 bytes in
      let author = from_be_bytes w32 (take 4 found_bytes) in
      let fits = IsBytes-drop 4 bytes are in
      let held = read_held author (drop 4 found_bytes) in
      let none : Option RecordContent = None in
      let long = guard_some (nat_lt (length found_bytes) 4) (cond (nat_eq author 0) none held) r read in
      let some = guard_some (nat_eq author 0) held r long.1 in
      let list = option_of (λ (l : List Operation). record { author = author; ops = set_of l }) (read_delta (drop 4 found_bytes)) r some.1 in
      let text = (law (drop 4 found_bytes) list.0 (IsBytes-drop 4 found_bytes fits)).0 list.1 in
      let enough : 4 ≤ length found_bytes = ltb-false _ _ long.0 in
      let front : u32 author ≡ take 4 found_bytes = be_bytes_4 (take 4 found_bytes) author (omega (arith, length-take 4 found_bytes)) (IsBytes-take 4 found_bytes fits) refl in
      let below : (bs : Bytes) → IsBytes bs → from_be_bytes w32 bs < 2 ^ 32 = λ bs are. omega (arith, are 0, are 1, are 2, are 3) in
      subst (λ (q : RecordContent). IsState bytes q.author q.ops) list.2 (record {
        author_fits = (positive author some.0, below (take 4 found_bytes) (IsBytes-take 4 found_bytes fits));
        rest = drop 4 found_bytes;
        list = subst (λ (l : List Operation). IsDeltaText (drop 4 found_bytes) l) (sym (listed-set_of op_cmp_total op_cmp_exact list.0 (text_rising (drop 4 found_bytes) list.0 text))) text;
        spelled =
            tag_there state_tag bytes tagged
            ∙ ap (λ (z : Bytes). state_tag ++ z) (sym (take-append-drop 4 found_bytes) ∙ ap (λ (z : Bytes). z ++ drop 4 found_bytes) (sym front))
            ∙ sym (append_assoc state_tag (u32 author) (drop 4 found_bytes));
      })

  none_read : (bytes : Bytes) → IsBytes bytes → has_tag bytes ≡ true → ((author : ℕ) (ops : Operations) → ¬ IsState bytes author ops) → read_authored (drop 4 bytes) ≡ None
  none_read bytes are tagged none = by (read_authored (drop 4 bytes)) refl
    where
      by : (o : Option RecordContent) → read_authored (drop 4 bytes) ≡ o → o ≡ None
      by None h = refl
      by (Some r) h = absurd (none r.author r.ops (authored_state bytes r are tagged h))

  -- what is read is a text
  loaded_state : (bytes : Bytes) (r : RecordContent) → IsBytes bytes → loaded bytes ≡ Ok r → IsState bytes r.author r.ops
  loaded_state bytes r are read = by (has_tag bytes) refl (read_authored (drop 4 bytes)) refl
    where
      by : (b : Bool) → has_tag bytes ≡ b → (o : Option RecordContent) → read_authored (drop 4 bytes) ≡ o → IsState bytes r.author r.ops
      by false untagged o h = absurd (err_ok (sym (ap (λ b. cond b (found (fault.Load Refused) (read_authored (drop 4 bytes))) (Err (fault.Load Version))) untagged) ∙ read))
      by true tagged o h = of o h (sym (ap (λ b. cond b (found (fault.Load Refused) (read_authored (drop 4 bytes))) (Err (fault.Load Version))) tagged) ∙ read)
        where
          of : (o : Option RecordContent) → read_authored (drop 4 bytes) ≡ o → found (fault.Load Refused) (read_authored (drop 4 bytes)) ≡ Ok r → IsState bytes r.author r.ops
          of None h is = absurd (err_ok (sym (ap (found (fault.Load Refused)) h) ∙ is))
          of (Some q) h is = authored_state bytes r are tagged (h ∙ some_of (sym (ap (found (fault.Load Refused)) h) ∙ is))

  pub states_read : (bytes : Bytes) (r : RecordContent) → IsBytes bytes → (loaded bytes ≡ Ok r) ↔ IsState bytes r.author r.ops
  states_read bytes r are = (loaded_state bytes r are, state_read law bytes r.author r.ops are)

  -- a refusal that is not want of memory is the one that reading gives
  pub state_refused : (bytes : Bytes) (e : LoadError) → IsBytes bytes → RefusesState bytes e → load_fault e ≢ fault.OutOfMemory → loaded bytes ≡ Err (load_fault e)
  state_refused bytes Version are h other = ap (λ b. cond b (found (fault.Load Refused) (read_authored (drop 4 bytes))) (Err (fault.Load Version))) h
  state_refused bytes Refused are h other =
      ap (λ b. cond b (found (fault.Load Refused) (read_authored (drop 4 bytes))) (Err (fault.Load Version))) h.0
      ∙ ap (found (fault.Load Refused)) (none_read bytes are h.0 h.1)
  state_refused bytes OutOfMemory are h other = absurd (other refl)
