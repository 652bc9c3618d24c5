-- What a reader may say of the bytes that were fed.
use Rattle.std.proofs.Common.{◌≡◌, ℕ, suc, ◌-◌, ◌+◌, ◌^◌, ◌≤◌, ◌<◌, ◌↔◌, true, false, eqb, List, [], ◌∷◌, ◌++◌, length, drop, Option, Some, None, Result, Ok, Err, refl, sym, ap, subst, ◌∙◌, append_assoc, arith, inl, inr}
use Rattle.std.specs.Int.{w32}
use Rattle.std.specs.Prelude.{IfSome, IsErrOf, IsErrAnd}
use Rattle.std.specs.List.{flat_map}
use Rattle.std.proofs.lemmas.Bool.{false≢true, cases_lt}
use Rattle.std.proofs.lemmas.Result.{err_from_is_err_and}
use Rattle.std.proofs.lemmas.List.{append-nil, length-append, drop_at}
use Rattle.std.proofs.lemmas.Grind.{flat_map-append}
use Rattle.std.proofs.lemmas.List.Elements.{All-from_recursion, recursion_from_All}
use Rattle.oct_ops.specs.Body.{Operation}
use Rattle.oct_ops.specs.Order.{op_cmp}
use Rattle.oct_ops.specs.OrderLaws.{op_cmp_total}
use Rattle.oct_delta.specs.declared.encoding.TheConstants.{MAX_OP_SIZE}
use Rattle.oct_delta.specs.declared.fault.TextFault.{TextFault}
use Rattle.oct_delta.specs.declared.fault.TextFault.TheVariants.{Short, Malformed}
use Rattle.oct_delta.specs.declared.fault.ReadError.{ReadError}
use Rattle.oct_delta.specs.declared.fault.ReadError.TheVariants as errors
use Rattle.oct_delta.specs.declared.error.DeltaError.{DeltaError}
use Rattle.oct_delta.specs.declared.error.DeltaError.TheVariants as faults
use Rattle.oct_delta.specs.declared.format.Edition.{Edition}
use Rattle.oct_delta.specs.declared.format.Edition.TheVariants.{First, Second}
use Rattle.oct_delta.specs.declared.state.Arrived.{Arrived}
use Rattle.oct_delta.specs.declared.state.ReaderState.{ReaderState}
use Rattle.oct_delta.specs.declared.state.ReaderState.TheVariants.{Reading, Failed}
use Rattle.oct_delta.specs.Bytes.{IsBytes}
use Rattle.oct_delta.specs.Text.{Bytes, u32, op_bytes, list_bytes}
use Rattle.oct_delta.specs.Delta.{Fits, IsList, IsDeltaText}
use Rattle.oct_delta.specs.Formats.{format}
use Rattle.oct_delta.specs.Reading.{Read, Fails, with_front, number_at, op_at, next_at, next_op_at, chain_at}
use Rattle.oct_delta.specs.Streaming.{whole_at, last_of, AreWhole}
use Rattle.oct_delta.specs.ReaderState.{begun_bytes, fed, BeginsList, IsPartial, IsReaderState, HasTag, IsHopeless, Tells}
use Rattle.oct_delta.proofs.Codecs.{Chained, number_codec, wide32, ok_is, done, failed}
use Rattle.oct_delta.proofs.Bounds.{short_op}
use Rattle.oct_delta.proofs.Chains.{each_from_chain, rises_from_chain, chain_from_rising}
use Rattle.oct_delta.proofs.Formats.{op_codec, ops_codec, IsNextOp}
use Rattle.oct_delta.proofs.Lists.{count_again, ops_again}
use Rattle.oct_delta.proofs.Deltas.{low, named, list_of_text, text_of_list}
use Rattle.oct_delta.proofs.Wholes.{whole_takes, whole_refuses, last_after-none, chained-append, chain_through}

pub with_front_ok : (front all : List Operation) (after : List ℕ) (read : Read (List Operation)) → with_front front read ≡ Ok (all, after) → (new : List Operation) × (read ≡ Ok (new, after)) × (front ++ new ≡ all)
with_front_ok front all after (Ok x) e =
    let same = ok_is (front ++ x.0, x.1) (all, after) e in
    (x.0, ap (λ (z : List ℕ). let w : List Operation × List ℕ = (x.0, z) in Ok w) (ap (λ (w : List Operation × List ℕ). w.1) same), ap (λ (w : List Operation × List ℕ). w.0) same)
with_front_ok front all after (Err f) e = absurd cc

pub with_front_err : (front : List Operation) (f : TextFault) (read : Read (List Operation)) → with_front front read ≡ Err f → read ≡ Err f
with_front_err front f (Ok x) e = absurd cc
with_front_err front f (Err g) e = ap (λ (h : TextFault). failed {A = List Operation × List ℕ} h) (let same : g ≡ f = cc in same)

no_end : (front other : List Operation) → with_front front (failed Malformed) ≡ done (other, []) → ⊥
no_end front other e = cc

no_short : (front other : List Operation) → with_front front (failed Short) ≡ done (other, []) → ⊥
no_short front other e = cc

nil_front : (a b : List ℕ) → a ++ b ≡ [] → eqb (length a) 0 ≡ true
nil_front [] b e = refl
nil_front (x ∷ a) b e = absurd cc

next_is_short : (limit : ℕ) (before : Option Operation) (rest : List ℕ) → op_at limit rest ≡ Err Short → next_op_at limit before rest ≡ Err Short
unfolding next_at
next_is_short limit before rest e = rw e refl

pub fails_fault : {A : Type 0} (e : ReadError) (f : TextFault) (read : Result A TextFault) → e ≡ errors.Fault f → Fails e read → read ≡ Err f
fails_fault {A} e f read is h = subst (λ (x : ReadError). Fails x read) is h

pub has_tag : (e : Edition) (list : Bytes) → HasTag ((format e).tag ++ list)
has_tag First list = refl
has_tag Second list = refl

module _ (e : Edition) where
  abbrev limit : ℕ
  limit = (format e).limit

  chained : (count : ℕ) (ops : List Operation) → BeginsList limit count ops → Chained (IsNextOp limit) None ops
  chained count ops b = chain_from_rising op_cmp (Fits limit) ops (recursion_from_All (Fits limit) ops b.each) b.rising

  -- the operations that came now, after those that were there
  partial_after : (count : ℕ) (ops : List Operation) (rest : List ℕ) (new : List Operation) (after : List ℕ) → BeginsList limit count ops → IsBytes rest → whole_at limit (last_of ops) (count - length ops) rest ≡ Ok (new, after)
      → (length (ops ++ new) ≡ count → after ≡ []) → IsPartial limit count (ops ++ new) after × (begun_bytes e count (ops ++ new) after ≡ begun_bytes e count ops rest)
  partial_after count ops rest new after b fits read ended =
      let t = whole_takes limit (low e) (last_of ops) (count - length ops) rest (new, after) fits read in
      let all : Chained (IsNextOp limit) None (ops ++ new) = chained-append limit None ops new (chained count ops b) (subst (λ (o : Option Operation). Chained (IsNextOp limit) o new) (sym (last_after-none ops)) t.chained) in
      let len : length (ops ++ new) ≡ length ops + length new = length-append ops new in
      let few : length (ops ++ new) ≤ count = omega (arith, len, t.few, b.few) in
      let whole : flat_map op_bytes (ops ++ new) ++ after ≡ flat_map op_bytes ops ++ rest =
      ap (λ (z : List ℕ). z ++ after) (flat_map-append op_bytes ops new) ∙ append_assoc (flat_map op_bytes ops) (flat_map op_bytes new) after ∙ ap (λ (z : List ℕ). flat_map op_bytes ops ++ z) (sym t.takes.parts) in (
        record {
          begins = record { count_fits = b.count_fits; few = few; each = All-from_recursion (Fits limit) (ops ++ new) (each_from_chain op_cmp (Fits limit) None (ops ++ new) all); rising = rises_from_chain op_cmp (Fits limit) op_cmp_total None (ops ++ new) all };
          small = elim (cases_lt (length (ops ++ new)) count) [
            | inl lt ↦ short_op limit after t.takes.rest_fits (t.short (omega (arith, lt, len)))
            | inr le ↦ few_left after (ended (omega (arith, le, few)))
          ];
          short = λ lt. t.short (omega (arith, lt, len));
          ended = ended;
        },
        ap (λ (z : List ℕ). (format e).tag ++ (u32 count ++ z)) whole,
      )
    where
      few_left : (after : List ℕ) → after ≡ [] → length after < MAX_OP_SIZE
      few_left after none = rw none (omega arith)

  -- a text that goes on from the bytes so far
  continued : (count : ℕ) (ops : List Operation) (rest more : List ℕ) (other : List Operation) → BeginsList limit count ops → IsDeltaText (begun_bytes e count ops rest ++ more) other
      → with_front ops (chain_at (next_op_at limit) (last_of ops) (count - length ops) (rest ++ more)) ≡ Ok (other, [])
  continued count ops rest more other b is =
      let z = flat_map op_bytes ops ++ (rest ++ more) in
      let left : begun_bytes e count ops rest ++ more ≡ (format e).tag ++ (u32 count ++ z) =
      append_assoc (format e).tag (u32 count ++ (flat_map op_bytes ops ++ rest)) more
      ∙ ap (λ (y : List ℕ). (format e).tag ++ y) (append_assoc (u32 count) (flat_map op_bytes ops ++ rest) more ∙ ap (λ (y : List ℕ). u32 count ++ y) (append_assoc (flat_map op_bytes ops) rest more)) in
      let held : IsList limit (u32 count ++ z) other = list_of_text e (begun_bytes e count ops rest ++ more) (u32 count ++ z) other left is in
      let list : IsList limit (list_bytes other) other = record { list = held.list; spelled = refl } in
      let counts = ok_is (count, z) (length other, flat_map op_bytes other) (sym ((number_codec wide32).again count z b.count_fits) ∙ ap (number_at w32) held.spelled ∙ count_again limit (list_bytes other) other list) in
      let n : count ≡ length ops + (count - length ops) = omega (arith, b.few) in
      ap (λ (o : Option Operation). with_front ops (chain_at (next_op_at limit) o (count - length ops) (rest ++ more))) (sym (last_after-none ops))
      ∙ sym (chain_through limit (low e) None ops (count - length ops) (rest ++ more) (chained count ops b))
      ∙ ap (λ (m : ℕ). chain_at (next_op_at limit) None m z) (sym n)
      ∙ ap (λ (x : ℕ × List ℕ). chain_at (next_op_at limit) None x.0 x.1) counts
      ∙ ops_again limit (low e) (list_bytes other) other list

  hopeless_refused : (count : ℕ) (ops : List Operation) (rest : List ℕ) (f : TextFault) → BeginsList limit count ops → IsBytes rest → whole_at limit (last_of ops) (count - length ops) rest ≡ Err f → IsHopeless (begun_bytes e count ops rest)
  hopeless_refused count ops rest f b fits read more other is =
      no_end ops other (ap (with_front ops) (sym (whole_refuses limit (low e) (last_of ops) (count - length ops) rest more f fits read)) ∙ continued count ops rest more other b is)

  hopeless_rest : (count : ℕ) (ops : List Operation) (rest : List ℕ) (new : List Operation) (after : List ℕ) → BeginsList limit count ops → IsBytes rest → whole_at limit (last_of ops) (count - length ops) rest ≡ Ok (new, after)
      → length (ops ++ new) ≡ count → eqb (length after) 0 ≡ false → IsHopeless (begun_bytes e count ops rest)
  hopeless_rest count ops rest new after b fits read full left more other is =
      let t = whole_takes limit (low e) (last_of ops) (count - length ops) rest (new, after) fits read in
      let len : length (ops ++ new) ≡ length ops + length new = length-append ops new in
      let n : length new ≡ count - length ops = omega (arith, len, full) in
      let grouped : rest ++ more ≡ flat_map op_bytes new ++ (after ++ more) = ap (λ (z : List ℕ). z ++ more) t.takes.parts ∙ append_assoc (flat_map op_bytes new) after more in
      let again : chain_at (next_op_at limit) (last_of ops) (count - length ops) (rest ++ more) ≡ Ok (new, after ++ more) =
      ap (chain_at (next_op_at limit) (last_of ops) (count - length ops)) grouped ∙ (ops_codec limit (low e) (last_of ops) (count - length ops)).again new (after ++ more) (n, t.chained) in
      let both = ok_is (ops ++ new, after ++ more) (other, []) (ap (with_front ops) (sym again) ∙ continued count ops rest more other b is) in
      false≢true (sym left ∙ nil_front after more (ap (λ (x : List Operation × List ℕ). x.1) both))

  -- ---- a step of the reader

  pub reads_on_refused : (count : ℕ) (ops : List Operation) (rest bytes : List ℕ) (f : TextFault) → BeginsList limit count ops → bytes ≡ rest → IsBytes bytes → with_front ops (whole_at limit (last_of ops) (count - length ops) bytes) ≡ Err f → IsHopeless (begun_bytes e count ops rest)
  reads_on_refused count ops rest bytes f b is fits read =
      subst (λ (z : List ℕ). IsHopeless (begun_bytes e count ops z)) is (hopeless_refused count ops bytes f b fits (with_front_err ops f (whole_at limit (last_of ops) (count - length ops) bytes) read))

  pub reads_on_rest : (count : ℕ) (ops : List Operation) (rest bytes : List ℕ) (all : List Operation) (after : List ℕ) → BeginsList limit count ops → bytes ≡ rest → IsBytes bytes → with_front ops (whole_at limit (last_of ops) (count - length ops) bytes) ≡ Ok (all, after)
      → length all ≡ count → eqb (length after) 0 ≡ false → IsHopeless (begun_bytes e count ops rest)
  reads_on_rest count ops rest bytes all after b is fits read full left =
      let new = with_front_ok ops all after (whole_at limit (last_of ops) (count - length ops) bytes) read in
      subst (λ (z : List ℕ). IsHopeless (begun_bytes e count ops z)) is (hopeless_rest count ops bytes new.0 after b fits new.1 (ap length new.2 ∙ full) left)

  pub reads_on : (count : ℕ) (ops : List Operation) (rest bytes : List ℕ) (all : List Operation) (after kept : List ℕ) → BeginsList limit count ops → bytes ≡ rest → IsBytes bytes → with_front ops (whole_at limit (last_of ops) (count - length ops) bytes) ≡ Ok (all, after)
      → (length all ≡ count → after ≡ []) → kept ≡ after → IsPartial limit count all kept × (begun_bytes e count all kept ≡ begun_bytes e count ops rest)
  reads_on count ops rest bytes all after kept b is fits read ended same =
      let new = with_front_ok ops all after (whole_at limit (last_of ops) (count - length ops) bytes) read in
      let made = partial_after count ops bytes new.0 after b fits new.1 (λ full. ended (sym (ap length new.2) ∙ full)) in
      let found : IsPartial limit count all after × (begun_bytes e count all after ≡ begun_bytes e count ops rest) =
      subst (λ (z : List ℕ). IsPartial limit count all after × (begun_bytes e count all after ≡ begun_bytes e count ops z)) is
      (subst (λ (z : List Operation). IsPartial limit count z after × (begun_bytes e count z after ≡ begun_bytes e count ops bytes)) new.2 made) in
      subst (λ (z : List ℕ). IsPartial limit count all z × (begun_bytes e count all z ≡ begun_bytes e count ops rest)) (sym same) found

  -- what is left is the end of what there was
  pub left_at_end : (count : ℕ) (ops : List Operation) (rest bytes : List ℕ) (all : List Operation) (after : List ℕ) → bytes ≡ rest → IsBytes bytes → with_front ops (whole_at limit (last_of ops) (count - length ops) bytes) ≡ Ok (all, after)
      → (front : List ℕ) × (rest ≡ front ++ after)
  left_at_end count ops rest bytes all after is fits read =
      let new = with_front_ok ops all after (whole_at limit (last_of ops) (count - length ops) bytes) read in
      let t = whole_takes limit (low e) (last_of ops) (count - length ops) bytes (new.0, after) fits new.1 in
      (flat_map op_bytes new.0, sym is ∙ t.takes.parts)

  -- the tag, the count and what follows
  pub begins_with : (bytes list input rest : List ℕ) (count : ℕ) (none : List Operation) (kept : List ℕ) → bytes ≡ (format e).tag ++ list → input ≡ list → IsBytes input → number_at w32 input ≡ Ok (count, rest) → none ≡ [] → kept ≡ rest → begun_bytes e count none kept ≡ bytes
  begins_with bytes list input rest count none kept is f fits read g h =
      let t = (number_codec wide32).takes input (count, rest) fits read in
      ap (λ (ops : List Operation). begun_bytes e count ops kept) g ∙ ap (λ (z : List ℕ). begun_bytes e count [] z) h ∙ ap (λ (z : List ℕ). (format e).tag ++ z) (sym t.0.parts ∙ f) ∙ sym is

  -- ---- what is there at the end, and in between

  pub unfinished : (count : ℕ) (ops : List Operation) (rest : List ℕ) → IsPartial limit count ops rest → length ops < count → (other : List Operation) → IsDeltaText (begun_bytes e count ops rest) other → ⊥
  unfolding chain_at
  unfinished count ops rest p lt other is =
      let goes_on = continued count ops rest [] other p.begins (subst (λ (z : List ℕ). IsDeltaText z other) (sym (append-nil (begun_bytes e count ops rest))) is) in
      let k : count - length ops ≡ suc (count - length ops - 1) = omega (arith, lt) in
      let short : next_op_at limit (last_of ops) (rest ++ []) ≡ Err Short = ap (next_op_at limit (last_of ops)) (append-nil rest) ∙ next_is_short limit (last_of ops) rest (p.short lt) in
      let stops : chain_at (next_op_at limit) (last_of ops) (count - length ops) (rest ++ []) ≡ failed Short = rw (k, short) refl in
      no_short ops other (ap (with_front ops) (sym stops) ∙ goes_on)

  -- all that was to come has come
  pub text_at_end : (count : ℕ) (ops : List Operation) (rest : List ℕ) → IsPartial limit count ops rest → count ≤ length ops → IsDeltaText (begun_bytes e count ops rest) ops
  text_at_end count ops rest p le =
      let full : length ops ≡ count = omega (arith, le, p.begins.few) in
      let few : length ops < 2 ^ 32 = omega (arith, full, p.begins.count_fits) in
      let spelled : u32 count ++ (flat_map op_bytes ops ++ rest) ≡ list_bytes ops =
      ap (λ (z : Bytes). u32 count ++ (flat_map op_bytes ops ++ z)) (p.ended full) ∙ ap (λ (z : Bytes). u32 count ++ z) (append-nil (flat_map op_bytes ops)) ∙ ap (λ (k : ℕ). u32 k ++ flat_map op_bytes ops) (sym full) in
      text_of_list e (begun_bytes e count ops rest) (u32 count ++ (flat_map op_bytes ops ++ rest)) ops refl (record { list = record { few = few; each = p.begins.each; rising = p.begins.rising }; spelled = spelled })

  short_no_op : (rest : List ℕ) → op_at limit rest ≡ Err Short → (op : Operation) (after : List ℕ) → Fits limit op → rest ≡ op_bytes op ++ after → ⊥
  short_no_op rest is op after fits parts = is_short (sym is ∙ ap (op_at limit) parts ∙ (op_codec limit (low e)).again op after fits)
    where
      is_short : failed {A = Operation × List ℕ} Short ≡ done (op, after) → ⊥
      is_short e = cc

  pub are_whole : (count : ℕ) (ops : List Operation) (rest : List ℕ) → IsPartial limit count ops rest → AreWhole (begun_bytes e count ops rest) ops
  are_whole count ops rest p = record {
    early = λ lt. absurd (long (format e).tag (u32 count) (flat_map op_bytes ops ++ rest) (tag_length e) refl lt);
    late = λ _. record {
      format = format e;
      named = named e (u32 count ++ (flat_map op_bytes ops ++ rest));
      count = count;
      count_fits = p.begins.count_fits;
      rest = rest;
      spelled = grouped;
      each = p.begins.each;
      rising = p.begins.rising;
      few = p.begins.few;
      ended = p.ended;
      small = p.small;
      unfinished = λ lt. short_no_op rest (p.short lt);
    };
  }
    where
      tag_length : (e : Edition) → length (format e).tag ≡ 4
      tag_length First = refl
      tag_length Second = refl

      long : (a b c : Bytes) → length a ≡ 4 → length b ≡ 4 → length (a ++ (b ++ c)) < 8 → ⊥
      long a b c p q lt = omega (arith, p, q, lt, length-append a (b ++ c), length-append b c)

      grouped : begun_bytes e count ops rest ≡ (format e).tag ++ u32 count ++ flat_map op_bytes ops ++ rest
      grouped = sym (append_assoc (format e).tag (u32 count) (flat_map op_bytes ops ++ rest)) ∙ sym (append_assoc ((format e).tag ++ u32 count) (flat_map op_bytes ops) rest)

pub begins_none : (limit count : ℕ) (bytes rest : List ℕ) (ops : List Operation) → IsBytes bytes → number_at w32 bytes ≡ Ok (count, rest) → ops ≡ [] → BeginsList limit count ops
begins_none limit count bytes rest ops fits read none =
    let t = (number_codec wide32).takes bytes (count, rest) fits read in
    subst (BeginsList limit count) (sym none) (record { count_fits = t.1; few = omega arith; each = All-from_recursion (Fits limit) [] tt; rising = refl })

pub kept_is : (front after rest kept now : List ℕ) (n : ℕ) → rest ≡ front ++ after → now ≡ after → n ≡ length rest → kept ≡ drop (n - length now) rest → kept ≡ after
kept_is front after rest kept now n parts is len e =
    let whole : length rest ≡ length front + length after = ap length parts ∙ length-append front after in
    let same : length now ≡ length after = ap length is in
    let place : length front ≡ n - length now = omega arith in
    e ∙ ap (drop (n - length now)) parts ∙ drop_at front after (n - length now) place

pub left_within : (front after rest now : List ℕ) → rest ≡ front ++ after → now ≡ after → length now ≤ length rest
left_within front after rest now parts is =
    let whole : length rest ≡ length front + length after = ap length parts ∙ length-append front after in
    let same : length now ≡ length after = ap length is in
    omega arith

-- ---- what a state tells

pub unfinished_here : {A : Type 0} (s : ReaderState A) (p : Arrived A) → s ≡ Reading p → IsReaderState s → length p.ops.items < p.count
    → IfSome (fed s) (λ bytes. HasTag bytes × ((other : List Operation) → ¬ IsDeltaText bytes other))
unfinished_here {A} s p is held lt =
    subst (λ (z : ReaderState A). IsReaderState z → IfSome (fed z) (λ bytes. HasTag bytes × ((other : List Operation) → ¬ IsDeltaText bytes other))) (sym is)
    (λ q. (has_tag p.edition _, unfinished p.edition p.count p.ops.items p.rest.items q lt)) held

pub finished_here : {A : Type 0} (s : ReaderState A) (p : Arrived A) (list : List Operation) → s ≡ Reading p → IsReaderState s → p.count ≤ length p.ops.items → list ≡ p.ops.items → IfSome (fed s) (λ bytes. IsDeltaText bytes list)
finished_here {A} s p list is held le same =
    subst (λ (z : List Operation). IfSome (fed s) (λ bytes. IsDeltaText bytes z)) (sym same)
    (subst (λ (z : ReaderState A). IsReaderState z → IfSome (fed z) (λ bytes. IsDeltaText bytes p.ops.items)) (sym is) (λ q. text_at_end p.edition p.count p.ops.items p.rest.items q le) held)

pub whole_here : {A : Type 0} (s : ReaderState A) (p : Arrived A) (value : Option (List ℕ)) (items : List Operation) → s ≡ Reading p → IsReaderState s → fed s ≡ value → items ≡ p.ops.items → IfSome value (λ bytes. AreWhole bytes items)
whole_here {A} s p value items is held view same =
    subst (λ (v : Option (List ℕ)). IfSome v (λ bytes. AreWhole bytes items)) view
    (subst (λ (z : List Operation). IfSome (fed s) (λ bytes. AreWhole bytes z)) (sym same)
    (subst (λ (z : ReaderState A). IsReaderState z → IfSome (fed z) (λ bytes. AreWhole bytes p.ops.items)) (sym is) (λ q. are_whole p.edition p.count p.ops.items p.rest.items q) held))

-- ---- what a step tells of a piece

pub told : {A : Type 0} (r : Result (ReaderState A) DeltaError) (s : ReaderState A) (old now piece : List ℕ) → fed s ≡ Some old → now ≡ old ++ piece → Tells r now → IfSome (fed s) (λ bytes. Tells r (bytes ++ piece))
told {A} r s old now piece is same t = subst (λ (v : Option (List ℕ)). IfSome v (λ bytes. Tells r (bytes ++ piece))) (sym is) (subst (Tells r) same t)

pub no_room_tells : {A : Type 0} (r : Result (ReaderState A) DeltaError) (bytes : List ℕ) → IsErrAnd r (λ e. e ≡ faults.OutOfMemory) → Tells r bytes
no_room_tells {A} r bytes h =
    let p = err_from_is_err_and r h in
    subst (λ (z : Result (ReaderState A) DeltaError). Tells z bytes) (sym p.1) (subst (λ (z : DeltaError). Tells {A = A} (Err z) bytes) (sym p.2) tt)

-- a step that tells of bytes did not fail before
pub told_unfailed : {A : Type 0} (r : Result (ReaderState A) DeltaError) (s : ReaderState A) (old now : List ℕ) → fed s ≡ Some old → Tells r now → IsErrOf r faults.Failed ↔ (fed s ≡ None)
told_unfailed {A} r s old now is t = (λ e. absurd (subst (λ (z : Result (ReaderState A) DeltaError). Tells z now) e t), λ e. absurd (is_some old (sym is ∙ e)))
  where
    is_some : (bytes : List ℕ) → Some bytes ≡ None → ⊥
    is_some bytes e = cc

pub begun_more : (e : Edition) (count : ℕ) (ops : List Operation) (rest piece now : List ℕ) → now ≡ rest ++ piece → begun_bytes e count ops now ≡ begun_bytes e count ops rest ++ piece
begun_more e count ops rest piece now is =
    ap (begun_bytes e count ops) is
    ∙ sym (
    append_assoc (format e).tag (u32 count ++ (flat_map op_bytes ops ++ rest)) piece
    ∙ ap (λ (y : List ℕ). (format e).tag ++ y) (append_assoc (u32 count) (flat_map op_bytes ops ++ rest) piece ∙ ap (λ (y : List ℕ). u32 count ++ y) (append_assoc (flat_map op_bytes ops) rest piece))
    )

pub begins_still : {A : Type 0} (s : ReaderState A) (p : Arrived A) → s ≡ Reading p → IsReaderState s → BeginsList (format p.edition).limit p.count p.ops.items
begins_still {A} s p is held = (subst (λ (z : ReaderState A). IsReaderState z) is held).begins

pub untold : {A : Type 0} (r : Result (ReaderState A) DeltaError) (s : ReaderState A) (piece : List ℕ) → s ≡ Failed → IfSome (fed s) (λ bytes. Tells r (bytes ++ piece))
untold {A} r s piece is = subst (λ (z : ReaderState A). IfSome (fed z) (λ bytes. Tells r (bytes ++ piece))) (sym is) tt
