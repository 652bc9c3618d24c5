-- The text of a list of operations is read as it is written.
use Rattle.std.proofs.Common.{◌≡◌, ℕ, suc, zero, ◌^◌, ◌<◌, ◌≤◌, List, [], ◌∷◌, ◌++◌, length, drop, Option, Some, None, Result, Ok, Err, false, eqb, refl, sym, ap, ◌∙◌, append_assoc, arith}
use Rattle.std.specs.Int.{w32, to_be_bytes}
use Rattle.std.specs.List.{flat_map}
use Rattle.std.proofs.lemmas.Bool.{false≢true}
use Rattle.std.proofs.lemmas.List.{append-nil, drop_at}
use Rattle.std.proofs.lemmas.List.Elements.{All-from_recursion, recursion_from_All}
use Rattle.oct_code.specs.declared.limits.TheConstants.{LIMIT}
use Rattle.oct_ops.specs.Body.{Operation}
use Rattle.oct_ops.specs.Order.{op_cmp}
use Rattle.oct_ops.specs.OrderLaws.{op_cmp_total}
use Rattle.oct_delta.specs.declared.fault.TextFault.{TextFault}
use Rattle.oct_delta.specs.Bytes.{IsBytes}
use Rattle.oct_delta.specs.Text.{op_bytes, list_bytes}
use Rattle.oct_delta.specs.Delta.{Fits, Format, IsOpList, IsList, IsDelta}
use Rattle.oct_delta.specs.Reading.{skipped, checked, follows, number_at, op_at, next_at, next_op_at, chain_at}
use Rattle.oct_delta.proofs.Codecs.{Chained, number_codec, wide32, bind_ok, checked_ok, ok_is, as_part, failed, skipped_ok}
use Rattle.oct_delta.proofs.Chains.{each_from_chain, rises_from_chain, chain_from_rising}
use Rattle.oct_delta.proofs.Formats.{ops_codec, IsNextOp}

-- operations that fit and rise, as they are read
pub chain_of : (limit : ℕ) (ops : List Operation) → IsOpList limit ops → Chained (IsNextOp limit) None ops
chain_of limit ops list = chain_from_rising op_cmp (Fits limit) ops (recursion_from_All (Fits limit) ops list.each) list.rising

pub list_from_chain : (limit : ℕ) (ops : List Operation) → length ops < 2 ^ 32 → Chained (IsNextOp limit) None ops → IsOpList limit ops
list_from_chain limit ops few chain = record {
  few = few;
  each = All-from_recursion (Fits limit) ops (each_from_chain op_cmp (Fits limit) None ops chain);
  rising = rises_from_chain op_cmp (Fits limit) op_cmp_total None ops chain;
}

pub list_takes : (limit : ℕ) → limit ≤ LIMIT → (bytes rest : List ℕ) (n : ℕ) → IsBytes bytes → number_at w32 bytes ≡ Ok (n, rest) → skipped (chain_at (next_op_at limit) None n rest) ≡ Ok [] → (ops : List Operation) × IsList limit bytes ops
list_takes limit low bytes rest n fits count read =
    let t = (number_codec wide32).takes bytes (n, rest) fits count in
    let found = skipped_ok (chain_at (next_op_at limit) None n rest) [] read in
    let u = (ops_codec limit low None n).takes rest (found.0, []) t.0.rest_fits found.1 in
    let text : bytes ≡ list_bytes found.0 =
    t.0.parts ∙ ap (λ (z : List ℕ). to_be_bytes w32 n ++ z) (u.0.parts ∙ append-nil (flat_map op_bytes found.0)) ∙ ap (λ (k : ℕ). to_be_bytes w32 k ++ flat_map op_bytes found.0) (sym u.1.0) in (
      found.0,
      record {
        list = list_from_chain limit found.0 (omega (arith, t.1, u.1.0)) u.1.1;
        spelled = text;
      },
    )

pub count_again : (limit : ℕ) (bytes : List ℕ) (ops : List Operation) → IsList limit bytes ops → number_at w32 bytes ≡ Ok (length ops, flat_map op_bytes ops)
count_again limit bytes ops is = ap (number_at w32) is.spelled ∙ (number_codec wide32).again (length ops) (flat_map op_bytes ops) is.list.few

pub ops_again : (limit : ℕ) → limit ≤ LIMIT → (bytes : List ℕ) (ops : List Operation) → IsList limit bytes ops → chain_at (next_op_at limit) None (length ops) (flat_map op_bytes ops) ≡ Ok (ops, [])
ops_again limit low bytes ops is =
    ap (chain_at (next_op_at limit) None (length ops)) (sym (append-nil (flat_map op_bytes ops)))
    ∙ (ops_codec limit low None (length ops)).again ops [] (refl, chain_of limit ops is.list)

-- what is read in order is also read where the order does not matter
unordered : (limit : ℕ) (before : Option Operation) (n : ℕ) (bytes : List ℕ) (x : List Operation × List ℕ) → chain_at (next_op_at limit) before n bytes ≡ Ok x → chain_at (λ _. op_at limit) before n bytes ≡ Ok x
unfolding chain_at next_at
unordered limit before zero bytes x e = e
unordered limit before (suc n) bytes x e =
    let a = bind_ok (next_op_at limit before bytes) (λ first. as_part (λ others. first.0 ∷ others) (chain_at (next_op_at limit) (Some first.0) n first.1)) x e in
    let b = bind_ok (chain_at (next_op_at limit) (Some a.0.0) n a.0.1) (λ others. let y : List Operation × List ℕ = (a.0.0 ∷ others.0, others.1) in Ok y) x a.2 in
    let c = bind_ok (op_at limit bytes) (λ op. checked (follows op_cmp before op.0) op.0 op.1) a.0 a.1 in
    let one = checked_ok (follows op_cmp before c.0.0) c.0.0 c.0.1 a.0 c.2 in
    let first : op_at limit bytes ≡ Ok a.0 = c.1 ∙ ap (λ (z : Operation × List ℕ). Ok z) one.1 in
    rw (first, unordered limit (Some a.0.0) n a.0.1 b.0 b.1) b.2

pub ops_read : (limit : ℕ) → limit ≤ LIMIT → (bytes : List ℕ) (ops : List Operation) → IsList limit bytes ops → chain_at (λ _. op_at limit) None (length ops) (flat_map op_bytes ops) ≡ Ok (ops, [])
ops_read limit low bytes ops is = unordered limit None (length ops) (flat_map op_bytes ops) (ops, []) (ops_again limit low bytes ops is)

-- A list that the bytes spell is passed over, to the end.
pub list_passes : (limit : ℕ) → limit ≤ LIMIT → (bytes rest : List ℕ) (n : ℕ) (r : Result (List ℕ) TextFault) → number_at w32 bytes ≡ Ok (n, rest) → skipped (chain_at (next_op_at limit) None n rest) ≡ r
    → (ops : List Operation) → IsList limit bytes ops → r ≡ Ok []
list_passes limit low bytes rest n r count read ops is =
    let same = ok_is (n, rest) (length ops, flat_map op_bytes ops) (sym count ∙ count_again limit bytes ops is) in
    sym read ∙ ap (λ (x : ℕ × List ℕ). skipped (chain_at (next_op_at limit) None x.0 x.1)) same ∙ ap skipped (ops_again limit low bytes ops is)

pub list_reads : (limit : ℕ) → limit ≤ LIMIT → (bytes rest : List ℕ) (n : ℕ) → number_at w32 bytes ≡ Ok (n, rest)
    → (ops : List Operation) → IsList limit bytes ops → chain_at (λ _. op_at limit) None n rest ≡ Ok (ops, [])
list_reads limit low bytes rest n count ops is =
    let same = ok_is (n, rest) (length ops, flat_map op_bytes ops) (sym count ∙ count_again limit bytes ops is) in
    ap (λ (x : ℕ × List ℕ). chain_at (λ _. op_at limit) None x.0 x.1) same ∙ ops_read limit low bytes ops is

pub refused_by : (limit : ℕ) → limit ≤ LIMIT → (bytes rest : List ℕ) (n : ℕ) (f : TextFault) → number_at w32 bytes ≡ Ok (n, rest) → skipped (chain_at (next_op_at limit) None n rest) ≡ Err f
    → (ops : List Operation) → IsList limit bytes ops → ⊥
refused_by limit low bytes rest n f count read ops is = no_err (list_passes limit low bytes rest n (Err f) count read ops is)
  where
    no_err : failed {A = List ℕ} f ≡ Ok [] → ⊥
    no_err e = cc

pub refused_rest : (limit : ℕ) → limit ≤ LIMIT → (bytes rest after : List ℕ) (n : ℕ) → number_at w32 bytes ≡ Ok (n, rest) → skipped (chain_at (next_op_at limit) None n rest) ≡ Ok after → eqb (length after) 0 ≡ false
    → (ops : List Operation) → IsList limit bytes ops → ⊥
refused_rest limit low bytes rest after n count read more ops is =
    let nothing = ok_is after [] (list_passes limit low bytes rest n (Ok after) count read ops is) in
    false≢true (sym more ∙ ap (λ (z : List ℕ). eqb (length z) 0) nothing)

-- the text of a list at the front of that of another is all of it
pub front_is_all : (limit : ℕ) → limit ≤ LIMIT → (a b : List Operation) (more : List ℕ) → IsOpList limit a → IsOpList limit b → list_bytes a ++ more ≡ list_bytes b → (a ≡ b) × (more ≡ [])
front_is_all limit low a b more p q e =
    let grouped : list_bytes a ++ more ≡ to_be_bytes w32 (length a) ++ (flat_map op_bytes a ++ more) = append_assoc (to_be_bytes w32 (length a)) (flat_map op_bytes a) more in
    let counts = ok_is (length a, flat_map op_bytes a ++ more) (length b, flat_map op_bytes b)
    (sym ((number_codec wide32).again (length a) (flat_map op_bytes a ++ more) p.few) ∙ ap (number_at w32) (sym grouped ∙ e) ∙ (number_codec wide32).again (length b) (flat_map op_bytes b) q.few) in
    let both = ok_is (a, more) (b, [])
    (sym ((ops_codec limit low None (length a)).again a more (refl, chain_of limit a p))
    ∙ ap (λ (x : ℕ × List ℕ). chain_at (next_op_at limit) None x.0 x.1) counts
    ∙ ops_again limit low (list_bytes b) b (record { list = q; spelled = refl })) in
    (ap (λ (x : List Operation × List ℕ). x.0) both, ap (λ (x : List Operation × List ℕ). x.1) both)

pub delta_front_is_all : (format : Format) → format.limit ≤ LIMIT → (a b : List Operation) (bytes more : List ℕ) → IsDelta format bytes a → IsDelta format (bytes ++ more) b → (a ≡ b) × (more ≡ [])
delta_front_is_all format low a b bytes more p q =
    let e : format.tag ++ (list_bytes a ++ more) ≡ format.tag ++ list_bytes b = sym (append_assoc format.tag (list_bytes a) more) ∙ ap (λ (z : List ℕ). z ++ more) (sym p.spelled) ∙ q.spelled in
    let lists : list_bytes a ++ more ≡ list_bytes b = sym (drop_at format.tag (list_bytes a ++ more) (length format.tag) refl) ∙ ap (drop (length format.tag)) e ∙ drop_at format.tag (list_bytes b) (length format.tag) refl in
    front_is_all format.limit low a b more p.list q.list lists
