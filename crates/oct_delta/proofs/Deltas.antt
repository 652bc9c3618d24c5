-- Texts of either format, as a tag and the text of a list.
use Rattle.std.proofs.Common.{◌≡◌, ◌⊎◌, ◌↔◌, ℕ, ◌≤◌, Bool, true, false, List, [], ◌∷◌, ◌++◌, length, take, drop, Option, Some, None, Ok, Err, refl, sym, ap, subst, ◌∙◌, append_assoc, arith, inl, inr, cond, nat_eq}
use Rattle.std.specs.Int.{w32, to_be_bytes}
use Rattle.std.specs.List.{flat_map, list_all, starts_with, AllByRecursion}
use Rattle.std.specs.Prelude.{slice_index}
use Rattle.std.specs.Cmp.Lexicographic.{same_text}
use Rattle.std.proofs.lemmas.List.{append-nil, take-append-drop}
use Rattle.std.proofs.lemmas.List.Elements.{All-from_recursion, recursion_from_All}
use Rattle.std.specs.Cmp.{first_so, second_so}
use Rattle.oct_code.specs.declared.limits.TheConstants.{LIMIT, OLD_LIMIT}
use Rattle.oct_ops.specs.Body.{Operation}
use Rattle.oct_ops.specs.Limits.{keeps_old_limits}
use Rattle.oct_ops.specs.Order.{op_cmp}
use Rattle.oct_ops.specs.Sets.{rises}
use Rattle.oct_delta.specs.declared.format.Edition.{Edition}
use Rattle.oct_delta.specs.declared.format.Edition.TheVariants.{First, Second}
use Rattle.oct_delta.specs.Bytes.{IsBytes}
use Rattle.oct_delta.specs.Text.{Bytes, op_bytes, list_bytes}
use Rattle.oct_delta.specs.Delta.{Format, Fits, IsOpList, IsList, IsDeltaText, old_format, new_format, delta_bytes, encoded}
use Rattle.oct_delta.specs.Formats.{format}
use Rattle.oct_delta.specs.Reading.{◌>>=◌, Read, number_at, next_op_at, chain_at, list_at}
use Rattle.oct_delta.specs.Decoding.{all_of, format_at, read_as, read_delta}
use Rattle.oct_delta.proofs.Codecs.{bind_ok, number_codec, wide32, IsBytes-drop}
use Rattle.oct_delta.proofs.Formats.{ops_codec}
use Rattle.oct_delta.proofs.Lists.{list_from_chain, count_again, ops_again, front_is_all}

pub low : (e : Edition) → (format e).limit ≤ LIMIT
low First = omega arith
low Second = omega arith

pub named : (e : Edition) (list : Bytes) → format_at ((format e).tag ++ list) ≡ Some (format e)
named First list = refl
named Second list = refl

-- no bytes begin with both tags, which differ in their last byte
other_tag : (a b : Bytes) → old_format.tag ++ a ≡ new_format.tag ++ b → ⊥
other_tag a b e = differ (slice_index (old_format.tag ++ a) 3) (slice_index (new_format.tag ++ b) 3) (ap (λ (z : Bytes). slice_index z 3) e) refl refl
  where
    differ : (x y : ℕ) → x ≡ y → x ≡ 49 → y ≡ 50 → ⊥
    differ x y e f g = omega arith

-- the same list, said of equal values
pub list_along : (limit other : ℕ) (bytes : Bytes) (ops others : List Operation) → limit ≡ other → others ≡ ops → IsList limit bytes ops → IsList other bytes others
list_along limit other bytes ops others e f is = rw (← e, f) is

pub text_of_list : (e : Edition) (bytes list : Bytes) (ops : List Operation) → bytes ≡ (format e).tag ++ list → IsList (format e).limit list ops → IsDeltaText bytes ops
text_of_list First bytes list ops e is = inl (record { list = is.list; spelled = e ∙ ap (λ (z : Bytes). old_format.tag ++ z) is.spelled })
text_of_list Second bytes list ops e is = inr (record { list = is.list; spelled = e ∙ ap (λ (z : Bytes). new_format.tag ++ z) is.spelled })

pub list_of_text : (e : Edition) (bytes list : Bytes) (ops : List Operation) → bytes ≡ (format e).tag ++ list → IsDeltaText bytes ops → IsList (format e).limit list ops
list_of_text First bytes list ops e (inl d) = record { list = d.list; spelled = ap (drop 4) (sym e ∙ d.spelled) }
list_of_text First bytes list ops e (inr d) = absurd (other_tag list (list_bytes ops) (sym e ∙ d.spelled))
list_of_text Second bytes list ops e (inl d) = absurd (other_tag (list_bytes ops) list (sym d.spelled ∙ e))
list_of_text Second bytes list ops e (inr d) = record { list = d.list; spelled = ap (drop 4) (sym e ∙ d.spelled) }

-- ---- reading

list_again : (limit : ℕ) → limit ≤ LIMIT → (list : Bytes) (ops : List Operation) → IsList limit list ops → list_at limit list ≡ Ok (ops, [])
list_again limit below list ops is = ap (λ (r : Read ℕ). r >>= λ count. chain_at (next_op_at limit) None count.0 count.1) (count_again limit list ops is) ∙ ops_again limit below list ops is

pub all_is : {A : Type 0} (r : Read A) (x : A) → all_of r ≡ Some x → r ≡ Ok (x, [])
all_is {A} (Ok (y, [])) x e = let same : y ≡ x = cc in ap (λ (z : A). let w : A × Bytes = (z, []) in Ok w) same
all_is (Ok (y, b ∷ rest)) x e = absurd cc
all_is (Err f) x e = absurd cc

list_taken : (limit : ℕ) → limit ≤ LIMIT → (list : Bytes) (ops : List Operation) → IsBytes list → list_at limit list ≡ Ok (ops, []) → IsList limit list ops
list_taken limit below list ops fits read =
    let count = bind_ok (number_at w32 list) (λ count. chain_at (next_op_at limit) None count.0 count.1) (ops, []) read in
    let t = (number_codec wide32).takes list count.0 fits count.1 in
    let u = (ops_codec limit below None count.0.0).takes count.0.1 (ops, []) t.0.rest_fits count.2 in
    record {
      list = list_from_chain limit ops (omega (arith, t.1, u.1.0)) u.1.1;
      spelled = t.0.parts ∙ ap (λ (z : Bytes). to_be_bytes w32 count.0.0 ++ z) (u.0.parts ∙ append-nil (flat_map op_bytes ops)) ∙ ap (λ (k : ℕ). to_be_bytes w32 k ++ flat_map op_bytes ops) (sym u.1.0);
    }

read_named : (e : Edition) (bytes list : Bytes) → bytes ≡ (format e).tag ++ list → read_delta bytes ≡ all_of (list_at (format e).limit list)
read_named First bytes list e = ap read_delta e
read_named Second bytes list e = ap read_delta e

pub reads_list : (e : Edition) (bytes list : Bytes) (ops : List Operation) → bytes ≡ (format e).tag ++ list → IsList (format e).limit list ops → read_delta bytes ≡ Some ops
reads_list e bytes list ops is held = read_named e bytes list is ∙ ap all_of (list_again (format e).limit (low e) list ops held)

list_read : (e : Edition) (bytes list : Bytes) (ops : List Operation) → IsBytes list → bytes ≡ (format e).tag ++ list → read_delta bytes ≡ Some ops → IsList (format e).limit list ops
list_read e bytes list ops fits is read = list_taken (format e).limit (low e) list ops fits (all_is (list_at (format e).limit list) ops (sym (read_named e bytes list is) ∙ read))

pub rest_fits : (e : Edition) (bytes list : Bytes) → bytes ≡ (format e).tag ++ list → IsBytes bytes → IsBytes list
rest_fits First bytes list is fits = subst IsBytes (ap (drop 4) is) (IsBytes-drop 4 bytes fits)
rest_fits Second bytes list is fits = subst IsBytes (ap (drop 4) is) (IsBytes-drop 4 bytes fits)

pub reads_none : (e : Edition) (bytes list : Bytes) → IsBytes bytes → bytes ≡ (format e).tag ++ list → ((ops : List Operation) → IsList (format e).limit list ops → ⊥) → read_delta bytes ≡ None
reads_none e bytes list fits is none = by (read_delta bytes) refl
  where
    by : (r : Option (List Operation)) → read_delta bytes ≡ r → r ≡ None
    by None h = refl
    by (Some ops) h = absurd (none ops (list_read e bytes list ops (rest_fits e bytes list is fits) is h))

-- ---- the tag of any bytes

pub tag_there : (tag bytes : Bytes) → starts_with nat_eq bytes tag ≡ true → bytes ≡ tag ++ drop (length tag) bytes
tag_there tag bytes h = sym (take-append-drop (length tag) bytes) ∙ ap (λ (z : Bytes). z ++ drop (length tag) bytes) (sym (same_text tag (take (length tag) bytes) (sym h)))

pub format_named : (bytes : Bytes) → (format_at bytes ≡ None) ⊎ ((e : Edition) × (bytes ≡ (format e).tag ++ drop 4 bytes))
format_named bytes = by (starts_with nat_eq bytes old_format.tag) (starts_with nat_eq bytes new_format.tag) refl refl
  where
    by : (a b : Bool) → starts_with nat_eq bytes old_format.tag ≡ a → starts_with nat_eq bytes new_format.tag ≡ b → (format_at bytes ≡ None) ⊎ ((e : Edition) × (bytes ≡ (format e).tag ++ drop 4 bytes))
    by true b p q = inr (First, tag_there old_format.tag bytes p)
    by false true p q = inr (Second, tag_there new_format.tag bytes q)
    by false false p q = inl (rw (p, q) refl)

-- what reading gives is what the bytes are a text of
pub reads : (bytes : Bytes) (ops : List Operation) → IsBytes bytes → (read_delta bytes ≡ Some ops) ↔ IsDeltaText bytes ops
reads bytes ops fits = (forth (format_named bytes), back)
  where
    forth : (format_at bytes ≡ None) ⊎ ((e : Edition) × (bytes ≡ (format e).tag ++ drop 4 bytes)) → read_delta bytes ≡ Some ops → IsDeltaText bytes ops
    forth (inl none) read = absurd (no_some (sym (ap (λ (f : Option Format). read_as f bytes) none) ∙ read))
      where
        no_some : None ≡ Some ops → ⊥
        no_some e = cc
    forth (inr f) read = text_of_list f.0 bytes (drop 4 bytes) ops f.1 (list_read f.0 bytes (drop 4 bytes) ops (IsBytes-drop 4 bytes fits) f.1 read)

    back : IsDeltaText bytes ops → read_delta bytes ≡ Some ops
    back (inl d) = reads_list First bytes (list_bytes ops) ops d.spelled (record { list = d.list; spelled = refl })
    back (inr d) = reads_list Second bytes (list_bytes ops) ops d.spelled (record { list = d.list; spelled = refl })

pub text_rising : (bytes : Bytes) (ops : List Operation) → IsDeltaText bytes ops → rises op_cmp ops ≡ true
text_rising bytes ops (inl d) = d.list.rising
text_rising bytes ops (inr d) = d.list.rising

-- what reading gives, as a premise
abbrev pub Law : Type 0
Law = (bytes : Bytes) (ops : List Operation) → IsBytes bytes → (read_delta bytes ≡ Some ops) ↔ IsDeltaText bytes ops

pub read_none : Law → (bytes : Bytes) → IsBytes bytes → ((ops : List Operation) → ¬ IsDeltaText bytes ops) → read_delta bytes ≡ None
read_none law bytes are none = elim (read_delta bytes) as (λ o. read_delta bytes ≡ o → o ≡ None) [
  | None ↦ λ _. refl
  | Some ops ↦ λ e. absurd (none ops ((law bytes ops are).0 e))
] refl

-- ---- fronts

-- a text at the front of another is all of it
pub text_front_is_all : (bytes more : Bytes) (a b : List Operation) → IsDeltaText bytes a → IsDeltaText (bytes ++ more) b → (a ≡ b) × (more ≡ [])
text_front_is_all bytes more a b (inl p) q = by First (ap (λ (z : Bytes). z ++ more) p.spelled) p.list q
  where
    by : (e : Edition) → bytes ++ more ≡ (delta_bytes (format e) a) ++ more → IsOpList (format e).limit a → IsDeltaText (bytes ++ more) b → (a ≡ b) × (more ≡ [])
    by e is list q =
        let held = list_of_text e (bytes ++ more) (list_bytes a ++ more) b (is ∙ append_assoc (format e).tag (list_bytes a) more) q in
        front_is_all (format e).limit (low e) a b more list held.list held.spelled
text_front_is_all bytes more a b (inr p) q = by Second (ap (λ (z : Bytes). z ++ more) p.spelled) p.list q
  where
    by : (e : Edition) → bytes ++ more ≡ (delta_bytes (format e) a) ++ more → IsOpList (format e).limit a → IsDeltaText (bytes ++ more) b → (a ≡ b) × (more ≡ [])
    by e is list q =
        let held = list_of_text e (bytes ++ more) (list_bytes a ++ more) b (is ∙ append_assoc (format e).tag (list_bytes a) more) q in
        front_is_all (format e).limit (low e) a b more list held.list held.spelled

-- ---- the text that is written

keep_old : (ops : List Operation) → AllByRecursion (Fits LIMIT) ops → list_all keeps_old_limits ops ≡ true → AllByRecursion (Fits OLD_LIMIT) ops
keep_old [] h k = tt
keep_old (o ∷ ops) h k = (record { valid = h.0.valid; within = first_so _ _ k }, keep_old ops h.1 (second_so (keeps_old_limits o) _ k))

pub encoded_is_text : (ops : List Operation) → IsOpList LIMIT ops → IsDeltaText (encoded ops) ops
encoded_is_text ops list = by (list_all keeps_old_limits ops) refl
  where
    by : (old : Bool) → list_all keeps_old_limits ops ≡ old → IsDeltaText (delta_bytes (cond old old_format new_format) ops) ops
    by true h = inl (record { list = record { few = list.few; each = All-from_recursion (Fits OLD_LIMIT) ops (keep_old ops (recursion_from_All (Fits LIMIT) ops list.each) h); rising = list.rising }; spelled = refl })
    by false h = inr (record { list = list; spelled = refl })
