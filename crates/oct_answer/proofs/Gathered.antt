-- The operations of the next frame, as they are gathered from those that are left of a set.
use Rattle.std.proofs.Common.{◌≡◌, ℕ, ◌+◌, ◌<◌, ◌≤◌, Bool, true, false, not, cond, List, [], ◌∷◌, ◌++◌, filter, length, take, drop, get_or, refl, sym, ap, ◌∙◌, subst, append_assoc, arith}
use Rattle.std.proofs.lemmas.List.{append-nil, drop_all, drop_more, drop-drop, take-append-drop}
use Rattle.std.proofs.lemmas.List.Elements.{All-from_recursion, All-weaker, All-filter, All-drop}
use Rattle.std.specs.List.{All}
use Rattle.oct_delta.specs.Text.{Bytes, op_bytes}
use Rattle.oct_join.specs.Clock.{Clock, covers}
use Rattle.oct_ops.specs.Body.{Operation}
use Rattle.oct_ops.specs.Operation.{Dot}
use Rattle.oct_ops.specs.Operations.{Operations, IsRising, keep, listed, set_of}
use Rattle.oct_ops.specs.Order.{op_cmp}
use Rattle.oct_ops.specs.OrderLaws.{op_cmp_exact, op_cmp_total}
use Rattle.oct_ops.specs.SetLaws as laws
use Rattle.oct_ops.specs.Sets.{rises}
use Rattle.oct_ops.specs.Valid.{IsOp}
use Rattle.oct_ops.proofs.Members.{Has-listed, all_in}
use Rattle.oct_record.specs.Valid.{AreValid}
use Rattle.oct_store.specs.Summary.{not_covered}
use Rattle.oct_sync.specs.Frames.{delta_frames, pack_room}
use Rattle.oct_sync.specs.Packs.{may_follow, pack_frame}
use Rattle.oct_sync.proofs.Gathering.{Gathering, begin, flushed, gathered, all_sent, pack_rises, rises_second, size_of}
use Rattle.oct_sync.proofs.Packed.{fits_alone}
use Rattle.oct_sync.proofs.Packing.{FitsAlone}
use Rattle.oct_answer.specs.Left.{lacking, IsNext}
use Rattle.oct_answer.proofs.Packed.{frames_are}

-- ---- what is left of a set

rises_filter : (p : Operation → Bool) (ops : List Operation) → IsRising ops → IsRising (filter p ops)
rises_filter p ops rising =
    subst (λ (l : List Operation). rises op_cmp l ≡ true) (laws.listed-keep op_cmp_total op_cmp_exact p (set_of ops) ∙ ap (filter p) (laws.listed-set_of op_cmp_total op_cmp_exact ops rising))
    (laws.listed-rises op_cmp (keep p (set_of ops)))

rises_drop : (n : ℕ) (ops : List Operation) → IsRising ops → IsRising (drop n ops)
rises_drop n ops rising = rises_second (take n ops) (drop n ops) (subst IsRising (sym (take-append-drop n ops)) rising)

pub lacking_rises : (held : Operations) (t : Clock) (at : ℕ) → IsRising (lacking held t at)
lacking_rises held t at = rises_filter (not_covered t) (drop at (listed held)) (rises_drop at (listed held) (laws.listed-rises op_cmp held))

pub lacking_fit : (held : Operations) (t : Clock) (at : ℕ) → AreValid held → All FitsAlone (lacking held t at)
lacking_fit held t at valid =
    All-filter (not_covered t) FitsAlone (drop at (listed held)) (All-drop FitsAlone at (listed held)
    (All-weaker IsOp FitsAlone fits_alone (listed held) (All-from_recursion IsOp (listed held) (all_in IsOp (listed held) (λ o is. valid o (Has-listed held o is))))))

-- ---- one by one

-- those of a list that a clock does not cover, behind the first so many
abbrev pub others : Clock → List Operation → ℕ → List Operation
others t ops i = filter (not_covered t) (drop i ops)

pub passed : (t : Clock) (ops : List Operation) (i : ℕ) (o d : Operation) → i < length ops → o ≡ get_or ops i d → not_covered t o ≡ false → others t ops i ≡ others t ops (i + 1)
passed t ops i o d within is covered =
    ap (filter (not_covered t)) (drop_more ops i d within)
    ∙ ap (λ b. cond b (get_or ops i d ∷ others t ops (i + 1)) (others t ops (i + 1))) (ap (not_covered t) (sym is) ∙ covered)

pub next_one : (t : Clock) (ops : List Operation) (i : ℕ) (o d : Operation) → i < length ops → o ≡ get_or ops i d → not_covered t o ≡ true → others t ops i ≡ o ∷ others t ops (i + 1)
next_one t ops i o d within is beyond =
    ap (filter (not_covered t)) (drop_more ops i d within)
    ∙ ap (λ b. cond b (get_or ops i d ∷ others t ops (i + 1)) (others t ops (i + 1))) (ap (not_covered t) (sym is) ∙ beyond)
    ∙ ap (λ (x : Operation). x ∷ others t ops (i + 1)) (sym is)

-- these are gathered of those that are left, and those are still to be looked at
pub record Halfway (whole pack more : List Operation) (size : ℕ) : Type 0 where
  pub parts : whole ≡ pack ++ more
  pub gathering : Gathering whole pack more [] []
  pub sized : size ≡ size_of pack

pub halfway : (whole pack more : List Operation) → IsRising whole → pack ≡ [] → more ≡ whole → Halfway whole pack more 0
halfway whole pack more rising none all = record {
  parts = sym (ap (λ (xs : List Operation). xs ++ more) none ∙ all);
  gathering = begin whole pack more [] none all rising;
  sized = sym (ap size_of none);
}

pub halfway_past : (whole pack more later : List Operation) (size : ℕ) → more ≡ later → Halfway whole pack more size → Halfway whole pack later size
halfway_past whole pack more later size same h = subst (λ (xs : List Operation). Halfway whole pack xs size) same h

pub halfway_on : (whole pack more later pack' : List Operation) (o : Operation) (size size' : ℕ) → more ≡ o ∷ later → may_follow pack o ≡ true → length (op_bytes o) ≤ pack_room → pack' ≡ pack ++ o ∷ [] → size' ≡ size_of pack' → Halfway whole pack more size → Halfway whole pack' later size'
halfway_on whole pack more later pack' o size size' next may short grown sized h = record {
  parts = h.parts ∙ ap (λ (xs : List Operation). pack ++ xs) next ∙ sym (append_assoc pack (o ∷ []) later) ∙ ap (λ (xs : List Operation). xs ++ later) (sym grown);
  gathering = subst (λ (xs : List Operation). Gathering whole xs later [] []) (sym grown) (gathered whole pack later more o [] [] next may short h.gathering);
  sized = sized;
}

-- ---- the next frame

-- the next operation may not follow
pub next_ends : (held : Operations) (t : Clock) (at end : ℕ) (pack more later : List Operation) (o : Operation) (size : ℕ) → AreValid held → more ≡ lacking held t end → more ≡ o ∷ later → may_follow pack o ≡ false
    → Halfway (lacking held t at) pack more size → IsNext held t at pack size end
next_ends held t at end pack more later o size valid rest next may h =
    let g = flushed (lacking held t at) pack later more [] o [] [] (pack_frame pack) next may refl refl h.gathering in
    record {
      rising = pack_rises _ _ _ _ _ h.gathering;
      sized = h.sized;
      fits = subst (λ n. n ≤ pack_room) (sym h.sized) h.gathering.is.fits;
      frames = sym g.written ∙ ap (λ (z : Bytes). pack_frame pack ++ z) (frames_are g.fuel more (subst (All FitsAlone) (sym rest) (lacking_fit held t end valid)) g.enough ∙ ap delta_frames rest);
      none = λ none. absurd (differs (sym may ∙ ap (λ xs. may_follow xs o) none));
    }
  where
    differs : false ≡ true → ⊥
    differs e = cc

-- none are left behind these
pub next_is_last : (held : Operations) (t : Clock) (at end : ℕ) (pack more : List Operation) (size : ℕ) → more ≡ lacking held t end → more ≡ [] → Halfway (lacking held t at) pack more size → IsNext held t at pack size end
next_is_last held t at end pack more size rest nothing h = record {
  rising = pack_rises _ _ _ _ _ h.gathering;
  sized = h.sized;
  fits = subst (λ n. n ≤ pack_room) (sym h.sized) h.gathering.is.fits;
  frames = sym (all_sent (lacking held t at) pack more [] [] (pack_frame pack) nothing refl h.gathering) ∙ sym (append-nil (pack_frame pack)) ∙ ap (λ (z : Bytes). pack_frame pack ++ z) (sym (ap delta_frames (sym rest ∙ nothing)));
  none = λ none. h.parts ∙ ap (λ (xs : List Operation). xs ++ more) none ∙ nothing;
}

-- ---- as the code knows it

pub of_clock : (t : Clock) (o : Operation) (d : Dot) (known which : Bool) → d ≡ o.dot → known ≡ covers t d → known ≡ which → not_covered t o ≡ not which
of_clock t o d known which dot is so = ap (λ b. not b) (ap (covers t) (sym dot) ∙ sym is ∙ so)

pub rest_at : (held : Operations) (t : Clock) (rest : List Operation) (at i : ℕ) → rest ≡ drop at (listed held) → others t rest i ≡ lacking held t (at + i)
rest_at held t rest at i is = ap (filter (not_covered t)) (ap (drop i) is ∙ drop-drop i at (listed held))

pub none_behind : (t : Clock) (rest : List Operation) (i : ℕ) → length rest ≤ i → others t rest i ≡ []
none_behind t rest i past = ap (filter (not_covered t)) (drop_all i rest past)

pub at_last : (held : Operations) (t : Clock) (rest : List Operation) (at i : ℕ) → rest ≡ drop at (listed held) → length rest ≤ i → others t rest i ≡ lacking held t (at + length rest)
at_last held t rest at i is past = none_behind t rest i past ∙ sym (none_behind t rest (length rest) (omega arith)) ∙ rest_at held t rest at (length rest) is
