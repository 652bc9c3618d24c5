-- Each part of an operation is read as it is written.
use Rattle.std.proofs.Common.{◌≡◌, ℕ, ◌+◌, ◌^◌, ◌<◌, ◌≤◌, true, leb, eqb, ◌&&◌, List, [], ◌∷◌, ◌++◌, length, Option, Some, None, Ok, refl, sym, ap, ◌∙◌, append_assoc, arith, leb-true}
use Rattle.std.specs.Int.{w16, w32}
use Rattle.std.specs.List.{flat_map, AllByRecursion}
use Rattle.std.specs.Prelude.{IsTrue, is_ok}
use Rattle.std.specs.declared.cmp.Ordering.{Ordering}
use Rattle.std.specs.declared.cmp.Ordering.TheVariants.{Equal}
use Rattle.std.specs.Ordering.{nat_cmp, ordering_then}
use Rattle.std.specs.Cmp.Lexicographic.{slice_cmp}
use Rattle.std.proofs.lemmas.List.{append-nil}
use Rattle.std.proofs.lemmas.List.Elements.{All-from_recursion, recursion_from_All}
use Rattle.std.proofs.lemmas.Bool.{eqb-true, eqb-false, and_parts}
use Rattle.oct_code.specs.Code.{Code, IsCode, code_cmp}
use Rattle.oct_code.specs.DigitFaults.{digits_fault}
use Rattle.oct_code.specs.declared.limits.TheConstants.{LIMIT}
use Rattle.oct_ops.specs.DotOrder.{dot_cmp}
use Rattle.oct_ops.specs.Faults.{is_dot, is_name, is_text}
use Rattle.oct_ops.specs.Limits.{keeps_limit}
use Rattle.oct_ops.specs.Operation.{Dot, Block, Period, Note, Removal}
use Rattle.oct_ops.specs.declared.kinds.TheConstants.{BLOCK, PERIOD, NOTE, REMOVAL}
use Rattle.oct_ops.specs.Order.{block_cmp, period_cmp, note_cmp, removal_cmp, kind_of, same_kind_cmp, op_cmp}
use Rattle.oct_ops.specs.OrderLaws.{dot_cmp_total, then_equal}
use Rattle.oct_ops.specs.Body.{Body, Operation}
use Rattle.oct_ops.specs.Body as kind
use Rattle.oct_ops.specs.Valid.{IsU32, IsDot, IsBlock, IsPeriod, IsNote, IsRemoval, IsBody}
use Rattle.oct_delta.specs.declared.input.Front.{Front}
use Rattle.oct_delta.specs.Text.{code_bytes, dot_bytes, block_bytes, note_bytes, period_bytes, removal_bytes, body_bytes, op_bytes, u16, u32}
use Rattle.oct_delta.specs.Delta.{Fits}
use Rattle.oct_delta.specs.Reading.{◌>>=◌, checked, byte_at, number_at, bytes_at, chain_at, numbers_at, code_at, dot_at, is_count, is_range, front_at, block_at, is_claim, period_at, note_at, dots_at, dot_count_at, removal_at, body_at, op_at, next_op_at}
use Rattle.oct_delta.proofs.Codecs.{Codec, byte_codec, bytes_codec, number_codec, wide16, wide32, then_codec, checked_codec, same_codec, chain_codec, Chained, variant_codec, if_codec, refused_codec, then_assoc, bytes_cmp}
use Rattle.oct_delta.proofs.Chains.{IsNext, next_codec, items_codec, each_from_chain, rises_from_chain, chain_from_rising}
use Rattle.oct_delta.proofs.Ranges.{code_from_test, test_from_code, dot_from_test, test_from_dot, faultless_from_range, range_from_faultless, faultless_from_claim, claim_from_faultless, claim_small, note_from_test, test_from_note, faultless_from_dots, dots_from_faultless, count_small}

pub code_codec : Codec code_at code_bytes code_cmp IsCode
unfolding code_at
code_codec =
    let made : ℕ → List ℕ → Code = λ head digits. record { head = head; digits = digits } in
    same_codec code_bytes code_cmp IsCode
    (then_codec (λ head bytes. byte_at bytes >>= λ count. bytes_at count.0 count.1 >>= λ digits. checked (is_ok (digits_fault head digits.0)) (made head digits.0) digits.1) (λ c. c.head) byte_codec
    (λ head. then_codec (λ count bytes. bytes_at count bytes >>= λ digits. checked (is_ok (digits_fault head digits.0)) (made head digits.0) digits.1) (λ c. length c.digits) byte_codec
    (λ count. then_codec (λ digits bytes. checked (is_ok (digits_fault head digits)) (made head digits) bytes) (λ c. c.digits) (bytes_codec count)
    (λ digits. checked_codec (is_ok (digits_fault head digits)) (made head digits))
    (λ digits c g. ap (λ (x : Code). x.digits) g.0))
    (λ count c g. g.0))
    (λ head c g. ap (λ (x : Code). x.head) g.1.1.0))
    (λ c. ap (λ (z : List ℕ). c.head ∷ length c.digits ∷ z) (append-nil c.digits))
    (λ a b. ap (λ (o : Ordering). ordering_then (nat_cmp a.head b.head) (ordering_then (nat_cmp (length a.digits) (length b.digits)) o)) (then_equal (bytes_cmp a.digits b.digits)))
    (λ c g. code_from_test c g.1.1.1.1)
    (λ c h. (tt, (tt, (refl, (refl, test_from_code c h)))))

pub dot_codec : Codec dot_at dot_bytes dot_cmp IsDot
unfolding dot_at
dot_codec =
    let made : ℕ → ℕ → Dot = λ author number. record { author = author; number = number } in
    same_codec dot_bytes dot_cmp IsDot
    (then_codec (λ author bytes. number_at w32 bytes >>= λ number. checked (is_dot (made author number.0)) (made author number.0) number.1) (λ d. d.author) (number_codec wide32)
    (λ author. then_codec (λ number bytes. checked (is_dot (made author number)) (made author number) bytes) (λ d. d.number) (number_codec wide32)
    (λ number. checked_codec (is_dot (made author number)) (made author number))
    (λ number d g. ap (λ (x : Dot). x.number) g.0))
    (λ author d g. ap (λ (x : Dot). x.author) g.1.0))
    (λ d. ap (λ (z : List ℕ). u32 d.author ++ z) (append-nil (u32 d.number)))
    (λ a b. ap (ordering_then (nat_cmp a.author b.author)) (then_equal (nat_cmp a.number b.number)))
    (λ d g. dot_from_test d g.0 g.1.0 g.1.1.1)
    (λ d h. (h.author.1, (h.number.1, (refl, test_from_dot d h))))

-- ---- blocks

abbrev front_bytes : Front → List ℕ
front_bytes f = code_bytes f.code ++ (u32 f.start ++ u16 f.count)

abbrev front_cmp : Front → Front → Ordering
front_cmp a b = ordering_then (code_cmp a.code b.code) (ordering_then (nat_cmp a.start b.start) (nat_cmp a.count b.count))

record FitsFront (limit : ℕ) (f : Front) : Type 0 where
  code : IsCode f.code
  start : f.start < 2 ^ 32
  count : f.count < 2 ^ 16
  range : IsTrue (is_range limit f.start f.count)

front_codec : (limit : ℕ) → Codec (front_at limit) front_bytes front_cmp (FitsFront limit)
unfolding front_at
front_codec limit =
    let made : Code → ℕ → ℕ → Front = λ code start count. record { code = code; start = start; count = count } in
    same_codec front_bytes front_cmp (FitsFront limit)
    (then_codec (λ code bytes. number_at w32 bytes >>= λ start. number_at w16 start.1 >>= λ count. checked (is_range limit start.0 count.0) (made code start.0 count.0) count.1) (λ f. f.code) code_codec
    (λ code. then_codec (λ start bytes. number_at w16 bytes >>= λ count. checked (is_range limit start count.0) (made code start count.0) count.1) (λ f. f.start) (number_codec wide32)
    (λ start. then_codec (λ count bytes. checked (is_range limit start count) (made code start count) bytes) (λ f. f.count) (number_codec wide16)
    (λ count. checked_codec (is_range limit start count) (made code start count))
    (λ count f g. ap (λ (x : Front). x.count) g.0))
    (λ start f g. ap (λ (x : Front). x.start) g.1.0))
    (λ code f g. ap (λ (x : Front). x.code) g.1.1.0))
    (λ f. ap (λ (z : List ℕ). code_bytes f.code ++ (u32 f.start ++ z)) (append-nil (u16 f.count)))
    (λ a b. ap (λ (o : Ordering). ordering_then (code_cmp a.code b.code) (ordering_then (nat_cmp a.start b.start) o)) (then_equal (nat_cmp a.count b.count)))
    (λ f g. record { code = g.0; start = g.1.0; count = g.1.1.0; range = g.1.1.1.1 })
    (λ f h. (h.code, (h.start, (h.count, (refl, h.range)))))

abbrev IsWord : Option ℕ → ℕ → Type 0
IsWord before n = IsU32 n

words_from_chain : (before : Option ℕ) (xs : List ℕ) → Chained IsWord before xs → AllByRecursion IsU32 xs
words_from_chain before [] h = tt
words_from_chain before (x ∷ xs) h = (h.0, words_from_chain (Some x) xs h.1)

chain_from_words : (before : Option ℕ) (xs : List ℕ) → AllByRecursion IsU32 xs → Chained IsWord before xs
chain_from_words before [] h = tt
chain_from_words before (x ∷ xs) h = (h.0, chain_from_words (Some x) xs h.1)

pub numbers_codec : (n : ℕ) → Codec (numbers_at n) (flat_map u32) (slice_cmp nat_cmp) (λ xs. (length xs ≡ n) × Chained IsWord None xs)
numbers_codec n = chain_codec (λ _. number_at w32) u32 nat_cmp IsWord (λ _. number_codec wide32) None n

block_order : (a b c d : Ordering) → ordering_then (ordering_then a (ordering_then b c)) (ordering_then d Equal) ≡ ordering_then a (ordering_then b (ordering_then c d))
block_order a b c d = rw (then_equal d, then_assoc a (ordering_then b c) d, then_assoc b c d) refl

front_from_range : (limit : ℕ) → limit ≤ LIMIT → (f : Front) → IsCode f.code → IsTrue (is_range limit f.start f.count) → FitsFront limit f
front_from_range limit low f code range =
    let outer = and_parts (is_count f.count) (leb (f.start + f.count) limit) range in
    let end : f.start + f.count ≤ limit = leb-true _ _ outer.1 in
    let small : f.count < 2 ^ 16 = count_small f.count outer.0 in
    record { code = code; start = omega (arith, end, low); count = small; range = range }

-- a valid body within the limit
abbrev IsBlockIn : ℕ → Block → Type 0
IsBlockIn limit b = IsBlock b × IsTrue (keeps_limit limit (kind.Block b))

abbrev IsPeriodIn : ℕ → Period → Type 0
IsPeriodIn limit p = IsPeriod p × IsTrue (keeps_limit limit (kind.Period p))

block_in : (limit : ℕ) → limit ≤ LIMIT → (b : Block) → IsCode b.code → IsTrue (is_range limit b.start (length b.values)) → AllByRecursion IsU32 b.values → IsBlockIn limit b
block_in limit low b code range values =
    let both = faultless_from_range limit b low range in
    (record { code = code; faultless = both.0; values = All-from_recursion IsU32 b.values values }, both.1)

pub block_codec : (limit : ℕ) → limit ≤ LIMIT → Codec (block_at limit) block_bytes block_cmp (IsBlockIn limit)
unfolding block_at
block_codec limit low =
    let made : Front → List ℕ → Block = λ front values. record { code = front.code; start = front.start; values = values } in
    let front_of : Block → Front = λ b. record { code = b.code; start = b.start; count = length b.values } in
    same_codec block_bytes block_cmp (IsBlockIn limit)
    (then_codec (λ front bytes. numbers_at front.count bytes >>= λ values. Ok (made front values.0, values.1)) front_of (front_codec limit)
    (λ front. then_codec (λ values bytes. checked true (made front values) bytes) (λ b. b.values) (numbers_codec front.count)
    (λ values. checked_codec true (made front values))
    (λ values b g. ap (λ (x : Block). x.values) g.0))
    (λ front b g.
    let shown : Code → ℕ → ℕ → Front = λ code start count. record { code = code; start = start; count = count } in
    ap (λ (x : Block). shown x.code x.start (length b.values)) g.1.0 ∙ ap (shown front.code front.start) g.0.0))
    (λ b. ap (λ (z : List ℕ). front_bytes (front_of b) ++ z) (append-nil (flat_map u32 b.values))
    ∙ ap (λ (z : List ℕ). z ++ flat_map u32 b.values) (sym (append_assoc (code_bytes b.code) (u32 b.start) (u16 (length b.values)))))
    (λ a b. block_order (code_cmp a.code b.code) (nat_cmp a.start b.start) (nat_cmp (length a.values) (length b.values)) (slice_cmp nat_cmp a.values b.values))
    (λ b g. block_in limit low b g.0.code g.0.range (words_from_chain None b.values g.1.0.1))
    (λ b h. (front_from_range limit low (front_of b) h.0.code (range_from_faultless limit b h.0.faultless h.1), ((refl, chain_from_words None b.values (recursion_from_All IsU32 b.values h.0.values)), (refl, refl))))

-- ---- notes

note_order : (a b c d : Ordering) → ordering_then a (ordering_then b (ordering_then c (ordering_then d Equal))) ≡ ordering_then (ordering_then a b) (ordering_then c d)
note_order a b c d = rw (then_equal d, then_assoc a b (ordering_then c d)) refl

pub note_codec : Codec note_at note_bytes note_cmp IsNote
unfolding note_at
note_codec =
    let made : List ℕ → List ℕ → Note = λ name text. record { name = name; text = text } in
    same_codec note_bytes note_cmp IsNote
    (then_codec (λ k bytes. bytes_at k bytes >>= λ name. byte_at name.1 >>= λ l. bytes_at l.0 l.1 >>= λ text. checked (is_name name.0 && is_text text.0) (made name.0 text.0) text.1) (λ n. length n.name) byte_codec
    (λ k. then_codec (λ name bytes. byte_at bytes >>= λ l. bytes_at l.0 l.1 >>= λ text. checked (is_name name && is_text text.0) (made name text.0) text.1) (λ n. n.name) (bytes_codec k)
    (λ name. then_codec (λ l bytes. bytes_at l bytes >>= λ text. checked (is_name name && is_text text.0) (made name text.0) text.1) (λ n. length n.text) byte_codec
    (λ l. then_codec (λ text bytes. checked (is_name name && is_text text) (made name text) bytes) (λ n. n.text) (bytes_codec l)
    (λ text. checked_codec (is_name name && is_text text) (made name text))
    (λ text n g. ap (λ (x : Note). x.text) g.0))
    (λ l n g. g.0))
    (λ name n g. ap (λ (x : Note). x.name) g.1.1.0))
    (λ k n g. g.0))
    (λ n. ap (λ (z : List ℕ). length n.name ∷ (n.name ++ length n.text ∷ z)) (append-nil n.text))
    (λ a b. note_order (nat_cmp (length a.name) (length b.name)) (bytes_cmp a.name b.name) (nat_cmp (length a.text) (length b.text)) (bytes_cmp a.text b.text))
    (λ n g. note_from_test n g.1.1.1.1.1)
    (λ n h. (tt, (refl, (tt, (refl, (refl, test_from_note n h))))))

-- ---- period claims

claim_in : (limit : ℕ) (p : Period) → IsCode p.code → IsTrue (is_claim limit p) → IsPeriodIn limit p
claim_in limit p code claim =
    let both = faultless_from_claim limit p claim in
    (record { code = code; faultless = both.0 }, both.1)

pub period_codec : (limit : ℕ) → limit ≤ LIMIT → Codec (period_at limit) period_bytes period_cmp (IsPeriodIn limit)
unfolding period_at
period_codec limit low =
    let made : Code → ℕ → ℕ → Period = λ code start period. record { code = code; start = start; period = period } in
    same_codec period_bytes period_cmp (IsPeriodIn limit)
    (then_codec (λ code bytes. number_at w32 bytes >>= λ start. number_at w32 start.1 >>= λ period. checked (is_claim limit (made code start.0 period.0)) (made code start.0 period.0) period.1) (λ p. p.code) code_codec
    (λ code. then_codec (λ start bytes. number_at w32 bytes >>= λ period. checked (is_claim limit (made code start period.0)) (made code start period.0) period.1) (λ p. p.start) (number_codec wide32)
    (λ start. then_codec (λ period bytes. checked (is_claim limit (made code start period)) (made code start period) bytes) (λ p. p.period) (number_codec wide32)
    (λ period. checked_codec (is_claim limit (made code start period)) (made code start period))
    (λ period p g. ap (λ (x : Period). x.period) g.0))
    (λ start p g. ap (λ (x : Period). x.start) g.1.0))
    (λ code p g. ap (λ (x : Period). x.code) g.1.1.0))
    (λ p. ap (λ (z : List ℕ). code_bytes p.code ++ (u32 p.start ++ z)) (append-nil (u32 p.period)) ∙ sym (append_assoc (code_bytes p.code) (u32 p.start) (u32 p.period)))
    (λ a b. ap (λ (o : Ordering). ordering_then (code_cmp a.code b.code) (ordering_then (nat_cmp a.start b.start) o)) (then_equal (nat_cmp a.period b.period)))
    (λ p g. claim_in limit p g.0 g.1.1.1.1)
    (λ p h. let small = claim_small limit p low h.1 in (h.0.code, (small.0, (small.1, (refl, claim_from_faultless limit p h.0.faultless h.1)))))

-- ---- removals

pub dots_codec : (n : ℕ) → Codec (dots_at n) (flat_map dot_bytes) (slice_cmp dot_cmp) (λ ds. (length ds ≡ n) × Chained (IsNext dot_cmp IsDot) None ds)
dots_codec n = items_codec dot_cmp dot_codec None n

dot_count_codec : Codec dot_count_at u16 nat_cmp (λ n. (n < 2 ^ 16) × IsTrue (is_count n))
unfolding dot_count_at
dot_count_codec =
    same_codec u16 nat_cmp (λ n. (n < 2 ^ 16) × IsTrue (is_count n))
    (then_codec (λ n bytes. checked (is_count n) n bytes) (λ n. n) (number_codec wide16) (λ n. checked_codec (is_count n) n) (λ n x g. g.0))
    (λ n. append-nil (u16 n))
    (λ a b. then_equal (nat_cmp a b))
    (λ n g. (g.0, g.1.1))
    (λ n h. (h.0, (refl, h.1)))

pub removal_from_chain : (r : Removal) → IsTrue (is_count (length r.dots)) → Chained (IsNext dot_cmp IsDot) None r.dots → IsRemoval r
removal_from_chain r count chain = record {
  faultless = faultless_from_dots r count (rises_from_chain dot_cmp IsDot dot_cmp_total None r.dots chain);
  dots = All-from_recursion IsDot r.dots (each_from_chain dot_cmp IsDot None r.dots chain);
}

pub removal_codec : Codec removal_at removal_bytes removal_cmp IsRemoval
unfolding removal_at
removal_codec =
    let made : List Dot → Removal = λ dots. record { dots = dots } in
    same_codec removal_bytes removal_cmp IsRemoval
    (then_codec (λ n bytes. dots_at n bytes >>= λ dots. Ok (made dots.0, dots.1)) (λ r. length r.dots) dot_count_codec
    (λ n. then_codec (λ dots bytes. checked true (made dots) bytes) (λ r. r.dots) (dots_codec n)
    (λ dots. checked_codec true (made dots))
    (λ dots r g. ap (λ (x : Removal). x.dots) g.0))
    (λ n r g. g.0.0))
    (λ r. ap (λ (z : List ℕ). u16 (length r.dots) ++ z) (append-nil (flat_map dot_bytes r.dots)))
    (λ a b. ap (ordering_then (nat_cmp (length a.dots) (length b.dots))) (then_equal (slice_cmp dot_cmp a.dots b.dots)))
    (λ r g. removal_from_chain r g.0.1 g.1.0.1)
    (λ r h.
    let both = dots_from_faultless r h.faultless in
    ((count_small (length r.dots) both.0, both.0), ((refl, chain_from_rising dot_cmp IsDot r.dots (recursion_from_All IsDot r.dots h.dots) both.1), (refl, refl))))

-- ---- bodies

abbrev IsBodyIn : ℕ → Body → Type 0
IsBodyIn limit body = IsBody body × IsTrue (keeps_limit limit body)

abbrev IsKind : ℕ → ℕ → Body → Type 0
IsKind limit number body = (kind_of body ≡ number) × IsBodyIn limit body

from_block : (limit number : ℕ) → number ≡ BLOCK → (b : Body) → IsKind limit number b → (x : Block) × (kind.Block x ≡ b) × IsBlockIn limit x
from_block limit number is (kind.Block x) h = (x, refl, h.1)
from_block limit number is (kind.Period x) h = absurd (omega (arith, h.0, is))
from_block limit number is (kind.Note x) h = absurd (omega (arith, h.0, is))
from_block limit number is (kind.Removal x) h = absurd (omega (arith, h.0, is))

from_period : (limit number : ℕ) → number ≡ PERIOD → (b : Body) → IsKind limit number b → (x : Period) × (kind.Period x ≡ b) × IsPeriodIn limit x
from_period limit number is (kind.Block x) h = absurd (omega (arith, h.0, is))
from_period limit number is (kind.Period x) h = (x, refl, h.1)
from_period limit number is (kind.Note x) h = absurd (omega (arith, h.0, is))
from_period limit number is (kind.Removal x) h = absurd (omega (arith, h.0, is))

from_note : (limit number : ℕ) → number ≡ NOTE → (b : Body) → IsKind limit number b → (x : Note) × (kind.Note x ≡ b) × IsNote x
from_note limit number is (kind.Block x) h = absurd (omega (arith, h.0, is))
from_note limit number is (kind.Period x) h = absurd (omega (arith, h.0, is))
from_note limit number is (kind.Note x) h = (x, refl, h.1.0)
from_note limit number is (kind.Removal x) h = absurd (omega (arith, h.0, is))

from_removal : (limit number : ℕ) → number ≡ REMOVAL → (b : Body) → IsKind limit number b → (x : Removal) × (kind.Removal x ≡ b) × IsRemoval x
from_removal limit number is (kind.Block x) h = absurd (omega (arith, h.0, is))
from_removal limit number is (kind.Period x) h = absurd (omega (arith, h.0, is))
from_removal limit number is (kind.Note x) h = absurd (omega (arith, h.0, is))
from_removal limit number is (kind.Removal x) h = (x, refl, h.1.0)

from_other : (limit number : ℕ) → (number ≡ BLOCK → ⊥) → (number ≡ PERIOD → ⊥) → (number ≡ NOTE → ⊥) → (number ≡ REMOVAL → ⊥) → (b : Body) → IsKind limit number b → ⊥
from_other limit number one two three four (kind.Block x) h = one (sym h.0)
from_other limit number one two three four (kind.Period x) h = two (sym h.0)
from_other limit number one two three four (kind.Note x) h = three (sym h.0)
from_other limit number one two three four (kind.Removal x) h = four (sym h.0)

body_codec : (limit number : ℕ) → limit ≤ LIMIT → Codec (body_at limit number) body_bytes same_kind_cmp (IsKind limit number)
unfolding body_at
body_codec limit number low =
    if_codec (eqb number BLOCK)
    (λ is. variant_codec kind.Block body_bytes same_kind_cmp (IsKind limit number) (block_codec limit low) (from_block limit number (eqb-true _ _ is)) (λ b h. (sym (eqb-true _ _ is), h)) (λ b. refl) (λ a b. refl))
    (λ one. if_codec (eqb number PERIOD)
    (λ is. variant_codec kind.Period body_bytes same_kind_cmp (IsKind limit number) (period_codec limit low) (from_period limit number (eqb-true _ _ is)) (λ b h. (sym (eqb-true _ _ is), h)) (λ b. refl) (λ a b. refl))
    (λ two. if_codec (eqb number NOTE)
    (λ is. variant_codec kind.Note body_bytes same_kind_cmp (IsKind limit number) note_codec (from_note limit number (eqb-true _ _ is)) (λ n h. (sym (eqb-true _ _ is), (h, refl))) (λ b. refl) (λ a b. refl))
    (λ three. if_codec (eqb number REMOVAL)
    (λ is. variant_codec kind.Removal body_bytes same_kind_cmp (IsKind limit number) removal_codec (from_removal limit number (eqb-true _ _ is)) (λ n h. (sym (eqb-true _ _ is), (h, refl))) (λ b. refl) (λ a b. refl))
    (λ four. refused_codec body_bytes same_kind_cmp (IsKind limit number) (from_other limit number (eqb-false _ _ one) (eqb-false _ _ two) (eqb-false _ _ three) (eqb-false _ _ four))))))

pub op_codec : (limit : ℕ) → limit ≤ LIMIT → Codec (op_at limit) op_bytes op_cmp (Fits limit)
unfolding op_at
op_codec limit low =
    let made : Dot → Body → Operation = λ dot body. record { dot = dot; body = body } in
    same_codec op_bytes op_cmp (Fits limit)
    (then_codec (λ dot bytes. byte_at bytes >>= λ number. body_at limit number.0 number.1 >>= λ body. Ok (made dot body.0, body.1)) (λ o. o.dot) dot_codec
    (λ dot. then_codec (λ number bytes. body_at limit number bytes >>= λ body. Ok (made dot body.0, body.1)) (λ o. kind_of o.body) byte_codec
    (λ number. then_codec (λ body bytes. checked true (made dot body) bytes) (λ o. o.body) (body_codec limit number low)
    (λ body. checked_codec true (made dot body))
    (λ body o g. ap (λ (x : Operation). x.body) g.0))
    (λ number o g. g.0.0))
    (λ dot o g. ap (λ (x : Operation). x.dot) g.1.1.0))
    (λ o. ap (λ (z : List ℕ). dot_bytes o.dot ++ kind_of o.body ∷ z) (append-nil (body_bytes o.body)))
    (λ a b. ap (λ (p : Ordering). ordering_then (dot_cmp a.dot b.dot) (ordering_then (nat_cmp (kind_of a.body) (kind_of b.body)) p)) (then_equal (same_kind_cmp a.body b.body)))
    (λ o g. record { valid = record { dot = g.0; body = g.1.1.0.1.0 }; within = g.1.1.0.1.1 })
    (λ o h. (h.valid.dot, (tt, ((refl, (h.valid.body, h.within)), (refl, refl)))))

-- an operation that follows the one before
abbrev pub IsNextOp : ℕ → Option Operation → Operation → Type 0
IsNextOp limit = IsNext op_cmp (Fits limit)

pub next_op_codec : (limit : ℕ) → limit ≤ LIMIT → (before : Option Operation) → Codec (next_op_at limit before) op_bytes op_cmp (IsNextOp limit before)
next_op_codec limit low before = next_codec op_cmp (op_codec limit low) before

pub ops_codec : (limit : ℕ) → limit ≤ LIMIT → (before : Option Operation) (n : ℕ) → Codec (chain_at (next_op_at limit) before n) (flat_map op_bytes) (slice_cmp op_cmp) (λ ops. (length ops ≡ n) × Chained (IsNextOp limit) before ops)
ops_codec limit low before n = items_codec op_cmp (op_codec limit low) before n
