-- How many bytes an operation that is not whole can have.
use Rattle.std.proofs.Common.{◌≡◌, ℕ, zero, suc, ◌+◌, ◌*◌, ◌<◌, ◌≤◌, Bool, true, false, cond, ltb, eqb, leb, ◌&&◌, List, [], ◌∷◌, length, take, drop, Option, Some, None, Ok, Err, refl, subst, arith, leb-true}
use Rattle.std.specs.Int.{Width, w16, w32, byte_len, from_be_bytes}
use Rattle.std.specs.Prelude.{is_ok}
use Rattle.std.proofs.lemmas.Bool.{ltb-true, and_parts}
use Rattle.std.proofs.lemmas.List.{length-drop}
use Rattle.std.specs.declared.cmp.Ordering.{Ordering}
use Rattle.oct_code.specs.DigitFaults.{digits_fault}
use Rattle.oct_code.specs.Code.{Code}
use Rattle.oct_ops.specs.DotOrder.{dot_cmp}
use Rattle.oct_ops.specs.Faults.{is_dot, is_name, is_text}
use Rattle.oct_ops.specs.Operation.{Dot, Block, Period, Note, Removal}
use Rattle.oct_ops.specs.Body.{Body, Operation}
use Rattle.oct_ops.specs.Body as kind
use Rattle.oct_ops.specs.declared.kinds.TheConstants.{BLOCK, PERIOD, NOTE, REMOVAL}
use Rattle.oct_delta.specs.declared.fault.TextFault.TheVariants.{Short, Malformed}
use Rattle.oct_delta.specs.declared.input.Front.{Front}
use Rattle.oct_delta.specs.declared.encoding.TheConstants.{MAX_OP_SIZE}
use Rattle.oct_delta.specs.Bytes.{IsBytes}
use Rattle.oct_delta.specs.Reading.{◌>>=◌, Read, checked, byte_at, number_at, bytes_at, chain_at, follows, next_at, code_at, dot_at, is_count, is_range, front_at, block_at, is_claim, period_at, note_at, dot_count_at, dots_at, removal_at, body_at, op_at}
use Rattle.oct_delta.proofs.Codecs.{IsBytes-drop, IsBytes-rest, bind_ok, ok_is, checked_ok, short_ok, as_part, done, failed}

-- A reader that is short has fewer than n bytes, and takes at most n; what it reads is so.
record Bounded {A : Type 0} (at : List ℕ → Read A) (n : ℕ) (P : A → Type 0) : Type 0 where
  short : (bytes : List ℕ) → IsBytes bytes → at bytes ≡ Err Short → length bytes < n
  taken : (bytes : List ℕ) (x : A × List ℕ) → IsBytes bytes → at bytes ≡ Ok x → (length bytes ≤ n + length x.1) × (IsBytes x.1 × P x.0)

abbrev Any : {A : Type 0} → A → Type 0
Any x = Unit {0}

weaker : {A : Type 0} {at : List ℕ → Read A} {n m : ℕ} {P : A → Type 0} → n ≤ m → Bounded at n P → Bounded at m P
weaker le b = record {
  short = λ bytes fits e. omega (arith, le, b.short bytes fits e);
  taken = λ bytes x fits e. let t = b.taken bytes x fits e in (omega (arith, le, t.0), t.1);
}

then_bounded : {A B : Type 0} {f : List ℕ → Read A} {m : ℕ} {P : A → Type 0} (g : A → List ℕ → Read B) (n : ℕ) {Q : B → Type 0} → Bounded f m P → ((a : A) → P a → Bounded (g a) n Q) → Bounded (λ bytes. f bytes >>= λ x. g x.0 x.1) (m + n) Q
then_bounded {A} {B} {f} {m} {P} g n {Q} first second = record {
  short = λ bytes fits e. by bytes fits (f bytes) refl e;
  taken = λ bytes x fits e.
      let a = bind_ok (f bytes) (λ x. g x.0 x.1) x e in
      let t = first.taken bytes a.0 fits a.1 in
      let u = (second a.0.0 t.1.1).taken a.0.1 x t.1.0 a.2 in
      (omega (arith, t.0, u.0), u.1);
}
  where
    by : (bytes : List ℕ) → IsBytes bytes → (r : Read A) → f bytes ≡ r → (r >>= λ x. g x.0 x.1) ≡ Err Short → length bytes < m + n
    by bytes fits (Ok x) is e =
        let t = first.taken bytes x fits is in
        let u = (second x.0 t.1.1).short x.1 t.1.0 e in
        omega (arith, t.0, u)
    by bytes fits (Err Short) is e = omega (arith, first.short bytes fits is)
    by bytes fits (Err Malformed) is e = absurd cc

checked_bounded : {A : Type 0} (passes : Bool) (x : A) {P : A → Type 0} → (passes ≡ true → P x) → Bounded (checked passes x) 0 P
checked_bounded {A} passes x {P} holds = record {
  short = λ bytes fits e. absurd (never passes bytes e);
  taken = λ bytes y fits e.
      let g = checked_ok passes x bytes y e in
      subst (λ (z : A × List ℕ). (length bytes ≤ 0 + length z.1) × (IsBytes z.1 × P z.0)) g.1 (omega arith, (fits, holds g.0));
}
  where
    never : (b : Bool) (bytes : List ℕ) → checked b x bytes ≡ Err Short → ⊥
    never true bytes e = cc
    never false bytes e = cc

made_bounded : {A B : Type 0} {f : List ℕ → Read A} {n : ℕ} {P : A → Type 0} (make : A → B) → Bounded f n P → Bounded (λ bytes. as_part make (f bytes)) n Any
made_bounded {A} {B} {f} {n} {P} make b = record {
  short = λ bytes fits e. b.short bytes fits (by (f bytes) e);
  taken = λ bytes x fits e.
      let a = bind_ok (f bytes) (λ x. let y : B × List ℕ = (make x.0, x.1) in Ok y) x e in
      let t = b.taken bytes a.0 fits a.1 in
      subst (λ (z : B × List ℕ). (length bytes ≤ n + length z.1) × (IsBytes z.1 × Unit {0})) (ok_is (make a.0.0, a.0.1) x a.2) (t.0, (t.1.0, tt));
}
  where
    by : (r : Read A) → as_part make r ≡ Err Short → r ≡ Err Short
    by (Ok x) e = absurd cc
    by (Err Short) e = refl
    by (Err Malformed) e = absurd cc

byte_bounded : Bounded byte_at 1 (λ b. b < 256)
byte_bounded = record { short = short; taken = taken }
  where
    short : (bytes : List ℕ) → IsBytes bytes → byte_at bytes ≡ Err Short → length bytes < 1
    short [] fits e = omega arith
    short (b ∷ bytes) fits e = absurd cc

    taken : (bytes : List ℕ) (x : ℕ × List ℕ) → IsBytes bytes → byte_at bytes ≡ Ok x → (length bytes ≤ 1 + length x.1) × (IsBytes x.1 × (x.0 < 256))
    taken [] x fits e = absurd cc
    taken (b ∷ bytes) x fits e = subst (λ (z : ℕ × List ℕ). (length (b ∷ bytes) ≤ 1 + length z.1) × (IsBytes z.1 × (z.0 < 256))) (ok_is (b, bytes) x e) (omega arith, (IsBytes-rest b bytes fits, fits 0))

was_short : {A : Type 0} (b : Bool) (x : A) → cond b (failed Short) (done x) ≡ failed Short → b ≡ true
was_short true x e = refl
was_short false x e = absurd cc

front_bounded : {A : Type 0} (n : ℕ) (value : List ℕ → A) → Bounded (λ bytes. cond (ltb (length bytes) n) (Err Short) (Ok (value (take n bytes), drop n bytes))) n Any
front_bounded {A} n value = record {
  short = λ bytes fits e. ltb-true (length bytes) n (was_short (ltb (length bytes) n) (value (take n bytes), drop n bytes) e);
  taken = λ bytes x fits e.
      let g = short_ok (ltb (length bytes) n) (value (take n bytes), drop n bytes) x e in
      subst (λ (z : A × List ℕ). (length bytes ≤ n + length z.1) × (IsBytes z.1 × Unit {0})) g.1 (omega (arith, length-drop n bytes), (IsBytes-drop n bytes fits, tt));
}

number_bounded : (w : Width) → Bounded (number_at w) (byte_len w) Any
number_bounded w = front_bounded (byte_len w) (from_be_bytes w)

bytes_bounded : (n : ℕ) → n < 256 → Bounded (bytes_at n) 255 Any
bytes_bounded n lt = weaker (omega arith) (front_bounded n (λ bytes. bytes))

-- so many items, each of at most m bytes
chain_bounded : {A : Type 0} (step : Option A → List ℕ → Read A) (m : ℕ) {P : A → Type 0} → ((before : Option A) → Bounded (step before) m P) → (before : Option A) (n : ℕ) → Bounded (chain_at step before n) (n * m) Any
unfolding chain_at
chain_bounded {A} step m each before zero = weaker {at = chain_at step before 0} (omega arith) (checked_bounded true [] {P = Any} (λ _. tt))
chain_bounded {A} step m each before (suc n) =
    let more : m + n * m ≡ suc n * m = omega arith in
    subst (λ (k : ℕ). Bounded (chain_at step before (suc n)) k Any) more
    (then_bounded (λ first bytes. as_part (λ others. first ∷ others) (chain_at step (Some first) n bytes)) (n * m) (each before)
    (λ first _. made_bounded (λ others. first ∷ others) (chain_bounded step m each (Some first) n)))

next_bounded : {A : Type 0} (cmp : A → A → Ordering) {item : List ℕ → Read A} {n : ℕ} {P : A → Type 0} → Bounded item n P → (before : Option A) → Bounded (next_at cmp item before) n Any
unfolding next_at
next_bounded cmp {item} {n} b before =
    weaker {at = next_at cmp item before} (omega arith) (then_bounded (λ x bytes. checked (follows cmp before x) x bytes) 0 b (λ x _. checked_bounded (follows cmp before x) x (λ _. tt)))

code_bounded : Bounded code_at 257 Any
unfolding code_at
code_bounded =
    let made : ℕ → List ℕ → Code = λ head digits. record { head = head; digits = digits } in
    then_bounded (λ head bytes. byte_at bytes >>= λ count. bytes_at count.0 count.1 >>= λ digits. checked (is_ok (digits_fault head digits.0)) (made head digits.0) digits.1) 256 byte_bounded
    (λ head _. then_bounded (λ count bytes. bytes_at count bytes >>= λ digits. checked (is_ok (digits_fault head digits.0)) (made head digits.0) digits.1) 255 byte_bounded
    (λ count lt. then_bounded (λ digits bytes. checked (is_ok (digits_fault head digits)) (made head digits) bytes) 0 (bytes_bounded count lt)
    (λ digits _. checked_bounded (is_ok (digits_fault head digits)) (made head digits) (λ _. tt))))

dot_bounded : Bounded dot_at 8 Any
unfolding dot_at
dot_bounded =
    let made : ℕ → ℕ → Dot = λ author number. record { author = author; number = number } in
    then_bounded (λ author bytes. number_at w32 bytes >>= λ number. checked (is_dot (made author number.0)) (made author number.0) number.1) 4 (number_bounded w32)
    (λ author _. then_bounded (λ number bytes. checked (is_dot (made author number)) (made author number) bytes) 0 (number_bounded w32)
    (λ number _. checked_bounded (is_dot (made author number)) (made author number) (λ _. tt)))

front_at_bounded : (limit : ℕ) → Bounded (front_at limit) 263 (λ f. f.count ≤ 1024)
unfolding front_at
front_at_bounded limit =
    let made : Code → ℕ → ℕ → Front = λ code start count. record { code = code; start = start; count = count } in
    then_bounded (λ code bytes. number_at w32 bytes >>= λ start. number_at w16 start.1 >>= λ count. checked (is_range limit start.0 count.0) (made code start.0 count.0) count.1) 6 code_bounded
    (λ code _. then_bounded (λ start bytes. number_at w16 bytes >>= λ count. checked (is_range limit start count.0) (made code start count.0) count.1) 2 (number_bounded w32)
    (λ start _. then_bounded (λ count bytes. checked (is_range limit start count) (made code start count) bytes) 0 (number_bounded w16)
    (λ count _. checked_bounded (is_range limit start count) (made code start count) (λ h. leb-true _ _ (and_parts (leb 1 count) (leb count 1024) (and_parts (is_count count) (leb (start + count) limit) h).0).1))))

block_bounded : (limit : ℕ) → Bounded (block_at limit) 4359 Any
unfolding block_at
block_bounded limit =
    let made : Front → List ℕ → Block = λ front values. record { code = front.code; start = front.start; values = values } in
    then_bounded (λ front bytes. as_part (made front) (chain_at (λ _. number_at w32) None front.count bytes)) 4096 (front_at_bounded limit)
    (λ front few. weaker (omega (arith, few)) (made_bounded (made front) (chain_bounded (λ _. number_at w32) 4 (λ _. number_bounded w32) None front.count)))

period_bounded : (limit : ℕ) → Bounded (period_at limit) 265 Any
unfolding period_at
period_bounded limit =
    let made : Code → ℕ → ℕ → Period = λ code start period. record { code = code; start = start; period = period } in
    then_bounded (λ code bytes. number_at w32 bytes >>= λ start. number_at w32 start.1 >>= λ period. checked (is_claim limit (made code start.0 period.0)) (made code start.0 period.0) period.1) 8 code_bounded
    (λ code _. then_bounded (λ start bytes. number_at w32 bytes >>= λ period. checked (is_claim limit (made code start period.0)) (made code start period.0) period.1) 4 (number_bounded w32)
    (λ start _. then_bounded (λ period bytes. checked (is_claim limit (made code start period)) (made code start period) bytes) 0 (number_bounded w32)
    (λ period _. checked_bounded (is_claim limit (made code start period)) (made code start period) (λ _. tt))))

note_bounded : Bounded note_at 512 Any
unfolding note_at
note_bounded =
    let made : List ℕ → List ℕ → Note = λ name text. record { name = name; text = text } in
    then_bounded (λ k bytes. bytes_at k bytes >>= λ name. byte_at name.1 >>= λ l. bytes_at l.0 l.1 >>= λ text. checked (is_name name.0 && is_text text.0) (made name.0 text.0) text.1) 511 byte_bounded
    (λ k lt. then_bounded (λ name bytes. byte_at bytes >>= λ l. bytes_at l.0 l.1 >>= λ text. checked (is_name name && is_text text.0) (made name text.0) text.1) 256 (bytes_bounded k lt)
    (λ name _. then_bounded (λ l bytes. bytes_at l bytes >>= λ text. checked (is_name name && is_text text.0) (made name text.0) text.1) 255 byte_bounded
    (λ l lt. then_bounded (λ text bytes. checked (is_name name && is_text text) (made name text) bytes) 0 (bytes_bounded l lt)
    (λ text _. checked_bounded (is_name name && is_text text) (made name text) (λ _. tt)))))

dot_count_bounded : Bounded dot_count_at 2 (λ n. n ≤ 1024)
unfolding dot_count_at
dot_count_bounded =
    then_bounded (λ n bytes. checked (is_count n) n bytes) 0 (number_bounded w16)
    (λ n _. checked_bounded (is_count n) n (λ h. leb-true _ _ (and_parts (leb 1 n) (leb n 1024) h).1))

removal_bounded : Bounded removal_at 8194 Any
unfolding removal_at
removal_bounded =
    let made : List Dot → Removal = λ dots. record { dots = dots } in
    then_bounded (λ n bytes. as_part made (dots_at n bytes)) 8192 dot_count_bounded
    (λ n few. weaker (omega (arith, few)) (made_bounded made (chain_bounded (next_at dot_cmp dot_at) 8 (next_bounded dot_cmp dot_bounded) None n)))

if_bounded : {A : Type 0} {f g : List ℕ → Read A} {n : ℕ} {P : A → Type 0} (b : Bool) → Bounded f n P → Bounded g n P → Bounded (λ bytes. cond b (f bytes) (g bytes)) n P
if_bounded true first second = first
if_bounded false first second = second

body_bounded : (limit number : ℕ) → Bounded (body_at limit number) 8194 Any
unfolding body_at
body_bounded limit number =
    if_bounded (eqb number BLOCK) (weaker (omega arith) (made_bounded kind.Block (block_bounded limit)))
    (if_bounded (eqb number PERIOD) (weaker (omega arith) (made_bounded kind.Period (period_bounded limit)))
    (if_bounded (eqb number NOTE) (weaker (omega arith) (made_bounded kind.Note note_bounded))
    (if_bounded (eqb number REMOVAL) (made_bounded kind.Removal removal_bounded) no_body)))
  where
    no_body : Bounded {A = Body} (λ _. Err Malformed) 8194 Any
    no_body = record { short = λ bytes fits e. absurd (apart e); taken = λ bytes x fits e. absurd (not_done x e) }
      where
        apart : failed {A = Body × List ℕ} Malformed ≡ failed Short → ⊥
        apart e = cc

        not_done : (x : Body × List ℕ) → failed Malformed ≡ done x → ⊥
        not_done x e = cc

op_bounded : (limit : ℕ) → Bounded (op_at limit) 8203 Any
unfolding op_at
op_bounded limit =
    let made : Dot → Body → Operation = λ dot body. record { dot = dot; body = body } in
    then_bounded (λ dot bytes. byte_at bytes >>= λ number. as_part (made dot) (body_at limit number.0 number.1)) 8195 dot_bounded
    (λ dot _. then_bounded (λ number bytes. as_part (made dot) (body_at limit number bytes)) 8194 byte_bounded
    (λ number _. made_bounded (made dot) (body_bounded limit number)))

-- an operation that is not whole has fewer bytes than the longest operation
pub short_op : (limit : ℕ) (bytes : List ℕ) → IsBytes bytes → op_at limit bytes ≡ Err Short → length bytes < MAX_OP_SIZE
short_op limit bytes fits e = (op_bounded limit).short bytes fits e
