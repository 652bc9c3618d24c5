-- What two places have in common whose numbers are the same.
use Rattle.std.proofs.Common.{◌≡◌, ℕ, Bool, true, false, List, ◌++◌, length, take, drop, refl, sym, ◌∙◌, ap, arith}
use Rattle.std.proofs.lemmas.List.{append_assoc, take_at, drop_at}
use Rattle.oct_code.specs.Code.{Code}
use Rattle.oct_mex.specs.declared.mask.Mask.{Mask}
use Rattle.oct_window.specs.declared.place.Place.{Place}
use Rattle.oct_window.specs.declared.place.Seen.{Seen}
use Rattle.oct_window.specs.declared.place.Stage.{Stage}
use Rattle.oct_window.specs.declared.place.Stage.TheVariants.{Comparing, Watching}
use Rattle.oct_window.specs.declared.reader.Reader.{Reader}
use Rattle.oct_window.specs.declared.watch.Watch.{Watch}
use Rattle.oct_window.specs.declared.window.Window.{Window}
use Rattle.oct_saved.specs.Numbers.{listing, mask_numbers, parity_number, place_numbers, place_scalars, reader_scalars, seen_lists, seen_scalars, stage_kind, stage_lists, stage_scalars, watch_lists, watch_scalars, window_lists, window_scalars}

-- ---- lists

pub same_parts : (xs ys r s : List ℕ) → length xs ≡ length ys → xs ++ r ≡ ys ++ s → (xs ≡ ys) × (r ≡ s)
same_parts xs ys r s len e = (
  sym (take_at xs r (length xs) refl) ∙ ap (take (length xs)) e ∙ take_at ys s (length xs) (sym len),
  sym (drop_at xs r (length xs) refl) ∙ ap (drop (length xs)) e ∙ drop_at ys s (length xs) (sym len),
)

pub same_listings : (xs ys r s : List ℕ) → listing xs ++ r ≡ listing ys ++ s → (xs ≡ ys) × (r ≡ s)
same_listings xs ys r s e =
    let len : length xs ≡ length ys = cc in
    let rest : xs ++ r ≡ ys ++ s = cc in
    same_parts xs ys r s len rest

-- ---- windows

same_parity : (a b : Bool) → parity_number a ≡ parity_number b → a ≡ b
same_parity true true e = refl
same_parity false false e = refl
same_parity true false e = absurd (omega arith)
same_parity false true e = absurd (omega arith)

pub same_mask : (m n : Mask) → mask_numbers m ≡ mask_numbers n → m ≡ n
same_mask m n e =
    let bits : m.bits ≡ n.bits = cc in
    let number : parity_number m.parity ≡ parity_number n.parity = cc in
    let turn : m.turn ≡ n.turn = cc in
    let parity = same_parity m.parity n.parity number in
    ap (λ (b : ℕ). let k : Mask = record { bits = b; parity = m.parity; turn = m.turn } in k) bits
    ∙ ap (λ (b : Bool). let k : Mask = record { bits = n.bits; parity = b; turn = m.turn } in k) parity
    ∙ ap (λ (b : ℕ). let k : Mask = record { bits = n.bits; parity = n.parity; turn = b } in k) turn

pub record SameScalars {A B : Type 0} (v : Window A) (w : Window B) : Type 0 where
  pub reach : v.reach ≡ w.reach
  pub count : v.count ≡ w.count
  pub mask : v.rare.mask ≡ w.rare.mask

pub record SameLists {A B : Type 0} (v : Window A) (w : Window B) : Type 0 where
  pub heaps : v.rare.heaps.items ≡ w.rare.heaps.items
  pub held : v.held.items ≡ w.held.items

pub same_scalars : {A B : Type 0} (v : Window A) (w : Window B) → window_scalars v ≡ window_scalars w → SameScalars v w
same_scalars v w e = record {
  reach = cc;
  count = cc;
  mask = same_mask v.rare.mask w.rare.mask cc;
}

pub same_lists : {A B : Type 0} (v : Window A) (w : Window B) (r s : List ℕ) → window_lists v ++ r ≡ window_lists w ++ s → SameLists v w × (r ≡ s)
same_lists v w r s e =
    let a = listing v.rare.heaps.items in
    let b = listing w.rare.heaps.items in
    let x = listing v.held.items in
    let y = listing w.held.items in
    let apart : a ++ (x ++ r) ≡ b ++ (y ++ s) = sym (append_assoc a x r) ∙ e ∙ append_assoc b y s in
    let first = same_listings v.rare.heaps.items w.rare.heaps.items (x ++ r) (y ++ s) apart in
    let second = same_listings v.held.items w.held.items r s first.1 in
    (record { heaps = first.0; held = second.0 }, second.1)

-- ---- stages

pub record SameWindow {A B : Type 0} (v : Window A) (w : Window B) : Type 0 where
  pub scalars : SameScalars v w
  pub lists : SameLists v w

pub record SameWatch {A B : Type 0} (v : Watch A) (w : Watch B) : Type 0 where
  pub window : SameWindow v.window w.window
  pub mark : v.mark.items ≡ w.mark.items
  pub at : v.at ≡ w.at

pub record SameReader {A B : Type 0} (v : Reader A) (w : Reader B) : Type 0 where
  pub window : SameWindow v.window w.window
  pub heap : v.heap ≡ w.heap

pub record SameSeen {A B : Type 0} (v : Seen A) (w : Seen B) : Type 0 where
  pub first : SameReader v.comparison.first w.comparison.first
  pub second : SameReader v.comparison.second w.comparison.second
  pub period : v.comparison.period ≡ w.comparison.period
  pub least : v.comparison.start ≡ w.comparison.start
  pub start : v.start ≡ w.start
  pub values : v.values ≡ w.values

abbrev pub SameStage : {A B : Type 0} → Stage A → Stage B → Type 0
SameStage (Watching v) (Watching w) = SameWatch v w
SameStage (Watching v) (Comparing w) = ⊥
SameStage (Comparing v) (Watching w) = ⊥
SameStage (Comparing v) (Comparing w) = SameSeen v w

pub record SamePlace {A B : Type 0} (p : Place A) (q : Place B) : Type 0 where
  pub code : p.code ≡ q.code
  pub listed : p.listed ≡ q.listed
  pub stage : SameStage p.stage q.stage

pub same_watch : {A B : Type 0} (v : Watch A) (w : Watch B) (r s : List ℕ) → watch_scalars v ≡ watch_scalars w → watch_lists v ++ r ≡ watch_lists w ++ s → SameWatch v w × (r ≡ s)
same_watch v w r s e f =
    let x = listing v.mark.items in
    let y = listing w.mark.items in
    let apart : window_lists v.window ++ (x ++ r) ≡ window_lists w.window ++ (y ++ s) = sym (append_assoc (window_lists v.window) x r) ∙ f ∙ append_assoc (window_lists w.window) y s in
    let lists = same_lists v.window w.window (x ++ r) (y ++ s) apart in
    let mark = same_listings v.mark.items w.mark.items r s lists.1 in
    let at : v.at ≡ w.at = cc in
    let scalars : window_scalars v.window ≡ window_scalars w.window = cc in
    (record { window = record { scalars = same_scalars v.window w.window scalars; lists = lists.0 }; mark = mark.0; at = at }, mark.1)

same_reader : {A B : Type 0} (v : Reader A) (w : Reader B) → reader_scalars v ≡ reader_scalars w → SameLists v.window w.window → SameReader v w
same_reader v w e lists =
    let heap : v.heap ≡ w.heap = cc in
    let scalars : window_scalars v.window ≡ window_scalars w.window = cc in
    record { window = record { scalars = same_scalars v.window w.window scalars; lists = lists }; heap = heap }

pub same_seen : {A B : Type 0} (v : Seen A) (w : Seen B) (r s : List ℕ) → seen_scalars v ≡ seen_scalars w → seen_lists v ++ r ≡ seen_lists w ++ s → SameSeen v w × (r ≡ s)
same_seen v w r s e f =
    let a = v.comparison.first in
    let b = w.comparison.first in
    let x = v.comparison.second in
    let y = w.comparison.second in
    let apart : window_lists a.window ++ (window_lists x.window ++ r) ≡ window_lists b.window ++ (window_lists y.window ++ s) =
    sym (append_assoc (window_lists a.window) (window_lists x.window) r) ∙ f ∙ append_assoc (window_lists b.window) (window_lists y.window) s in
    let first = same_lists a.window b.window (window_lists x.window ++ r) (window_lists y.window ++ s) apart in
    let second = same_lists x.window y.window r s first.1 in
    let readers : (reader_scalars a ++ reader_scalars x) ≡ (reader_scalars b ++ reader_scalars y) = cc in
    let parts = same_parts (reader_scalars a) (reader_scalars b) (reader_scalars x) (reader_scalars y) refl readers in
    let period : v.comparison.period ≡ w.comparison.period = cc in
    let least : v.comparison.start ≡ w.comparison.start = cc in
    let start : v.start ≡ w.start = cc in
    let values : v.values ≡ w.values = cc in (
      record {
        first = same_reader a b parts.0 first.0;
        second = same_reader x y parts.1 second.0;
        period = period;
        least = least;
        start = start;
        values = values;
      },
      second.1,
    )

pub same_stage : {A B : Type 0} (v : Stage A) (w : Stage B) (r s : List ℕ) → stage_kind v ≡ stage_kind w → stage_scalars v ≡ stage_scalars w → stage_lists v ++ r ≡ stage_lists w ++ s → SameStage v w × (r ≡ s)
same_stage (Watching v) (Watching w) r s k e f = same_watch v w r s e f
same_stage (Watching v) (Comparing w) r s k e f = absurd (omega arith)
same_stage (Comparing v) (Watching w) r s k e f = absurd (omega arith)
same_stage (Comparing v) (Comparing w) r s k e f = same_seen v w r s e f

pub same_code : (c d : Code) → c.head ≡ d.head → c.digits ≡ d.digits → c ≡ d
same_code c d head digits =
    ap (λ (h : ℕ). let k : Code = record { head = h; digits = c.digits } in k) head ∙ ap (λ (ds : List ℕ). let k : Code = record { head = d.head; digits = ds } in k) digits

pub same_place : {A B : Type 0} (p : Place A) (q : Place B) (r s : List ℕ) → place_numbers p ++ r ≡ place_numbers q ++ s → SamePlace p q × (r ≡ s)
same_place p q r s e =
    let a = listing (place_scalars p) in
    let b = listing (place_scalars q) in
    let c = listing p.code.digits in
    let d = listing q.code.digits in
    let x = stage_lists p.stage in
    let y = stage_lists q.stage in
    let apart : a ++ (c ++ (x ++ r)) ≡ b ++ (d ++ (y ++ s)) =
    sym (append_assoc a (c ++ x) r ∙ ap (λ (z : List ℕ). a ++ z) (append_assoc c x r)) ∙ e ∙ append_assoc b (d ++ y) s ∙ ap (λ (z : List ℕ). b ++ z) (append_assoc d y s) in
    let scalars = same_listings (place_scalars p) (place_scalars q) (c ++ (x ++ r)) (d ++ (y ++ s)) apart in
    let digits = same_listings p.code.digits q.code.digits (x ++ r) (y ++ s) scalars.1 in
    let kind : stage_kind p.stage ≡ stage_kind q.stage = cc (scalars.0) in
    let head : p.code.head ≡ q.code.head = cc (scalars.0) in
    let listed : p.listed ≡ q.listed = cc (scalars.0) in
    let further : stage_scalars p.stage ≡ stage_scalars q.stage = cc (scalars.0) in
    let stage = same_stage p.stage q.stage r s kind further digits.1 in
    (record { code = same_code p.code q.code head digits.0; listed = listed; stage = stage.0 }, stage.1)
