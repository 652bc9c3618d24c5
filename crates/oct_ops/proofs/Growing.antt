-- Texts that grow at their end.
use Rattle.std.proofs.Common.{◌≡◌, ℕ, ◌+◌, ◌<◌, get_or, List, [], ◌∷◌, ◌++◌, length, take, refl, sym, ap, ◌∙◌, append_assoc}
use Rattle.std.specs.Prelude.{Result, Ok, Err, OnOk, OnErr, is_ok, if◌then◌else◌}
use Rattle.std.specs.List.{flat_map}
use Rattle.std.proofs.lemmas.Grind.{flat_map-append}
use Rattle.std.proofs.lemmas.List.{append-nil, take_at, take_more}
use Rattle.oct_ops.specs.Growth.{Extends}

pub extends_same : (text : List ℕ) → Extends text text
extends_same text = record { more = []; is = sym (append-nil text) }

pub extends_trans : (a b c : List ℕ) → Extends a b → Extends b c → Extends a c
extends_trans a b c e f = record { more = e.more ++ f.more; is = f.is ∙ ap (λ t. t ++ f.more) e.is ∙ append_assoc a e.more f.more }

pub extends_by : (old new more : List ℕ) → new ≡ old ++ more → Extends old new
extends_by old new more e = record { more = more; is = e }

pub extends_equal : (old new : List ℕ) → new ≡ old → Extends old new
extends_equal old new e = record { more = []; is = e ∙ sym (append-nil old) }

-- what says that a text begins with an older one
pub ruleset growing = (extends_same, extends_trans, extends_by, extends_equal)

-- the front of a text that was added to is what it was before
pub extends_cut : (old new : List ℕ) → Extends old new → take (length old) new ≡ old
extends_cut old new e = ap (take (length old)) e.is ∙ take_at old e.more (length old) refl

-- a text that is cut back is what it was
pub cut_back : (before : ℕ) (old long new : List ℕ) → before ≡ length old → Extends old long → new ≡ take before long → new ≡ old
cut_back before old long new same grown cut = cut ∙ ap (λ n. take n long) same ∙ extends_cut old long grown

-- the same where a text may also be cut back
pub ruleset cutting = (growing, extends_cut)

-- two texts, one after another
pub grown_twice : (old first second a b : List ℕ) → first ≡ old ++ a → second ≡ first ++ b → second ≡ old ++ (a ++ b)
grown_twice old first second a b e f = f ∙ ap (λ t. t ++ b) e ∙ append_assoc old a b

-- three texts, one after another
pub grown_thrice : (old first second third a b c : List ℕ) → first ≡ old ++ a → second ≡ first ++ b → third ≡ second ++ c → third ≡ old ++ (a ++ b ++ c)
grown_thrice old first second third a b c e f g =
    g ∙ ap (λ t. t ++ c) (f ∙ ap (λ t. t ++ b) e ∙ append_assoc old a b) ∙ append_assoc old (a ++ b) c

-- four texts, one after another
pub grown_four_times : (old first second third fourth a b c d : List ℕ) → first ≡ old ++ a → second ≡ first ++ b → third ≡ second ++ c → fourth ≡ third ++ d → fourth ≡ old ++ (a ++ b ++ c ++ d)
grown_four_times old first second third fourth a b c d e f g h =
    h ∙ ap (λ t. t ++ d) (grown_thrice old first second third a b c e f g) ∙ append_assoc old (a ++ b ++ c) d

-- what a text that may not grow leaves
pub extended : {T E : Type 0} (result : Result T E) (old new more : List ℕ) → new ≡ (if is_ok result then old ++ more else old) → OnOk result (new ≡ old ++ more)
extended (Ok x) old new more e = e
extended (Err error) old new more e = tt

pub extended_grown : {T E : Type 0} (result : Result T E) (old new more : List ℕ) → new ≡ (if is_ok result then old ++ more else old) → Extends old new
extended_grown (Ok x) old new more e = extends_by old new more e
extended_grown (Err error) old new more e = extends_equal old new e

-- what adds all or nothing adds at the end
pub extends_either : {T E : Type 0} (result : Result T E) (old new more : List ℕ) → OnOk result (new ≡ old ++ more) → OnErr result (new ≡ old) → Extends old new
extends_either (Ok x) old new more ok err = extends_by old new more ok
extends_either (Err error) old new more ok err = extends_equal old new err

-- what follows from two facts, where there is no error
pub both_ok : {X Y : Type 0} (r : Result X Y) {P Q R : Type 0} → (P → Q → R) → OnOk r P → OnOk r Q → OnOk r R
both_ok (Ok x) f p q = f p q
both_ok (Err e) f p q = tt

-- two labelled texts after another text, one by one
pub regrouped : (text first a second b : List ℕ) → text ++ (first ++ a) ++ (second ++ b) ≡ text ++ first ++ a ++ second ++ b
regrouped text first a second b = ap (λ t. t ++ (second ++ b)) (sym (append_assoc text first a)) ∙ sym (append_assoc (text ++ first ++ a) second b)

-- the texts of the items before i, and then the next one's
pub grown_each : {X : Type 0} (text : X → List ℕ) (xs : List X) (i : ℕ) (x other : X) (old new next : List ℕ)
    → i < length xs → x ≡ get_or xs i other → new ≡ old ++ flat_map text (take i xs) → next ≡ new ++ text x → next ≡ old ++ flat_map text (take (i + 1) xs)
grown_each text xs i x other old new next within is so_far e =
    grown_twice old new next (flat_map text (take i xs)) (text x) so_far e
    ∙ ap (λ t. old ++ t) (ap (λ t. flat_map text (take i xs) ++ t) (sym (append-nil (text x))) ∙ sym (flat_map-append text (take i xs) (x ∷ []))
    ∙ ap (flat_map text) (ap (λ y. take i xs ++ y ∷ []) is ∙ sym (take_more xs i other within)))
