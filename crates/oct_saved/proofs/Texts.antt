-- Places that have the same text.
use Rattle.std.proofs.Common.{◌≡◌, ℕ, List, [], ◌++◌, Result, Ok, Err, IfErr, sym, ◌∙◌, ap}
use Rattle.std.proofs.lemmas.List.{append-nil, append_cancel_left}
use Rattle.sha2.specs.Sha256.{sha256}
use Rattle.sha2.proofs.Facts256.{length-sha256}
use Rattle.oct_window.specs.declared.place.Place.{Place}
use Rattle.oct_saved.specs.Numbers.{place_numbers}
use Rattle.oct_window.specs.Places.{IsKept, IsStaged}
use Rattle.oct_window.specs.declared.place.Stage.{Stage}
use Rattle.oct_window.specs.declared.place.Stage.TheVariants.{Comparing, Watching}
use Rattle.oct_saved.specs.Reading.{IsPlaceShaped, IsSaved, IsShapedStage, RefusesIf, RefusesPlace}
use Rattle.oct_saved.specs.Saved.{AreWords, FitsPlace, has_tag, number_bytes, saved_text, summed_text, tag}
use Rattle.oct_saved.specs.declared.error.ReadError.{ReadError}
use Rattle.oct_saved.specs.declared.error.ReadError.TheVariants.{OutOfMemory, Refused, Version}
use Rattle.oct_saved.proofs.Alike.{kept_alike}
use Rattle.oct_saved.proofs.Bytes.{same_numbers}
use Rattle.oct_saved.proofs.Same.{same_parts, same_place, SamePlace}

pub same_bodies : (b d : List ℕ) → summed_text b ≡ summed_text d → b ≡ d
same_bodies b d e =
    let behind = append_cancel_left tag (sha256 b ++ b) (sha256 d ++ d) e in
    (same_parts (sha256 b) (sha256 d) b d (length-sha256 b ∙ sym (length-sha256 d)) behind).1

pub same_numbered : {A B : Type 0} (p : Place A) (q : Place B) → place_numbers p ≡ place_numbers q → SamePlace p q
same_numbered p q e = (same_place p q [] [] (append-nil (place_numbers p) ∙ e ∙ sym (append-nil (place_numbers q)))).0

pub same_saved : {A B : Type 0} (p : Place A) (q : Place B) → FitsPlace p → FitsPlace q → saved_text p ≡ saved_text q → SamePlace p q
same_saved p q fits also e =
    let bytes = same_bodies (number_bytes (place_numbers p)) (number_bytes (place_numbers q)) e in
    same_numbered p q (same_numbers (place_numbers p) (place_numbers q) fits.numbers also.numbers bytes)

-- ---- what is read

shaped_stage : {A : Type 0} (listed : ℕ) (s : Stage A) → IsStaged listed s → IsShapedStage s
shaped_stage listed (Watching w) is = is.watchable.shaped
shaped_stage listed (Comparing s) is = (is.paired.first.shaped, is.paired.second.shaped)

pub saved_shaped : {A : Type 0} (p : Place A) → IsSaved p → IsPlaceShaped p
saved_shaped p is = record { code = is.fits.code; shaped = shaped_stage p.listed p.stage is.kept.placed.staged; coded = is.coded; fits = is.fits.stage }

-- no text has these bytes, where no place has these numbers
pub refused_numbers : (A : Type 0) (text body : List ℕ) (e : ReadError) → text ≡ summed_text body → RefusesIf e ((numbers : List ℕ) × (body ≡ number_bytes numbers)) → RefusesPlace A text e
refused_numbers A text body Version is none = absurd none
refused_numbers A text body Refused is none = (ap has_tag is, λ p saved same. none (place_numbers p, same_bodies body (number_bytes (place_numbers p)) (sym is ∙ same)))
refused_numbers A text body OutOfMemory is none = ap has_tag is

pub refused_place : (A : Type 0) (text body numbers : List ℕ) (r : Result (Place A) ReadError) → text ≡ summed_text body → body ≡ number_bytes numbers → AreWords numbers
    → IfErr r (λ e. RefusesIf e ((p : Place A) × IsSaved p × (numbers ≡ place_numbers p))) → IfErr r (RefusesPlace A text)
refused_place A text body numbers (Ok x) is bytes words none = none
refused_place A text body numbers (Err Version) is bytes words none = absurd none
refused_place A text body numbers (Err Refused) is bytes words none = (
  ap has_tag is,
  λ p saved same. none (p, saved, same_numbers numbers (place_numbers p) words saved.fits.numbers (sym bytes ∙ same_bodies body (number_bytes (place_numbers p)) (sym is ∙ same))),
)
refused_place A text body numbers (Err OutOfMemory) is bytes words none = ap has_tag is

-- numbers behind those of a place are not those of another one
pub none_left : {A B : Type 0} (p : Place A) (q : Place B) (numbers rest : List ℕ) → numbers ≡ place_numbers p → numbers ≡ place_numbers q ++ rest → SamePlace p q × (rest ≡ [])
none_left p q numbers rest is read =
    let both = same_place p q [] rest (append-nil (place_numbers p) ∙ sym is ∙ read) in
    (both.0, sym both.1)

pub kept_again : {A B : Type 0} (p : Place A) (q : Place B) → SamePlace p q → IsSaved p → IsPlaceShaped q → IsKept q
kept_again p q same is shaped = kept_alike p q same is.coded shaped.coded shaped.shaped is.kept
