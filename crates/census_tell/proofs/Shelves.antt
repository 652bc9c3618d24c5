-- Places that are filled with files.
use Rattle.std.proofs.Common.{◌≡◌, refl, List, [], ◌∷◌, ◌++◌, ◌∙◌, append_assoc, subst, sym}
use Rattle.std.proofs.lemmas.List.{append-nil}
use Rattle.std.specs.Prelude.{Result, Ok, Err, IfErr}
use Rattle.oct_delta.specs.Text.{Bytes}
use Rattle.census_tell.specs.Site.{File, Filled}

-- by some files, and then by others
pub filled_then : {S : Type 0} (puts : S → Bytes → Bytes → S → Type 0) (old mid new : S) (first second : List File) → Filled puts old first mid → Filled puts mid second new
    → Filled puts old (first ++ second) new
filled_then puts old mid new [] second so_far next = subst (λ s. Filled puts s second new) so_far next
filled_then puts old mid new (file ∷ files) second so_far next = (so_far.0, so_far.1, filled_then puts so_far.0 mid new files second so_far.2 next)

-- what holds in any case holds of each fault
pub each_fault : {X E : Type 0} (r : Result X E) (P : Type 0) → P → IfErr r (λ e. P)
each_fault (Ok x) P p = tt
each_fault (Err e) P p = p

pub no_fault : {X E : Type 0} (r : Result X E) (x : X) (P : E → Type 0) → r ≡ Ok x → IfErr r P
no_fault r x P is = subst (λ s. IfErr s P) (sym is) tt

-- the files so far, which all begin with
pub record Filling {S : Type 0} (puts : S → Bytes → Bytes → S → Type 0) (old now : S) (rest all : List File) : Type 0 where
  pub done : List File
  pub filled : Filled puts old done now
  pub whole : done ++ rest ≡ all

pub filling_begins : {S : Type 0} (puts : S → Bytes → Bytes → S → Type 0) (old : S) (rest all : List File) → rest ≡ all → Filling puts old old rest all
filling_begins puts old rest all same = record { done = []; filled = refl; whole = same }

pub filling_more : {S : Type 0} (puts : S → Bytes → Bytes → S → Type 0) (old now next : S) (files rest all : List File) → Filling puts old now (files ++ rest) all → Filled puts now files next
    → Filling puts old next rest all
filling_more puts old now next files rest all so_far more = record {
  done = so_far.done ++ files;
  filled = filled_then puts old now next so_far.done files so_far.filled more;
  whole = append_assoc so_far.done files rest ∙ so_far.whole;
}

pub filling_ends : {S : Type 0} (puts : S → Bytes → Bytes → S → Type 0) (old now : S) (all : List File) → Filling puts old now [] all → Filled puts old all now
filling_ends puts old now all so_far = subst (λ files. Filled puts old files now) (sym (append-nil so_far.done) ∙ so_far.whole) so_far.filled
