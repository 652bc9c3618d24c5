-- The text of a state, part by part.
use Rattle.std.proofs.Common.{◌≡◌, ℕ, true, false, Result, Ok, Err, OnOk, List, ◌++◌, drop, refl, sym, ap, subst, ◌∙◌, append_assoc}
use Rattle.std.proofs.lemmas.List.{drop_at}
use Rattle.std.specs.Result.{is_err}
use Rattle.oct_ops.specs.Body.{Operation}
use Rattle.oct_ops.specs.Operations.{listed, set_of}
use Rattle.oct_ops.specs.OrderLaws.{op_cmp_total, op_cmp_exact}
use Rattle.oct_ops.specs.SetLaws.{listed-set_of}
use Rattle.oct_delta.specs.Text.{Bytes, u32}
use Rattle.oct_delta.specs.Delta.{IsDeltaText}
use Rattle.oct_delta.specs.State.{IsState, state_tag}
use Rattle.oct_delta.proofs.Deltas.{text_rising}
use Rattle.oct_record.specs.Content.{RecordContent}
use Rattle.oct_record.specs.States.{has_tag, state_text, IsHeaded, RefusesState, RefusesList}
use Rattle.oct_record.specs.declared.error.LoadError.{LoadError}
use Rattle.oct_record.specs.declared.error.LoadError.TheVariants.{Version, Refused, OutOfMemory}

tag_there : (rest : Bytes) → has_tag (state_tag ++ rest) ≡ true
tag_there rest = refl

after_tag : (state author_rest : Bytes) → state_tag ++ state ≡ state_tag ++ author_rest → state ≡ author_rest
after_tag state author_rest e = ap (drop 4) e

-- the same author and the same rest
same_rest : (bytes : Bytes) (a b : ℕ) (rest more : Bytes) → bytes ≡ state_tag ++ u32 a ++ rest → bytes ≡ state_tag ++ u32 b ++ more → rest ≡ more
same_rest bytes a b rest more e f =
    let both = after_tag (u32 a ++ rest) (u32 b ++ more) (sym (append_assoc state_tag (u32 a) rest) ∙ sym e ∙ f ∙ append_assoc state_tag (u32 b) more) in
    sym (drop_at (u32 a) rest 4 refl) ∙ ap (drop 4) both ∙ drop_at (u32 b) more 4 refl

pub is_state : (bytes rest : Bytes) (author : ℕ) (ops : List Operation) → IsHeaded bytes author rest → IsDeltaText rest ops → IsState bytes author (set_of ops)
is_state bytes rest author ops h text = record {
  author_fits = h.fits;
  rest = rest;
  list = subst (λ (l : List Operation). IsDeltaText rest l) (sym (listed-set_of op_cmp_total op_cmp_exact ops (text_rising rest ops text))) text;
  spelled = h.spelled;
}

pub list_refused : (bytes rest : Bytes) (author : ℕ) → IsHeaded bytes author rest → (e : LoadError) → RefusesList rest e → RefusesState bytes e
list_refused bytes rest author h Version r = absurd r
list_refused bytes rest author h Refused r = (
  ap has_tag (h.spelled ∙ append_assoc state_tag (u32 author) rest) ∙ tag_there (u32 author ++ rest),
  λ a ops s. r (listed ops) (subst (λ (z : Bytes). IsDeltaText z (listed ops)) (sym (same_rest bytes author a rest s.rest h.spelled s.spelled)) s.list),
)
list_refused bytes rest author h OutOfMemory r = (author, set_of r.0, is_state bytes rest author r.0 h r.1)

-- what holds on success holds where no error is told
pub told : {T E P : Type 0} (r : Result T E) → is_err r ≡ false → OnOk r P → P
told (Ok x) e h = h
told (Err y) e h = cc

-- ---- a state that is written

pub state_written : (out tagged authored new text : Bytes) (author : ℕ) → tagged ≡ out ++ state_tag → authored ≡ tagged ++ u32 author → new ≡ authored ++ text → new ≡ out ++ (state_tag ++ u32 author ++ text)
state_written out tagged authored new text author e f g =
    g
    ∙ ap (λ (z : Bytes). z ++ text) (f ∙ ap (λ (z : Bytes). z ++ u32 author) e ∙ append_assoc out state_tag (u32 author))
    ∙ append_assoc out (state_tag ++ u32 author) text

pub state_saved : (out new : Bytes) (inside now : RecordContent) (list : List Operation) → new ≡ out ++ state_text inside.author list → list ≡ listed inside.ops → inside ≡ now → new ≡ out ++ state_text now.author (listed now.ops)
state_saved out new inside now list written is same =
    written ∙ ap (λ (ops : List Operation). out ++ state_text inside.author ops) is
    ∙ ap (λ (r : RecordContent). out ++ state_text r.author (listed r.ops)) same
