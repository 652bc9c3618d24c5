-- References to the operations of a set, as they are listed.
use Rattle.std.proofs.Common.{◌≡◌, List, [], ◌∷◌, ◌++◌, append_assoc, sym, ap, subst, ◌∙◌}
use Rattle.std.proofs.lemmas.List.{append-nil}
use Rattle.oct_join.specs.Clock.{Clock}
use Rattle.oct_ops.specs.Body.{Operation}
use Rattle.oct_ops.specs.Operations.{Operations, IsRising, listed, set_of}
use Rattle.oct_ops.specs.Order.{op_cmp}
use Rattle.oct_ops.specs.OrderLaws.{op_cmp_total, op_cmp_exact}
use Rattle.oct_ops.specs.SetLaws.{listed-rises, set_of-listed}
use Rattle.oct_record.specs.Valid.{AreValid}
use Rattle.oct_store.specs.Summary.{clock_of}
use Rattle.oct_answer.specs.Snapshots.{IsSnapshot}

-- one more is listed
pub one_more : (whole done all rest more : List Operation) (o added : Operation) → all ≡ o ∷ rest → more ≡ done ++ added ∷ [] → added ≡ o → done ++ all ≡ whole → more ++ rest ≡ whole
one_more whole done all rest more o added next grown same before =
    ap (λ (l : List Operation). l ++ rest) (grown ∙ ap (λ (x : Operation). done ++ x ∷ []) same) ∙ append_assoc done (o ∷ []) rest
    ∙ sym (ap (λ (l : List Operation). done ++ l) next) ∙ before

-- all are listed
pub all_listed : (whole done rest : List Operation) → rest ≡ [] → done ++ rest ≡ whole → done ≡ whole
all_listed whole done rest none before = sym (append-nil done) ∙ sym (ap (λ (l : List Operation). done ++ l) none) ∙ before

pub of_listed : (held : Operations) (ops : List Operation) → ops ≡ listed held → set_of ops ≡ held
of_listed held ops are = ap set_of are ∙ set_of-listed op_cmp_total op_cmp_exact held

pub is_snapshot : (held : Operations) (ops : List Operation) (t : Clock) → ops ≡ listed held → AreValid held → t ≡ clock_of (listed held) → IsSnapshot ops t
is_snapshot held ops t are valid is = record {
  rising = subst IsRising (sym are) (listed-rises op_cmp held);
  valid = subst AreValid (sym (of_listed held ops are)) valid;
  clock = is ∙ ap clock_of (sym are);
}
