-- Objects by how many members they have.
use Rattle.std.proofs.Common.{◌≡◌, ◌≢◌, cond, List, [], ◌∷◌, length, refl, ap, ◌∙◌, one-add, codes, eq-eqb}
use Rattle.std.specs.Prelude.{Some, None, String}
use Rattle.std.proofs.lemmas.Bool.{ne_eqb}
use Rattle.std.specs.declared.alloc.Global.{Global}
use Rattle.serde_json.specs.Data.{Data, null, boolean, number, string, array, object, Members}
use Rattle.serde_json.specs.Find.{as_object, get}
use Rattle.serde_json.specs.View.{members_view}
use Rattle.serde_json.specs.declared.value.Value.{Value}
use Rattle.census_issue.specs.Imported.{members_count, size_of, fields_at, fields_of}

size_from : (d : Data) (ms : Members) → Some ms ≡ as_object d → size_of d ≡ members_count ms
size_from null ms h = cc
size_from (boolean b) ms h = cc
size_from (number n) ms h = cc
size_from (string s) ms h = cc
size_from (array ds) ms h = cc
size_from (object found) ms h = cc

members_count-view : (es : List (String Global × Value)) → members_count (members_view es) ≡ length es
members_count-view [] = refl
members_count-view (e ∷ es) = rw (one-add, members_count-view es) refl

-- how many members an object has
pub size_is : (d : Data) (es : List (String Global × Value)) → Some (members_view es) ≡ as_object d → size_of d ≡ length es
size_is d es is = size_from d (members_view es) is ∙ members_count-view es

pub other_size : (d : Data) → size_of d ≢ 3 → fields_of d ≡ None
other_size d other = ap (λ b. cond b (fields_at (get (codes "code") d) (get (codes "start") d) (get (codes "values") d)) None) (ne_eqb (size_of d) 3 other)

pub sized : (d : Data) → size_of d ≡ 3 → fields_of d ≡ fields_at (get (codes "code") d) (get (codes "start") d) (get (codes "values") d)
sized d three = ap (λ b. cond b (fields_at (get (codes "code") d) (get (codes "start") d) (get (codes "values") d)) None) (eq-eqb (size_of d) 3 three)
