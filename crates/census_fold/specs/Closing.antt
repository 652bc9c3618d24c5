-- What a side that serves says behind its last frame, and which dots are used twice since an earlier time.
use Rattle.std.specs.Prelude.{ℕ, ◌==◌, List, [], ◌∷◌, if◌then◌else◌}
use Rattle.std.specs.Ordering.{eq_by_cmp}
use Rattle.oct_delta.specs.Text.{Bytes, u32}
use Rattle.oct_ops.specs.DotOrder.{dot_cmp}
use Rattle.oct_ops.specs.Operation.{Dot}
use Rattle.oct_store.specs.declared.fork.Fork.{Fork}
use Rattle.census_fold.specs.declared.closing.Refusal.{Refusal}
use Rattle.census_fold.specs.declared.closing.Refusal.TheVariants.{Most, Authors}

-- how many digits a digest has
abbrev pub digits_length : ℕ
digits_length = 64

-- the frame of so many digits: its length, which counts its tag and them; the tag, which no session has; and they
abbrev pub closing_bytes : Bytes → Bytes
closing_bytes digits = 0 ∷ 0 ∷ 0 ∷ 65 ∷ 4 ∷ digits

-- the frame of a refusal: its length, a tag that no session has, and how many authors there may be where that is what is refused
abbrev pub refusal_bytes : Refusal → Bytes
refusal_bytes Most = 0 ∷ 0 ∷ 0 ∷ 1 ∷ 5 ∷ []
refusal_bytes (Authors most) = 0 ∷ 0 ∷ 0 ∷ 5 ∷ 5 ∷ u32 most

-- The dots of those forks that are not among the old ones with as many contents. Both lists rise, and each dot of the old one is in the other.
abbrev pub new_forks : List Fork → List Fork → List Dot
new_forks old [] = []
new_forks [] (f ∷ now) = f.dot ∷ new_forks [] now
new_forks (o ∷ old) (f ∷ now) =
    if eq_by_cmp dot_cmp o.dot f.dot then (if o.contents == f.contents then new_forks old now else f.dot ∷ new_forks old now)
    else f.dot ∷ new_forks (o ∷ old) now
