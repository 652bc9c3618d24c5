-- Catalogues of small sets.
use Rattle.std.specs.Prelude.{◌≡◌, ℕ, true, false, List, [], ◌∷◌, ◌++◌, map, codes, refl}
use Rattle.std.specs.List.{range_with_len}
use Rattle.std.specs.Fmt.{digits}
use Rattle.oct_code.specs.Code.{Code}
use Rattle.oct_mex.specs.NimValues.{nim_value}
use Rattle.oct_ops.specs.Body.{Operation}
use Rattle.oct_ops.specs.Body as kind
use Rattle.oct_ops.specs.Operation.{Dot, dot_of, claimed, repeating, noted, removing}
use Rattle.oct_pages.specs.Catalogue.{catalogue, has_page, page}

abbrev kayles : Code
kayles = record { head = 0; digits = 7 ∷ 7 ∷ [] }

-- one bean may be removed from a heap
abbrev by_turns : Code
by_turns = record { head = 0; digits = 3 ∷ [] }

-- a heap may be split, and nothing else
abbrev splitting : Code
splitting = record { head = 4; digits = [] }

abbrev block : ℕ → ℕ → Code → ℕ → List ℕ → Operation
block author number code start values = record { dot = dot_of author number; body = kind.Block (claimed code start values) }

abbrev claim : ℕ → ℕ → Code → ℕ → ℕ → Operation
claim author number code start period = record { dot = dot_of author number; body = kind.Period (repeating code start period) }

abbrev note : ℕ → ℕ → List ℕ → List ℕ → Operation
note author number name text = record { dot = dot_of author number; body = kind.Note (noted name text) }

abbrev removal : ℕ → ℕ → List Dot → Operation
removal author number dots = record { dot = dot_of author number; body = kind.Removal (removing dots) }

kayles_five : catalogue (block 1 1 kayles 0 (0 ∷ 1 ∷ 2 ∷ 3 ∷ 1 ∷ []) ∷ []) ≡
    codes "census 2\n"
    ++ codes "game 0.77 known 5\n"
    ++ codes "values 0 0 1 2 3 1\n"
    ++ codes "block 1.1 at 0 count 5 proved\n"
    ++ codes "author 1 through 1 last 1\n"
    ++ codes "end\n"
unfolding digits nim_value
kayles_five = refl

nothing : catalogue [] ≡
    codes "census 2\n"
    ++ codes "end\n"
nothing = refl

two_blocks_meet : catalogue (block 1 1 kayles 0 (0 ∷ 1 ∷ 2 ∷ 3 ∷ 1 ∷ []) ∷ block 2 1 kayles 5 (4 ∷ 3 ∷ 2 ∷ []) ∷ []) ≡
    codes "census 2\n"
    ++ codes "game 0.77 known 8\n"
    ++ codes "values 0 0 1 2 3 1 4 3 2\n"
    ++ codes "block 1.1 at 0 count 5 proved\n"
    ++ codes "block 2.1 at 5 count 3 proved\n"
    ++ codes "author 1 through 1 last 1\n"
    ++ codes "author 2 through 1 last 1\n"
    ++ codes "end\n"
unfolding digits nim_value
two_blocks_meet = refl

the_second_waits : catalogue (block 2 1 kayles 5 (4 ∷ 3 ∷ 2 ∷ []) ∷ []) ≡
    codes "census 2\n"
    ++ codes "game 0.77 known 1\n"
    ++ codes "values 0 0\n"
    ++ codes "block 2.1 at 5 count 3 pending\n"
    ++ codes "author 2 through 1 last 1\n"
    ++ codes "end\n"
unfolding digits nim_value
the_second_waits = refl

from_the_first_heap : catalogue (block 1 1 kayles 1 (1 ∷ 2 ∷ 3 ∷ 1 ∷ []) ∷ []) ≡
    codes "census 2\n"
    ++ codes "game 0.77 known 5\n"
    ++ codes "values 0 0 1 2 3 1\n"
    ++ codes "block 1.1 at 1 count 4 proved\n"
    ++ codes "author 1 through 1 last 1\n"
    ++ codes "end\n"
unfolding digits nim_value
from_the_first_heap = refl

blocks_overlap : catalogue (block 1 1 kayles 0 (0 ∷ 1 ∷ 2 ∷ 3 ∷ 1 ∷ []) ∷ block 1 2 kayles 2 (2 ∷ 3 ∷ []) ∷ block 1 3 kayles 3 (3 ∷ 1 ∷ 4 ∷ 3 ∷ 2 ∷ []) ∷ []) ≡
    codes "census 2\n"
    ++ codes "game 0.77 known 8\n"
    ++ codes "values 0 0 1 2 3 1 4 3 2\n"
    ++ codes "block 1.1 at 0 count 5 proved\n"
    ++ codes "block 1.2 at 2 count 2 proved\n"
    ++ codes "block 1.3 at 3 count 5 proved\n"
    ++ codes "author 1 through 3 last 3\n"
    ++ codes "end\n"
unfolding digits nim_value
blocks_overlap = refl

a_wrong_place : catalogue (block 1 1 kayles 1 (1 ∷ 2 ∷ 3 ∷ 1 ∷ 5 ∷ 0 ∷ []) ∷ []) ≡
    codes "census 2\n"
    ++ codes "game 0.77 known 1\n"
    ++ codes "values 0 0\n"
    ++ codes "block 1.1 at 1 count 6 refuted at 5 claimed 5 true 4\n"
    ++ codes "author 1 through 1 last 1\n"
    ++ codes "end\n"
unfolding digits nim_value
a_wrong_place = refl

a_proved_period : catalogue (block 1 1 by_turns 0 (0 ∷ 1 ∷ 0 ∷ 1 ∷ 0 ∷ 1 ∷ 0 ∷ []) ∷ claim 1 2 by_turns 1 2 ∷ []) ≡
    codes "census 2\n"
    ++ codes "game 0.3 known 7\n"
    ++ codes "values 0 0 1 0 1 0 1 0\n"
    ++ codes "block 1.1 at 0 count 7 proved\n"
    ++ codes "period 1.2 from 1 by 2 proved\n"
    ++ codes "author 1 through 2 last 2\n"
    ++ codes "end\n"
unfolding digits nim_value
a_proved_period = refl

one_value_too_few : catalogue (block 1 1 by_turns 0 (0 ∷ 1 ∷ 0 ∷ 1 ∷ 0 ∷ 1 ∷ []) ∷ claim 1 2 by_turns 1 2 ∷ []) ≡
    codes "census 2\n"
    ++ codes "game 0.3 known 6\n"
    ++ codes "values 0 0 1 0 1 0 1\n"
    ++ codes "block 1.1 at 0 count 6 proved\n"
    ++ codes "period 1.2 from 1 by 2 pending needs 7\n"
    ++ codes "author 1 through 2 last 2\n"
    ++ codes "end\n"
unfolding digits nim_value
one_value_too_few = refl

splitting_alone : catalogue (block 1 1 splitting 0 (0 ∷ 0 ∷ 1 ∷ 0 ∷ 1 ∷ 0 ∷ 1 ∷ []) ∷ claim 1 2 splitting 1 2 ∷ []) ≡
    codes "census 2\n"
    ++ codes "game 4.0 known 7\n"
    ++ codes "values 0 0 0 1 0 1 0 1\n"
    ++ codes "block 1.1 at 0 count 7 proved\n"
    ++ codes "period 1.2 from 1 by 2 proved\n"
    ++ codes "author 1 through 2 last 2\n"
    ++ codes "end\n"
unfolding digits nim_value
splitting_alone = refl

far_away : catalogue (block 1 1 kayles 4095 (0 ∷ []) ∷ []) ≡
    codes "census 2\n"
    ++ codes "game 0.77 known 1\n"
    ++ codes "values 0 0\n"
    ++ codes "block 1.1 at 4095 count 1 pending\n"
    ++ codes "author 1 through 1 last 1\n"
    ++ codes "end\n"
unfolding digits nim_value
far_away = refl

two_contents : catalogue (block 1 1 kayles 0 (0 ∷ 1 ∷ 2 ∷ 3 ∷ 1 ∷ []) ∷ block 1 1 kayles 1 (1 ∷ 2 ∷ 3 ∷ 1 ∷ []) ∷ []) ≡
    codes "census 2\n"
    ++ codes "game 0.77 known 5\n"
    ++ codes "values 0 0 1 2 3 1\n"
    ++ codes "block 1.1 at 0 count 5 proved\n"
    ++ codes "block 1.1 at 1 count 4 proved\n"
    ++ codes "fork 1.1 contents 2\n"
    ++ codes "author 1 through 1 last 1\n"
    ++ codes "end\n"
unfolding digits nim_value
two_contents = refl

a_removed_note : catalogue (note 1 1 (codes "kayles") (codes "early") ∷ note 1 2 (codes "kayles") (codes "later") ∷ removal 2 1 (dot_of 1 1 ∷ []) ∷ []) ≡
    codes "census 2\n"
    ++ codes "note kayles 1.2 later\n"
    ++ codes "author 1 through 2 last 2\n"
    ++ codes "author 2 through 1 last 1\n"
    ++ codes "end\n"
unfolding digits nim_value
a_removed_note = refl

notes_without_text : catalogue (note 5 1 (codes "a") [] ∷ note 5 3 (codes "a") [] ∷ []) ≡
    codes "census 2\n"
    ++ codes "note a 5.1 \n"
    ++ codes "note a 5.3 \n"
    ++ codes "author 5 through 1 last 3\n"
    ++ codes "end\n"
unfolding digits nim_value
notes_without_text = refl

-- ---- pages

-- seventy notes of one name
abbrev many : List Operation
many = map (λ number. note 3 number (codes "n") []) (range_with_len 1 70)

second_page : page many 1 ≡
    codes "note n 3.64 \n"
    ++ codes "note n 3.65 \n"
    ++ codes "note n 3.66 \n"
    ++ codes "note n 3.67 \n"
    ++ codes "note n 3.68 \n"
    ++ codes "note n 3.69 \n"
    ++ codes "note n 3.70 \n"
    ++ codes "author 3 through 70 last 70\n"
    ++ codes "end\n"
unfolding digits
second_page = refl

has_second : has_page many 1 ≡ true
has_second = refl

has_no_third : has_page many 2 ≡ false
has_no_third = refl
