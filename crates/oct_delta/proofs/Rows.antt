-- Worked texts: each is read as its list, and spelled as its bytes.
use Rattle.std.specs.Prelude.{◌≡◌, ℕ, List, [], ◌∷◌, ◌++◌, drop, take, Some, None, codes, refl}
use Rattle.oct_code.specs.Code.{Code}
use Rattle.oct_ops.specs.Operation.{Dot, dot_of, claimed, repeating, noted, removing}
use Rattle.oct_ops.specs.Body.{Body, Operation}
use Rattle.oct_ops.specs.Body as kind
use Rattle.oct_delta.specs.Text.{Bytes}
use Rattle.oct_delta.specs.Delta.{encoded}
use Rattle.oct_delta.specs.Reading.{chain_at, next_at, code_at, dot_at, front_at, block_at, period_at, note_at, dot_count_at, removal_at, body_at, op_at}
use Rattle.oct_delta.specs.Decoding.{read_delta}

abbrev kayles : Code
kayles = record { head = 0; digits = 7 ∷ 7 ∷ [] }

-- 0.3
abbrev turns : Code
turns = record { head = 0; digits = 3 ∷ [] }

abbrev block : Code → ℕ → List ℕ → Body
block code start values = kind.Block (claimed code start values)

abbrev claim : Code → ℕ → ℕ → Body
claim code start period = kind.Period (repeating code start period)

abbrev note : List ℕ → List ℕ → Body
note name text = kind.Note (noted name text)

abbrev removal : List Dot → Body
removal dots = kind.Removal (removing dots)

infixr 15 ◌says◌
abbrev ◌says◌ : Dot → Body → Operation
dot says body = record { dot = dot; body = body }

abbrev pub text_a : Bytes
text_a = 79 ∷ 71 ∷ 68 ∷ 49 ∷ 0 ∷ 0 ∷ 0 ∷ 1 ∷ 0 ∷ 0 ∷ 0 ∷ 1 ∷ 0 ∷ 0 ∷ 0 ∷ 1 ∷ 1 ∷ 0 ∷ 2 ∷ 7 ∷ 7 ∷ 0 ∷ 0 ∷ 0 ∷ 0 ∷ 0 ∷ 5 ∷ 0 ∷ 0 ∷ 0 ∷ 0 ∷ 0 ∷ 0 ∷ 0 ∷ 1 ∷ 0 ∷ 0 ∷ 0 ∷ 2 ∷ 0 ∷ 0 ∷ 0 ∷ 3 ∷ 0 ∷ 0 ∷ 0 ∷ 1 ∷ []

abbrev pub ops_a : List Operation
ops_a = (dot_of 1 1 says block kayles 0 (0 ∷ 1 ∷ 2 ∷ 3 ∷ 1 ∷ [])) ∷ []

reads_a : read_delta text_a ≡ Some ops_a
unfolding chain_at next_at code_at dot_at front_at block_at period_at note_at dot_count_at removal_at body_at op_at
reads_a = refl

spells_a : encoded ops_a ≡ text_a
spells_a = refl

abbrev pub text_b : Bytes
text_b = 79 ∷ 71 ∷ 68 ∷ 49 ∷ 0 ∷ 0 ∷ 0 ∷ 1 ∷ 0 ∷ 0 ∷ 0 ∷ 2 ∷ 0 ∷ 0 ∷ 0 ∷ 1 ∷ 1 ∷ 0 ∷ 2 ∷ 7 ∷ 7 ∷ 0 ∷ 0 ∷ 0 ∷ 5 ∷ 0 ∷ 3 ∷ 0 ∷ 0 ∷ 0 ∷ 4 ∷ 0 ∷ 0 ∷ 0 ∷ 3 ∷ 0 ∷ 0 ∷ 0 ∷ 2 ∷ []

abbrev pub ops_b : List Operation
ops_b = (dot_of 2 1 says block kayles 5 (4 ∷ 3 ∷ 2 ∷ [])) ∷ []

reads_b : read_delta text_b ≡ Some ops_b
unfolding chain_at next_at code_at dot_at front_at block_at period_at note_at dot_count_at removal_at body_at op_at
reads_b = refl

spells_b : encoded ops_b ≡ text_b
spells_b = refl

abbrev pub text_c : Bytes
text_c = 79 ∷ 71 ∷ 68 ∷ 49 ∷ 0 ∷ 0 ∷ 0 ∷ 1 ∷ 0 ∷ 0 ∷ 0 ∷ 1 ∷ 0 ∷ 0 ∷ 0 ∷ 1 ∷ 1 ∷ 0 ∷ 2 ∷ 7 ∷ 7 ∷ 0 ∷ 0 ∷ 0 ∷ 1 ∷ 0 ∷ 4 ∷ 0 ∷ 0 ∷ 0 ∷ 1 ∷ 0 ∷ 0 ∷ 0 ∷ 2 ∷ 0 ∷ 0 ∷ 0 ∷ 3 ∷ 0 ∷ 0 ∷ 0 ∷ 1 ∷ []

abbrev pub ops_c : List Operation
ops_c = (dot_of 1 1 says block kayles 1 (1 ∷ 2 ∷ 3 ∷ 1 ∷ [])) ∷ []

reads_c : read_delta text_c ≡ Some ops_c
unfolding chain_at next_at code_at dot_at front_at block_at period_at note_at dot_count_at removal_at body_at op_at
reads_c = refl

spells_c : encoded ops_c ≡ text_c
spells_c = refl

abbrev pub text_d : Bytes
text_d = 79 ∷ 71 ∷ 68 ∷ 49 ∷ 0 ∷ 0 ∷ 0 ∷ 2 ∷ 0 ∷ 0 ∷ 0 ∷ 1 ∷ 0 ∷ 0 ∷ 0 ∷ 1 ∷ 1 ∷ 0 ∷ 1 ∷ 3 ∷ 0 ∷ 0 ∷ 0 ∷ 0 ∷ 0 ∷ 7 ∷ 0 ∷ 0 ∷ 0 ∷ 0 ∷ 0 ∷ 0 ∷ 0 ∷ 1 ∷ 0 ∷ 0 ∷ 0 ∷ 0 ∷ 0 ∷ 0 ∷ 0 ∷ 1 ∷ 0 ∷ 0 ∷ 0 ∷ 0 ∷ 0 ∷ 0 ∷ 0 ∷ 1 ∷ 0 ∷ 0 ∷ 0 ∷ 0 ∷ 0 ∷ 0 ∷ 0 ∷ 1 ∷ 0 ∷ 0 ∷ 0 ∷ 2 ∷ 2 ∷ 0 ∷ 1 ∷ 3 ∷ 0 ∷ 0 ∷ 0 ∷ 1 ∷ 0 ∷ 0 ∷ 0 ∷ 2 ∷ []

abbrev pub ops_d : List Operation
ops_d = (dot_of 1 1 says block turns 0 (0 ∷ 1 ∷ 0 ∷ 1 ∷ 0 ∷ 1 ∷ 0 ∷ [])) ∷ (dot_of 1 2 says claim turns 1 2) ∷ []

reads_d : read_delta text_d ≡ Some ops_d
unfolding chain_at next_at code_at dot_at front_at block_at period_at note_at dot_count_at removal_at body_at op_at
reads_d = refl

spells_d : encoded ops_d ≡ text_d
spells_d = refl

abbrev pub text_e : Bytes
text_e = 79 ∷ 71 ∷ 68 ∷ 49 ∷ 0 ∷ 0 ∷ 0 ∷ 1 ∷ 0 ∷ 0 ∷ 0 ∷ 1 ∷ 0 ∷ 0 ∷ 0 ∷ 1 ∷ 1 ∷ 0 ∷ 2 ∷ 7 ∷ 7 ∷ 0 ∷ 0 ∷ 15 ∷ 255 ∷ 0 ∷ 1 ∷ 0 ∷ 0 ∷ 0 ∷ 0 ∷ []

abbrev pub ops_e : List Operation
ops_e = (dot_of 1 1 says block kayles 4095 (0 ∷ [])) ∷ []

reads_e : read_delta text_e ≡ Some ops_e
unfolding chain_at next_at code_at dot_at front_at block_at period_at note_at dot_count_at removal_at body_at op_at
reads_e = refl

spells_e : encoded ops_e ≡ text_e
spells_e = refl

abbrev pub text_f : Bytes
text_f = 79 ∷ 71 ∷ 68 ∷ 49 ∷ 0 ∷ 0 ∷ 0 ∷ 1 ∷ 0 ∷ 0 ∷ 0 ∷ 1 ∷ 0 ∷ 0 ∷ 0 ∷ 1 ∷ 3 ∷ 6 ∷ 107 ∷ 97 ∷ 121 ∷ 108 ∷ 101 ∷ 115 ∷ 5 ∷ 101 ∷ 97 ∷ 114 ∷ 108 ∷ 121 ∷ []

abbrev pub ops_f : List Operation
ops_f = (dot_of 1 1 says note (codes "kayles") (codes "early")) ∷ []

reads_f : read_delta text_f ≡ Some ops_f
unfolding chain_at next_at code_at dot_at front_at block_at period_at note_at dot_count_at removal_at body_at op_at
reads_f = refl

spells_f : encoded ops_f ≡ text_f
spells_f = refl

abbrev pub text_g : Bytes
text_g = 79 ∷ 71 ∷ 68 ∷ 49 ∷ 0 ∷ 0 ∷ 0 ∷ 1 ∷ 0 ∷ 0 ∷ 0 ∷ 1 ∷ 0 ∷ 0 ∷ 0 ∷ 2 ∷ 3 ∷ 6 ∷ 107 ∷ 97 ∷ 121 ∷ 108 ∷ 101 ∷ 115 ∷ 5 ∷ 108 ∷ 97 ∷ 116 ∷ 101 ∷ 114 ∷ []

abbrev pub ops_g : List Operation
ops_g = (dot_of 1 2 says note (codes "kayles") (codes "later")) ∷ []

reads_g : read_delta text_g ≡ Some ops_g
unfolding chain_at next_at code_at dot_at front_at block_at period_at note_at dot_count_at removal_at body_at op_at
reads_g = refl

spells_g : encoded ops_g ≡ text_g
spells_g = refl

abbrev pub text_h : Bytes
text_h = 79 ∷ 71 ∷ 68 ∷ 49 ∷ 0 ∷ 0 ∷ 0 ∷ 1 ∷ 0 ∷ 0 ∷ 0 ∷ 2 ∷ 0 ∷ 0 ∷ 0 ∷ 1 ∷ 4 ∷ 0 ∷ 1 ∷ 0 ∷ 0 ∷ 0 ∷ 1 ∷ 0 ∷ 0 ∷ 0 ∷ 1 ∷ []

abbrev pub ops_h : List Operation
ops_h = (dot_of 2 1 says removal (dot_of 1 1 ∷ [])) ∷ []

reads_h : read_delta text_h ≡ Some ops_h
unfolding chain_at next_at code_at dot_at front_at block_at period_at note_at dot_count_at removal_at body_at op_at
reads_h = refl

spells_h : encoded ops_h ≡ text_h
spells_h = refl

abbrev pub text_i : Bytes
text_i = 79 ∷ 71 ∷ 68 ∷ 49 ∷ 0 ∷ 0 ∷ 0 ∷ 2 ∷ 0 ∷ 0 ∷ 0 ∷ 5 ∷ 0 ∷ 0 ∷ 0 ∷ 1 ∷ 3 ∷ 1 ∷ 97 ∷ 0 ∷ 0 ∷ 0 ∷ 0 ∷ 5 ∷ 0 ∷ 0 ∷ 0 ∷ 3 ∷ 3 ∷ 1 ∷ 97 ∷ 0 ∷ []

abbrev pub ops_i : List Operation
ops_i = (dot_of 5 1 says note (codes "a") []) ∷ (dot_of 5 3 says note (codes "a") []) ∷ []

reads_i : read_delta text_i ≡ Some ops_i
unfolding chain_at next_at code_at dot_at front_at block_at period_at note_at dot_count_at removal_at body_at op_at
reads_i = refl

spells_i : encoded ops_i ≡ text_i
spells_i = refl

-- the same operations in the new format are read too
reads_new : read_delta (codes "OGD2" ++ drop 4 text_a) ≡ Some ops_a
unfolding chain_at next_at code_at dot_at front_at block_at period_at note_at dot_count_at removal_at body_at op_at
reads_new = refl

-- a block past the old limit is one in the new format alone
abbrev past : Bytes
past = 0 ∷ 0 ∷ 0 ∷ 1 ∷ 0 ∷ 0 ∷ 0 ∷ 1 ∷ 0 ∷ 0 ∷ 0 ∷ 1 ∷ 1 ∷ 0 ∷ 2 ∷ 7 ∷ 7 ∷ 0 ∷ 0 ∷ 15 ∷ 255 ∷ 0 ∷ 2 ∷ 0 ∷ 0 ∷ 0 ∷ 0 ∷ 0 ∷ 0 ∷ 0 ∷ 0 ∷ []

refuses_past : read_delta (codes "OGD1" ++ past) ≡ None
unfolding chain_at next_at code_at dot_at front_at block_at period_at note_at dot_count_at removal_at body_at op_at
refuses_past = refl

reads_past : read_delta (codes "OGD2" ++ past) ≡ Some ((dot_of 1 1 says block kayles 4095 (0 ∷ 0 ∷ [])) ∷ [])
unfolding chain_at next_at code_at dot_at front_at block_at period_at note_at dot_count_at removal_at body_at op_at
reads_past = refl

spells_past : encoded ((dot_of 1 1 says block kayles 4095 (0 ∷ 0 ∷ [])) ∷ []) ≡ codes "OGD2" ++ past
spells_past = refl

spells_none : encoded [] ≡ codes "OGD1" ++ 0 ∷ 0 ∷ 0 ∷ 0 ∷ []
spells_none = refl

-- no proper prefix is a text
refuses_front : read_delta (take 46 text_a) ≡ None
unfolding chain_at next_at code_at dot_at front_at block_at period_at note_at dot_count_at removal_at body_at op_at
refuses_front = refl
