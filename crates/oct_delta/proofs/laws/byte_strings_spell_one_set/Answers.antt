use Rattle.oct_delta.proofs.Spelled.{spells_one, spell_together}
use Rattle.oct_delta.proofs.laws.byte_strings_spell_one_set.Goals as goal

pub returns : goal.returns
returns c = record { one = spells_one; all = spell_together }
