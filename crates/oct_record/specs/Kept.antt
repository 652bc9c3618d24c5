-- What the fields of a record keep.
use Rattle.std.specs.Prelude.{◌≤◌}
use Rattle.std.specs.BTreeMap as tree
use Rattle.oct_code.specs.Code.{code_cmp}
use Rattle.oct_ops.specs.Valid.{IsU32}
use Rattle.oct_record.specs.Content.{RecordContent}
use Rattle.oct_record.specs.Index.{AreBeside, AreFilled}
use Rattle.oct_record.specs.declared.record.Record.TheInside.{Inside}

abbrev pub content_of : {A : Type 0} → Inside A → RecordContent
content_of r = record { author = r.author; ops = r.store }

-- the operations of each game and the notes are those of the set
pub record IsRecord {A : Type 0} (r : Inside A) : Type 0 where
  pub author : (1 ≤ r.author) × IsU32 r.author
  pub beside : AreBeside r.store (tree.get code_cmp r.games) r.notes
  pub filled : AreFilled (tree.get code_cmp r.games)
