-- What the fields of a replica keep.
use Rattle.std.specs.BTreeMap as tree
use Rattle.oct_code.specs.Code.{code_cmp}
use Rattle.oct_record.specs.Content.{RecordContent}
use Rattle.oct_replica.specs.Beside.{AreBeside}
use Rattle.oct_replica.specs.declared.replica.Replica.TheInside.{Inside}

-- what was said
abbrev pub content_of : {A : Type 0} → Inside A → RecordContent
content_of r = r.said

-- the games are those of what was said
abbrev pub IsReplica : {A : Type 0} → Inside A → Type 0
IsReplica r = AreBeside r.said.ops (tree.get code_cmp r.games)
