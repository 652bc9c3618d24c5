use Rattle.std.proofs.Common.{◌≡◌, ◌+◌, None, map, drop}
use Rattle.oct_delta.specs.Taken.{operations_of_all}
use Rattle.oct_ops.specs.Operations.{union}
use Rattle.oct_record.specs.Valid.{AreValid}
use Rattle.census_fold.specs.Unions.{first_refused}
use Rattle.census_fold.proofs.unions.unite.Given as goal

abbrev pub invariant-loop-file : goal.invariant-loop-file
invariant-loop-file l = record {
  taken : union l.all (operations_of_all (map (λ file. file.items) (drop l.file-index l.files))) ≡ operations_of_all (map (λ file. file.items) l.files);
  unrefused : first_refused (l.file-index + 1) (map (λ file. file.items) (drop l.file-index l.files)) ≡ None;
  valid : AreValid l.all;
}
