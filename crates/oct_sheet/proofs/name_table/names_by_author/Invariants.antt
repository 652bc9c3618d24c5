use Rattle.std.proofs.Common.{◌≡◌, ℕ, [], map, take}
use Rattle.std.specs.List.{fold}
use Rattle.std.specs.Str.{IsAscii}
use Rattle.oct_sheet.specs.Names.{name_in, renamed}
use Rattle.oct_sheet.proofs.name_table.names_by_author.Given as goal

abbrev pub invariant-loop-op : goal.invariant-loop-op
invariant-loop-op g l = record {
  names : (author : ℕ) → name_in (λ text. text.now) l.table author ≡ fold (renamed author) [] (map (λ op. op.now) (take l.op-index l.notes));
  ascii : (author : ℕ) → IsAscii (name_in (λ text. text.now) l.table author);
}
