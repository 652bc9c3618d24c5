use Rattle.std.proofs.Common.{map, ap, ◌∙◌}
use Rattle.oct_said.specs.Dots.{is_withdrawn}
use Rattle.oct_said.specs.Noting.{said_of}
use Rattle.oct_sheet.specs.Names.{author_name}
use Rattle.oct_sheet.proofs.remarks.Remarks.among.Goals as goal

pub invariant_of-result : goal.invariant_of-result
invariant_of-result g c = record {
  names = λ author. c.in_ok-names.ensures.names author ∙ ap (λ notes. author_name (map (λ op. op.now) notes) author) c.deref.ensures.value;
  ascii = c.in_ok-names.ensures.ascii;
  withdrawn = λ d. c.in_ok-withdrawn.ensures d ∙ ap (λ notes. is_withdrawn (map (λ op. op.now) notes) d) c.deref-2.ensures.value;
  said = λ code. c.in_ok-said.ensures code ∙ ap (λ notes. said_of (map (λ op. op.now) notes) code) c.deref-3.ensures.value;
}
