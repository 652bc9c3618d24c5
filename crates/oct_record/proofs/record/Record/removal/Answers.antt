use Rattle.std.proofs.Common.{◌≡◌, List, Some, None, ap, subst, ◌∙◌}
use Rattle.oct_ops.specs.DotOrder.{dot_cmp}
use Rattle.oct_ops.specs.Operation.{Dot, removing}
use Rattle.oct_ops.specs.Operations.{listed}
use Rattle.oct_ops.specs.Sets.{rises}
use Rattle.oct_notes.specs.Notes.{live_dots}
use Rattle.oct_record.specs.Removals.{removal_fault}
use Rattle.oct_record.specs.Content.{RecordContent}
use Rattle.oct_record.specs.declared.error.RemovalError.TheVariants as why
use Rattle.oct_record.proofs.Removing.{dots_are, dots_rise, dots_no_fault, dots_empty, dots_too_many, dots_no_fall}
use Rattle.oct_record.proofs.record.Record.removal.Goals as goal

pub returns-in-Ok-new-clause-ok : goal.returns-in-Ok-new-clause-ok
returns-in-Ok-new-clause-ok g c =
    let name = c.args.name.now in
    let is = c.in-Ok.ensures ∙ dots_are c.self.inside.store c.self.inside.notes name c.self.invariant.beside.notes
    ∙ ap (λ (r : RecordContent). live_dots (listed r.ops) name) c.self.view_is in
    c.in-Ok-new.ensures.ok ∙ ap removing is

pub returns-in-Ok-new-clause-accepted : goal.returns-in-Ok-new-clause-accepted
returns-in-Ok-new-clause-accepted g c =
    let name = c.args.name.now in
    let is = c.in-Ok.ensures ∙ dots_are c.self.inside.store c.self.inside.notes name c.self.invariant.beside.notes
    ∙ ap (λ (r : RecordContent). live_dots (listed r.ops) name) c.self.view_is in
    subst (λ (dots : List Dot). removal_fault dots ≡ None) is (dots_no_fault c.in-Ok.dots.items c.in-Ok-new.ensures.accepted)

pub returns-in-Err-Empty-default-clause-error : goal.returns-in-Err-Empty-default-clause-error
returns-in-Err-Empty-default-clause-error g c =
    let name = c.args.name.now in
    let is = c.in-Ok.ensures ∙ dots_are c.self.inside.store c.self.inside.notes name c.self.invariant.beside.notes
    ∙ ap (λ (r : RecordContent). live_dots (listed r.ops) name) c.self.view_is in
    subst (λ (dots : List Dot). removal_fault dots ≡ Some why.NoNote) is
    (dots_empty c.in-Ok.dots.items (c.in-Err-Empty-default.ensures.fault ∙ ap Some c.in-Err-Empty-default.field-0-0-is))

pub returns-in-Err-TooMany-default-clause-error : goal.returns-in-Err-TooMany-default-clause-error
returns-in-Err-TooMany-default-clause-error g c =
    let name = c.args.name.now in
    let is = c.in-Ok.ensures ∙ dots_are c.self.inside.store c.self.inside.notes name c.self.invariant.beside.notes
    ∙ ap (λ (r : RecordContent). live_dots (listed r.ops) name) c.self.view_is in
    subst (λ (dots : List Dot). removal_fault dots ≡ Some why.TooMany) is
    (dots_too_many c.in-Ok.dots.items (c.in-Err-TooMany-default.ensures.fault ∙ ap Some c.in-Err-TooMany-default.field-0-0-is))

-- the dots rise
pub unreachable-requires : goal.unreachable-requires
unreachable-requires g c =
    let dots = c.in-Ok.dots.items in
    dots_no_fall dots (ap (rises dot_cmp) c.in-Ok.ensures ∙ dots_rise (listed c.self.inside.notes) c.args.name.now)
    (c.in-Err-NotRising-default.ensures.fault ∙ ap Some c.in-Err-NotRising-default.field-0-0-is)
