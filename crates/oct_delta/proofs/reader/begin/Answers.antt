use Rattle.std.proofs.Common.{sym, ◌∙◌, subst}
use Rattle.oct_delta.specs.Formats.{format}
use Rattle.oct_delta.specs.ReaderState.{Tells}
use Rattle.oct_delta.proofs.Pieces.{begins_none, begins_with}
use Rattle.oct_delta.proofs.reader.begin.Goals as goal

pub read_on-requires : goal.read_on-requires
read_on-requires g c = begins_none (format c.in-Some.edition).limit c.in-Ok.count c.new-input.result c.u32.new.self c.new-ops.result.items c.new-input.ensures.bytes c.in-Ok.ensures c.new-ops.ensures.items

pub returns : goal.returns
returns g c =
    subst (Tells c.read_on.result)
    (begins_with c.in-Some.edition c.args.bytes.items c.in-Some.list.now c.new-input.result c.u32.new.self c.in-Ok.count c.new-ops.result.items c.in_ok-rest.rest.items (sym c.deref.ensures.value ∙ c.in-Some.ensures.some) c.new-input.ensures.value c.new-input.ensures.bytes c.in-Ok.ensures c.new-ops.ensures.items (c.in_ok-rest.ensures.items ∙ c.rest.ensures.rest))
    c.read_on.ensures
