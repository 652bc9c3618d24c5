use Rattle.std.proofs.Common.{◌≡◌, length, false, None, sym, ap, ◌∙◌}
use Rattle.std.specs.Prelude.{if◌then◌else◌, nat_le, slice_set}
use Rattle.std.proofs.lemmas.Bool.{lt-leb}
use Rattle.oct_bfile.proofs.Places.{rest_from-drop}
use Rattle.oct_code.specs.TextFaults.{text_fault}
use Rattle.oct_said.specs.Names.{faultless, pointed}
use Rattle.oct_said.proofs.Spelled.{parsed}
use Rattle.oct_said.proofs.names.code_behind.Goals as goal

pub returns : goal.returns
returns g c =
    let name = c.args.name.now in
    let long : nat_le (length name) 8 ≡ false = lt-leb (length name) 8 c.if-name-le-POINT.false in
    let text : c.deref.result.now ≡ pointed name = c.deref.ensures.value ∙ ap (λ bytes. slice_set bytes 1 46) (c.in_ok-text.ensures.items ∙ rest_from-drop 7 name) in
    c.ok.ensures.value
    ∙ parsed c.deref.result.now c.parse.result c.parse.ensures.ok c.parse.ensures.accepted c.parse.ensures.fault
    ∙ ap (λ bytes. faultless bytes (text_fault bytes)) text
    ∙ sym (ap (λ t. if t then None else faultless (pointed name) (text_fault (pointed name))) long)
