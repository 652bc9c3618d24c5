use Rattle.std.proofs.Common.{◌++◌, sym, ap, ◌∙◌, subst}
use Rattle.std.specs.Str.{IsAscii}
use Rattle.oct_code.specs.CodeText.{code_text}
use Rattle.oct_json.proofs.Ascii.{code_is_ascii}
use Rattle.oct_json.proofs.json_rows.code_value.Goals as goal

pub ascii-requires : goal.ascii-requires
ascii-requires c =
    let code = c.args.code.now in
    subst IsAscii (sym (c.deref.ensures.value ∙ c.in_ok-append_text.ensures.ok ∙ ap (λ t. t ++ code_text code) c.new-text.ensures.items)) (code_is_ascii code c.len.ensures.valid)
