use Rattle.std.proofs.Common.{◌++◌, ap, ◌∙◌, subst}
use Rattle.std.proofs.lemmas.Result.{on_ok_weaker}
use Rattle.oct_code.specs.CodeText.{code_text}
use Rattle.census_tell.proofs.site.put_named.Goals as goal

pub returns-clause-ok : goal.returns-clause-ok
returns-clause-ok g c =
    let code = code_text c.args.code.now in
    let name = c.deref.ensures.value ∙ c.in_ok-extend_from_slice.ensures.items ∙ ap (λ t. t ++ c.args.end.now) (c.in_ok-append_text.ensures.ok ∙ ap (λ t. t ++ code) c.new-name.ensures.items) in
    on_ok_weaker c.put.result (λ e. subst (λ n. g.S.Folder.puts c.args.folder.now n c.args.bytes.now c.put.new.self) name e) c.put.ensures.ok
