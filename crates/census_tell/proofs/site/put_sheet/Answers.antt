use Rattle.std.proofs.Common.{refl}
use Rattle.std.proofs.lemmas.Result.{on_ok_weaker}
use Rattle.census_tell.proofs.site.put_sheet.Goals as goal

pub returns-clause-ok : goal.returns-clause-ok
returns-clause-ok g c =
    on_ok_weaker c.put_html.result
    (λ e. (c.put_picture.new.folder, c.in_ok-put_picture.ensures.ok, (c.put_bfile.new.folder, c.in_ok-put_bfile.ensures.ok, (c.put_json.new.folder, c.in_ok-put_json.ensures.ok, (c.put_html.new.folder, e, refl)))))
    c.put_html.ensures.ok
