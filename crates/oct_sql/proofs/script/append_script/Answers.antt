use Rattle.oct_text.proofs.Joined.{joined_five}
use Rattle.oct_sql.proofs.script.append_script.Goals as goal

pub returns-clause-ok : goal.returns-clause-ok
returns-clause-ok g c =
    joined_five c.append_text-2.result _ _ _ _ _ _ _ _ _ _ _
    c.in_ok-append_text.ensures.ok c.in_ok-append_authors.ensures.ok c.in_ok-append_games.ensures.ok c.in_ok-append_rest.ensures.ok c.append_text-2.ensures.ok
