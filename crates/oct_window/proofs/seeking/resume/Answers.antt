use Rattle.oct_window.proofs.seeking.resume.Goals as goal

pub list_told-requires-clause-row : goal.list_told-requires-clause-row
list_told-requires-clause-row g c = c.new-row.ensures.row c.args.place.code
