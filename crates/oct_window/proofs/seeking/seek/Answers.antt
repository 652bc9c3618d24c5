use Rattle.oct_window.proofs.seeking.seek.Goals as goal

pub seek_behind-requires-clause-row : goal.seek_behind-requires-clause-row
seek_behind-requires-clause-row g c = c.new-row.ensures.row c.args.code.now
