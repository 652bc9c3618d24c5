use Rattle.oct_delta.proofs.ClockTexts.{few_of_clock}
use Rattle.oct_delta.proofs.clock.encode_clock.Goals as goal

pub put_entries-requires : goal.put_entries-requires
put_entries-requires g c = few_of_clock c.entries.result.now c.entries.ensures.valid
