use Rattle.oct_delta.proofs.reader.Reader.new.Goals as goal

pub returns : goal.returns
returns g c = cc
