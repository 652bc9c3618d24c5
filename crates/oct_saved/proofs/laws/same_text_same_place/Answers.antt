use Rattle.oct_saved.proofs.Alike.{places_alike}
use Rattle.oct_saved.proofs.Texts.{same_saved}
use Rattle.oct_saved.proofs.laws.same_text_same_place.Goals as goal

pub returns : goal.returns
returns g c = λ p q saved also same. places_alike p q (same_saved p q saved.fits also.fits same) also.coded
