use Rattle.oct_pages.proofs.BuiltGames.{none_kept}
use Rattle.oct_pages.proofs.catalogue.write_catalogue_of.Goals as goal

pub write_catalogue_with-requires : goal.write_catalogue_with-requires
write_catalogue_with-requires g c = none_kept c.args.said.now.ops c.new.result c.new.ensures.empty
