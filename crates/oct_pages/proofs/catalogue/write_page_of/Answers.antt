use Rattle.oct_pages.proofs.BuiltGames.{none_kept}
use Rattle.oct_pages.proofs.catalogue.write_page_of.Goals as goal

pub write_page_with-requires : goal.write_page_with-requires
write_page_with-requires g c = none_kept c.args.said.now.ops c.new.result c.new.ensures.empty
