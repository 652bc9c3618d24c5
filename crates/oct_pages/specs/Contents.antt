-- What a game's sheet in memory holds.
use Rattle.oct_pages.specs.Sheet as sheet
use Rattle.oct_pages.specs.declared.game.GameSheet.{GameSheet}

abbrev pub game_content : {A : Type 0} → GameSheet A → sheet.GameSheet
game_content g = record {
  code = g.code;
  values = g.values.now;
  blocks = g.blocks.items;
  periods = g.periods.items;
  proved = g.proved;
}
