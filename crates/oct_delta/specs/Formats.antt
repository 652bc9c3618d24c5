-- The formats of the two editions.
use Rattle.oct_delta.specs.Delta.{Format, old_format, new_format}
use Rattle.oct_delta.specs.declared.format.Edition.{Edition}
use Rattle.oct_delta.specs.declared.format.Edition.TheVariants.{First, Second}

abbrev pub format : Edition → Format
format First = old_format
format Second = new_format
