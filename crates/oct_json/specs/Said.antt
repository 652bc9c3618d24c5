-- A long period that somebody says, with the name of who says it.
use Rattle.oct_said.specs.declared.noting.LongPeriod.{LongPeriod}
use Rattle.oct_text.specs.Words.{Text}

pub record SaidPeriod : Type 0 where
  pub long : LongPeriod
  pub name : Text
