-- What words say.
use Rattle.std.specs.Prelude.{ℕ, List}
use Rattle.std.specs.Fmt.{decimal}
use Rattle.oct_pages.specs.declared.outlet.Word as word

abbrev pub word_text : word.Word → List ℕ
word_text (word.TheVariants.Text text) = text.now
word_text (word.TheVariants.Number n) = decimal n
