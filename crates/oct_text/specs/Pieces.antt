-- What the pieces of a text say.
use Rattle.std.specs.Fmt.{decimal}
use Rattle.oct_code.specs.CodeText.{code_text}
use Rattle.oct_text.specs.Words.{Text, dot_text}
use Rattle.oct_text.specs.Escape.{escaped, name_beside, quoted}
use Rattle.oct_text.specs.declared.pieces.Piece as piece

abbrev pub piece_text : piece.Piece → Text
piece_text (piece.TheVariants.Text text) = text.now
piece_text (piece.TheVariants.Number n) = decimal n
piece_text (piece.TheVariants.Dot d) = dot_text d
piece_text (piece.TheVariants.Code c) = code_text c
piece_text (piece.TheVariants.Escaped text) = escaped text.now
piece_text (piece.TheVariants.Beside name) = name_beside name.now
piece_text (piece.TheVariants.Quoted text) = quoted text.now
