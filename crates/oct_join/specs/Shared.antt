-- Operations that are shared, each of which is seen as the operation that it is.
use Rattle.std.specs.Prelude.{List, map}
use Rattle.oct_ops.specs.Body.{Operation}

-- by what it is searched
abbrev pub content : Operation → Operation
content shared = shared

abbrev pub contents : List Operation → List Operation
contents = map content
