-- What a parse answers, as the rules say it.
use Rattle.std.specs.Prelude.{Option, None, Some}
use Rattle.rules.specs.Text.{Parsed, parsed, malformed}

abbrev pub told_parse : {A : Type 0} → Option A → Parsed A
told_parse (Some a) = parsed a
told_parse None = malformed

-- what a function makes of a text that is well formed
abbrev pub parsed_by : {A B : Type 0} → (A → B) → Parsed A → Parsed B
parsed_by f (parsed a) = parsed (f a)
parsed_by f malformed = malformed
