-- What a line of published data holds.
use Rattle.std.specs.Prelude.{◌≡◌, ◌≢◌, ℕ, ◌++◌, [], List, codes}
use Rattle.published.specs.declared.lines.Line.{Line}
use Rattle.published.specs.declared.lines.Line.TheVariants.{Value, Heading, Blank}

-- the line of a label and of bytes as they are spelled: LABEL = { bytes }
abbrev pub value_line : List ℕ → List ℕ → List ℕ
value_line label bytes = label ++ (codes " = { " ++ (bytes ++ codes " }"))

-- a line holds a value where it is the line of the label and the bytes, nothing where it is empty, and else a heading, itself
abbrev pub Holds : List ℕ → Line → Type 0
Holds line (Value label bytes) = line ≡ value_line label.now bytes.now
Holds line (Heading heading) = (heading.now ≡ line) × (line ≢ []) × ((label bytes : List ℕ) → line ≢ value_line label bytes)
Holds line Blank = line ≡ []
