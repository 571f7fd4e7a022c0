-- How a text falls into lines, and a line into fields. Assumes nothing.
use Rattle.std.specs.Prelude.{ℕ, ◌+◌, cond, List, [], ◌∷◌, length, take, drop, map, Some, None, Option, ◌==◌, nat_eq}
use Rattle.std.specs.List.{slice_split}
use Rattle.std.specs.Cmp.Lexicographic.{pointwise}
use Rattle.std.specs.Str.Lines.{strip_carriage_return}

-- the text without the three bytes of the byte order mark, which spreadsheets put before it
abbrev pub content : List ℕ → List ℕ
content text = cond (pointwise nat_eq (take 3 text) (0xef ∷ 0xbb ∷ 0xbf ∷ [])) (drop 3 text) text

-- the fields of a line: such a byte stands between two
abbrev pub fields : ℕ → List ℕ → List (List ℕ)
fields mark line = slice_split (λ b. b == mark) line

-- the parts between line feeds, but for an empty one behind the last
abbrev pub ended : List (List ℕ) → List (List ℕ)
ended [] = []
ended ([] ∷ []) = []
ended ((byte ∷ bytes) ∷ []) = (byte ∷ bytes) ∷ []
ended (part ∷ next ∷ parts) = part ∷ ended (next ∷ parts)

-- the lines of a text: a line feed (10) ends each, and the last may lack it; one carriage return before that end is no part
-- of the line
unfoldable pub lines : List ℕ → List (List ℕ)
lines text = map strip_carriage_return (ended (fields 10 text))

-- the lines of a file, behind its byte order mark
abbrev pub lines_of : List ℕ → List (List ℕ)
lines_of text = lines (content text)

-- how many bytes what is left of a line takes, with the mark before it
abbrev pub span : Option (List ℕ) → ℕ
span None = 0
span (Some text) = length text + 1
