-- The rows of a location that the tests make.
use Rattle.std.specs.Prelude.{List, [], ◌∷◌, replicate}
use Rattle.grammar.specs.Grammar.{Rows, Row as Told}
use Rattle.vectors.specs.declared.made.Line.{Line}

abbrev pub told_line : Line → Told
told_line l =
    record { depth = l.row.depth; kind = l.row.kind; a = l.row.a; b = l.row.b; language = l.row.language; text = replicate l.row.length l.fill }

abbrev pub told_lines : List Line → Rows
told_lines [] = []
told_lines (l ∷ ls) = told_line l ∷ told_lines ls
