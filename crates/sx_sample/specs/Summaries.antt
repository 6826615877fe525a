-- The line that tells how big a sample is.
use Rattle.std.specs.Prelude.{ℕ, List, ◌++◌, codes}
use Rattle.std.specs.Fmt.{decimal}
use Rattle.sx_sample.specs.declared.summary.Summary.{Summary}

-- the line, with its line feed
abbrev pub summary_line : Summary → List ℕ
summary_line s = codes "sample " ++ decimal s.number ++ codes ": source " ++ decimal s.source_tokens
    ++ codes " tokens, base " ++ decimal s.base_tokens ++ codes " tokens, " ++ decimal s.nodes
    ++ codes " nodes\n"
