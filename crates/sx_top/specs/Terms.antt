-- Terms that can be written.
use Rattle.std.specs.Prelude.{◌≤◌, List, [], ◌∷◌}
use Rattle.std.specs.Str.{IsUtf8}
use Rattle.sx_term.specs.Tree.{Tree, depth_of}
use Rattle.sx_term.specs.Core.{core, IsWritable}
use Rattle.sx_term.specs.Limits.{most_depth}

-- each term has a depth of at most 1,000 and can be written, as UTF-8
abbrev pub AreTerms : List Tree → Type 0
AreTerms [] = Unit {0}
AreTerms (t ∷ ts) = (depth_of t ≤ most_depth) × IsWritable t × IsUtf8 (core t) × AreTerms ts
