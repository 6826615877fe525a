-- What holds of each outline of an extension file.
use Rattle.std.specs.Prelude.{◌≡◌, ℕ, ◌+◌, ◌≤◌, List, [], ◌++◌, length, map, Contains}
use Rattle.std.specs.List.{AllByRecursion}
use Rattle.sx_grammar.specs.Parts.{Parts, literals}
use Rattle.sx_grammar.specs.Tables.{HasGoodLevels}
use Rattle.sx_grammar.specs.declared.sort_line.SortLine.{SortLine}
use Rattle.sx_directives.specs.declared.rows.VarLine.{VarLine}
use Rattle.sx_outline.specs.Fitting.{ArePartNames, IsKnownSort}
use Rattle.sx_lines.specs.Distinct.{AreTextsDistinct}
use Rattle.sx_outline.specs.Sized.{HasShortLines}
use Rattle.sx_outline.specs.ExtensionOutlined.{ExtensionOutlineData, extension_declares}

-- the productions of the extension alone, as parts of a grammar
abbrev pub own_parts : ExtensionOutlineData → Parts
own_parts o = record { sorts = []; productions = o.productions }

-- the outline is no larger than a file of so many bytes can state, where the language has so many
-- stems
pub record IsExtensionSized (size stems : ℕ) (o : ExtensionOutlineData) : Type 0 where
  pub many : length o.productions + length o.vars + length (literals (own_parts o)) ≤ size + stems
  pub levels : HasGoodLevels (own_parts o)
  pub plains : AllByRecursion (λ p. length p.body.text ≤ size) o.plains
  pub lines : AllByRecursion (HasShortLines size) o.rules

-- The stems are those of the language and own ones, of which none stands twice or is one of the
-- language's, and their sorts are known. The names of plain pairs are those of the parts of their
-- productions, and no name is used twice.
pub record IsExtensionFit (sorts : List SortLine) (vars : List VarLine)
    (o : ExtensionOutlineData) : Type 0 where
  pub own : List VarLine
  pub vars_are : o.vars ≡ vars ++ own
  pub stems_once : AreTextsDistinct (map (λ v. v.stem) own)
  pub stems_apart : AllByRecursion (λ v. Contains (map (λ w. w.stem) vars) v.stem → ⊥) own
  pub sorts_known : AllByRecursion (λ v. IsKnownSort (extension_declares sorts o) v.sort) own
  pub plains : AllByRecursion (λ p. ArePartNames (extension_declares sorts o) p.label
      p.names) o.plains
  pub uses : AreTextsDistinct o.header.uses
