-- Texts as names.
use Rattle.std.specs.Prelude.{◌≡◌, List}
use Rattle.sx_term.specs.Cutting.{AreDistinct}
use Rattle.sx_grammar.specs.declared.firsts.Numbering.{Numbering}
use Rattle.sx_grammar.specs.declared.firsts.Numbering.TheVariants.{Distinct, Again}
use Rattle.sx_grammar.specs.Grammar.{Text}
use Rattle.sx_grammar.specs.Made.{IsFirstAgain}

-- the texts, which are distinct, or the first that stands there before
abbrev pub IsNumberedAs : List Text → Numbering → Type 0
IsNumberedAs list (Distinct names) = AreDistinct list × (names ≡ list)
IsNumberedAs list (Again text) = IsFirstAgain list text.now
