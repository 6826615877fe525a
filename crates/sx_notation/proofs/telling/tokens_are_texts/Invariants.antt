use Rattle.std.proofs.Common.{take}
use Rattle.std.specs.List.{AllByRecursion}
use Rattle.std.specs.Str.{IsUtf8}
use Rattle.sx_forest.specs.Text.{token_texts}
use Rattle.sx_notation.proofs.telling.tokens_are_texts.Given as goal

abbrev pub invariant-loop-i : goal.invariant-loop-i
invariant-loop-i l = AllByRecursion IsUtf8 (token_texts (take l.i l.tokens))
