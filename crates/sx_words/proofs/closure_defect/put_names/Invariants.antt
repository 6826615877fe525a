use Rattle.std.proofs.Common.{◌≡◌, ◌++◌, take}
use Rattle.sx_words.specs.RefusalText.{names_text}
use Rattle.sx_words.proofs.closure_defect.put_names.Given as goal

abbrev pub invariant-loop-name : goal.invariant-loop-name
invariant-loop-name l = l.into.items ≡ l.fn.into.items ++ names_text (take l.name-index l.names)
