-- The terms that a stuck goal tells.
use Rattle.std.specs.Prelude.{List, []}
use Rattle.sx_term.specs.Tree.{Tree}
use Rattle.sx_rules.specs.Deep.{AreShallow}
use Rattle.sx_rules.specs.Writable.{HaveTexts}
use Rattle.sx_derive.specs.Stuck.{Reason, no_rule, unequal, mismatch, Blame}

-- the outputs that were got, where some were
abbrev pub got_in : Reason → List Tree
got_in no_rule = []
got_in (unequal rule premise) = []
got_in (mismatch by got) = got

-- the terms of the goal and the outputs that were got have core texts
abbrev pub BlameHasTexts : Blame → Type 0
BlameHasTexts b = HaveTexts b.goal.terms × HaveTexts (got_in b.reason)

-- they are no deeper than 1,000
abbrev pub BlameIsShallow : Blame → Type 0
BlameIsShallow b = AreShallow b.goal.terms × AreShallow (got_in b.reason)
