use Rattle.std.proofs.Common.{◌-◌, length, take}
use Rattle.sx_language.specs.RuleTexts.{HaveStemSorts}
use Rattle.sx_language.proofs.stem_sorts.sorts_of.Given as goal

abbrev pub invariant-loop-name : goal.invariant-loop-name
invariant-loop-name l = HaveStemSorts l.stems (take l.number l.names) l.sorts.items

abbrev pub decreases-loop-name : goal.decreases-loop-name
decreases-loop-name l = length l.names - l.number
