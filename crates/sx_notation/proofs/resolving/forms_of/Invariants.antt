use Rattle.std.proofs.Common.{◌≡◌, take, map}
use Rattle.sx_rules.specs.Views as view
use Rattle.sx_notation.specs.RuleLaws.{HaveSortsOf, form_of}
use Rattle.sx_notation.proofs.resolving.forms_of.Given as goal

abbrev pub invariant-loop-i : goal.invariant-loop-i
invariant-loop-i l = record {
  known : HaveSortsOf l.grammar.parts (take l.i l.lines);
  made : view.forms l.forms.items ≡ map (form_of l.grammar.parts) (take l.i l.lines);
}
