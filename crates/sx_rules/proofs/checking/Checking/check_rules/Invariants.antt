use Rattle.std.proofs.Common.{◌≡◌, ◌++◌, drop, take, map}
use Rattle.sx_rules.specs.declared.error.RuleError.{RuleError}
use Rattle.sx_rules.specs.Good.{AllGood, IsFirstBreach, names_of}
use Rattle.sx_term.specs.Shapes.{shapes}
use Rattle.sx_rules.specs.Views.{forms, named}
use Rattle.sx_rules.proofs.SetLaws.{before}
use Rattle.sx_rules.proofs.checking.Checking.check_rules.Given as goal

abbrev pub invariant-loop-i : goal.invariant-loop-i
invariant-loop-i l =
    let start = l.self.before.now ++ l.fn.names in
    let all = shapes l.self.shapes.now in
    let known = forms l.self.forms.now in
    record {
      names : l.names ≡ l.fn.names ++ names_of (take l.i l.rules);
      good : AllGood all known (before all known start l.rules l.i) (map named (drop l.i l.rules)) → AllGood all known start (map named l.rules);
      bad : (x : RuleError) → IsFirstBreach all known (before all known start l.rules l.i) (map named (drop l.i l.rules)) x → IsFirstBreach all known start (map named l.rules) x;
    }
