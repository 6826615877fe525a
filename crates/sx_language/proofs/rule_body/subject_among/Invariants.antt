use Rattle.std.proofs.Common.{◌≡◌, drop}
use Rattle.sx_language.proofs.Subjects.{subject_in}
use Rattle.sx_language.proofs.rule_body.subject_among.Given as goal

abbrev pub invariant-loop-i : goal.invariant-loop-i
invariant-loop-i l = subject_in (drop l.i l.places) ≡ subject_in l.places
