use Rattle.std.proofs.Common.{◌≡◌, ◌++◌}
use Rattle.sx_build.proofs.whole_work.add_files.Given as goal

abbrev pub invariant-loop-file : goal.invariant-loop-file
invariant-loop-file l = l.files.items ≡ l.initial.files.items ++ l.yielded
