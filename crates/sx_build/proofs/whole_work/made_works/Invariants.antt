use Rattle.std.proofs.Common.{◌≡◌, map}
use Rattle.std.specs.List.{flat_map}
use Rattle.sx_steps.specs.Work.{file_of}
use Rattle.sx_build.specs.Buildings.{mades_view}
use Rattle.sx_build.specs.MadeModules.{made_plan, made_files}
use Rattle.sx_build.proofs.whole_work.made_works.Given as goal

-- the files and the lines of the modules so far
abbrev pub invariant-loop-made : goal.invariant-loop-made
invariant-loop-made l = (map file_of l.whole.files.items ≡ made_files (mades_view l.yielded))
    × (l.whole.lines.items ≡ flat_map (λ m. (made_plan m).lines) (mades_view l.yielded))
