use Rattle.std.proofs.Common.{map}
use Rattle.sx_build.specs.Buildings.{mades_view}
use Rattle.sx_build.proofs.Finding.{NoneSo}
use Rattle.sx_build.proofs.imports_made.find.Given as goal

-- none so far has the name
abbrev pub invariant-loop-i : goal.invariant-loop-i
invariant-loop-i l = NoneSo (map (λ m. m.name) (mades_view l.mades)) l.name l.i
