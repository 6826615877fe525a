use Rattle.std.proofs.Common.{[], ◌∷◌}
use Rattle.sx_auditing.proofs.Once.{all-front, all-back}
use Rattle.sx_build.specs.Remembering.{remembered_imports, IsOwnImport}
use Rattle.sx_build.proofs.Recalled.{remembers_kept}
use Rattle.sx_build.proofs.remembered.Remembered.keep_all.Goals as goal

pub loop-import-preserved : goal.loop-import-preserved
loop-import-preserved c = λ mades was all.
    let import = c.in-Some.import in
    let before = all-front (IsOwnImport mades) c.loop-import.yielded (import ∷ []) all in
    let one = all-back (IsOwnImport mades) c.loop-import.yielded (import ∷ []) all in
    remembers_kept mades import (remembered_imports c.loop-import.self) (remembered_imports c.keep.new.self)
    c.keep.ensures (c.loop-import.invariant mades was before) one.0
