use Rattle.std.proofs.Common.{◌∙◌, inr, refl}
use Rattle.std.specs.Prelude.{string_bytes}
use Rattle.sx_build.proofs.Recalled.{kept_by}
use Rattle.sx_build.proofs.remembered.Remembered.keep.Goals as goal

pub returns-in-Ok : goal.returns-in-Ok
returns-in-Ok c =
    kept_by c.insert.result c.args.self.now.imports c.insert.new.self (string_bytes c.in-Ok.name)
    c.args.import (c.in-Ok.ensures.ok ∙ c.as_str.ensures) c.insert.ensures.updates
    c.insert.ensures.err

pub returns-in-Err : goal.returns-in-Err
returns-in-Err c = inr (λ name. refl)
