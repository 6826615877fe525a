use Rattle.std.proofs.Common.{ℕ, List, sym, subst, ◌∙◌}
use Rattle.std.specs.Prelude.{Ok}
use Rattle.sx_uses.specs.ExtensionFile.{extension_of}
use Rattle.sx_uses.specs.ReadExtension.{ReadsFile}
use Rattle.tests_uses.proofs.uses_read.reached.Goals as goal

pub read_uses-requires-clause-held : goal.read_uses-requires-clause-held
read_uses-requires-clause-held c = λ files told.
    subst (λ (n : List ℕ). ReadsFile files n (Ok (extension_of c.in-Ok.held))) (sym c.in-Ok.ensures.named) (c.in-Ok.ensures.step files (sym c.in-Ok.ensures.reads.content ∙ told))
