use Rattle.std.proofs.Common.{◌∙◌}
use Rattle.sx_words.specs.declared.file_defect.FileDefect.TheVariants.{Word}
use Rattle.sx_words.specs.declared.refusal.Defect.TheVariants.{File}
use Rattle.sx_steps.specs.Refusal.{about}
use Rattle.sx_auditing.proofs.naming.bad_word.Goals as goal

pub returns : goal.returns
returns c =
    let named = c.in_ok-file.ensures in
    let placed = c.from.ensures in
    c.about.ensures ∙ (λ i. about (named i) (File (Word (placed i))))
