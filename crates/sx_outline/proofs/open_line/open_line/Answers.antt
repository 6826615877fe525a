use Rattle.std.proofs.Common.{◌≡◌, refl, sym, subst}
use Rattle.sx_outline.specs.declared.stage.Stage.{Stage}
use Rattle.sx_outline.specs.declared.stage.Stage.TheVariants.{Conclusion}
use Rattle.sx_outline.specs.declared.stage.Begun.{Begun}
use Rattle.sx_outline.specs.Stages.{IsInside}
use Rattle.sx_outline.specs.Reading.{stage}
use Rattle.sx_outline.proofs.open_line.open_line.Goals as goal

-- a rule is not ended where its conclusion is due
inside : (s : Stage) (b : Begun) → s ≡ Conclusion b → IsInside (stage s) b.number
inside s b e = subst (λ (t : Stage). IsInside (stage t) b.number) (sym e) refl

pub returns-in-Conclusion : goal.returns-in-Conclusion
returns-in-Conclusion c = inside _ _ c.in-Conclusion.is
