use Rattle.std.proofs.Common.{ℕ, refl, sym, ap, ◌∙◌}
use Rattle.std.specs.Prelude.{option_map}
use Rattle.sx_lines.specs.Words.{count_of}
use Rattle.sx_rules.specs.Limits.{most_levels}
use Rattle.sx_audit.specs.Kinds.{of_limit}
use Rattle.sx_audit.proofs.depths.DepthAuditor.set.Goals as goal

pub returns-in-None : goal.returns-in-None
returns-in-None c = (
  refl,
  ap (λ text. option_map (λ (n : ℕ). of_limit n 0) (count_of most_levels text)) (sym c.bytes.ensures.value)
      ∙ ap (option_map (λ (n : ℕ). of_limit n 0)) (sym c.count_of.ensures.value ∙ c.in-None.is),
)
