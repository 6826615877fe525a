use Rattle.std.proofs.Common.{◌≡◌, List, drop}
use Rattle.sx_term.specs.Tree.{Tree}
use Rattle.sx_term.specs.Instances.{bound_by}
use Rattle.sx_rules.specs.ProofView.{proof, boxed}
use Rattle.sx_rules.specs.Sets.{bare_rules_in}
use Rattle.sx_rewrite.specs.Measured.{certificate_terms, certificate_terms_of}
use Rattle.sx_rewrite.specs.Puts.{AreMeasuresOf}
use Rattle.sx_rewrite.specs.Rewriting.{first_over}
use Rattle.sx_expand.proofs.node_limits.+check_certificate.Given as goal

abbrev pub invariant-loop-kid : goal.invariant-loop-kid
invariant-loop-kid l = (more : List Tree) → AreMeasuresOf more l.parts →
    first_over (certificate_terms (bare_rules_in l.base) (bound_by more) (proof l.certificate)) ≡ first_over (certificate_terms_of (bare_rules_in l.base) (bound_by more) (boxed (drop l.kid-index l.kid-items)))
