-- What is stored of an extension rule is not too deep.
use Rattle.std.specs.Prelude.{◌≤◌, IfSome}
use Rattle.sx_term.specs.Tree.{depth_of}
use Rattle.sx_term.specs.Term.{tree}
use Rattle.sx_rules.specs.Derivations.{height_of, HasShallowBinds}
use Rattle.sx_rules.specs.ProofView.{proof}
use Rattle.sx_rewrite.specs.declared.flat.Flat.{Flat}
use Rattle.sx_rules.specs.Limits.{most_levels}
use Rattle.sx_term.specs.Limits.{most_depth}

-- the flat body and the terms of the certificate are no deeper than 1,000,
-- and the certificate is no deeper than 3,000
abbrev pub IsShallowFlat : Flat → Type 0
IsShallowFlat f =
    IfSome f.subject (λ t. depth_of (tree t) ≤ most_depth) ×
    (height_of (proof f.proof.value) ≤ most_levels)
    × HasShallowBinds (proof f.proof.value)
