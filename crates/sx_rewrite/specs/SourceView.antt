-- What derivations are lowered by, as plain data.
use Rattle.std.specs.Prelude.{◌≡◌, ℕ, length}
use Rattle.sx_rules.specs.Derivations.{ShallowJudgements}
use Rattle.sx_rules.specs.Sets.{shapes_in, bare_rules_in}
use Rattle.sx_rules.specs.Views.{hypotheses}
use Rattle.sx_plain.specs.Views.{table_of}
use Rattle.sx_rewrite.specs.declared.source.Source.{Source}
use Rattle.sx_rewrite.specs.Accepted.{Accepted, extended_rules, IsAccepted}
use Rattle.sx_rewrite.specs.AcceptedView.{accepted, signature}
use Rattle.sx_rewrite.specs.Lowers.{HypothesesBelow}
use Rattle.sx_rewrite.specs.Stored.{accepted_from, certificate_at}

-- the set with these rules in place of its extended rules
abbrev pub set_of : Source → Accepted
set_of s =
    accepted_from (bare_rules_in s.set.now.base) (bare_rules_in s.rules.now)
    (table_of s.set.now.plain) s.set.now.flats.items

-- it is accepted with these rules and has the certificates of the set,
-- and the hypotheses are base and no deeper than 1,000
pub record IsSource (s : Source) : Type 0 where
  pub accepted_with : IsAccepted (signature s.set.now) (shapes_in s.set.now.base)
      (shapes_in s.set.now.rules) (set_of s)
  pub rules_are : bare_rules_in s.rules.now ≡ extended_rules (set_of s)
  pub proofs_are : (r : ℕ) → certificate_at (set_of s) r ≡ certificate_at (accepted s.set.now) r
  pub below : HypothesesBelow (length (shapes_in s.set.now.base)) (hypotheses s.given.now)
  pub near : ShallowJudgements (hypotheses s.given.now).judgements
