-- Derivations in lists, by rules and from hypotheses, as plain data.
use Rattle.std.specs.Prelude.{◌≡◌, ℕ, List, [], ◌∷◌, length}
use Rattle.std.specs.List.{AllByRecursion}
use Rattle.sx_term.specs.Tree.{Tree}
use Rattle.sx_rules.specs.Rules.{Judgement, Hypotheses}
use Rattle.sx_rules.specs.Derivations.{Proof}
use Rattle.sx_rules.specs.Sets.{forms_in, shapes_in, bare_rules_in}
use Rattle.sx_rules.specs.declared.rule_set.RuleSet.{RuleSet}
use Rattle.sx_rules.specs.Views.{FormData, hypotheses, places_at}
use Rattle.sx_rewrite.specs.declared.accepted.Accepted.{Accepted as AcceptedOf}
use Rattle.sx_plain.specs.Views.{table_of}
use Rattle.sx_rewrite.specs.Accepted.{Accepted, Signature, IsAccepted, extended_rules}
use Rattle.sx_rewrite.specs.AcceptedView.{accepted, signature}
use Rattle.sx_rewrite.specs.Copied.{copied}
use Rattle.sx_rewrite.specs.LoweredSizes.{HasFitKids}
use Rattle.sx_rewrite.specs.Lowers.{HypothesesBelow}
use Rattle.sx_rewrite.specs.Puts.{IsSmallTerm}
use Rattle.sx_rewrite.specs.Stored.{accepted_from, certificate_at, flat_body_at}
use Rattle.sx_rewrite.specs.Used.{lowered_nodes, lowered_height}
use Rattle.sx_expand.specs.declared.reading.Reading.{Reading}
use Rattle.sx_expand.specs.Listed.{HasEnds, signature_in}
use Rattle.sx_expand.specs.LoweredOrders.{lowered_order}

-- the set with these rules in place of its extended rules
abbrev pub set_with : AcceptedOf → RuleSet → Accepted
set_with set rules =
    accepted_from (bare_rules_in set.base) (bare_rules_in rules) (table_of set.plain)
    set.flats.items

-- a derivation counts as much by the one set of rules as by the other
pub record CountsAs (a b : Accepted) (p : Proof) : Type 0 where
  pub fit : HasFitKids a p → HasFitKids b p
  pub nodes : lowered_nodes a p ≡ lowered_nodes b p
  pub height : lowered_height a p ≡ lowered_height b p
  pub copied_are : copied a p ≡ copied b p
  pub order : lowered_order a p ≡ lowered_order b p

-- The set is accepted with these rules, and has its certificates and flat bodies; derivations by
-- them count as much as those by its extended rules.
pub record AreAcceptedRules (set : AcceptedOf) (rules : RuleSet) : Type 0 where
  pub accepted_with : IsAccepted (signature set) (shapes_in set.base) (shapes_in set.rules)
      (set_with set rules)
  pub rules_are : bare_rules_in rules ≡ extended_rules (set_with set rules)
  pub forms_are : forms_in rules ≡ forms_in set.base
  pub proofs_are : (r : ℕ) → certificate_at (set_with set rules) r ≡ certificate_at (accepted set) r
  pub bodies_are : (r : ℕ) → flat_body_at (set_with set rules) r ≡ flat_body_at (accepted set) r
  pub counts : (p : Proof) → CountsAs (set_with set rules) (accepted set) p

-- the accepted set, the signature of its forms, and the hypotheses
abbrev pub set_by : Reading → Accepted
set_by r = set_with r.listing.set.now r.rules.now

abbrev pub signature_by : Reading → Signature
signature_by r = signature_in r.listing

abbrev pub hyps_by : Reading → Hypotheses
hyps_by r = hypotheses r.given.now

-- none of the terms passes a limit
abbrev pub AllSmall : List Tree → Type 0
AllSmall [] = Unit {0}
AllSmall (t ∷ ts) = IsSmallTerm t × AllSmall ts

-- the judgement has a term for each place of its form, and none of them passes a limit
pub record IsGivenJudgement (forms : List FormData) (j : Judgement) : Type 0 where
  pub many : length j.places ≡ length (places_at forms j.form)
  pub small : AllSmall j.places

-- so it is of each hypothesis, and their labels are base
pub record AreGiven (set : AcceptedOf) (hyps : Hypotheses) : Type 0 where
  pub below : HypothesesBelow (length (shapes_in set.base)) hyps
  pub each : AllByRecursion (IsGivenJudgement (forms_in set.base)) hyps.judgements

-- the ends are those of the entries, and the rules and the hypotheses are good
pub record IsListReading (r : Reading) : Type 0 where
  pub ends : HasEnds r.listing
  pub rules : AreAcceptedRules r.listing.set.now r.rules.now
  pub given : AreGiven r.listing.set.now (hyps_by r)
