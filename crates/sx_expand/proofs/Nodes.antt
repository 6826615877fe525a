-- Nodes by their rules.
use Rattle.std.proofs.Common.{◌≡◌, ℕ, zero, suc, List, [], ◌∷◌, length, map, Some, None, Option, refl, ap, ◌∙◌, subst}
use Rattle.std.specs.Prelude.{slice_get, option_map}
use Rattle.sx_term.specs.Tree.{Tree}
use Rattle.sx_rules.specs.Rules.{Rule, judgements_of}
use Rattle.sx_rules.specs.Derivations.{Proof, Proofs, by}
use Rattle.sx_rules.specs.Orders.{Entry, of_rule}
use Rattle.sx_rewrite.specs.Accepted.{Known, basic, checked, Checked, Accepted, known_of}
use Rattle.sx_rewrite.specs.Accepted.{extended_rules, rule_in}
use Rattle.sx_rewrite.specs.LoweredSizes.{proof_count, FitKids, HasFitKids}
use Rattle.sx_rewrite.specs.Stored.{stored_in}
use Rattle.sx_rewrite.proofs.Known.{known-at}
use Rattle.sx_expand.specs.LoweredOrders.{all_entries, grafted_order, order_at}

-- a node has a kid for each judgement among the premises of its rule
pub kids-many : (a : Accepted) (r : ℕ) (binds : List Tree) (kids : Proofs) (rule : Rule) → HasFitKids a (by r binds kids) → slice_get (extended_rules a) r ≡ Some rule → proof_count kids ≡ length (judgements_of rule.premises)
kids-many a r binds kids rule fit at_r =
    let known = known-at (known_of a) r rule at_r in
    let f : FitKids (Some known.0) kids = subst (λ (o : Option Known). FitKids o kids) known.1 fit.0 in
    f ∙ ap (λ (x : Rule). length (judgements_of x.premises)) known.2

-- and there is such a rule
pub never-ruleless : (a : Accepted) (r : ℕ) (binds : List Tree) (kids : Proofs) → HasFitKids a (by r binds kids) → slice_get (extended_rules a) r ≡ None → ⊥
never-ruleless a r binds kids fit none = go (known_of a) r none fit.0
  where
    go : (ks : List Known) (n : ℕ) → slice_get (map rule_in ks) n ≡ None → FitKids (slice_get ks n) kids → ⊥
    go [] n e f = f
    go (k ∷ ks) zero e f = cc
    go (k ∷ ks) (suc n) e f = go ks n e f

-- the order of a node by a rule with a certificate
pub checked-order : (o : Option Known) (r : ℕ) (lists : List (List Entry)) (certificate : Proof) → option_map (λ (c : Checked). c.proof) (stored_in o) ≡ Some certificate → order_at o r lists ≡ grafted_order lists certificate
checked-order None r lists certificate e = cc
checked-order (Some (basic rule)) r lists certificate e = cc
checked-order (Some (checked c)) r lists certificate e = let q : c.proof ≡ certificate = cc in ap (grafted_order lists) q

-- and of one by a base rule
pub basic-order : (o : Option Known) (r : ℕ) (kids : Proofs) (lists : List (List Entry)) → option_map (λ (c : Checked). c.proof) (stored_in o) ≡ None → FitKids o kids → order_at o r lists ≡ of_rule r ∷ all_entries lists
basic-order None r kids lists e f = absurd f
basic-order (Some (basic rule)) r kids lists e f = refl
basic-order (Some (checked c)) r kids lists e f = cc
