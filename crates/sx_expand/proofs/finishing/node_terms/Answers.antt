use Rattle.std.proofs.Common.{◌≡◌, ◌<◌, ℕ, [], length, arith, sym, ap, ◌∙◌, subst}
use Rattle.std.proofs.lemmas.Result.{IfOk-weaker}
use Rattle.sx_rules.specs.Views.{rule}
use Rattle.sx_arena.specs.Limits.{first_values}
use Rattle.sx_arena.specs.Matching.{filled, IsBound}
use Rattle.sx_rewrite.specs.Accepted.{extended_rules}
use Rattle.sx_expand.specs.Followed.{bindings_of}
use Rattle.sx_expand.specs.Readings.{set_by, signature_by, hyps_by}
use Rattle.sx_expand.specs.ReadNodes.{NodeData, IsNodeIn, AreFollowed}
use Rattle.sx_expand.specs.Readers.{terms_in}
use Rattle.sx_expand.proofs.Bindings.{number-within, rule-same, node-bound, node-binds}
use Rattle.sx_expand.proofs.finishing.node_terms.Goals.{After-len}
use Rattle.sx_expand.proofs.finishing.node_terms.Goals as goal

pub rule_at-rule-requires : goal.rule_at-rule-requires
rule_at-rule-requires c =
    let d = c.requires.node in number-within _ _ c.requires.reading.rules.rules_are c.args.node.now.number d.0.rule d.1.found

count-is : (c : After-len) → c.len.result ≡ length (rule c.rule_at-rule.result.now).sorts
count-is c =
    let k = c.rule_at-rule.result.now.vars.ok.0 in
    let e = c.len.ensures in omega (arith, k, e)

-- the variables of the rule are bound
bound : (c : After-len) → (d : NodeData) → IsNodeIn c.args.reading.now c.args.node.now d → AreFollowed c.args.reading.now d.rule d.binds [] (bindings_of (terms_in c.args.reader.now) c.args.work.now) →
    (v : ℕ) → v < c.len.result → IsBound (bindings_of (terms_in c.args.reader.now) c.args.work.now) v
bound c d is f =
    let l = c.args.reading.now in
    let env = bindings_of (terms_in c.args.reader.now) c.args.work.now in
    subst (λ (n : ℕ). (v : ℕ) → v < n → IsBound env v) (sym (count-is c))
    (node-bound (signature_by l).modes (extended_rules (set_by l)) (hyps_by l) c.args.node.now.number d.rule (rule c.rule_at-rule.result.now) (rule-same _ _ c.requires.reading.rules.rules_are c.args.node.now.number d.rule is.found (rule c.rule_at-rule.result.now) c.rule_at-rule.ensures) is.found d.judgement d.binds d.kids is.can.derives env f)

pub bound_numbers-requires : goal.bound_numbers-requires
bound_numbers-requires c =
    let n = c.requires.node in
    (terms_in c.args.reader.now, c.requires.work, bound c n.0 n.1 n.2)

pub returns-clause-below : goal.returns-clause-below
returns-clause-below c =
    let n = c.requires.node in
    IfOk-weaker c.bound_numbers.result _ _ (λ x h. (h (terms_in c.args.reader.now) c.requires.work (bound c.before n.0 n.1 n.2)).0) c.bound_numbers.ensures

pub returns-clause-terms : goal.returns-clause-terms
returns-clause-terms c =
    let l = c.args.reading.now in
    let env = bindings_of (terms_in c.args.reader.now) c.args.work.now in
    IfOk-weaker c.bound_numbers.result _ _ (λ x h d is f.
    (h (terms_in c.args.reader.now) c.requires.work (bound c.before d is f)).1
    ∙ ap (λ (n : ℕ). first_values n (filled env)) (count-is c.before)
    ∙ node-binds (signature_by l).modes (extended_rules (set_by l)) (hyps_by l) c.args.node.now.number d.rule (rule c.rule_at-rule.result.now) (rule-same _ _ c.requires.reading.rules.rules_are c.args.node.now.number d.rule is.found (rule c.rule_at-rule.result.now) c.rule_at-rule.ensures) is.found d.judgement d.binds d.kids is.can.derives env f)
    c.bound_numbers.ensures
