use Rattle.std.proofs.Common.{◌≡◌, ◌≤◌, ℕ, List, map, length, inr, Option, Some, None, sym, subst}
use Rattle.std.specs.Prelude.{slice_get}
use Rattle.sx_plain.specs.declared.measure.Measure.{Measure}
use Rattle.sx_plain.specs.Measures.{greatest}
use Rattle.sx_plain.specs.PartMeasures.{depths_of}
use Rattle.sx_rules.specs.Derivations.{Proof}
use Rattle.sx_rules.specs.Discipline.{subjects_of}
use Rattle.sx_rules.specs.Rules.{Rule}
use Rattle.sx_rules.specs.Sets.{bare_rules_in}
use Rattle.sx_rules.specs.Views.{rule}
use Rattle.sx_arena.specs.Arena.{tree_at, AreBelow}
use Rattle.sx_rewrite.specs.Accepted.{rule_in, known_of}
use Rattle.sx_rewrite.specs.Lowering.{own_terms}
use Rattle.sx_rewrite.specs.Puts.{AreMeasuresOf, Tells}
use Rattle.sx_rewrite.specs.Rewriting.{first_over}
use Rattle.sx_rewrite.proofs.Known.{rule-at}
use Rattle.sx_expand.specs.LoweredNodes.{IsInstanceAt}
use Rattle.sx_expand.specs.OwnSubjects.{own_judgement}
use Rattle.sx_expand.specs.Readers.{terms_in}
use Rattle.sx_expand.specs.Readings.{set_by, signature_by}
use Rattle.sx_expand.proofs.KidsStay.{found-is, rule-within}
use Rattle.sx_expand.proofs.NodeLowering.{instance-at, rule-shallow, goes-on}
use Rattle.sx_expand.proofs.lower_node.lower_node.Goals as goal

pub check_node-requires : goal.check_node-requires
check_node-requires c =
    let k = c.requires.kids in
    let w = c.in_ok-puts.ensures.put c.requires.node.rule c.requires.node.at k.0 k.1 k.2 in
    subst (λ (ms : List Measure). greatest (depths_of ms) ≤ 1001000) (sym c.deref.ensures.value) w.1.low

pub rule_at-rule-requires : goal.rule_at-rule-requires
rule_at-rule-requires c =
    rule-within (bare_rules_in c.args.reading.now.rules.now) c.args.number c.requires.node.rule c.requires.node.at

pub subject_number-subject-requires-clause-below : goal.subject_number-subject-requires-clause-below
subject_number-subject-requires-clause-below c =
    let k = c.requires.kids in
    let w = c.in_ok-puts.ensures.put c.requires.node.rule c.requires.node.at k.0 k.1 k.2 in
    subst (λ (ns : List ℕ). AreBelow (length (terms_in c.put_node.new.reader)) ns) (sym c.deref-2.ensures.value) w.1.below

pub subject_number-subject-requires-clause-shallow : goal.subject_number-subject-requires-clause-shallow
subject_number-subject-requires-clause-shallow c =
    (rule-shallow (bare_rules_in c.args.reading.now.rules.now) c.args.number (rule c.rule_at-rule.result.now) c.facts.ensures.shallow c.rule_at-rule.ensures).0

pub returns-in-Err-clause-lowered : goal.returns-in-Err-clause-lowered
returns-in-Err-clause-lowered c = λ x at hyps kids are.
    let at_rule = subst (λ (rs : List Rule). slice_get rs c.args.number ≡ Some (rule_in x)) (sym c.requires.reading.rules.rules_are) (rule-at (known_of (set_by c.args.reading.now)) c.args.number x at) in
    let w = c.in_ok-puts.ensures.put (rule_in x) at_rule hyps kids are in
    let m = subst (λ (ms : List Measure). AreMeasuresOf w.0 ms) (sym c.deref.ensures.value) w.1.measured in
    let l = c.args.reading.now in
    let n = c.args.number in
    inr (w.0, w.2, subst (λ (o : Option Proof). Tells (first_over (own_terms (set_by l).base o n w.0)) c.in-Err.error) (sym (c.requires.reading.rules.proofs_are n)) (c.in-Err.ensures w.0 m))

pub returns-in-Ok-subject-clause-on : goal.returns-in-Ok-subject-clause-on
returns-in-Ok-subject-clause-on c =
    goes-on (set_by c.args.reading.now).table c.args.reader.now c.put_node.new.reader c.subject_number-subject.new.arena c.in_ok-puts.ensures.on c.in-Ok-subject.ensures.arena.0 c.in-Ok-subject.ensures.arena.1

pub returns-in-Ok-subject-clause-lowered : goal.returns-in-Ok-subject-clause-lowered
returns-in-Ok-subject-clause-lowered c = λ x at hyps kids are.
    let l = c.args.reading.now in
    let subjects = (signature_by l).subjects in
    let at_rule = subst (λ (rs : List Rule). slice_get rs c.args.number ≡ Some (rule_in x)) (sym c.requires.reading.rules.rules_are) (rule-at (known_of (set_by l)) c.args.number x at) in
    let same = found-is _ (rule_in x) (rule c.rule_at-rule.result.now) at_rule c.rule_at-rule.ensures in
    let w = c.in_ok-puts.ensures.put (rule_in x) at_rule hyps kids are in
    let m = subst (λ (ms : List Measure). AreMeasuresOf w.0 ms) (sym c.deref.ensures.value) w.1.measured in
    let own = subjects_of subjects (own_judgement (set_by l).table subjects x) in
    let is = instance-at c.put_node.new.reader.arena c.subject_number-subject.new.arena c.deref-2.result.now own c.in-Ok-subject.found (c.in-Ok-subject.ensures.subject x at same) in
    record {
      more = w.0;
      made = map (tree_at (terms_in c.put_node.new.reader)) c.in_ok-puts.puts.numbers.items;
      put = w.2;
      made_are = w.1.made;
      small = subst (λ (o : Option Proof). first_over (own_terms (set_by l).base o c.args.number w.0) ≡ None) (sym (c.requires.reading.rules.proofs_are c.args.number)) (c.in-Ok.ensures w.0 m).0;
      subject = subst (λ (ns : List ℕ). IsInstanceAt (terms_in (record { arena = c.subject_number-subject.new.arena; images = c.put_node.new.reader.images })) (map (tree_at (terms_in c.put_node.new.reader)) ns) own c.in-Ok-subject.found)
          c.deref-2.ensures.value is;
    }
