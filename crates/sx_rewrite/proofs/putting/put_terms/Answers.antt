use Rattle.std.proofs.Common.{◌≡◌, length, map, List, [], Option, Some, None, sym, ap, ◌∙◌, subst}
use Rattle.sx_rules.specs.declared.rule.Premise.{Premise}
use Rattle.sx_rules.specs.Rules.{Rule, Judgement, judgements_of}
use Rattle.sx_rules.specs.Discipline.{AreBareSubjects}
use Rattle.sx_rules.specs.ProofView.{boxed}
use Rattle.sx_rules.specs.Sets.{forms_in, bare_rules_in}
use Rattle.sx_rules.specs.Views.{rule, premise, hypotheses, subjects_in}
use Rattle.sx_term.specs.declared.sort.Sort.{Sort}
use Rattle.sx_term.specs.Tree.{Tree}
use Rattle.sx_term.specs.Term.{tree}
use Rattle.sx_plain.specs.Views.{table_of}
use Rattle.sx_rewrite.specs.AcceptedView.{accepted}
use Rattle.sx_rewrite.specs.Needed.{needed}
use Rattle.sx_rewrite.specs.Put.{ArePut}
use Rattle.sx_rewrite.specs.PutImages.{images_for}
use Rattle.sx_rewrite.specs.PutSubjects.{ArePutBelow}
use Rattle.sx_rewrite.specs.Stored.{certificate_at}
use Rattle.sx_rewrite.proofs.Instanced.{bare-found, bare-none}
use Rattle.sx_rewrite.proofs.putting.put_terms.Goals as goal
use Rattle.sx_rewrite.proofs.putting.put_terms.Goals.{In-Some}

-- the rule that is found
found-is : (o : Option Rule) (x y : Rule) → o ≡ Some x → o ≡ Some y → x ≡ y
found-is o x y e f = let q : Some x ≡ Some y = sym e ∙ f in cc

-- the rule that is found is that of the node
rule_is_node_rule : (c : In-Some) → rule c.in-Some.found.now ≡ c.requires.node.rule
rule_is_node_rule c = found-is _ (rule c.in-Some.found.now) c.requires.node.rule (bare-found c.args.source.now.rules.now.rules.items c.args.rule c.in-Some.found.now c.in-Some.ensures) c.requires.node.at

pub image_terms-requires-clause-many : goal.image_terms-requires-clause-many
image_terms-requires-clause-many c =
    let same = rule_is_node_rule (goal.at.image_terms-requires-clause-many c).In-Some in
    c.requires.node.binds_many ∙ ap (λ (x : Rule). length x.sorts) (sym same) ∙ ap length (sym c.deref.ensures.value)

pub put_subjects-requires-clause-many : goal.put_subjects-requires-clause-many
put_subjects-requires-clause-many c =
    let same = rule_is_node_rule (goal.at.put_subjects-requires-clause-many c).In-Some in
    c.requires.node.kids_many ∙ ap (λ (x : Rule). length (judgements_of x.premises)) (sym same)
    ∙ ap (λ (ps : List Premise). length (judgements_of (map premise ps))) (sym c.deref-in-Some.ensures.value)

pub put_subjects-requires-clause-bare : goal.put_subjects-requires-clause-bare
put_subjects-requires-clause-bare c =
    let same = rule_is_node_rule (goal.at.put_subjects-requires-clause-bare c).In-Some in
    let subjects = subjects_in (forms_in c.args.source.now.set.now.base) in
    let bare = subst (λ (x : Rule). (conclusion : Judgement) × AreBareSubjects subjects conclusion [] (judgements_of x.premises)) (sym same) (c.requires.node.rule.conclusion, c.requires.node.bare) in
    subst (λ (ps : List Premise). (conclusion : Judgement) × AreBareSubjects subjects conclusion [] (judgements_of (map premise ps))) (sym c.deref-in-Some.ensures.value) bare

pub unreachable-requires : goal.unreachable-requires
unreachable-requires c =
    let rs = c.args.source.now.rules.now.rules.items in
    let q : None ≡ Some c.requires.node.rule = sym (bare-none rs c.args.rule c.in-None.ensures) ∙ c.requires.node.at in cc

pub returns : goal.returns
returns c = λ x at.
    let same = found-is _ (rule c.in-Some.found.now) x (bare-found c.args.source.now.rules.now.rules.items c.args.rule c.in-Some.found.now c.in-Some.ensures) at in
    let set = c.args.source.now.set.now in
    let terms = map tree c.args.binds.now in
    let old = images_for (table_of set.plain) c.deref.result.now terms in
    let is : List Judgement → List Tree → Type 0 =
    (λ js us. (more : List Tree) × ArePut more c.put_subjects.new.puts
    × ArePutBelow (subjects_in (forms_in set.base)) (bare_rules_in set.base) (hypotheses c.args.source.now.given.now) (needed (certificate_at (accepted set) c.args.rule)) js (boxed c.args.kids.now) (length c.args.kids.now) us more) in
    let w : is (judgements_of (map premise c.deref-in-Some.result.now)) old = c.in_ok-put_subjects-in-Some.ensures old c.in_ok-puts-in-Some.ensures in
    let js = ap (λ (ps : List Premise). judgements_of (map premise ps)) c.deref-in-Some.ensures.value ∙ ap (λ (y : Rule). judgements_of y.premises) same in
    let us = ap (λ (sorts : List Sort). images_for (table_of set.plain) sorts terms) (c.deref.ensures.value ∙ ap (λ (y : Rule). y.sorts) same) in
    subst (λ (ks : List Judgement). is ks (images_for (table_of set.plain) x.sorts terms)) js (subst (λ (vs : List Tree). is (judgements_of (map premise c.deref-in-Some.result.now)) vs) us w)
