use Rattle.std.proofs.Common.{◌≡◌, List, [], map, length, Option, ◌∙◌, sym, ap, subst}
use Rattle.sx_term.specs.declared.sort.Sort.{Sort}
use Rattle.sx_term.specs.Tree.{Tree}
use Rattle.sx_plain.specs.declared.table.PlainTable.{PlainTable}
use Rattle.sx_plain.specs.Views.{table_of}
use Rattle.sx_rules.specs.declared.rule.Premise.{Premise}
use Rattle.sx_rules.specs.Discipline.{AreBareSubjects}
use Rattle.sx_rules.specs.Rules.{Rule, Judgement, judgements_of}
use Rattle.sx_rules.specs.Derivations.{Proof}
use Rattle.sx_rules.specs.Sets.{bare_rules_in}
use Rattle.sx_rules.specs.Views.{rule, premise}
use Rattle.sx_arena.specs.Arena.{tree_at}
use Rattle.sx_rewrite.specs.Needed.{needed}
use Rattle.sx_rewrite.specs.PutImages.{images_for}
use Rattle.sx_rewrite.specs.PutSubjects.{ArePutBelow}
use Rattle.sx_rewrite.specs.Stored.{certificate_at}
use Rattle.sx_expand.specs.KidSubjects.{AreKidSubjects}
use Rattle.sx_expand.specs.Listed.{set_in}
use Rattle.sx_expand.specs.Put.{ArePutAt}
use Rattle.sx_expand.specs.Readers.{terms_in}
use Rattle.sx_expand.specs.Readings.{set_by, signature_by}
use Rattle.sx_expand.proofs.KidsStay.{kids-stay, found-is, rule-within}
use Rattle.sx_expand.proofs.put_node.put_node.Goals as goal
use Rattle.sx_expand.proofs.put_node.put_node.Goals.{After-rule_at-rule}

-- the rule at the number is that of the node
rule_is_node_rule : (c : After-rule_at-rule) → rule c.rule_at-rule.result.now ≡ c.requires.node.rule
rule_is_node_rule c = found-is _ (rule c.rule_at-rule.result.now) c.requires.node.rule c.rule_at-rule.ensures c.requires.node.at

pub rule_at-rule-requires : goal.rule_at-rule-requires
rule_at-rule-requires c =
    rule-within (bare_rules_in c.args.reading.now.rules.now) c.args.number c.requires.node.rule c.requires.node.at

pub image_numbers-requires-clause-many : goal.image_numbers-requires-clause-many
image_numbers-requires-clause-many c =
    let same = rule_is_node_rule (goal.at.image_numbers-requires-clause-many c).After-rule_at-rule in
    c.requires.node.binds_many ∙ ap (λ (x : Rule). length x.sorts) (sym same) ∙ ap length (sym c.deref.ensures.value)

pub put_subjects-requires-clause-kids : goal.put_subjects-requires-clause-kids
put_subjects-requires-clause-kids c =
    let k = c.requires.kids in
    let l = c.args.reading.now in
    let subjects = (signature_by l).subjects in
    let base = (set_by l).base in
    let proofs_are = c.requires.reading.rules.proofs_are c.args.number in
    let stays = kids-stay subjects base k.0 (needed (certificate_at (set_by l) c.args.number)) (terms_in c.args.reader.now) (terms_in c.image_numbers.new.reader) k.1 c.args.subjects.now c.in_ok-puts.ensures.0.extends k.2 in
    (k.0, k.1, subst (λ (o : Option Proof). AreKidSubjects subjects base k.0 (needed o) (terms_in c.image_numbers.new.reader) k.1 c.args.subjects.now) proofs_are stays)

pub put_subjects-requires-clause-many : goal.put_subjects-requires-clause-many
put_subjects-requires-clause-many c =
    let same = rule_is_node_rule (goal.at.put_subjects-requires-clause-many c).After-rule_at-rule in
    c.requires.node.kids_many ∙ ap (λ (x : Rule). length (judgements_of x.premises)) (sym same)
    ∙ ap (λ (ps : List Premise). length (judgements_of (map premise ps))) (sym c.deref-2.ensures.value)

pub put_subjects-requires-clause-bare : goal.put_subjects-requires-clause-bare
put_subjects-requires-clause-bare c =
    let same = rule_is_node_rule (goal.at.put_subjects-requires-clause-bare c).After-rule_at-rule in
    let subjects = (signature_by c.args.reading.now).subjects in
    let bare = subst (λ (x : Rule). (conclusion : Judgement) × AreBareSubjects subjects conclusion [] (judgements_of x.premises)) (sym same) (c.requires.node.rule.conclusion, c.requires.node.bare) in
    subst (λ (ps : List Premise). (conclusion : Judgement) × AreBareSubjects subjects conclusion [] (judgements_of (map premise ps))) (sym c.deref-2.ensures.value) bare

pub returns-clause-put : goal.returns-clause-put
returns-clause-put c = λ x at_x hyps kids are.
    let same = found-is _ (rule c.rule_at-rule.result.now) x c.rule_at-rule.ensures at_x in
    let l = c.args.reading.now in
    let subjects = (signature_by l).subjects in
    let base = (set_by l).base in
    let proofs_are = c.requires.reading.rules.proofs_are c.args.number in
    let ts = terms_in c.image_numbers.new.reader in
    let terms = map (tree_at (terms_in c.args.reader.now)) c.args.binds.now in
    let stays = kids-stay subjects base hyps (needed (certificate_at (set_by l) c.args.number)) (terms_in c.args.reader.now) ts kids c.args.subjects.now c.in_ok-puts.ensures.0.extends are in
    let later = subst (λ (o : Option Proof). AreKidSubjects subjects base hyps (needed o) ts kids c.args.subjects.now) proofs_are stays in
    let is : Option Proof → List Judgement → List Tree → Type 0 =
    (λ o js us. (more : List Tree) × ArePutAt ts more c.put_subjects.new.puts.numbers.items c.put_subjects.new.puts.measures.items
    × ArePutBelow subjects base hyps (needed o) js kids (length c.args.subjects.now) us more) in
    let old = images_for (table_of c.plain.result.now) c.deref.result.now terms in
    let own = certificate_at (set_in l.listing) c.args.number in
    let w : is own (judgements_of (map premise c.deref-2.result.now)) old = c.put_subjects.ensures hyps kids later old c.in_ok-puts.ensures.1 in
    let js = ap (λ (ps : List Premise). judgements_of (map premise ps)) c.deref-2.ensures.value ∙ ap (λ (y : Rule). judgements_of y.premises) same in
    let us = ap (λ (table : PlainTable). images_for (table_of table) c.deref.result.now terms) c.plain.ensures
    ∙ ap (λ (sorts : List Sort). images_for (set_by l).table sorts terms) (c.deref.ensures.value ∙ ap (λ (y : Rule). y.sorts) same) in
    subst (λ (o : Option Proof). is o (judgements_of x.premises) (images_for (set_by l).table x.sorts terms)) (sym proofs_are)
    (subst (λ (ks : List Judgement). is own ks (images_for (set_by l).table x.sorts terms)) js (subst (λ (vs : List Tree). is own (judgements_of (map premise c.deref-2.result.now)) vs) us w))
