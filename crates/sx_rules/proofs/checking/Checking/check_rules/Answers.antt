use Rattle.std.proofs.Common.{◌++◌, ◌∷◌, [], ◌∙◌, ap, sym, subst, append_assoc, take, length, ◌≤◌, arith, List, ℕ}
use Rattle.std.specs.Prelude.{Err}
use Rattle.sx_term.specs.Shapes.{shapes}
use Rattle.sx_rules.specs.Views.{forms, named}
use Rattle.sx_rules.specs.Good.{IsAmong, IsGood, IsChecked, names_of}
use Rattle.sx_rules.proofs.NameLaws.{among_back, contains_among}
use Rattle.sx_rules.proofs.SetLaws.{nothing_more, names_so_far, rule_shallow_at, names-more, refused_here, all_begin, breach_begin, all_on, breach_on, all_done}
use Rattle.sx_rules.proofs.checking.Checking.check_rules.Goals as goal

pub loop-i-init : goal.loop-i-init
loop-i-init c =
    let all = shapes c.args.self.now.shapes.now in
    let known = forms c.args.self.now.forms.now in
    let start = c.args.self.now.before.now ++ c.args.names.now in
    record {
      names = sym (nothing_more c.args.names.now);
      good = all_begin all known start c.args.rules.now;
      bad = breach_begin all known start c.args.rules.now;
    }

pub check_rule-requires : goal.check_rule-requires
check_rule-requires c = rule_shallow_at c.args.rules.now c.loop-i.i c.index-rules-i.result c.requires c.loop-i-test.true c.index-rules-i.is

pub push-requires : goal.push-requires
push-requires c k =
    (c.in-Ok.ensures).fresh (among_back c.index-rules-i.result.name c.args.self.now.before.now c.loop-i.names
    (subst (λ (name : List ℕ). IsAmong name c.loop-i.names) c.bytes.ensures.value (contains_among c.loop-i.names c.bytes.result.now k)))

pub loop-i-preserved : goal.loop-i-preserved
loop-i-preserved c =
    let all = shapes c.args.self.now.shapes.now in
    let known = forms c.args.self.now.forms.now in
    let start = c.args.self.now.before.now ++ c.args.names.now in
    let rules = c.args.rules.now in
    let i = c.loop-i.i in
    let r = c.index-rules-i.result in
    let old = c.args.names.now in
    let so_far = names_of (take i rules) in
    let good = subst (λ (taken : List (List ℕ)). IsGood all known taken (named r)) (names_so_far c.args.self.now.before.now old c.loop-i.names so_far c.loop-i.invariant.names) c.in-Ok.ensures in
    record {
      names = c.in_ok-push.ensures
          ∙ ap (λ (names : List (List ℕ)). names ++ c.bytes.result.now ∷ []) c.loop-i.invariant.names
          ∙ append_assoc old so_far (c.bytes.result.now ∷ [])
          ∙ ap (λ (name : List ℕ). old ++ (so_far ++ name ∷ [])) c.bytes.ensures.value
          ∙ ap (λ (names : List (List ℕ)). old ++ names) (sym (names-more all known rules i r c.loop-i-test.true c.index-rules-i.is));
      good = all_on all known start rules i r c.loop-i-test.true c.index-rules-i.is c.loop-i.invariant.good good;
      bad = breach_on all known start rules i r c.loop-i-test.true c.index-rules-i.is c.loop-i.invariant.bad good;
    }

pub returns-in-Err-clause-checked : goal.returns-in-Err-clause-checked
returns-in-Err-clause-checked c =
    let all = shapes c.args.self.now.shapes.now in
    let known = forms c.args.self.now.forms.now in
    let start = c.args.self.now.before.now ++ c.args.names.now in
    refused_here all known start c.args.rules.now c.loop-i.i c.index-rules-i.result c.loop-i-test.true c.index-rules-i.is c.loop-i.invariant.bad c.in-Err.e
    (subst (λ (taken : List (List ℕ)). IsChecked all known taken (named c.index-rules-i.result) (Err c.in-Err.e)) (names_so_far c.args.self.now.before.now c.args.names.now c.loop-i.names (names_of (take c.loop-i.i c.args.rules.now)) c.loop-i.invariant.names) c.in-Err.ensures)

pub returns-clause-checked : goal.returns-clause-checked
returns-clause-checked c =
    let done : length c.args.rules.now ≤ c.loop-i.i = omega arith in
    all_done (shapes c.args.self.now.shapes.now) (forms c.args.self.now.forms.now) (c.args.self.now.before.now ++ c.args.names.now) c.args.rules.now c.loop-i.i done c.loop-i.invariant.good
