use Rattle.std.proofs.Common.{List, map, Result, Ok, Err, sym, subst}
use Rattle.std.specs.Prelude.{option_map, IfOk, IfErr}
use Rattle.std.specs.List.{AllByRecursion}
use Rattle.sx_term.specs.Term.{tree}
use Rattle.sx_rules.specs.declared.rule.Form.{Form}
use Rattle.sx_rules.specs.Views as view
use Rattle.sx_outline.specs.declared.rule_lines.RuleLines.{RuleLines}
use Rattle.sx_outline.specs.Stages.{rule_data}
use Rattle.sx_language.specs.declared.preparing.Prepared.{Prepared}
use Rattle.sx_language.specs.RuleLine.{Reader, CanReadRules}
use Rattle.sx_outline.specs.Sized.{HasShortLines}
use Rattle.sx_language.specs.RuleTexts.{AreRules, IsFirstBadRule, OrMemory}
use Rattle.sx_language.proofs.UsableRules.{none_bodied}
use Rattle.sx_language.proofs.language_reading.read_prepared.Goals as goal

-- the reader with these forms
abbrev with_forms : Prepared → List Form → Reader
with_forms x fs = record { parts = x.rule_grammar.parts; stems = x.metas.stems.items; forms = view.forms fs }

ok_map : {T E : Type 0} (r : Result T E) (P Q : T → Type 0) → ((x : T) → P x → Q x) → IfOk r P → IfOk r Q
ok_map (Ok x) P Q f h = f x h
ok_map (Err e) P Q f h = tt

pub read_rules-requires-clause-can : goal.read_rules-requires-clause-can
read_rules-requires-clause-can c = subst (λ (fs : List Form). CanReadRules (with_forms c.args.prepared.now fs)) (sym c.deref.ensures.value) c.requires.can

pub read_rules-requires-clause-short : goal.read_rules-requires-clause-short
read_rules-requires-clause-short c = subst (AllByRecursion (λ l. HasShortLines 262144 (rule_data l))) (sym c.deref-2.ensures.value) c.requires.short

pub returns-clause-read : goal.returns-clause-read
returns-clause-read c =
    let x = c.args.prepared.now in
    let here = subst (λ (fs : List Form). IfOk c.read_rules.result (λ y.
    AreRules (with_forms x fs) (map rule_data c.deref-2.result.now) y.names.items (map view.named y.rules.items) (map (option_map tree) y.bodies.items))) c.deref.ensures.value c.read_rules.ensures.read in
    let there = subst (λ (ls : List RuleLines). IfOk c.read_rules.result (λ y.
    AreRules (with_forms x x.forms.items) (map rule_data ls) y.names.items (map view.named y.rules.items) (map (option_map tree) y.bodies.items))) c.deref-2.ensures.value here in
    ok_map c.read_rules.result _ _
    (λ y. none_bodied (with_forms x x.forms.items) (map rule_data x.rules.items) y.names.items (map view.named y.rules.items) (map (option_map tree) y.bodies.items) c.requires.bare) there

pub returns-clause-refused : goal.returns-clause-refused
returns-clause-refused c =
    let x = c.args.prepared.now in
    let here = subst (λ (fs : List Form). IfErr c.read_rules.result (OrMemory (IsFirstBadRule (with_forms x fs) (map rule_data c.deref-2.result.now)))) c.deref.ensures.value c.read_rules.ensures.refused in
    subst (λ (ls : List RuleLines). IfErr c.read_rules.result (OrMemory (IsFirstBadRule (with_forms x x.forms.items) (map rule_data ls)))) c.deref-2.ensures.value here
