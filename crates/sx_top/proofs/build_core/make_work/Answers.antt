use Rattle.std.proofs.Common.{◌≡◌, List, length, map, arith, ap, sym, ◌∙◌, subst}
use Rattle.sx_term.specs.Term.{tree}
use Rattle.sx_term.specs.declared.term.Term.{Term}
use Rattle.std.specs.List.{AllByRecursion}
use Rattle.sx_rules.specs.declared.entry.Entry.{Entry}
use Rattle.sx_rules.specs.EntryView.{entries}
use Rattle.sx_rules.specs.ListText.{IsEntry}
use Rattle.sx_rules.specs.Sets.{names_in, rules_in}
use Rattle.sx_rules.specs.Views.{FormData, goal as goal_data}
use Rattle.sx_core.specs.Problem.{problem}
use Rattle.sx_top.specs.CoreTexts.{subject_text, list_text, term_lines}
use Rattle.sx_top.specs.Terms.{AreTerms}
use Rattle.sx_top.proofs.Listed.{entries_listed, nodes_listed}
use Rattle.sx_top.proofs.Plans.{plan_made}
use Rattle.sx_top.proofs.build_core.make_work.Goals as goal

pub list_text-requires : goal.list_text-requires
list_text-requires c =
    let a = c.requires.given.0 in
    let is = c.requires.given.1 in
    subst (λ (list : List Entry). AllByRecursion (IsEntry (names_in c.args.problem.now.rules)) list) (sym c.deref.ensures.value)
    (entries_listed c.args.problem.now is.given.derives.0 a.0 c.args.listed.now.entries.items is.given.derives.3 is.lists.entries)

pub interface_text-requires : goal.interface_text-requires
interface_text-requires c =
    let is = c.requires.given.1 in
    subst (λ (ts : List Term). AreTerms (map tree ts)) (sym c.deref-2.ensures.value) (subst AreTerms (sym is.lists.outputs) is.given.outputs)

pub returns : goal.returns
returns c = λ answer lists.
    let list = c.args.listed.now.entries.items in
    let rules = rules_in c.args.problem.now.rules in
    let count : c.len.result ≡ length list = let held = c.args.listed.now.entries.ok in let e = c.len.ensures in omega arith in
    plan_made c.args.name.now (problem c.args.problem.now) answer _ c.in_ok-base.base.items c.in_ok-entries.entries.items c.in_ok-interface.interface.items c.len.result
    c.in_ok-work.ensures
    (c.in_ok-base.ensures ∙ ap (λ (fs : List FormData). subject_text fs (goal_data c.args.problem.now.goal)) c.forms.ensures)
    (c.in_ok-entries.ensures ∙ ap (λ (l : List Entry). list_text rules (entries l)) c.deref.ensures.value ∙ ap (list_text rules) lists.entries)
    (c.in_ok-interface.ensures ∙ ap (λ (ts : List Term). term_lines (map tree ts)) c.deref-2.ensures.value ∙ ap term_lines lists.outputs)
    (count ∙ nodes_listed list answer.0 lists.entries)
