use Rattle.std.proofs.Common.{◌≡◌, ◌<◌, sym, ◌∙◌, arith, ap, subst, get_or, length, Bool, List, false}
use Rattle.std.specs.Prelude.{option_map}
use Rattle.sx_term.specs.Term.{tree}
use Rattle.sx_term.specs.Tree.{Tree}
use Rattle.sx_rules.specs.declared.rule.Place.{Place}
use Rattle.sx_rules.specs.Modes.{Goal}
use Rattle.sx_rules.specs.Sets.{forms_in}
use Rattle.sx_rules.specs.SubjectTerms.{output_mask}
use Rattle.sx_rules.specs.Views.{modes_of, subjects_in}
use Rattle.sx_plain.specs.Plain.{image}
use Rattle.sx_plain.specs.Views.{table_of}
use Rattle.sx_rewrite.specs.PlainRules.{HasImage}
use Rattle.sx_rewrite.proofs.PlainGood.{held-at}
use Rattle.sx_extcheck.proofs.Goal.{flat_term, goal-wanted, goal-input, goal-inputs, goal-outputs}
use Rattle.sx_extcheck.proofs.flat_conclusion.flat_goal.Goals.{then-is_output+in_ok-push, else-is_output+in_ok-push-2}
use Rattle.sx_extcheck.proofs.flat_conclusion.flat_goal.Goals as goal

pub flat_term-requires-clause-term : goal.flat_term-requires-clause-term
flat_term-requires-clause-term c =
    let l = c.loop-i-test.true in
    let n = c.len-i-end.ensures in
    held-at (HasImage (table_of c.args.plain.now)) tree c.args.ext.now.rule.conclusion.places.items c.loop-i.i c.index.result.now c.requires.places (omega (arith, l, n)) c.index.ensures

pub loop-i-preserved : goal.loop-i-preserved
loop-i-preserved c =
    let l = c.loop-i-test.true in
    let n = c.len-i-end.ensures in
    let table = table_of c.args.plain.now in
    let j = c.args.ext.now.rule.conclusion in
    let body = option_map (image table) (option_map tree c.args.ext.now.body) in
    let outs = modes_of (forms_in c.args.set.now) j.form in
    let subs = subjects_in (forms_in c.args.set.now) j.form in
    let within : c.loop-i.i < length j.places.items = omega (arith, l, n) in
    let is = subst (λ (b : Bool). tree c.in_ok-term.term ≡ flat_term table body b (tree c.index.result.now))
    (c.is_subject.ensures ∙ ap (λ (m : List Bool). get_or m c.loop-i.i false) c.places_of-places.ensures.mask) c.in_ok-term.ensures in
    let mark = sym (c.is_output.ensures ∙ ap (λ (ps : List Place). get_or (output_mask ps) c.loop-i.i false) c.places_of-places.ensures.places) in
    elim c.if-is_output.branch [
      | then-is_output+in_ok-push w ↦
          rw (w.inputs-is, w.wanted-is)
          (goal-wanted table body outs subs j.places.items c.loop-i.i c.loop-i.inputs.items c.loop-i.wanted.items c.loop-i.invariant c.index.result.now c.in_ok-term.term within c.index.ensures is
          (mark ∙ w.if-is_output.true) w.push.new.self.items w.in_ok-push.ensures.items)
      | else-is_output+in_ok-push-2 w ↦
          rw (w.inputs-is, w.wanted-is)
          (goal-input table body outs subs j.places.items c.loop-i.i c.loop-i.inputs.items c.loop-i.wanted.items c.loop-i.invariant c.index.result.now c.in_ok-term.term within c.index.ensures is
          (mark ∙ w.if-is_output.false) w.push-else-is_output.new.self.items w.in_ok-push-2.ensures.items)
    ]

pub returns-clause-goal : goal.returns-clause-goal
returns-clause-goal c =
    let l = c.loop-i-test.false in
    let n = c.len-i-end.ensures in
    let table = table_of c.args.plain.now in
    let j = c.args.ext.now.rule.conclusion in
    ap (λ (ts : List Tree). let x : Goal = record { form = j.form; terms = ts } in x)
    (goal-inputs table (option_map (image table) (option_map tree c.args.ext.now.body)) (modes_of (forms_in c.args.set.now) j.form) (subjects_in (forms_in c.args.set.now) j.form) j.places.items
    c.loop-i.i c.loop-i.inputs.items c.loop-i.wanted.items c.loop-i.invariant (omega (arith, l, n)))

pub returns-clause-wanted : goal.returns-clause-wanted
returns-clause-wanted c =
    let l = c.loop-i-test.false in
    let n = c.len-i-end.ensures in
    let table = table_of c.args.plain.now in
    let j = c.args.ext.now.rule.conclusion in
    goal-outputs table (option_map (image table) (option_map tree c.args.ext.now.body)) (modes_of (forms_in c.args.set.now) j.form) (subjects_in (forms_in c.args.set.now) j.form) j.places.items
    c.loop-i.i c.loop-i.inputs.items c.loop-i.wanted.items c.loop-i.invariant (omega (arith, l, n))
