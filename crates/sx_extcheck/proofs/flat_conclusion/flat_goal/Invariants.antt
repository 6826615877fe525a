use Rattle.std.proofs.Common.{◌≡◌, ◌++◌, map}
use Rattle.std.specs.Prelude.{option_map}
use Rattle.sx_term.specs.Term.{tree}
use Rattle.sx_rules.specs.Sets.{forms_in}
use Rattle.sx_rules.specs.Views.{modes_of, subjects_in}
use Rattle.sx_plain.specs.Plain.{image}
use Rattle.sx_plain.specs.Views.{table_of}
use Rattle.sx_extcheck.proofs.Goal.{ins_from, outs_from}
use Rattle.sx_extcheck.proofs.flat_conclusion.flat_goal.Given as goal

abbrev pub invariant-loop-i : goal.invariant-loop-i
invariant-loop-i l =
    let table = table_of l.plain in
    let body = option_map (image table) (option_map tree l.ext.body) in
    let j = l.ext.rule.conclusion in
    let outs = modes_of (forms_in l.set) j.form in
    let subs = subjects_in (forms_in l.set) j.form in
    (map tree l.inputs.items ++ ins_from table body outs subs j.places.items l.i ≡ ins_from table body outs subs j.places.items 0)
    × (map tree l.wanted.items ++ outs_from table body outs subs j.places.items l.i ≡ outs_from table body outs subs j.places.items 0)
