use Rattle.std.specs.Prelude.{List, Bool, option_map, true, false}
use Rattle.sx_term.specs.Term.{tree}
use Rattle.sx_term.specs.Tree.{Tree}
use Rattle.sx_rules.specs.Sets.{forms_in}
use Rattle.sx_rules.specs.Views.{subjects_in}
use Rattle.sx_plain.specs.Plain.{image}
use Rattle.sx_plain.specs.Views.{table_of}
use Rattle.sx_rewrite.specs.ExtensionView.{ext_rule}
use Rattle.sx_rewrite.specs.Rewriting.{first_over}
use Rattle.sx_extcheck.specs.FlatTerms.{listed_term, flat_terms, picked}
use Rattle.sx_extcheck.proofs.Measuring.{told, first-tell, second-tell, third-tell, fourth-answers, premises_from, images_from}
use Rattle.sx_extcheck.proofs.flat_terms.measure_rule.Goals as goal
use Rattle.sx_extcheck.proofs.flat_terms.measure_rule.Goals.{Start}

-- the terms of the rule
abbrev terms_in : Start → List Tree
terms_in c = flat_terms (table_of c.args.plain.now) (subjects_in (forms_in c.args.set.now)) (ext_rule c.args.ext.now)

-- those of its premises
abbrev premises_in : Start → List Tree
premises_in c = premises_from (table_of c.args.plain.now) c.args.ext.now.rule.premises.items

-- those of its conclusion, the inputs or the outputs
abbrev places_in : Start → Bool → List Tree
places_in c marked = picked marked (subjects_in (forms_in c.args.set.now) c.args.ext.now.rule.conclusion.form) (images_from (table_of c.args.plain.now) c.args.ext.now.rule.conclusion.places.items)

-- that of its body
abbrev body_in : Start → List Tree
body_in c = listed_term (option_map (image (table_of c.args.plain.now)) (option_map tree c.args.ext.now.body))

pub returns-in_err-measure_premises : goal.returns-in_err-measure_premises
returns-in_err-measure_premises c =
    let s = (goal.at.returns-in_err-measure_premises c).Start in
    told (first_over (terms_in s)) c.from_residual.result _ c.from_residual.ensures.1
    (first-tell (premises_in s) (places_in s false) (body_in s) (places_in s true) _ (rw c.deref.ensures.value at c.in_err-measure_premises.ensures))

pub returns-in_err-measure_places : goal.returns-in_err-measure_places
returns-in_err-measure_places c =
    let s = (goal.at.returns-in_err-measure_places c).Start in
    told (first_over (terms_in s)) c.from_residual-in_err-measure_places.result _ c.from_residual-in_err-measure_places.ensures.1
    (second-tell (premises_in s) (places_in s false) (body_in s) (places_in s true) (rw c.deref.ensures.value at c.in_ok-measure_premises.ensures.0) _
    (rw (c.deref-2.ensures.value, c.places_of-places.ensures.mask) at c.in_err-measure_places.ensures))

pub returns-in_err-measure_body : goal.returns-in_err-measure_body
returns-in_err-measure_body c =
    let s = (goal.at.returns-in_err-measure_body c).Start in
    told (first_over (terms_in s)) c.from_residual-in_err-measure_body.result _ c.from_residual-in_err-measure_body.ensures.1
    (third-tell (premises_in s) (places_in s false) (body_in s) (places_in s true) (rw c.deref.ensures.value at c.in_ok-measure_premises.ensures.0)
    (rw (c.deref-2.ensures.value, c.places_of-places.ensures.mask) at c.in_ok-measure_places.ensures.0) _ c.in_err-measure_body.ensures)

pub returns : goal.returns
returns c =
    let s = (goal.at.returns c).Start in
    fourth-answers (premises_in s) (places_in s false) (body_in s) (places_in s true) (rw c.deref.ensures.value at c.in_ok-measure_premises.ensures.0)
    (rw (c.deref-2.ensures.value, c.places_of-places.ensures.mask) at c.in_ok-measure_places.ensures.0) c.in_ok-measure_body.ensures.0 c.measure_places-2.result
    (rw (c.deref-3.ensures.value, c.places_of-places.ensures.mask) at c.measure_places-2.ensures)
