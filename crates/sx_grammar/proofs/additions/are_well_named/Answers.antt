use Rattle.std.proofs.Common.{◌≡◌, ◌++◌, sym, map, subst}
use Rattle.std.specs.Prelude.{IsTrue}
use Rattle.std.proofs.lemmas.Result.{IfOk-weaker}
use Rattle.sx_term.specs.Cutting.{AreDistinct}
use Rattle.sx_grammar.specs.Parts.{Parts, line, parts, names}
use Rattle.sx_grammar.specs.Standing.{labels_in, sorts_in}
use Rattle.sx_grammar.specs.Extended.{GrammarGrows}
use Rattle.sx_grammar.specs.Tables.{GrammarData}
use Rattle.sx_grammar.specs.Made.{HasNone, HasLabels, IsUnknownSort}
use Rattle.sx_grammar.proofs.Extending.{well_named}
use Rattle.sx_grammar.proofs.additions.are_well_named.Goals as goal

pub returns : goal.returns
returns c =
    let p = parts c.base.inside.parts in
    let more = map line c.args.more.now in
    let labels = subst (λ l. AreDistinct (labels_in (map line l))) (sym c.deref.ensures.value) c.base.invariant.is_grammar.0.0.0.1 in
    let good = c.in_ok-have_good_literals.ensures c.if-not-branch.false in
    let known = c.in_ok-have_known_sorts.ensures c.if-not-branch-2.false in
    IfOk-weaker c.have_new_labels.result
    (λ r. IsTrue r → AreDistinct (labels_in (map line c.deref.result.now)) → AreDistinct (labels_in (map line c.deref.result.now) ++ labels_in more))
    (λ r. IsTrue r → (whole : Parts) → GrammarGrows c.args.base.now.parts more whole → c.args.sorts.now ≡ names whole → AreDistinct c.args.sorts.now → HasLabels whole)
    (λ r new yes whole grows are apart.
    well_named p more whole (subst (λ (d : GrammarData). GrammarGrows d.parts more whole) (sym c.base.view_is) grows) c.base.invariant.is_grammar.0.0.0 good (subst AreDistinct are apart)
    (subst (λ ns. HasNone (IsUnknownSort ns) (sorts_in more)) are known) (subst (λ l. AreDistinct (labels_in (map line l) ++ labels_in more)) c.deref.ensures.value (new yes labels)))
    c.have_new_labels.ensures
