use Rattle.std.proofs.Common.{◌≡◌, Some, None, sym, subst, ◌∙◌}
use Rattle.std.proofs.lemmas.Bool.{false≢true}
use Rattle.sx_outline.specs.Declarations.{declared_form}
use Rattle.sx_outline.specs.Fitting.{declared_form_names}
use Rattle.sx_outline.specs.MainSorts.{AreMainSorts}
use Rattle.sx_outline.specs.View.{known}
use Rattle.sx_outline.proofs.PlaceLaws.{first_at, found_first}
use Rattle.sx_outline.proofs.FindLaws.{form_found, main_is, main_sorts_at, no_main_constructors, no_main_place, no_main_plain}
use Rattle.sx_outline.proofs.known.Known.main_of.Goals as goal
use Rattle.sx_outline.proofs.known.Known.main_of.Goals.{In-Some}

-- the form stands first at this place
form_is : (c : In-Some) → first_at c.args.row.now.form (declared_form_names (known c.args.self.now)) ≡ Some c.in-Some.form
form_is c = found_first (declared_form_names (known c.args.self.now)) c.args.self.now.tables.forms c.args.row.now.form c.place.result c.args.self.now.tabled.forms_found c.place.ensures ∙ c.in-Some.is

pub returns-in-Some-constructors : goal.returns-in-Some-constructors
returns-in-Some-constructors c =
    let k = c.args.self.now in
    let f = c.index.result.now in
    let found = form_is (goal.at.returns-in-Some-constructors c).In-Some in
    main_is (known k) c.args.row.now c.in-Some.form c.in-Some-constructors.empty c.in-Some-constructors.add (declared_form f) c.in-Some-main_sorts.environment.now c.in-Some-main_sorts.signature.now found
    (form_found k.rows.forms.items c.args.row.now.form c.in-Some.form f found c.index.ensures)
    (subst (λ symbols. AreMainSorts symbols c.in-Some-main_sorts.environment.now c.in-Some-main_sorts.signature.now) c.deref.ensures.value c.in-Some-main_sorts.ensures)
    (c.is_plain.ensures.0 c.if-not-is_plain.false) c.in-Some-constructors.ensures

pub returns-then-not-is_plain : goal.returns-then-not-is_plain
returns-then-not-is_plain c =
    let k = c.args.self.now in
    let f = c.index.result.now in
    let found = form_is (goal.at.returns-then-not-is_plain c).In-Some in
    no_main_plain (known k) c.args.row.now c.in-Some.form (declared_form f) c.in-Some-main_sorts.environment.now c.in-Some-main_sorts.signature.now found
    (form_found k.rows.forms.items c.args.row.now.form c.in-Some.form f found c.index.ensures)
    (subst (λ symbols. AreMainSorts symbols c.in-Some-main_sorts.environment.now c.in-Some-main_sorts.signature.now) c.deref.ensures.value c.in-Some-main_sorts.ensures)
    (λ plain. false≢true (sym c.if-not-is_plain.true ∙ c.is_plain.ensures.1 plain))

pub returns-in-None-constructors : goal.returns-in-None-constructors
returns-in-None-constructors c =
    let k = c.args.self.now in
    let f = c.index.result.now in
    let found = form_is (goal.at.returns-in-None-constructors c).In-Some in
    no_main_constructors (known k) c.args.row.now c.in-Some.form (declared_form f) c.in-Some-main_sorts.environment.now c.in-Some-main_sorts.signature.now found
    (form_found k.rows.forms.items c.args.row.now.form c.in-Some.form f found c.index.ensures)
    (subst (λ symbols. AreMainSorts symbols c.in-Some-main_sorts.environment.now c.in-Some-main_sorts.signature.now) c.deref.ensures.value c.in-Some-main_sorts.ensures)
    c.in-None-constructors.ensures

pub returns-in-None-main_sorts : goal.returns-in-None-main_sorts
returns-in-None-main_sorts c = λ main h.
    let k = c.args.self.now in
    let f = c.index.result.now in
    let found = form_is (goal.at.returns-in-None-main_sorts c).In-Some in
    c.in-None-main_sorts.ensures h.environment h.signature
    (subst (λ symbols. AreMainSorts symbols h.environment h.signature) (sym c.deref.ensures.value)
    (main_sorts_at (known k) c.args.row.now c.in-Some.form (declared_form f) found (form_found k.rows.forms.items c.args.row.now.form c.in-Some.form f found c.index.ensures) main h))

pub returns-in-None : goal.returns-in-None
returns-in-None c =
    let k = c.args.self.now in
    let none : first_at c.args.row.now.form (declared_form_names (known k)) ≡ None = found_first (declared_form_names (known k)) k.tables.forms c.args.row.now.form c.place.result k.tabled.forms_found c.place.ensures ∙ c.in-None.is in
    no_main_place (known k) c.args.row.now none
