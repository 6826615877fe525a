use Rattle.std.proofs.Common.{ℕ, List, sym, subst}
use Rattle.sx_term.specs.declared.role.Role.TheVariants.{Sub}
use Rattle.sx_term.specs.declared.sort.Sort.{Sort}
use Rattle.sx_term.specs.Term.{tree}
use Rattle.sx_earley.specs.Completed.{IsSort}
use Rattle.sx_forest.specs.Readings.{plain_reading}
use Rattle.sx_typing.specs.Body.{ReadsAs}
use Rattle.sx_typing.specs.BodySource.{source_of, main_sort}
use Rattle.sx_typing.proofs.MainForms.{main_form_within}
use Rattle.sx_typing.proofs.MainSorts.{subject_is_sort}
use Rattle.sx_typing.proofs.ReadSorted.{body_is_term}
use Rattle.sx_typing.proofs.reading.read_source.Goals as goal

pub main_sort-sort-requires : goal.main_sort-sort-requires
main_sort-sort-requires c =
    main_form_within (source_of c.args.source.now).dialect c.requires.dialect.is

pub read_body_text-requires-clause-sort : goal.read_body_text-requires-clause-sort
read_body_text-requires-clause-sort c =
    let d = (source_of c.args.source.now).dialect in
    subst (IsSort d.parts) (sym c.main_sort-sort.ensures) (subject_is_sort d c.requires.dialect.is)

pub returns-in-Ok-clause-good : goal.returns-in-Ok-clause-good
returns-in-Ok-clause-good c =
    let s = source_of c.args.source.now in
    let d = s.dialect in
    let ts = c.in-Ok.body.tokens.items in
    let r = plain_reading c.in-Ok.body.reading in
    let t = tree c.in-Ok.body.term in
    let text = c.body_of-body.result.now in
    let at =
    subst (λ (sort : Sort). ReadsAs d.parts sort text ts r t) c.main_sort-sort.ensures
    c.in-Ok.ensures.read in
    let here =
    subst (λ (bytes : List ℕ). ReadsAs d.parts (main_sort d.language Sub) bytes ts r t)
    c.body_of-body.ensures at in
    body_is_term s c.requires.dialect.is ts r t here
