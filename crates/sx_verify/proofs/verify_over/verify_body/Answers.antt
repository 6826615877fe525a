use Rattle.std.proofs.Common.{◌≤◌, ℕ, List, length, refl, sym, subst}
use Rattle.std.specs.Prelude.{Ok, Err}
use Rattle.sx_term.specs.declared.role.Role.TheVariants.{In, Sub}
use Rattle.sx_term.specs.Term.{tree}
use Rattle.sx_interface.specs.HeaderView.{header_view}
use Rattle.sx_notation.specs.Language.{language_data}
use Rattle.sx_typing.specs.Dialects.{dialect_of}
use Rattle.sx_typing.specs.BodySource.{BodySource}
use Rattle.sx_steps.specs.Stop.{Gives}
use Rattle.sx_steps.specs.Unit.{base_file}
use Rattle.sx_steps.specs.Work.{plan_of}
use Rattle.sx_steps.proofs.StepsOn.{goes_next, stops_first}
use Rattle.sx_accepting.specs.ReadLanguage.{stated_of}
use Rattle.sx_verify.specs.Ground.{source_in, ReadsBody}
use Rattle.sx_verify.specs.VerifyModule.{VerifiesSubject}
use Rattle.sx_verify.specs.WrittenFiles.{written_of}
use Rattle.sx_verify.proofs.OverTerms.{term_of, source_with, source_same}
use Rattle.sx_verify.proofs.verify_over.verify_body.Goals as goal

pub read_subject-requires : goal.read_subject-requires
read_subject-requires g c = record {
  dialect = c.requires.dialect;
  short = subst (λ (bytes : List ℕ). length bytes ≤ 262144) (sym c.deref.ensures.value)
      c.requires.over.short;
  environment = c.requires.environment;
}

pub verify_subject-requires-clause-environment : goal.verify_subject-requires-clause-environment
verify_subject-requires-clause-environment g c =
    term_of (dialect_of c.args.dialect.now)
    (language_data c.args.over.now.language.now.language) c.requires.bare In
    (tree c.args.environment.now) c.requires.environment

pub verify_subject-requires-clause-subject : goal.verify_subject-requires-clause-subject
verify_subject-requires-clause-subject g c =
    term_of (dialect_of c.args.dialect.now)
    (language_data c.args.over.now.language.now.language) c.requires.bare Sub
    (tree c.in-Ok.subject) c.in-Ok.ensures.good

pub returns-in-Ok-clause-step : goal.returns-in-Ok-clause-step
returns-in-Ok-clause-step g c = λ files told.
    let name = c.args.asked.now.name.now in
    let w = written_of c.args.over.now.written.now in
    let l = stated_of c.args.over.now.language.now in
    let t = tree c.args.environment.now in
    let d = dialect_of c.args.dialect.now in
    let bytes = c.deref.result.now in
    let header = c.args.over.now.written.now.base.header in
    let same = source_same d l bytes (λ (bs : List ℕ). header_view bs header) w.base t
    c.requires.bare c.deref.ensures.value refl in
    goes_next plan_of (ReadsBody (base_file name) (source_in l w.base t))
    (VerifiesSubject name files w l.language t) (tree c.in-Ok.subject) c.verify_subject.result
    (subst (λ (s : BodySource). ReadsBody (base_file name) s (Ok (tree c.in-Ok.subject))) same
    (subst (λ (file : List ℕ).
    ReadsBody file (source_with d bytes (header_view bytes header) t) (Ok (tree c.in-Ok.subject)))
    c.requires.files.base c.in-Ok.ensures.step))
    (c.verify_subject.ensures.step files told)

pub returns-in-Err-clause-step : goal.returns-in-Err-clause-step
returns-in-Err-clause-step g c = λ files told.
    let name = c.args.asked.now.name.now in
    let w = written_of c.args.over.now.written.now in
    let l = stated_of c.args.over.now.language.now in
    let t = tree c.args.environment.now in
    let d = dialect_of c.args.dialect.now in
    let bytes = c.deref.result.now in
    let header = c.args.over.now.written.now.base.header in
    let same = source_same d l bytes (λ (bs : List ℕ). header_view bs header) w.base t
    c.requires.bare c.deref.ensures.value refl in
    stops_first tree plan_of (ReadsBody (base_file name) (source_in l w.base t))
    (VerifiesSubject name files w l.language t) c.in-Err.e
    (subst (λ (s : BodySource). Gives tree (ReadsBody (base_file name) s) (Err c.in-Err.e)) same
    (subst (λ (file : List ℕ).
    Gives tree (ReadsBody file (source_with d bytes (header_view bytes header) t)) (Err c.in-Err.e))
    c.requires.files.base c.in-Err.ensures.step))
