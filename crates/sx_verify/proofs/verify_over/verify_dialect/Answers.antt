use Rattle.std.proofs.Common.{ℕ, List, [], refl, sym, ap, subst, ◌∙◌}
use Rattle.std.specs.List.{AllByRecursion}
use Rattle.std.specs.Prelude.{Ok, Err}
use Rattle.sx_term.specs.Term.{tree}
use Rattle.sx_grammar.specs.Grammar.{Text}
use Rattle.sx_grammar.specs.Tables.{literals_of}
use Rattle.sx_notation.specs.declared.language.Language.{Language}
use Rattle.sx_notation.specs.Language.{language_data}
use Rattle.sx_typing.specs.Dialects.{dialect_of}
use Rattle.sx_environment.specs.SeenFrom.{SeenFrom, HasFreeName, interfaces_of}
use Rattle.sx_steps.specs.Stop.{Gives}
use Rattle.sx_steps.specs.Unit.{base_file}
use Rattle.sx_steps.specs.Work.{plan_of}
use Rattle.sx_steps.proofs.StepsOn.{goes_next, stops_first}
use Rattle.sx_accepting.specs.ReadLanguage.{stated_of}
use Rattle.sx_importing.specs.MakeEnvironment.{SeesImports}
use Rattle.sx_verify.specs.Ground.{seen_alone}
use Rattle.sx_verify.specs.VerifyModule.{VerifiesBody}
use Rattle.sx_verify.specs.WrittenFiles.{written_of}
use Rattle.sx_verify.proofs.OverTerms.{literals_same, named, seen_with, seen_same}
use Rattle.sx_verify.proofs.verify_over.verify_dialect.Goals as goal

pub make_environment-requires : goal.make_environment-requires
make_environment-requires g c =
    let l = language_data c.args.over.now.language.now.language in
    let its = interfaces_of c.args.over.now.imports.now in
    record {
      dialect = c.requires.dialect;
      short = c.requires.over.imports;
      named = subst (λ (literals : List Text). AllByRecursion (HasFreeName literals) its)
          (sym (literals_same (dialect_of c.args.dialect.now) l c.requires.bare))
          (named (literals_of l.parts) its c.args.over.now.written.now.base.header.imports.items
          c.requires.over.read c.requires.over.names c.requires.free);
    }

pub returns-in-Ok-clause-step : goal.returns-in-Ok-clause-step
returns-in-Ok-clause-step g c = λ files told.
    let name = c.args.asked.now.name.now in
    let over = c.args.over.now in
    let w = written_of over.written.now in
    let l = stated_of over.language.now in
    let its = interfaces_of over.imports.now in
    let own = w.interface.language.name in
    let t = tree c.in-Ok.environment in
    let d = dialect_of c.args.dialect.now in
    let given = c.args.dialect.now.language.now.name in
    let same = seen_same d l given own [] c.requires.bare
    (ap (λ (x : Language). x.name) c.requires.same ∙ c.requires.over.named) refl in
    goes_next plan_of (SeesImports (base_file name) (seen_alone own l) its)
    (VerifiesBody name files w l) t c.verify_body-work.result
    (subst (λ (s : SeenFrom). SeesImports (base_file name) s its (Ok t)) same
    (subst (λ (file : List ℕ). SeesImports file (seen_with d given l.digest []) its (Ok t))
    c.requires.files.base
    c.in-Ok.ensures.step))
    (c.verify_body-work.ensures.step files told)

pub returns-in-Err-clause-step : goal.returns-in-Err-clause-step
returns-in-Err-clause-step g c = λ files told.
    let name = c.args.asked.now.name.now in
    let over = c.args.over.now in
    let w = written_of over.written.now in
    let l = stated_of over.language.now in
    let its = interfaces_of over.imports.now in
    let own = w.interface.language.name in
    let d = dialect_of c.args.dialect.now in
    let given = c.args.dialect.now.language.now.name in
    let same = seen_same d l given own [] c.requires.bare
    (ap (λ (x : Language). x.name) c.requires.same ∙ c.requires.over.named) refl in
    stops_first tree plan_of (SeesImports (base_file name) (seen_alone own l) its)
    (VerifiesBody name files w l) c.in-Err.e
    (subst (λ (s : SeenFrom). Gives tree (SeesImports (base_file name) s its) (Err c.in-Err.e))
    same
    (subst (λ (file : List ℕ).
    Gives tree (SeesImports file (seen_with d given l.digest []) its) (Err c.in-Err.e))
    c.requires.files.base c.in-Err.ensures.step))
