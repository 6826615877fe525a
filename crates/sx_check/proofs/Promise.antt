-- `check NAME` keeps its promise.
use Rattle.std.proofs.Common.{◌≡◌, ℕ, List, [], ◌∷◌, sym, ap, ◌∙◌, subst}
use Rattle.std.specs.Prelude.{Ok, Some}
use Rattle.sx_extcheck.specs.declared.budgets.Budgets.{Budgets}
use Rattle.sx_outside.specs.Files.{Files, after_writes}
use Rattle.sx_steps.specs.Work.{Plan}
use Rattle.sx_steps.proofs.Ones.{ok_same}
use Rattle.sx_steps.proofs.StepsOn.{went, went_on}
use Rattle.sx_uses.specs.ExtensionFile.{Extension, extension_file}
use Rattle.sx_uses.specs.ReadUses.{ReadsUses}
use Rattle.sx_accepting.specs.ExtendedLanguages.{ExtendedData, unextended}
use Rattle.sx_accepting.specs.Extending.{ExtendsLanguage}
use Rattle.sx_accepting.specs.LanguageFiles.{language_file}
use Rattle.sx_accepting.specs.ReadLanguage.{Stated, IsLanguageStated, base_in}
use Rattle.sx_accepting.proofs.AcceptedExtended.{accepted_begin}
use Rattle.sx_accepting.proofs.OneExtended.{extended_is_accepted}
use Rattle.sx_check.specs.CheckExtension.{check_plan}
use Rattle.sx_check.specs.CheckedExtension.{CheckedExtension, ChecksKeepPromise}
use Rattle.sx_check.proofs.Certificates.{begin_counted, all_counted, have_certificates}
use Rattle.sx_check.proofs.ComingLast.{own_is_last, comes_last}

-- the steps came to this language, these extensions and what is accepted of them
module _ (name language : List ℕ) (budgets : Budgets) (old : Files) (bytes : List ℕ) (l : Stated) (held : old (language_file language) ≡ Some bytes) (stated : IsLanguageStated language bytes l)
    (xs : List Extension) (reached : ReadsUses (extension_file name) language (name ∷ []) old (Ok xs))
    (x : ExtendedData) (tries : ℕ) (extends : ExtendsLanguage (base_in l) budgets xs (unextended l.language) (Ok x) tries) where
  kept : (plan : Plan) (new : Files) → plan ≡ check_plan name x → new ≡ after_writes plan.files old → CheckedExtension name budgets old new plan.lines
  kept plan new made files_are =
      let last = own_is_last (extension_file name) language name old xs reached in
      let as_own = sym last.written_for in
      record {
        own = last.own;
        language_bytes = bytes;
        language = l;
        extensions = xs;
        extended = x;
        tries = tries;
        held = last.held;
        headed = last.headed;
        language_held = subst (λ (named : List ℕ). old (language_file named) ≡ Some bytes) as_own held;
        stated = subst (λ (named : List ℕ). IsLanguageStated named bytes l) as_own stated;
        reached = subst (λ (named : List ℕ). ReadsUses (extension_file name) named (name ∷ []) old (Ok xs)) as_own reached;
        extends = extends;
        accepted = extended_is_accepted language bytes l stated budgets xs x tries extends;
        last = comes_last (base_in l) budgets (accepted_begin language bytes l stated) last.own last.before xs x tries last.parts extends;
        certified = have_certificates x (all_counted (base_in l) budgets xs (unextended l.language) x tries (begin_counted l.language) extends);
        same = files_are ∙ ap (λ (p : Plan). after_writes p.files old) made;
        lines = ap (λ (p : Plan). p.lines) made;
      }

pub check_promise : ChecksKeepPromise
check_promise name budgets old new plan tries checked files_are =
    let read = went_on _ _ _ tries checked in
    let over = went_on _ _ _ read.after read.goes in
    let language = went _ _ _ over.begins.0 in
    let reached = went_on _ _ _ over.after over.goes in
    let all = went_on _ _ _ reached.after reached.goes in
    kept name read.given.header.language budgets old language.given over.given language.begins.0 language.goes reached.given reached.begins.0 all.given all.before all.begins plan new
    (ok_same plan (check_plan name all.given) all.goes.0) files_are
