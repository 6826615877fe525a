-- `verify NAME` keeps its promise.
use Rattle.std.proofs.Common.{◌≡◌, ℕ, List, [], ◌∷◌, ◌++◌, length, refl, sym, ap, ◌∙◌, subst}
use Rattle.std.proofs.Common.{append_assoc}
use Rattle.std.proofs.lemmas.List.{append-nil}
use Rattle.std.specs.Prelude.{Ok, Some}
use Rattle.sha2.specs.Sha256.{sha256}
use Rattle.sx_rules.specs.EntryView.{entries}
use Rattle.sx_rules.specs.Views.{modes_of}
use Rattle.sx_lines.specs.Lines.{lines_from, line_texts}
use Rattle.sx_interface.specs.Interfaces.{InterfaceParts, MarkData}
use Rattle.sx_interface.specs.Stated.{StatesInterface}
use Rattle.sx_rules.specs.First.{Answer, DerivesGoal}
use Rattle.sx_typing.specs.Outcomes.{nameless}
use Rattle.sx_rules.specs.Rules.{no_hypotheses}
use Rattle.sx_outside.specs.Files.{Files, after_writes}
use Rattle.sx_steps.specs.Unit.{base_file, interface_file}
use Rattle.sx_steps.specs.Work.{Plan}
use Rattle.sx_steps.proofs.Ones.{ok_same}
use Rattle.sx_steps.proofs.StepsOn.{went}
use Rattle.sx_accepting.specs.LanguageFiles.{language_file}
use Rattle.sx_accepting.specs.ReadLanguage.{Stated, IsLanguageStated}
use Rattle.sx_headers.specs.ReadInterface.{HeldInterface, HasInterface}
use Rattle.sx_headers.specs.ReadModule.{Module, HasHeader}
use Rattle.sx_verify.specs.BaseFits.{IsBaseOf}
use Rattle.sx_verify.specs.Replays.{main_goal_in}
use Rattle.sx_importing.specs.Each.{GivesNext, GivesAfter}
use Rattle.sx_importing.specs.ReadImports.{ImportData}
use Rattle.sx_verify.specs.KeptImports.{ReadsKept, ReadsAllKept}
use Rattle.sx_verify.specs.Verified.{verified_plan}
use Rattle.sx_verify.specs.VerifyModule.{Written, both_written, ReadsWritten}
use Rattle.sx_verify.specs.VerifiedModule.{HoldsImport, HoldImports, HoldsFiles}
use Rattle.sx_verify.specs.VerifiedModule.{VerifiesKeepPromise}
use Rattle.sx_verify.proofs.Replayed.{replayed_derives}

-- ---- imports

import_held : (file : List ℕ) (files : Files) (mark : MarkData) (it : InterfaceParts) →
    ReadsKept file files mark (Ok it) → HoldsImport files mark it
import_held file files mark it read =
    let one = went _ _ _ read in
    let i : ImportData = one.given in
    let held = went _ _ _ one.begins in
    let found : HeldInterface = held.given in
    let bytes = went _ _ _ held.begins in
    let kept = went _ _ _ one.goes in
    let is : i ≡ record { parts = found.parts; digest = sha256 found.bytes } =
    ok_same i (record { parts = found.parts; digest = sha256 found.bytes }) held.goes in
    let same : it ≡ found.parts =
    ok_same it i.parts kept.goes ∙ ap (λ (x : ImportData). x.parts) is in
    let own : found.bytes ≡ bytes.given = bytes.goes.same in
    record {
      bytes = bytes.given;
      held = bytes.begins.0;
      states = record {
        same = refl;
        utf8 = bytes.goes.utf8;
        states = subst (λ (parts : InterfaceParts). StatesInterface mark.name
            (line_texts (lines_from 1 bytes.given)) parts) (sym same) bytes.goes.states;
      };
      digest = kept.begins ∙ ap (λ (x : ImportData). x.digest) is ∙ ap sha256 own;
    }

pub record Behind (files : Files) (read : List InterfaceParts) (marks : List MarkData)
    (its : List InterfaceParts) : Type 0 where
  pub more : List InterfaceParts
  pub is : its ≡ read ++ more
  pub held : HoldImports files marks more

pub imports_held : (file : List ℕ) (files : Files) (read : List InterfaceParts)
    (marks : List MarkData) (its : List InterfaceParts) →
    GivesAfter (ReadsKept file files) read marks (Ok its) → Behind files read marks its
imports_held file files read [] its h =
    record { more = []; is = ok_same its read h ∙ sym (append-nil read); held = tt }
imports_held file files read (mark ∷ marks) its h =
    let next = went (GivesNext (ReadsKept file files) read mark)
    (λ next. GivesAfter (ReadsKept file files) next marks) its h in
    let one = went (ReadsKept file files mark) (λ it result. result ≡ Ok (read ++ it ∷ []))
    next.given next.begins in
    let so_far : next.given ≡ read ++ one.given ∷ [] =
    ok_same next.given (read ++ one.given ∷ []) one.goes in
    let rest = imports_held file files next.given marks its next.goes in
    record {
      more = one.given ∷ rest.more;
      is = rest.is ∙ ap (λ (l : List InterfaceParts). l ++ rest.more) so_far
          ∙ append_assoc read (one.given ∷ []) rest.more;
      held = (import_held file files mark one.given one.begins, rest.held);
    }

-- ---- the files

-- the written files fit one another
pub record AreWritten (name : List ℕ) (files : Files) (w : Written) : Type 0 where
  pub own : List ℕ
  pub own_held : files (interface_file name) ≡ Some own
  pub own_states : HasInterface name own (record { bytes = own; parts = w.interface })
  pub base_held : files (base_file name) ≡ Some w.base.bytes
  pub base_states : HasHeader name w.base.bytes w.base
  pub fits : IsBaseOf w.interface w.base.header
  pub base_digest : w.interface.base ≡ sha256 w.base.bytes

pub are_written : (name : List ℕ) (files : Files) (w : Written) → ReadsWritten name files (Ok w) →
    AreWritten name files w
are_written name files w read =
    let interface = went _ _ _ read in
    let own = went _ _ _ interface.begins in
    let base = went _ _ _ interface.goes in
    let base_bytes = went _ _ _ base.begins in
    let fits = went _ _ _ base.goes in
    let kept = went _ _ _ fits.goes in
    let i : HeldInterface = interface.given in
    let m : Module = base.given in
    let is : w ≡ both_written i.parts m = ok_same w (both_written i.parts m) kept.goes in
    let same : m.bytes ≡ base_bytes.given = base_bytes.goes.same in
    subst (λ (x : Written). AreWritten name files x) (sym is) (record {
      own = own.given;
      own_held = own.begins.0;
      own_states = record { same = refl; utf8 = own.goes.utf8; states = own.goes.states };
      base_held = base_bytes.begins.0 ∙ ap Some (sym same);
      base_states = subst (λ (bytes : List ℕ). HasHeader name bytes m) (sym same) base_bytes.goes;
      fits = fits.begins;
      base_digest = kept.begins;
    })

-- ---- all of it

-- what is held where the steps went on so far
abbrev pub holds : (name : List ℕ) (files : Files) (w : Written) → AreWritten name files w →
    (bytes : List ℕ) → files (language_file w.interface.language.name) ≡ Some bytes →
    w.interface.language.digest ≡ sha256 bytes → (l : Stated) →
    IsLanguageStated w.interface.language.name bytes l → (its : List InterfaceParts) →
    ReadsAllKept (interface_file name) files w.interface.imports (Ok its) → HoldsFiles name files
holds name files w own bytes held digest l states its reads =
    let all = imports_held (interface_file name) files [] w.interface.imports its reads in
    record {
      own = own.own;
      interface = w.interface;
      own_held = own.own_held;
      own_states = own.own_states;
      base = w.base;
      base_held = own.base_held;
      base_states = own.base_states;
      fits = own.fits;
      base_digest = own.base_digest;
      bytes = bytes;
      language = l;
      language_held = held;
      language_states = states;
      language_digest = digest;
      imports = its;
      imports_held = subst (λ (x : List InterfaceParts). HoldImports files w.interface.imports x)
          (sym all.is) all.held;
    }

pub verify_promise : VerifiesKeepPromise
verify_promise name old new plan verified files_are =
    let written = went _ _ _ verified in
    let w : Written = written.given in
    let own = are_written name old w written.begins in
    let language_held = went _ _ _ written.goes in
    let digest = went _ _ _ language_held.goes in
    let imports = went _ _ _ digest.goes in
    let language = went _ _ _ imports.goes in
    let free = went _ _ _ language.goes in
    let around = went _ _ _ free.goes in
    let body = went _ _ _ around.goes in
    let listed = went _ _ _ body.goes in
    let list_held = went _ _ _ listed.begins in
    let replayed = went _ _ _ listed.goes in
    let signed = went _ _ _ replayed.goes in
    let d = language.given.language in
    let answer = replayed_derives (modes_of d.forms) (nameless d.rules)
    (main_goal_in d around.given body.given) (entries listed.given) (replayed.given ∷ [])
    replayed.begins in
    let made : plan ≡ verified_plan name (length listed.given) =
    ok_same plan (verified_plan name (length listed.given)) signed.goes in
    record {
      files = holds name old w own language_held.given language_held.begins.0 digest.begins
          language.given language.begins imports.given imports.begins;
      environment = around.given;
      subject = body.given;
      output = replayed.given;
      proof = answer.0.0;
      list_bytes = list_held.given;
      list = listed.given;
      free = free.begins;
      around = around.begins.0;
      body = body.begins;
      list_held = list_held.begins.0;
      list_states = list_held.goes;
      derives = subst (λ (a : Answer).
          DerivesGoal (modes_of d.forms) (nameless d.rules) no_hypotheses
          (main_goal_in d around.given body.given) a)
          (λ i. (answer.0.0, answer.3 i)) answer.1;
      in_order = answer.2;
      signature = signed.begins;
      same = files_are ∙ ap (λ (p : Plan). after_writes p.files old) made;
      line = ap (λ (p : Plan). p.lines) made;
    }
