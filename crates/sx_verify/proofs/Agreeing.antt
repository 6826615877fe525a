-- `verify NAME` has one result, but for read faults and for two readings that a stop shows of a text
-- that has more.
use Rattle.std.proofs.Common.{◌≡◌, ℕ, List, [], length, map, refl, inl, inr}
use Rattle.std.specs.Prelude.{Result, Ok}
use Rattle.sha2.specs.Sha256.{sha256}
use Rattle.sx_term.specs.Tree.{Tree}
use Rattle.sx_grammar.specs.Tables.{literals_of}
use Rattle.sx_grammar.specs.Told.{shapes_of}
use Rattle.sx_rules.specs.declared.entry.Entry.{Entry as EntryOf}
use Rattle.sx_rules.specs.Modes.{Goal, AllModed}
use Rattle.sx_rules.specs.Views.{modes_of}
use Rattle.sx_rules.proofs.ListLaws.{AreRuleNames}
use Rattle.sx_rules.proofs.Refusals.{good_moded}
use Rattle.sx_interface.specs.Interfaces.{InterfaceParts}
use Rattle.sx_typing.specs.Dialects.{IsDialect}
use Rattle.sx_typing.specs.Growing.{unextended_dialect}
use Rattle.sx_typing.specs.Outcomes.{nameless}
use Rattle.sx_unit.specs.Texts.{print_text}
use Rattle.sx_environment.specs.Alike.{OneEnvironment}
use Rattle.sx_environment.specs.Environments.{IsEnvironment}
use Rattle.sx_outside.specs.Files.{Files}
use Rattle.sx_words.specs.declared.closure_defect.Kept.TheVariants as kept
use Rattle.sx_steps.specs.declared.stop.Stop.{Stop}
use Rattle.sx_steps.specs.Agree.{IsNoReadFault}
use Rattle.sx_steps.specs.Held.{Held}
use Rattle.sx_term.specs.Limits.{most_bytes}
use Rattle.sx_steps.specs.Steps.{NoTries}
use Rattle.sx_steps.specs.Unit.{base_file, list_file, interface_file}
use Rattle.sx_steps.proofs.Ones.{as_answer, held_one, trying_by, no_tries_one, answers_so}
use Rattle.sx_steps.proofs.Related.{IsOneAs, one_as, then_as}
use Rattle.sx_accepting.specs.LanguageFiles.{language_file}
use Rattle.sx_accepting.specs.ReadLanguage.{Stated, IsLanguageStated, StatesLanguage}
use Rattle.sx_accepting.specs.Alike.{StopsAtLanguage, SameButReadings}
use Rattle.sx_accepting.proofs.OneLanguageFile.{reads_language_as}
use Rattle.sx_dialects.specs.Dialects.{ExtendedIsDialect}
use Rattle.sx_headers.specs.FreeImports.{HasFreeImports}
use Rattle.sx_headers.proofs.OneHeaders.{free_imports_one}
use Rattle.sx_importing.specs.KeptValues.{KeepsText, KeepsDigest}
use Rattle.sx_importing.specs.Laws.{SameButRows}
use Rattle.sx_importing.specs.MakeEnvironment.{SeesImports}
use Rattle.sx_importing.proofs.EachLoops.{is_given}
use Rattle.sx_importing.proofs.OneImports.{keeps_digest_one, keeps_text_one, sees}
use Rattle.sx_verify.specs.Ground.{seen_alone, source_in, ReadsBody}
use Rattle.sx_verify.specs.KeptImports.{ReadsAllKept}
use Rattle.sx_verify.specs.Laws.{VerifiesAlikeButShown, VerifiesAgree}
use Rattle.sx_verify.specs.Lists.{ReadsEntries}
use Rattle.sx_verify.specs.Replays.{ReplaysMainGoal, main_goal_in}
use Rattle.sx_verify.specs.Verified.{verified_plan}
use Rattle.sx_verify.specs.VerifiedModule.{HoldsFiles}
use Rattle.sx_verify.specs.VerifyModule as spec
use Rattle.sx_verify.specs.VerifyModule.{Written, ReadsWritten, VerifiesModule}
use Rattle.sx_verify.proofs.DistinctRules.{all_distinct}
use Rattle.sx_verify.proofs.NamedRules.{stated_named}
use Rattle.sx_verify.proofs.OneBodies.{SameButBody, bodies}
use Rattle.sx_verify.proofs.OneSteps.{written_one, all_kept_one, list_one, replays_one}
use Rattle.sx_verify.proofs.Promise.{are_written, holds}

module _ (environments : OneEnvironment) (dialects : ExtendedIsDialect) (name : List ℕ)
    (files : Files) where
  abbrev Related : Stop → Stop → Type 0
  Related = VerifiesAlikeButShown name files

  one : {A : Type 0} (step : Result A Stop → Type 0) →
      ((x y : Result A Stop) → step x → step y → IsNoReadFault x → IsNoReadFault y → x ≡ y) →
      IsOneAs Related step
  one step is = one_as Related (λ s. inl refl) step is

  module _ (w : Written) (read : ReadsWritten name files (Ok w)) (bytes : List ℕ)
      (held : Held most_bytes (language_file w.interface.language.name) files (Ok bytes)) where
    abbrev own : List ℕ
    own = w.interface.language.name

    -- the language
    abbrev SameLanguages : Stop → Stop → Type 0
    SameLanguages = SameButReadings (StopsAtLanguage own files)

    of_language : (x y : Stop) → SameLanguages x y → Related x y
    of_language x y (inl same) = inl same
    of_language x y (inr (are, stops)) =
        inr (are, inl (record { written = w; reads = read; stops = stops }))

    language_as : IsOneAs Related (StatesLanguage own bytes)
    language_as x y h k n m =
        answers_so SameLanguages Related of_language (as_answer x) (as_answer y)
        (reads_language_as own files x y (record { given = Ok bytes; begins = held; goes = h })
        (record { given = Ok bytes; begins = held; goes = k }) n m)

    module _ (digest : w.interface.language.digest ≡ sha256 bytes) (its : List InterfaceParts)
        (kept_all : ReadsAllKept (interface_file name) files w.interface.imports (Ok its))
        (l : Stated) (states : IsLanguageStated own bytes l) where
      abbrev from : HoldsFiles name files
      from = holds name files w (are_written name files w read) bytes held.0 digest l states its
          kept_all

      is : IsDialect (unextended_dialect l.language)
      is = dialects own bytes l states (record { tries = 0; nodes = 0 }) [] _ 0 (refl, refl)

      moded : AllModed (modes_of l.language.forms) (nameless l.language.rules)
      moded = good_moded (shapes_of l.language.parts) l.language.forms [] l.language.rules
          is.rule_set.1

      rule_names : AreRuleNames (map (λ r. r.name) l.language.rules)
      rule_names = record {
        named = stated_named own bytes l states;
        distinct = all_distinct (shapes_of l.language.parts) l.language.forms [] l.language.rules
            is.rule_set.1;
      }

      -- the list
      output_as : (nodes : ℕ) (output : Tree) →
          IsOneAs Related (spec.VerifiesOutput name w l.language nodes output)
      output_as nodes output =
          let signature = w.interface.signature in
          let found = print_text l.language.parts output in
          then_as Related (KeepsText (interface_file name) kept.Signature signature found)
          (λ done result. result ≡ Ok (verified_plan name nodes))
          (one (KeepsText (interface_file name) kept.Signature signature found)
          (keeps_text_one (interface_file name) kept.Signature signature found))
          (λ done same. one (λ result. result ≡ Ok (verified_plan name nodes))
          (is_given (Ok (verified_plan name nodes))))

      entries_as : (goal : Goal) (list : List EntryOf) →
          IsOneAs Related (spec.VerifiesEntries name w l.language goal list)
      entries_as goal list =
          then_as Related (ReplaysMainGoal (list_file name) l.language goal list)
          (spec.VerifiesOutput name w l.language (length list))
          (one (ReplaysMainGoal (list_file name) l.language goal list)
          (replays_one (list_file name) l.language goal list moded))
          (λ output replayed. output_as (length list) output)

      list_as : (goal : Goal) → IsOneAs Related (spec.VerifiesList name files w l.language goal)
      list_as goal =
          let names = map (λ r. r.name) l.language.rules in
          then_as Related (ReadsEntries (list_file name) names files)
          (spec.VerifiesEntries name w l.language goal)
          (one (ReadsEntries (list_file name) names files)
          (list_one (list_file name) names rule_names files))
          (λ list listed. entries_as goal list)

      -- the body
      module _ (environment : Tree) (around : IsEnvironment (seen_alone own l) its environment) where
        of_body : (x y : Stop) →
            SameButBody (source_in l w.base environment) (base_file name) x y → Related x y
        of_body x y (inl e) = inl e
        of_body x y (inr (show, file, three)) =
            inr (
              show,
              inr (inr (record {
                from = from;
                environment = environment;
                around = around;
                file = file;
                three = three;
              })),
            )

        subject_as : IsOneAs Related
            (ReadsBody (base_file name) (source_in l w.base environment))
        subject_as x y h k n m =
            answers_so (SameButBody (source_in l w.base environment) (base_file name)) Related
            of_body (as_answer x) (as_answer y)
            (bodies (source_in l w.base environment) (base_file name) moded x y h k)

        body_as : IsOneAs Related (spec.VerifiesBody name files w l environment)
        body_as =
            then_as Related (ReadsBody (base_file name) (source_in l w.base environment))
            (spec.VerifiesSubject name files w l.language environment) subject_as
            (λ subject body. list_as (main_goal_in l.language environment subject))

      -- the environment
      of_import : (x y : Stop) → SameButRows (seen_alone own l) its x y → Related x y
      of_import x y (inl e) = inl e
      of_import x y (inr (show, of)) = inr (show, inr (inl (record { from = from; of = of })))

      sees_as : IsOneAs Related (SeesImports (base_file name) (seen_alone own l) its)
      sees_as x y h k n m =
          answers_so (SameButRows (seen_alone own l) its) Related of_import (as_answer x)
          (as_answer y) (sees environments (base_file name) (seen_alone own l) its x y h k)

      names_as : IsOneAs Related (spec.VerifiesNames name files w its l)
      names_as =
          let literals = literals_of l.language.parts in
          then_as Related (HasFreeImports (base_file name) literals w.base)
          (λ done. spec.VerifiesOver name files w l its)
          (one (HasFreeImports (base_file name) literals w.base)
          (free_imports_one (base_file name) literals w.base))
          (λ done free. then_as Related (SeesImports (base_file name) (seen_alone own l) its)
          (spec.VerifiesBody name files w l) sees_as
          (λ environment made. body_as environment made.0))

    digest_as : IsOneAs Related (spec.VerifiesDigest name files w bytes)
    digest_as =
        let digest = w.interface.language.digest in
        then_as Related
        (KeepsDigest (interface_file name) kept.LanguageDigest digest (sha256 bytes))
        (λ done. spec.VerifiesImports name files w bytes)
        (one (KeepsDigest (interface_file name) kept.LanguageDigest digest (sha256 bytes))
        (keeps_digest_one (interface_file name) kept.LanguageDigest digest (sha256 bytes)))
        (λ done same. then_as Related
        (ReadsAllKept (interface_file name) files w.interface.imports)
        (spec.VerifiesLanguage name files w bytes)
        (one (ReadsAllKept (interface_file name) files w.interface.imports)
        (all_kept_one (interface_file name) files w.interface.imports))
        (λ its reads. then_as Related (StatesLanguage own bytes)
        (spec.VerifiesNames name files w its) language_as
        (λ l states. names_as same its reads l states)))

  module_as : IsOneAs Related (VerifiesModule name files)
  module_as =
      then_as Related (ReadsWritten name files) (spec.VerifiesWritten name files)
      (one (ReadsWritten name files) (written_one name files))
      (λ w read. then_as Related
      (Held most_bytes (language_file w.interface.language.name) files)
      (spec.VerifiesDigest name files w)
      (one (Held most_bytes (language_file w.interface.language.name) files)
      (held_one most_bytes (language_file w.interface.language.name) files))
      (λ bytes held. digest_as w read bytes held))

pub verifies_by : OneEnvironment → ExtendedIsDialect → VerifiesAgree
verifies_by environments dialects name files =
    trying_by (VerifiesAlikeButShown name files) NoTries (VerifiesModule name files) no_tries_one
    (module_as environments dialects name files)
