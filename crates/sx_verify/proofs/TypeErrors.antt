-- `verify NAME` never stops with a type error: it derives nothing.
use Rattle.std.proofs.Common.{◌≡◌, ℕ, List, [], ◌∷◌, ◌++◌, length, map, inl, inr, sym}
use Rattle.std.specs.Prelude.{Ok, Some}
use Rattle.std.specs.Str.Lossy.{utf8_valid_len}
use Rattle.hex.specs.Hex.{encode_lower}
use Rattle.sha2.specs.Sha256.{sha256}
use Rattle.sx_term.specs.Tree.{Tree}
use Rattle.sx_token.specs.declared.token_error.TokenError.{TokenError}
use Rattle.sx_token.specs.declared.token_error.TokenError.TheVariants as token_error
use Rattle.sx_grammar.specs.Tables.{literals_of}
use Rattle.sx_rules.specs.declared.entry.Entry.{Entry as EntryOf}
use Rattle.sx_rules.specs.Modes.{Goal}
use Rattle.sx_replay.specs.declared.replay_error.ReplayError.{ReplayError}
use Rattle.sx_replay.specs.declared.replay_error.ReplayError.TheVariants as replay_error
use Rattle.sx_notation.specs.declared.unread.Unread.{Unread}
use Rattle.sx_notation.specs.declared.unread.Unread.TheVariants as unread
use Rattle.sx_notation.specs.Language.{LanguageData}
use Rattle.sx_interface.specs.Interfaces.{InterfaceParts, MarkData}
use Rattle.sx_typing.specs.declared.module_error.ModuleError.{ModuleError}
use Rattle.sx_typing.specs.declared.module_error.ModuleError.TheVariants as module_error
use Rattle.sx_typing.specs.BodySource.{BodySource}
use Rattle.sx_unit.specs.Texts.{print_text}
use Rattle.sx_environment.specs.declared.import_error.ImportError.{ImportError}
use Rattle.sx_environment.specs.declared.import_error.ImportError.TheVariants as import_error
use Rattle.sx_environment.specs.SeenFrom.{SeenFrom}
use Rattle.sx_outside.specs.Files.{Files}
use Rattle.sx_words.specs.declared.closure_defect.Kept.{Kept}
use Rattle.sx_words.specs.declared.closure_defect.Kept.TheVariants as kept
use Rattle.sx_steps.specs.declared.stop.Stop.{Stop}
use Rattle.sx_steps.specs.Held.{Held, most_list_bytes}
use Rattle.sx_term.specs.Limits.{most_bytes}
use Rattle.sx_steps.specs.Stops.{not_utf8}
use Rattle.sx_steps.specs.Unit.{base_file, list_file, interface_file}
use Rattle.sx_steps.proofs.Ones.{ok_no_err}
use Rattle.sx_steps.proofs.TypeErrors.{OnTypeError, on_stop, no_type_error, Final, then_final}
use Rattle.sx_steps.proofs.TypeErrors.{held_final}
use Rattle.sx_accepting.specs.LanguageFiles.{language_file}
use Rattle.sx_accepting.specs.ReadLanguage.{Stated, StatesLanguage}
use Rattle.sx_accepting.proofs.TypeErrors.{no_language}
use Rattle.sx_headers.specs.FreeImports.{HasFreeImports}
use Rattle.sx_headers.specs.HeaderRows.{header_row_line, import_row}
use Rattle.sx_headers.specs.HeaderStops.{bad_header, version_stop}
use Rattle.sx_headers.specs.ReadInterface.{HeldInterface, StatesParts, ReadsInterface}
use Rattle.sx_headers.specs.ReadModule.{Module, StatesModule, ReadsModule}
use Rattle.sx_headers.specs.TextStops.{uncut_text, unread_text}
use Rattle.sx_importing.specs.Each.{GivesNext, GivesAfter}
use Rattle.sx_importing.specs.ImportStops.{import_file, import_stop}
use Rattle.sx_importing.specs.KeptValues.{kept_differs, KeepsText, KeepsDigest}
use Rattle.sx_importing.specs.MakeEnvironment.{SeesImports}
use Rattle.sx_importing.specs.ReadImports.{ReadsImport}
use Rattle.sx_verify.specs.BaseFits.{FitsBeside}
use Rattle.sx_verify.specs.Ground.{seen_alone, source_in, body_stop, ReadsBody}
use Rattle.sx_verify.specs.KeptImports.{KeepsImport, ComparesImport, ReadsKept, ReadsAllKept}
use Rattle.sx_verify.specs.Laws.{VerifiesWithoutTypeErrors}
use Rattle.sx_verify.specs.Lists.{bad_entry, replay_stop, StatesEntries, ReadsEntries}
use Rattle.sx_verify.specs.Replays.{main_goal_in, ReplaysMainGoal}
use Rattle.sx_verify.specs.Verified.{verified_plan}
use Rattle.sx_verify.specs.VerifyModule as spec
use Rattle.sx_verify.specs.VerifyModule.{Written, both_written, ComparesBase, FitsBase, ReadsBase}
use Rattle.sx_verify.specs.VerifyModule.{ReadsWritten, VerifiesModule}

module _ (Q : Stop → Type 0) where
  -- ---- a step that gives what is known

  gives_final : {A : Type 0} (x : A) → Final Q {A = A} (λ result. result ≡ Ok x)
  gives_final x stop h = absurd (ok_no_err x stop (sym h))

  -- ---- stops

  text_uncut : (file : List ℕ) (line column : ℕ) (e : TokenError) →
      OnTypeError Q (uncut_text file line column e)
  text_uncut file line column token_error.Memory = tt
  text_uncut file line column (token_error.NotUtf8 place) = λ h. absurd h
  text_uncut file line column (token_error.BadToken place) = λ h. absurd h
  text_uncut file line column token_error.TooManyTokens = λ h. absurd h
  text_uncut file line column (token_error.OpenString place) = λ h. absurd h

  text_unread : (file : List ℕ) (line column : ℕ) (e : Unread) →
      OnTypeError Q (Some (unread_text file line column e))
  text_unread file line column unread.TooHard = λ h. absurd h
  text_unread file line column (unread.NoReading place) = λ h. absurd h
  text_unread file line column (unread.TooDeep depth) = λ h. absurd h
  text_unread file line column (unread.Ambiguous one other) = λ h. absurd h

  no_body : (file : List ℕ) (e : ModuleError) → OnTypeError Q (body_stop file e)
  no_body file module_error.Memory = tt
  no_body file (module_error.Token line column e) = text_uncut file line column e
  no_body file (module_error.Read line column u) = text_unread file line column u
  no_body file (module_error.TypeError line column stuck) = tt
  no_body file (module_error.BudgetSpent n) = tt
  no_body file module_error.DepthSpent = tt
  no_body file (module_error.TooDeep n) = tt
  no_body file (module_error.TooBig n) = tt
  no_body file (module_error.RewriteSpent n) = tt
  no_body file module_error.RewriteDeep = tt
  no_body file (module_error.Print part defect) = tt
  no_body file (module_error.Captured word) = tt

  no_import : (file : List ℕ) (its : List InterfaceParts) (e : ImportError) →
      OnTypeError Q (import_stop file its e)
  no_import file its import_error.Memory = tt
  no_import file its (import_error.LanguageDiffers import language) = λ h. absurd h
  no_import file its (import_error.Differs import kept found) = λ h. absurd h
  no_import file its (import_error.Token import line column e) =
      text_uncut (import_file its import) line column e
  no_import file its (import_error.Read import line column u) =
      text_unread (import_file its import) line column u
  no_import file its (import_error.StatedDiffers import kept found) = λ h. absurd h
  no_import file its (import_error.TooDeep depth) = λ h. absurd h

  no_replay : (file : List ℕ) (e : ReplayError) → OnTypeError Q (replay_stop file e)
  no_replay file replay_error.Memory = tt
  no_replay file (replay_error.WrongAt entry) = λ h. absurd h
  no_replay file replay_error.EndsEarly = λ h. absurd h
  no_replay file (replay_error.LongList entry) = λ h. absurd h
  no_replay file (replay_error.TooDeep depth) = λ h. absurd h
  no_replay file (replay_error.TooBig size) = λ h. absurd h
  no_replay file (replay_error.DeepList entry) = λ h. absurd h

  -- ---- what is kept and found

  text_final : (file : List ℕ) (what : Kept) (held found : List ℕ) →
      Final Q (KeepsText file what held found)
  text_final file what held found stop h =
      no_type_error Q (kept_differs file what held found) stop (λ e. e) h.1

  digest_final : (file : List ℕ) (what : Kept) (held found : List ℕ) →
      Final Q (KeepsDigest file what held found)
  digest_final file what held found stop h =
      no_type_error Q (kept_differs file what (encode_lower held) (encode_lower found)) stop
      (λ e. e) h.1

  -- ---- headers and interfaces

  module_final : (file name bytes : List ℕ) → Final Q (StatesModule file name bytes)
  module_final file name bytes stop (inl h) =
      no_type_error Q (not_utf8 file (utf8_valid_len bytes)) stop (λ h. h) h.1
  module_final file name bytes stop (inr h) =
      no_type_error Q (bad_header file h.1.0) stop (λ h. h) h.1.2

  reads_module_final : (file name : List ℕ) (files : Files) → Final Q (ReadsModule file name files)
  reads_module_final file name files =
      then_final Q (Held most_bytes file files) (StatesModule file name)
      (held_final Q most_bytes file files) (λ bytes held. module_final file name bytes)

  parts_final : (file name bytes : List ℕ) → Final Q (StatesParts file name bytes)
  parts_final file name bytes stop (inl h) =
      no_type_error Q (not_utf8 file (utf8_valid_len bytes)) stop (λ h. h) h.1
  parts_final file name bytes stop (inr (utf8, inl h)) =
      no_type_error Q (version_stop file h.0) stop (λ h. h) h.2
  parts_final file name bytes stop (inr (utf8, inr h)) =
      no_type_error Q (bad_header file h.1.0) stop (λ h. h) h.1.2

  interface_final : (file name : List ℕ) (files : Files) →
      Final Q (ReadsInterface file name files)
  interface_final file name files =
      then_final Q (Held most_bytes file files) (StatesParts file name)
      (held_final Q most_bytes file files) (λ bytes held. parts_final file name bytes)

  fits_final : (file : List ℕ) (it : InterfaceParts) (m : Module) → Final Q (FitsBeside file it m)
  fits_final file it m stop h =
      no_type_error Q (bad_header file (header_row_line m h.0)) stop (λ h. h) h.2

  free_final : (file : List ℕ) (literals : List (List ℕ)) (m : Module) →
      Final Q (HasFreeImports file literals m)
  free_final file literals m stop h =
      no_type_error Q (bad_header file (header_row_line m (import_row m.header h.0))) stop (λ h. h) h.2

  -- ---- imports

  module _ (file : List ℕ) (files : Files) where
    import_final : (name : List ℕ) → Final Q (ReadsImport files name)
    import_final name =
        then_final Q (ReadsInterface (interface_file name) name files)
        (λ (i : HeldInterface) result.
        result ≡ Ok (record { parts = i.parts; digest = sha256 i.bytes }))
        (interface_final (interface_file name) name files)
        (λ i read. gives_final _)

    kept_final : (mark : MarkData) → Final Q (ReadsKept file files mark)
    kept_final mark =
        then_final Q (ReadsImport files mark.name) (ComparesImport file mark)
        (import_final mark.name)
        (λ i read. then_final Q (KeepsImport file mark i.digest)
        (λ done result. result ≡ Ok i.parts)
        (digest_final file (kept.ImportDigest mark.name) mark.digest i.digest)
        (λ done same. gives_final i.parts))

    after_final : (given : List InterfaceParts) (marks : List MarkData) →
        Final Q (GivesAfter (ReadsKept file files) given marks)
    after_final given [] = gives_final given
    after_final given (mark ∷ marks) =
        then_final Q (GivesNext (ReadsKept file files) given mark)
        (λ next. GivesAfter (ReadsKept file files) next marks)
        (then_final Q (ReadsKept file files mark) (λ i result. result ≡ Ok (given ++ i ∷ []))
        (kept_final mark) (λ i read. gives_final (given ++ i ∷ [])))
        (λ next read. after_final next marks)

    all_kept_final : (marks : List MarkData) → Final Q (ReadsAllKept file files marks)
    all_kept_final marks = after_final [] marks

  sees_final : (file : List ℕ) (s : SeenFrom) (its : List InterfaceParts) →
      Final Q (SeesImports file s its)
  sees_final file s its stop h =
      on_stop Q (import_stop file its h.0) stop (no_import file its h.0) h.2

  -- ---- the language, the body and the list

  language_final : (name bytes : List ℕ) → Final Q (StatesLanguage name bytes)
  language_final name bytes stop h =
      on_stop Q _ stop (no_language Q (language_file name) h.error) h.is

  subject_final : (file : List ℕ) (s : BodySource) → Final Q (ReadsBody file s)
  subject_final file s stop h = on_stop Q (body_stop file h.0) stop (no_body file h.0) h.2

  entries_final : (file : List ℕ) (names : List (List ℕ)) (files : Files) →
      Final Q (ReadsEntries file names files)
  entries_final file names files =
      then_final Q (Held most_list_bytes file files) (StatesEntries file names)
      (held_final Q most_list_bytes file files)
      (λ bytes held stop h. no_type_error Q (bad_entry file h.0) stop (λ e. e) h.2)

  replays_final : (file : List ℕ) (d : LanguageData) (goal : Goal) (list : List EntryOf) →
      Final Q (ReplaysMainGoal file d goal list)
  replays_final file d goal list stop h =
      on_stop Q (replay_stop file h.0) stop (no_replay file h.0) h.2

  -- ---- the command

  module _ (name : List ℕ) (files : Files) where
    written_final : Final Q (ReadsWritten name files)
    written_final =
        then_final Q (ReadsInterface (interface_file name) name files) (ReadsBase name files)
        (interface_final (interface_file name) name files)
        (λ i read. then_final Q (ReadsModule (base_file name) name files) (FitsBase name i.parts)
        (reads_module_final (base_file name) name files)
        (λ m base. then_final Q (FitsBeside (base_file name) i.parts m)
        (λ done. ComparesBase name i.parts m)
        (fits_final (base_file name) i.parts m)
        (λ done fits. then_final Q
        (KeepsDigest (interface_file name) kept.BaseDigest i.parts.base (sha256 m.bytes))
        (λ done result. result ≡ Ok (both_written i.parts m))
        (digest_final (interface_file name) kept.BaseDigest i.parts.base (sha256 m.bytes))
        (λ done same. gives_final (both_written i.parts m)))))

    module _ (w : Written) where
      output_final : (d : LanguageData) (nodes : ℕ) (output : Tree) →
          Final Q (spec.VerifiesOutput name w d nodes output)
      output_final d nodes output =
          let signature = w.interface.signature in
          let found = print_text d.parts output in
          then_final Q (KeepsText (interface_file name) kept.Signature signature found)
          (λ done result. result ≡ Ok (verified_plan name nodes))
          (text_final (interface_file name) kept.Signature signature found)
          (λ done same. gives_final (verified_plan name nodes))

      list_final : (d : LanguageData) (goal : Goal) →
          Final Q (spec.VerifiesList name files w d goal)
      list_final d goal =
          let names = map (λ r. r.name) d.rules in
          then_final Q (ReadsEntries (list_file name) names files)
          (spec.VerifiesEntries name w d goal) (entries_final (list_file name) names files)
          (λ list listed. then_final Q (ReplaysMainGoal (list_file name) d goal list)
          (spec.VerifiesOutput name w d (length list))
          (replays_final (list_file name) d goal list)
          (λ output replayed. output_final d (length list) output))

      body_final : (l : Stated) (environment : Tree) →
          Final Q (spec.VerifiesBody name files w l environment)
      body_final l environment =
          then_final Q (ReadsBody (base_file name) (source_in l w.base environment))
          (spec.VerifiesSubject name files w l.language environment)
          (subject_final (base_file name) (source_in l w.base environment))
          (λ subject body. list_final l.language (main_goal_in l.language environment subject))

      names_final : (its : List InterfaceParts) (l : Stated) →
          Final Q (spec.VerifiesNames name files w its l)
      names_final its l =
          let literals = literals_of l.language.parts in
          let seen = seen_alone w.interface.language.name l in
          then_final Q (HasFreeImports (base_file name) literals w.base)
          (λ done. spec.VerifiesOver name files w l its)
          (free_final (base_file name) literals w.base)
          (λ done free. then_final Q (SeesImports (base_file name) seen its)
          (spec.VerifiesBody name files w l) (sees_final (base_file name) seen its)
          (λ environment made. body_final l environment))

      imports_final : (bytes : List ℕ) → Final Q (spec.VerifiesImports name files w bytes)
      imports_final bytes =
          let marks = w.interface.imports in
          then_final Q (ReadsAllKept (interface_file name) files marks)
          (spec.VerifiesLanguage name files w bytes)
          (all_kept_final (interface_file name) files marks)
          (λ its reads. then_final Q (StatesLanguage w.interface.language.name bytes)
          (spec.VerifiesNames name files w its)
          (language_final w.interface.language.name bytes)
          (λ l states. names_final its l))

      files_final : Final Q (spec.VerifiesWritten name files w)
      files_final =
          let file = language_file w.interface.language.name in
          let digest = w.interface.language.digest in
          then_final Q (Held most_bytes file files) (spec.VerifiesDigest name files w)
          (held_final Q most_bytes file files)
          (λ bytes held. then_final Q
          (KeepsDigest (interface_file name) kept.LanguageDigest digest (sha256 bytes))
          (λ done. spec.VerifiesImports name files w bytes)
          (digest_final (interface_file name) kept.LanguageDigest digest (sha256 bytes))
          (λ done same. imports_final bytes))

    verifies_final : Final Q (VerifiesModule name files)
    verifies_final =
        then_final Q (ReadsWritten name files) (spec.VerifiesWritten name files) written_final
        (λ w read. files_final w)

pub verifies_without_type_errors : VerifiesWithoutTypeErrors
verifies_without_type_errors name files = verifies_final (λ (stop : Stop). ⊥) name files
