-- Steps of a verification that have one result, read faults aside.
use Rattle.std.proofs.Common.{◌≡◌, ℕ, zero, suc, ◌-◌, ◌<◌, List, [], ◌∷◌, length, refl}
use Rattle.std.proofs.Common.{sym, ap, ◌∙◌, subst, inl, inr, arith}
use Rattle.std.specs.Prelude.{Ok, Err, slice_get}
use Rattle.sha2.specs.Sha256.{sha256}
use Rattle.sx_term.specs.Tree.{Tree}
use Rattle.sx_lines.specs.Lines.{lines_from, line_texts}
use Rattle.sx_interface.specs.Headers.{HeaderParts}
use Rattle.sx_interface.specs.Interfaces.{InterfaceParts, MarkData}
use Rattle.sx_notation.specs.Language.{LanguageData}
use Rattle.sx_outside.specs.Files.{Files}
use Rattle.sx_rules.specs.declared.entry.Entry.{Entry as EntryOf}
use Rattle.sx_rules.specs.EntryView.{entries}
use Rattle.sx_rules.specs.ListText.{StatesList}
use Rattle.sx_rules.specs.Modes.{Goal, AllModed}
use Rattle.sx_rules.specs.Views.{modes_of}
use Rattle.sx_rules.proofs.ListLaws.{AreRuleNames, list_again}
use Rattle.sx_typing.specs.Outcomes.{nameless}
use Rattle.sx_rules.specs.Rules.{no_hypotheses}
use Rattle.sx_replay.specs.declared.replay_error.ReplayError.TheVariants as replay_error
use Rattle.sx_replay.specs.Replay.{IsReplayAnswer}
use Rattle.sx_replay.proofs.OneAnswer.{one_answer}
use Rattle.sx_words.specs.declared.closure_defect.Kept.TheVariants.{BaseDigest, ImportDigest}
use Rattle.sx_steps.specs.Held.{Held, most_list_bytes}
use Rattle.sx_steps.specs.Unit.{base_file, interface_file}
use Rattle.sx_steps.proofs.Ones.{IsOne, then_one, held_one, lower_but, ok_same, err_same, ok_no_err}
use Rattle.sx_headers.specs.HeaderRows.{header_row_line}
use Rattle.sx_headers.specs.HeaderStops.{bad_header}
use Rattle.sx_headers.specs.ReadInterface.{ReadsInterface}
use Rattle.sx_headers.specs.ReadModule.{Module, ReadsModule}
use Rattle.sx_headers.proofs.OneHeaders.{reads_module_one, reads_interface_one}
use Rattle.sx_importing.specs.KeptValues.{KeepsDigest}
use Rattle.sx_importing.specs.ReadImports.{ReadsImport}
use Rattle.sx_importing.proofs.EachLoops.{is_given, each_one}
use Rattle.sx_importing.proofs.OneImports.{keeps_digest_one, reads_import_one}
use Rattle.sx_verify.specs.BaseFits.{IsBaseOf, IsMisfit, IsFirstNumber, FitsBeside}
use Rattle.sx_verify.specs.KeptImports.{KeepsImport, ComparesImport, ReadsKept, ReadsAllKept}
use Rattle.sx_verify.specs.Lists.{bad_entry, replay_stop, StatesEntries, ReadsEntries}
use Rattle.sx_verify.specs.Replays.{ReplaysGoal, ReplaysMainGoal}
use Rattle.sx_verify.specs.VerifyModule.{both_written, ComparesBase, FitsBase, ReadsBase, ReadsWritten}
use Rattle.sx_verify.proofs.FirstBads.{three_ways, bad_not_good, one_bad}

-- ---- the base file

-- a header that fits has no row that does not
no_misfit : (it : InterfaceParts) (header : HeaderParts) → IsBaseOf it header → (row : ℕ) →
    IsMisfit it header row → ⊥
no_misfit it header fits zero h = h
no_misfit it header fits (suc zero) h = h fits.language
no_misfit it header fits (suc (suc row)) (inl h) =
    let none = subst (λ (uses : List (List ℕ)). row < length uses) fits.uses h in
    omega (arith, none)
no_misfit it header fits (suc (suc row)) (inr (le, h)) =
    h (λ i. slice_get (fits.imports i) (row - length header.uses))

first_one : (Is : ℕ → Type 0) (m n : ℕ) → IsFirstNumber Is m → IsFirstNumber Is n → m ≡ n
first_one Is m n a b =
    elim (three_ways m n) [
      | inl l ↦ absurd (b.before m l a.here)
      | inr h ↦ elim h [ inl e ↦ e | inr l ↦ absurd (a.before n l b.here) ]
    ]

module _ (file : List ℕ) (it : InterfaceParts) (m : Module) where
  fits_one : IsOne (FitsBeside file it m)
  fits_one (Ok a) (Ok b) h k f g = refl
  fits_one (Ok a) (Err t) h k f g = absurd (no_misfit it m.header h k.0 k.1.here)
  fits_one (Err s) (Ok b) h k f g = absurd (no_misfit it m.header k h.0 h.1.here)
  fits_one (Err s) (Err t) h k f g =
      ap Err (h.2 ∙ ap (λ (row : ℕ). bad_header file (header_row_line m row))
      (first_one (IsMisfit it m.header) h.0 k.0 h.1 k.1) ∙ sym k.2)

module _ (name : List ℕ) where
  compares_one : (it : InterfaceParts) (m : Module) → IsOne (ComparesBase name it m)
  compares_one it m =
      then_one (KeepsDigest (interface_file name) BaseDigest it.base (sha256 m.bytes))
      (λ done result. result ≡ Ok (both_written it m))
      (keeps_digest_one (interface_file name) BaseDigest it.base (sha256 m.bytes))
      (λ done kept. is_given (Ok (both_written it m)))

  beside_one : (it : InterfaceParts) (m : Module) → IsOne (FitsBase name it m)
  beside_one it m =
      then_one (FitsBeside (base_file name) it m) (λ done. ComparesBase name it m)
      (fits_one (base_file name) it m) (λ done fits. compares_one it m)

  pub written_one : (files : Files) → IsOne (ReadsWritten name files)
  written_one files =
      then_one (ReadsInterface (interface_file name) name files) (ReadsBase name files)
      (reads_interface_one (interface_file name) name files)
      (λ i read. then_one (ReadsModule (base_file name) name files) (FitsBase name i.parts)
      (reads_module_one (base_file name) name files) (λ m base. beside_one i.parts m))

-- ---- imports

module _ (file : List ℕ) (files : Files) where
  kept_one : (mark : MarkData) → IsOne (ReadsKept file files mark)
  kept_one mark =
      then_one (ReadsImport files mark.name) (ComparesImport file mark)
      (reads_import_one files mark.name)
      (λ i read. then_one (KeepsImport file mark i.digest) (λ done result. result ≡ Ok i.parts)
      (keeps_digest_one file (ImportDigest mark.name) mark.digest i.digest)
      (λ done kept. is_given (Ok i.parts)))

  pub all_kept_one : (marks : List MarkData) → IsOne (ReadsAllKept file files marks)
  all_kept_one marks = each_one (ReadsKept file files) kept_one marks

-- ---- the list

module _ (file : List ℕ) (names : List (List ℕ)) (are : AreRuleNames names) where
  abbrev lines : List ℕ → List (List ℕ)
  lines bytes = line_texts (lines_from 1 bytes)

  same_list : (bytes : List ℕ) (a b : List EntryOf) → StatesList names (lines bytes) a →
      StatesList names (lines bytes) b → a ≡ b
  same_list bytes a b h k =
      ok_same a b (sym (list_again names (lines_from 1 bytes) a are h)
      ∙ list_again names (lines_from 1 bytes) b are k)

  entries_one : (bytes : List ℕ) → IsOne (StatesEntries file names bytes)
  entries_one bytes (Ok a) (Ok b) h k n m = ap Ok (same_list bytes a b h k)
  entries_one bytes (Ok a) (Err t) h k n m =
      absurd (bad_not_good (StatesList names) (lines bytes) k.0 a k.1 h)
  entries_one bytes (Err s) (Ok b) h k n m =
      absurd (bad_not_good (StatesList names) (lines bytes) h.0 b h.1 k)
  entries_one bytes (Err s) (Err t) h k n m =
      ap Err (h.2
      ∙ ap (bad_entry file) (one_bad (StatesList names) (lines bytes) h.0 k.0 h.1 k.1) ∙ sym k.2)

  pub list_one : (files : Files) → IsOne (ReadsEntries file names files)
  list_one files =
      then_one (Held most_list_bytes file files) (StatesEntries file names)
      (held_one most_list_bytes file files) (λ bytes held. entries_one bytes)

-- ---- the replay

module _ (file : List ℕ) (d : LanguageData) (goal : Goal) (list : List EntryOf)
    (moded : AllModed (modes_of d.forms) (nameless d.rules)) where
  goal_one : IsOne (ReplaysGoal file d.forms d.rules goal list)
  goal_one =
      lower_but (replay_stop file)
      (IsReplayAnswer (modes_of d.forms) (nameless d.rules) no_hypotheses goal (entries list))
      replay_error.Memory refl
      (one_answer (modes_of d.forms) (nameless d.rules) no_hypotheses moded goal (entries list))

  same_head : (t u : Tree) → t ∷ [] ≡ u ∷ [] → t ≡ u
  same_head t u e = cc

  pub replays_one : IsOne (ReplaysMainGoal file d goal list)
  replays_one (Ok a) (Ok b) h k n m =
      ap Ok (same_head a b
      (ok_same (a ∷ []) (b ∷ []) (goal_one (Ok (a ∷ [])) (Ok (b ∷ [])) h k tt tt)))
  replays_one (Ok a) (Err t) h k n m =
      absurd (ok_no_err (a ∷ []) t (goal_one (Ok (a ∷ [])) (Err t) h k tt m))
  replays_one (Err s) (Ok b) h k n m =
      absurd (ok_no_err (b ∷ []) s (goal_one (Ok (b ∷ [])) (Err s) k h tt n))
  replays_one (Err s) (Err t) h k n m =
      ap Err (err_same {A = List Tree} s t (goal_one (Err s) (Err t) h k n m))
