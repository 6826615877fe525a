-- The steps with the interfaces of imports have one result.
use Rattle.std.proofs.Common.{◌≡◌, ◌≢◌, ℕ, List, refl, sym, ap, ◌∙◌, subst, inl, inr}
use Rattle.std.specs.Prelude.{Result, Ok, Err, Some}
use Rattle.sha2.specs.Sha256.{sha256}
use Rattle.sx_term.specs.Tree.{Tree}
use Rattle.sx_interface.specs.Interfaces.{InterfaceParts}
use Rattle.sx_notation.specs.declared.unread.Unread.TheVariants as unread
use Rattle.sx_environment.specs.declared.import_error.ImportError.{ImportError}
use Rattle.sx_environment.specs.declared.import_error.ImportError.TheVariants.{Memory}
use Rattle.sx_environment.specs.Alike.{AreImportsAlike, OneEnvironment}
use Rattle.sx_environment.specs.SeenFrom.{SeenFrom}
use Rattle.sx_outside.specs.Files.{Files}
use Rattle.sx_words.specs.declared.closure_defect.Kept.{Kept}
use Rattle.sx_steps.specs.declared.stop.Stop.{Stop}
use Rattle.sx_steps.specs.Agree.{AreReadings, AnswersBy}
use Rattle.sx_steps.specs.Steps.{NoTries}
use Rattle.sx_steps.specs.Unit.{interface_file}
use Rattle.sx_steps.proofs.Ones.{IsOne, then_one, as_answer, trying_by, no_tries_one, none_some}
use Rattle.sx_steps.proofs.Ones.{some_same}
use Rattle.sx_headers.specs.ReadInterface.{ReadsInterface}
use Rattle.sx_headers.specs.TextStops.{unread_text}
use Rattle.sx_headers.proofs.OneHeaders.{reads_interface_one}
use Rattle.sx_importing.specs.ImportStops.{import_file, import_stop}
use Rattle.sx_importing.specs.KeptValues.{KeepsText, KeepsDigest}
use Rattle.sx_importing.specs.Laws.{SameButRows, ImportsAreOne, EnvironmentsAgree}
use Rattle.sx_importing.specs.MakeEnvironment.{SeesImports}
use Rattle.sx_importing.specs.ReadImports.{ReadsImport}
use Rattle.sx_importing.proofs.EachLoops.{is_given, each_one}

-- ---- kept values

module _ (file : List ℕ) (what : Kept) (kept found : List ℕ) where
  pub keeps_text_one : IsOne (KeepsText file what kept found)
  keeps_text_one (Ok a) (Ok b) h k n m = refl
  keeps_text_one (Ok a) (Err t) h k n m = absurd (k.0 h)
  keeps_text_one (Err s) (Ok b) h k n m = absurd (h.0 k)
  keeps_text_one (Err s) (Err t) h k n m = ap Err (h.1 ∙ sym k.1)

  pub keeps_digest_one : IsOne (KeepsDigest file what kept found)
  keeps_digest_one (Ok a) (Ok b) h k n m = refl
  keeps_digest_one (Ok a) (Err t) h k n m = absurd (k.0 h)
  keeps_digest_one (Err s) (Ok b) h k n m = absurd (h.0 k)
  keeps_digest_one (Err s) (Err t) h k n m = ap Err (h.1 ∙ sym k.1)

-- ---- interfaces

pub reads_import_one : (files : Files) (name : List ℕ) → IsOne (ReadsImport files name)
reads_import_one files name =
    then_one (ReadsInterface (interface_file name) name files)
    (λ i result. result ≡ Ok (record { parts = i.parts; digest = sha256 i.bytes }))
    (reads_interface_one (interface_file name) name files)
    (λ i read. is_given (Ok (record { parts = i.parts; digest = sha256 i.bytes })))

pub reads_imports_one : ImportsAreOne
reads_imports_one files names = each_one (ReadsImport files) (reads_import_one files) names

-- ---- environments

module _ (one : OneEnvironment) (file : List ℕ) (s : SeenFrom) (its : List InterfaceParts) where
  wants : (stop : Stop) (e : ImportError) → import_stop file its e ≡ Some stop → e ≢ Memory
  wants stop e is same = none_some stop (sym (ap (import_stop file its) same) ∙ is)

  alike : (e d : ImportError) (x y : Stop) → AreImportsAlike s its e d →
      import_stop file its e ≡ Some x → import_stop file its d ≡ Some y → SameButRows s its x y
  alike e d x y (inl same) h k =
      inl (some_same x y (sym h ∙ ap (import_stop file its) same ∙ k))
  alike e d x y (inr show) h k =
      let own = import_file its show.import in
      let a = unread_text own show.line show.column (unread.Ambiguous show.one show.other) in
      let b = unread_text own show.line show.column (unread.Ambiguous show.some show.more) in
      let left = some_same a x (sym (ap (import_stop file its) show.first) ∙ h) in
      let right = some_same b y (sym (ap (import_stop file its) show.second) ∙ k) in
      let are : AreReadings a b = record { file = refl; place = refl; shown = tt } in
      inr (
        subst (λ (z : Stop). AreReadings z y) left
            (subst (λ (z : Stop). AreReadings a z) right are),
        record {
          one = e;
          other = d;
          show = show;
          file = subst (λ (z : Stop). z.file ≡ own) left refl;
        },
      )

  pub sees : (x y : Result Tree Stop) → SeesImports file s its x → SeesImports file s its y →
      AnswersBy (SameButRows s its) (as_answer x) (as_answer y)
  sees (Ok t) (Ok u) h k = one.found s its t u h.0 k.0
  sees (Ok t) (Err y) h (e, none, is) =
      absurd (wants y e is (one.either s its t e h.0 h.1 none))
  sees (Err x) (Ok u) (e, none, is) k =
      absurd (wants x e is (one.either s its u e k.0 k.1 none))
  sees (Err x) (Err y) (e, r, is) (d, q, told) =
      alike e d x y (one.refused s its e d r q (wants x e is) (wants y d told)) is told

pub sees_by : OneEnvironment → EnvironmentsAgree
sees_by one file s its =
    trying_by (SameButRows s its) NoTries (SeesImports file s its) no_tries_one
    (λ x y h k n m. sees one file s its x y h k)
