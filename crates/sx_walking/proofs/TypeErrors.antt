-- A stop of a walk is a type error only where that of a visit is.
use Rattle.std.proofs.Common.{ℕ, List}
use Rattle.std.specs.Prelude.{Result, Ok, Err}
use Rattle.sx_imports.specs.Walk.{Name, End, missing, cycle, too_many}
use Rattle.sx_words.specs.declared.closure_defect.ClosureDefect.TheVariants as closure_defect
use Rattle.sx_words.specs.declared.refusal.Defect.TheVariants as defect
use Rattle.sx_steps.specs.Refusal.{about}
use Rattle.sx_steps.specs.declared.stop.Stop.{Stop}
use Rattle.sx_steps.specs.TypeErrors.{IsTypeError}
use Rattle.sx_steps.proofs.TypeErrors.{no_type_error, Final}
use Rattle.sx_walking.specs.Reached.{Found, too_many_files, IsWalkTold, Reaches}

module _ (Q : Stop → Type 0) {A : Type 0} (uses : A → List Name)
    (Comes : Name → Result A Stop → Type 0) (final : (name : Name) → Final Q (Comes name))
    (file : List ℕ) where
  told_final : (found : Found A) (end : End) (stop : Stop) →
      IsWalkTold Comes file found end (Err stop) → IsTypeError stop → Q stop
  told_final found (Ok order) stop h = absurd h
  told_final found (Err (missing name)) stop h = final name stop h
  told_final found (Err (cycle names)) stop h =
      no_type_error Q (about file (defect.Closure (closure_defect.Cycle h.told))) stop (λ e. e) h.is
  told_final found (Err too_many) stop h =
      no_type_error Q (too_many_files file) stop (λ e. e) h

  pub reaches_final : (roots : List Name) → Final Q (Reaches uses Comes file roots)
  reaches_final roots stop h = told_final h.found h.end stop h.told
