-- One module after another.
use Rattle.std.proofs.Common.{◌≡◌, ℕ, ◌+◌, List, [], ◌∷◌, ◌++◌, refl, sym, subst, append_assoc}
use Rattle.std.proofs.Common.{◌∙◌, arith}
use Rattle.std.specs.Prelude.{Result, Ok, Err}
use Rattle.sx_audit.specs.Meaning.{Meaning}
use Rattle.sx_extcheck.specs.declared.budgets.Budgets.{Budgets}
use Rattle.sx_outside.specs.Files.{Files}
use Rattle.sx_steps.specs.declared.step_error.StepError.{StepError}
use Rattle.sx_steps.specs.Steps.{GoesOn}
use Rattle.sx_steps.proofs.Ones.{ok_same, ok_no_err}
use Rattle.sx_accepting.specs.ReadLanguage.{Stated}
use Rattle.sx_headers.specs.ReadModule.{Module}
use Rattle.sx_importing.specs.ReadImports.{ImportData, ReadsImports}
use Rattle.sx_build.specs.BuildModules.{BuildProgress, none_made, MakesNext, MakesAfter}
use Rattle.sx_build.specs.Laws.{IsClosureFound, IsTurnOf}
use Rattle.sx_build.specs.MadeModules.{with_made}

module _ (budgets : Budgets) (files : Files) (l : Stated) (m : Module) (before next : BuildProgress)
    (one : ℕ) where
  -- after those that were made from there it is one more
  abbrev More : List Module → Type 0
  More ms = (start : BuildProgress) (tries : ℕ) → MakesAfter budgets files l start ms (Ok before) tries →
      MakesAfter budgets files l start (ms ++ m ∷ []) (Ok next) (tries + one)

  more_from : (n : Module) (ms : List Module) (start : BuildProgress) (given : Result BuildProgress StepError)
      (a b tries : ℕ) → More ms → MakesNext budgets files l start n given a →
      GoesOn (λ p. MakesAfter budgets files l p ms) given (Ok before) b → tries ≡ a + b →
      MakesAfter budgets files l start (n ∷ (ms ++ m ∷ [])) (Ok next) (tries + one)
  more_from n ms start (Ok p) a b tries again begins goes sum = record {
    given = Ok p;
    before = a;
    after = b + one;
    begins = begins;
    goes = again p b goes;
    sum = omega (arith, sum);
  }
  more_from n ms start (Err e) a b tries again begins goes sum = absurd (ok_no_err before e goes.0)

  made_more : MakesNext budgets files l before m (Ok next) one → (ms : List Module) → More ms
  made_more makes [] start tries h =
      let none = h.1 in
      record {
        given = Ok next;
        before = one;
        after = 0;
        begins = subst (λ (p : BuildProgress). MakesNext budgets files l p m (Ok next) one)
            (ok_same before start h.0) makes;
        goes = (refl, refl);
        sum = omega (arith, none);
      }
  made_more makes (n ∷ ms) start tries h =
      more_from n ms start h.given h.before h.after tries (made_more makes ms) h.begins h.goes h.sum

-- so many of the modules were made, and these are left
pub record IsAt (name : List ℕ) (budgets : Budgets) (auditors : List Meaning) (files : Files)
    (f : IsClosureFound name files) (ms : List Module) (progress : BuildProgress) : Type 0 where
  pub before : List Module
  pub stands : f.modules ≡ before ++ ms
  pub tries : ℕ
  pub makes : MakesAfter budgets files f.language (none_made auditors) before (Ok progress) tries

module _ (name : List ℕ) (budgets : Budgets) (auditors : List Meaning) (files : Files)
    (f : IsClosureFound name files) where
  pub at_begin : IsAt name budgets auditors files f f.modules (none_made auditors)
  at_begin = record { before = []; stands = refl; tries = 0; makes = (refl, refl) }

  pub at_next : (m : Module) (ms : List Module) (progress next : BuildProgress) (one : ℕ) →
      IsAt name budgets auditors files f (m ∷ ms) progress →
      MakesNext budgets files f.language progress m (Ok next) one →
      IsAt name budgets auditors files f ms next
  at_next m ms progress next one at makes = record {
    before = at.before ++ m ∷ [];
    stands = at.stands ∙ sym (append_assoc at.before (m ∷ []) ms);
    tries = at.tries + one;
    makes = made_more budgets files f.language m progress next one makes at.before (none_made auditors)
        at.tries at.makes;
  }

  -- it is the turn of the next one
  abbrev pub turn_of : (m : Module) (ms : List Module) (progress : BuildProgress) →
      IsAt name budgets auditors files f (m ∷ ms) progress → (imports : List ImportData) →
      ReadsImports (with_made progress.made files) m.header.imports (Ok imports) →
      IsTurnOf name budgets auditors files
  turn_of m ms progress at imports imported = record {
    found = f;
    before = at.before;
    own = m;
    behind = ms;
    stands = at.stands;
    progress = progress;
    tries = at.tries;
    makes = at.makes;
    imports = imports;
    imported = imported;
  }
