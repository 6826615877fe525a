-- Turns of a walk through files.
use Rattle.std.proofs.Common.{◌≡◌, ℕ, suc, ◌<◌, ◌≤◌, List, [], refl, ap, sym, ◌∙◌, subst, arith}
use Rattle.std.specs.Prelude.{Option, Some, Result, Ok, Err, option_map}
use Rattle.std.specs.Global.{Vec}
use Rattle.sx_outside.specs.Files.{Files}
use Rattle.sx_outside.specs.Faults.{Rose}
use Rattle.sx_imports.specs.Walk.{Name, Imports, missing, cycle, too_many}
use Rattle.sx_imports.specs.Progress.{Progress, IsOn, visits, Asked}
use Rattle.sx_imports.specs.States.{Comes}
use Rattle.sx_imports.specs.Answers.{IsNextVisit}
use Rattle.sx_imports.specs.declared.error.WalkError.{WalkError}
use Rattle.sx_imports.specs.declared.error.WalkError.TheVariants as walk_error
use Rattle.sx_imports.specs.declared.walk.Next.{Next}
use Rattle.sx_imports.specs.declared.walk.Next.TheVariants.{Visit, Order}
use Rattle.sx_imports.proofs.Steps.{missing_on, full_on, enter_on, start_on}
use Rattle.sx_steps.specs.Stop.{OnlyReads}
use Rattle.sx_steps.specs.declared.step_error.StepError.{StepError}
use Rattle.sx_steps.specs.declared.step_error.StepError.TheVariants as errors
use Rattle.sx_steps.proofs.Ones.{some_same, none_some}
use Rattle.sx_walking.specs.Reached.{Found}
use Rattle.sx_walking.specs.Kinds.{WalkKind}
use Rattle.sx_walking.specs.Opened.{AreOpened, KeepsHeld, found_in, imports_for, Covers}
use Rattle.sx_walking.specs.Turns.{IsVisit, walk_stop, IsStopOr, Enters, StopsSo, TakesTurn}
use Rattle.sx_walking.specs.Turns.{AreFilesWalked}
use Rattle.sx_walking.specs.declared.turn.Turn.{Turn}
use Rattle.sx_walking.specs.declared.turn.Turn.TheVariants.{On, Whole}
use Rattle.sx_walking.proofs.Visits.{if_so, found_held}

pub came : (before : Progress) (next : Next) (asked : Asked) → next ≡ Visit asked →
    IsNextVisit before (Ok next) → Comes before asked
came before next asked e h = subst (λ (n : Next). IsNextVisit before (Ok n)) e h

module _ {A : Type 0} (k : WalkKind A) where
  mapped : (o : Option A) (x : A) (lines : List Name) → o ≡ Some x → lines ≡ k.stands_on x →
      option_map k.stands_on o ≡ Some lines
  mapped o x lines e f = ap (λ (p : Option A). option_map k.stands_on p) e
      ∙ ap (λ (l : List Name). Some l) (sym f)

module _ {A : Type 0} (k : WalkKind A) (told : Option Files) (file : List ℕ) (before : Progress) where
  pub turn_whole : (held : Found A) (next : Next) (order : Vec Name) → next ≡ Order order →
      IsNextVisit before (Ok next) → TakesTurn k told file held held before (Ok (Whole order))
  turn_whole held next order e h =
      let ends : IsNextVisit before (Ok (Order order)) =
      subst (λ (n : Next). IsNextVisit before (Ok n)) e h in
      (refl, λ imports roots on. ends imports 256 roots on)

  pub turn_stop : (held : Found A) (error : WalkError) (e : StepError) → AreOpened k told held →
      IsNextVisit before (Err error) → IsStopOr (walk_stop file error) e →
      TakesTurn k told file held held before (Err e)
  turn_stop held error errors.Memory are h s = tt
  turn_stop held walk_error.Memory (errors.Stopped stop) are h s = absurd (none_some stop s)
  turn_stop held walk_error.TooMany (errors.Stopped stop) are h s = absurd h
  turn_stop held (walk_error.Cycle names) (errors.Stopped stop) are h s = (
    λ n x found. found,
    are,
    λ roots on. record {
      why = cycle names.items;
      walks = h (imports_for k held) 256 roots on;
      answered = λ files t. record { told = names; same = refl; is = sym (some_same _ stop s) };
    },
  )

  module _ (old new : Found A) (asked : Asked) (comes : Comes before asked) where
    pub turn_entered : (names : Vec Name) (r : Result Turn StepError) →
        IsVisit k told asked.name old new (Ok names) → Enters file asked names.items r →
        TakesTurn k told file old new before r
    turn_entered names (Ok (On after)) v enters =
        let same : visits after ≡ suc (visits asked.progress) =
        (let e = ap (λ (p : Progress). visits p) enters.1 in omega arith) in
        let at : visits asked.progress ≡ visits before = comes.same_visits in (
          v.0,
          v.1,
          subst (λ (n : ℕ). n < 256) at enters.0,
          same ∙ ap suc at,
          λ imports roots covers on.
              subst (λ (p : Progress). IsOn imports 256 roots p) (sym enters.1)
              (enter_on imports 256 roots names.items asked (comes.asking imports 256 roots on)
              (covers asked.name v.2.0 v.2.1 ∙ ap (λ (l : List Name). Some l) (sym v.2.2))
              enters.0),
        )
    turn_entered names (Ok (Whole order)) v enters = absurd enters
    turn_entered names (Err errors.Memory) v enters = tt
    turn_entered names (Err (errors.Stopped stop)) v enters = (
      v.0,
      v.1,
      λ roots on. record {
        why = too_many;
        walks = full_on (imports_for k new) 256 roots names.items asked
            (comes.asking (imports_for k new) 256 roots on)
            (mapped k (found_in k new asked.name) v.2.0 names.items v.2.1 v.2.2) enters.0;
        answered = λ files t. enters.1;
      },
    )

    pub turn_unvisited : (e : StepError) → IsVisit k told asked.name old new (Err e) →
        TakesTurn k told file old new before (Err e)
    turn_unvisited errors.Memory v = tt
    turn_unvisited (errors.Stopped stop) v = (
      v.0,
      v.1,
      λ roots on. record {
        why = missing asked.name;
        walks = missing_on (imports_for k new) 256 roots asked
            (comes.asking (imports_for k new) 256 roots on)
            (ap (λ (p : Option A). option_map k.stands_on p) v.2);
        answered = v.3;
      },
    )

module _ {A : Type 0} (k : WalkKind A) (told : Option Files) (old new : Found A) where
  pub visit_as : (name other : Name) (r : Result (Vec Name) StepError) → name ≡ other →
      IsVisit k told name old new r → IsVisit k told other old new r
  visit_as name other r e v = subst (λ (n : Name). IsVisit k told n old new r) e v

  pub turn_as : (file : List ℕ) (before : Progress) (t u : Turn) → t ≡ u →
      TakesTurn k told file old new before (Ok t) → TakesTurn k told file old new before (Ok u)
  turn_as file before t u e h =
      subst (λ (v : Turn). TakesTurn k told file old new before (Ok v)) e h

-- ---- the whole walk

module _ {A : Type 0} (k : WalkKind A) where
  pub covers_self : (held : Found A) → Covers k (found_in k held) (imports_for k held)
  covers_self held = λ n x h. ap (λ (p : Option A). option_map k.stands_on p) h

  pub covers_old : (old new : Found A) (imports : Imports) → KeepsHeld old new →
      Covers k (found_in k new) imports → Covers k (found_in k old) imports
  covers_old old new imports keeps covers = λ n x h.
      let f = found_held k x (old n) h in
      covers n x (if_so k x (new n) (keeps n x f.0) f.1)

  -- the walk from the roots has come so far, by all that is known
  abbrev pub HasCome : (roots : List Name) → Found A → Progress → Type 0
  HasCome roots held walk = (imports : Imports) → Covers k (found_in k held) imports →
      IsOn imports 256 roots walk

  pub come_begin : (roots : List Name) (held : Found A) (walk : Progress) →
      (let p : Progress = record { left = []; now = roots; above = [] } in walk ≡ p) →
      HasCome roots held walk
  come_begin roots held walk e = λ imports covers.
      subst (λ (p : Progress). IsOn imports 256 roots p) (sym e) (start_on imports 256 roots)

module _ {A : Type 0} (k : WalkKind A) (told now : Option Files) (same : now ≡ told) (file : List ℕ)
    (roots : List Name) (old new : Found A) (before : Progress) where
  pub come_on : (after : Progress) → HasCome k roots old before →
      TakesTurn k now file old new before (Ok (On after)) → HasCome k roots new after
  come_on after on t = λ imports covers.
      t.4 imports roots covers (on imports (covers_old k old new imports t.0 covers))

  pub opened_on : (after : Progress) → TakesTurn k now file old new before (Ok (On after)) →
      AreOpened k told new
  opened_on after t = subst (λ (s : Option Files). AreOpened k s new) same t.1

  pub less_left : (after : Progress) → TakesTurn k now file old new before (Ok (On after)) →
      (visits before < 256) × (visits after ≡ suc (visits before))
  less_left after t = (t.2, t.3)

  pub walked_whole : (order : Vec Name) → AreOpened k told old → HasCome k roots old before →
      TakesTurn k now file old new before (Ok (Whole order)) →
      AreFilesWalked k told file roots new (Ok order)
  walked_whole order are on t =
      subst (λ (f : Found A). AreFilesWalked k told file roots f (Ok order)) (sym t.0)
      (are, t.1 (imports_for k old) roots (on (imports_for k old) (covers_self k old)))

  pub walked_err : (e : StepError) → HasCome k roots old before →
      TakesTurn k now file old new before (Err e) → AreFilesWalked k told file roots new (Err e)
  walked_err errors.Memory on t = tt
  walked_err (errors.Stopped stop) on t = (
    subst (λ (s : Option Files). AreOpened k s new) same t.1,
    subst (λ (s : Option Files). StopsSo k s file roots new stop) same
        (t.2 roots (on (imports_for k new)
        (covers_old k old new (imports_for k new) t.0 (covers_self k new)))),
  )

-- ---- reading

module _ {X Y : Type 0} where
  pub reads_more : (a b c : Option Files) (r s t v w z : ℕ) (x : X) (result : Result Y StepError) →
      OnlyReads a b r s v w (Ok x) → OnlyReads b c s t w z result → OnlyReads a c r t v z result
  reads_more a b c r s t v w z x result h later =
      let same : s ≡ r = h.kept (λ fault. fault) in
      let up : s ≤ t = later.reads in
      record {
        content = later.content ∙ h.content;
        reads = omega arith;
        writes = later.writes ∙ h.writes;
        cause = λ fault. subst (λ (n : ℕ). Rose n t) same (later.cause fault);
        kept = λ still. later.kept still ∙ same;
        never = later.never;
      }

  pub reads_ok : (a b : Option Files) (r s v w : ℕ) (x : X) (y : Y) →
      OnlyReads {X = X} a b r s v w (Ok x) → OnlyReads {X = Y} a b r s v w (Ok y)
  reads_ok a b r s v w x y h = record {
    content = h.content;
    reads = h.reads;
    writes = h.writes;
    cause = λ fault. absurd fault;
    kept = λ still. h.kept (λ fault. fault);
    never = λ fault. fault;
  }

  pub reads_err : (a b : Option Files) (r s v w : ℕ) (e : StepError) →
      OnlyReads {X = X} a b r s v w (Err e) → OnlyReads {X = Y} a b r s v w (Err e)
  reads_err a b r s v w errors.Memory h = record {
    content = h.content;
    reads = h.reads;
    writes = h.writes;
    cause = λ fault. absurd fault;
    kept = λ still. h.kept (λ fault. fault);
    never = λ fault. fault;
  }
  reads_err a b r s v w (errors.Stopped stop) h = record {
    content = h.content;
    reads = h.reads;
    writes = h.writes;
    cause = h.cause;
    kept = h.kept;
    never = h.never;
  }

pub reads_none : {X : Type 0} (a : Option Files) (r v : ℕ) (x : X) →
    OnlyReads a a r r v v (Ok x)
reads_none a r v x = record {
  content = refl;
  reads = omega arith;
  writes = refl;
  cause = λ fault. absurd fault;
  kept = λ still. refl;
  never = λ fault. fault;
}
