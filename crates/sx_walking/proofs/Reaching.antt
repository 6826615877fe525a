-- What is reached by one kind of visits, where these are visits of another kind.
use Rattle.std.proofs.Common.{ℕ, List}
use Rattle.std.specs.Prelude.{Result, Ok, Err}
use Rattle.sx_imports.specs.Walk.{Name, End, missing, cycle, too_many}
use Rattle.sx_imports.specs.Walk as walk
use Rattle.sx_steps.specs.Stop.{Gives}
use Rattle.sx_steps.specs.declared.stop.Stop.{Stop}
use Rattle.sx_steps.specs.declared.step_error.StepError.{StepError}
use Rattle.sx_steps.specs.declared.step_error.StepError.TheVariants as errors
use Rattle.sx_walking.specs.Reached.{Found, IsToldAs, IsWalkTold, Reaches}

module _ {A : Type 0} (uses : A → List Name) (One Other : Name → Result A Stop → Type 0)
    (each : (name : Name) (r : Result A Stop) → One name r → Other name r) (file : List ℕ) where
  stop_told : (why : walk.Stop) (stop : Stop) → IsToldAs One file why stop →
      IsToldAs Other file why stop
  stop_told (missing name) stop h = each name (Err stop) h
  stop_told (cycle names) stop h = h
  stop_told too_many stop h = h

  end_told : (found : Found A) (end : End) (r : Result (List A) Stop) →
      IsWalkTold One file found end r → IsWalkTold Other file found end r
  end_told found (Ok order) (Ok values) h = h
  end_told found (Ok order) (Err stop) h = absurd h
  end_told found (Err why) (Ok values) h = absurd h
  end_told found (Err why) (Err stop) h = stop_told why stop h

  pub reaches_as : (roots : List Name) (r : Result (List A) Stop) →
      Reaches uses One file roots r → Reaches uses Other file roots r
  reaches_as roots r h = record {
    found = h.found;
    visited = λ name x is. each name (Ok x) (h.visited name x is);
    end = h.end;
    walks = h.walks;
    told = end_told h.found h.end r h.told;
  }

  -- so of what the code's step gives
  pub gives_as : {X : Type 0} (view : X → List A) (roots : List Name) (r : Result X StepError) →
      Gives view (Reaches uses One file roots) r → Gives view (Reaches uses Other file roots) r
  gives_as view roots (Ok x) h = reaches_as roots (Ok (view x)) h
  gives_as view roots (Err errors.Memory) h = tt
  gives_as view roots (Err (errors.Stopped stop)) h = reaches_as roots (Err stop) h
