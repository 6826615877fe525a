-- A cycle that is told.
use Rattle.std.proofs.Common.{◌≡◌, ℕ, List, Vec}
use Rattle.std.specs.declared.alloc.Global.{Global}
use Rattle.std.specs.Prelude.{Result, Ok, Err, IfOk}
use Rattle.sx_term.specs.declared.no_memory.NoMemory.{NoMemory}
use Rattle.sx_words.specs.declared.closure_defect.ClosureDefect.TheVariants as closure_defect
use Rattle.sx_words.specs.declared.refusal.Defect.TheVariants as defect
use Rattle.sx_steps.specs.declared.stop.Stop.{Stop}
use Rattle.sx_steps.specs.Refusal.{about}
use Rattle.sx_walking.specs.Reached.{TellsCycle}

-- the stop tells the names
pub tells_cycle : (file : List ℕ) (names : List (List ℕ)) (told : Vec (List ℕ) Global)
    (result : Result Stop NoMemory) → told.items ≡ names →
    IfOk result (λ stop. stop ≡ about file (defect.Closure (closure_defect.Cycle told))) →
    IfOk result (TellsCycle file names)
tells_cycle file names told (Ok stop) same is = record { told = told; same = same; is = is }
tells_cycle file names told (Err e) same is = tt
