-- What performing a plan leads to.
use Rattle.std.specs.Prelude.{◌≡◌, Ok}
use Rattle.sx_steps.specs.Work.{Plan}
use Rattle.sx_steps.specs.declared.status.Status.{Status}
use Rattle.sx_top.specs.Course.{Seen, Course, status_after, HoldsOfSteps, Leaves}

-- a course of the plan, with its status and what it leaves
pub record Performs (plan : Plan) (status : Status) (old new : Seen) : Type 0 where
  pub course : Course
  pub is : status_after course ≡ status
  pub begins : HoldsOfSteps (λ result. result ≡ Ok plan) course
  pub leaves : Leaves course old new
