-- Candidates that are passed over.
use Rattle.std.specs.Prelude.{◌≡◌, ℕ, ◌+◌, List, ◌∷◌}
use Rattle.sx_rules.specs.Rules.{Judgement, Rule}
use Rattle.sx_rules.specs.Modes.{Modes}
use Rattle.sx_arena.specs.declared.pairs.Pair.{Pair}
use Rattle.sx_derive.specs.Candidates.{goal_in}
use Rattle.sx_derive.specs.Handing.{hyps_in, frames_in}
use Rattle.sx_derive.specs.Machine.{Task, tasks_events}
use Rattle.sx_derive.specs.Tasks.{task_from}
use Rattle.sx_derive.specs.Walk.{tries_then}
use Rattle.sx_derive.specs.declared.store.Store.{Store}
use Rattle.sx_derive.specs.declared.tasks.Task.{Task as TaskOf}

-- a task by its numbers, from the candidate with that number on
abbrev pub task_at : Modes → List Rule → List Judgement → Store → TaskOf → ℕ → Task
task_at modes rules js s t next =
    task_from next js rules t.levels (goal_in s t.form t.terms.items)
    (frames_in modes rules s t.frames)

-- so many candidates of the task, from that number on, are tried and come to nothing
abbrev pub ComeToNothing : Modes → List Rule → List Pair → List Judgement → Store → TaskOf → ℕ → ℕ →
    Type 0
ComeToNothing modes rules pairs js s t next n =
    (ts : List Task) →
    tasks_events modes rules (hyps_in pairs s js) (task_at modes rules js s t next ∷ ts)
    ≡ tries_then n (tasks_events modes rules (hyps_in pairs s js)
    (task_at modes rules js s t (next + n) ∷ ts))
