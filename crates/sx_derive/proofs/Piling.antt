-- Tasks that are piled behind others.
use Rattle.std.proofs.Common.{◌≡◌, ℕ, List, [], ◌∷◌, ◌++◌, refl, sym, ap, ◌∙◌, append_assoc}
use Rattle.sx_rules.specs.Modes.{Modes}
use Rattle.sx_rules.specs.Rules.{Judgement, Rule, Hypotheses}
use Rattle.sx_arena.specs.declared.pairs.Pair.{Pair}
use Rattle.sx_derive.specs.Handing.{hyps_in}
use Rattle.sx_derive.specs.Machine.{Task, task_events, tasks_events}
use Rattle.sx_derive.specs.Tasks.{task_in, stacked, events_left, TasksFit, Piled}
use Rattle.sx_derive.specs.declared.store.Store.{Store}
use Rattle.sx_derive.specs.declared.tasks.Task.{Task as TaskOf}
use Rattle.sx_derive.proofs.Underneath.{piled_earlier}

-- those that were piled later go on from those before
pub piled_behind : (modes : Modes) (rules : List Rule) (n : ℕ) (first mid s : Store) (xs ys : List TaskOf) → Piled modes rules n first xs mid → Piled modes rules n mid ys s → Piled modes rules n first (xs ++ ys) s
piled_behind modes rules n first mid s [] ys p q = piled_earlier modes rules n first mid s ys p q
piled_behind modes rules n first mid s (x ∷ xs) ys p q = (p.0, (p.1.0, p.1.1, p.1.2, piled_behind modes rules n p.0 mid s xs ys p.1.3 q))

pub fits_behind : (modes : Modes) (rules : List Rule) (n : ℕ) (s : Store) (xs ys : List TaskOf) → TasksFit modes rules s n xs → TasksFit modes rules s n ys → TasksFit modes rules s n (xs ++ ys)
fits_behind modes rules n s [] ys f g = g
fits_behind modes rules n s (x ∷ xs) ys f g = (f.0, fits_behind modes rules n s xs ys f.1 g)

-- what is left of them comes first
module _ (modes : Modes) (rules : List Rule) (hyps : Hypotheses) (js : List Judgement) (s : Store) where
  stacked-append : (xs ys : List TaskOf) (ts : List Task) → stacked modes rules js s (xs ++ ys) ts ≡ stacked modes rules js s ys (stacked modes rules js s xs ts)
  stacked-append [] ys ts = refl
  stacked-append (x ∷ xs) ys ts = stacked-append xs ys (task_in modes rules js s x ∷ ts)

  stacked_before : (ys : List TaskOf) (ts us : List Task) → tasks_events modes rules hyps (stacked modes rules js s ys (ts ++ us)) ≡ tasks_events modes rules hyps (stacked modes rules js s ys ts) ++ tasks_events modes rules hyps us
  stacked_before [] ts us = go ts
    where
      go : (ts : List Task) → tasks_events modes rules hyps (ts ++ us) ≡ tasks_events modes rules hyps ts ++ tasks_events modes rules hyps us
      go [] = refl
      go (t ∷ ts) = ap (λ es. task_events modes rules hyps t ++ es) (go ts) ∙ sym (append_assoc (task_events modes rules hyps t) (tasks_events modes rules hyps ts) (tasks_events modes rules hyps us))
  stacked_before (y ∷ ys) ts us = stacked_before ys (task_in modes rules js s y ∷ ts) us

pub events_behind : (modes : Modes) (rules : List Rule) (pairs : List Pair) (js : List Judgement) (s : Store) (xs ys : List TaskOf) → events_left modes rules pairs js s (xs ++ ys) ≡ events_left modes rules pairs js s ys ++ events_left modes rules pairs js s xs
events_behind modes rules pairs js s xs ys =
    ap (tasks_events modes rules (hyps_in pairs s js)) (stacked-append modes rules (hyps_in pairs s js) js s xs ys [])
    ∙ stacked_before modes rules (hyps_in pairs s js) js s ys [] (stacked modes rules js s xs [])
