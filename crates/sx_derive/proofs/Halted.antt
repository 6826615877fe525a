-- Events that come after tries, and events that halt a walk.
use Rattle.std.proofs.Common.{◌≡◌, ℕ, zero, suc, ◌+◌, ◌-◌, ◌≤◌, List, ◌∷◌, ◌++◌, Vec, refl, sym, ap, ◌∙◌, arith, subst}
use Rattle.std.specs.declared.alloc.Global.{Global}
use Rattle.sx_rules.specs.Modes.{Modes}
use Rattle.sx_rules.specs.Rules.{Judgement, Rule}
use Rattle.sx_arena.specs.declared.pairs.Pair.{Pair}
use Rattle.sx_derive.specs.Halting.{AfterTries, HaltsWith, HaltsAfter}
use Rattle.sx_derive.specs.Quiet.{count, IsQuiet}
use Rattle.sx_derive.specs.Runs.{IsRunTo}
use Rattle.sx_derive.specs.Search.{HasStop}
use Rattle.sx_derive.specs.Store.{StoreGrows}
use Rattle.sx_derive.specs.Walk.{Event, try, Answer, tries_then, then_each}
use Rattle.sx_derive.specs.declared.chains.Head.{Head}
use Rattle.sx_derive.specs.declared.store.Store.{Store}
use Rattle.sx_derive.specs.declared.tasks.Ending.{Ending as EndingOf}
use Rattle.sx_derive.specs.declared.tasks.Ending.TheVariants.{Found, Passed, DepthSpent}
use Rattle.sx_derive.specs.declared.tasks.Ending.TheVariants.{Spent, Exhausted}
use Rattle.sx_derive.specs.declared.tasks.Task.{Task as TaskOf}
use Rattle.sx_derive.proofs.Passed.{tries_both}
use Rattle.sx_derive.proofs.Tries.{tries-append, tries-each}

-- no try is taken
pub after_none : {A : Type 0} (left : ℕ) (es fs : List (Event A)) → es ≡ fs → AfterTries left left es fs
after_none left es fs e = (0, (omega arith), e)

pub after_then : {A : Type 0} (old mid new : ℕ) (es fs gs : List (Event A)) → AfterTries old mid es fs → AfterTries mid new fs gs → AfterTries old new es gs
after_then old mid new es fs gs x y =
    let a = x.1 in
    let b = y.1 in
    (x.0 + y.0, (omega arith), x.2 ∙ ap (tries_then x.0) y.2 ∙ tries_both x.0 y.0 (x.0 + y.0) gs refl)

pub after_as : {A : Type 0} (old new : ℕ) (es fs gs : List (Event A)) → es ≡ fs → AfterTries old new fs gs → AfterTries old new es gs
after_as old new es fs gs e x = (x.0, x.1, e ∙ x.2)

-- the tries of events are those of events that begin with them
pub after_append : {A : Type 0} (old new : ℕ) (es fs more : List (Event A)) → AfterTries old new es fs → AfterTries old new (es ++ more) (fs ++ more)
after_append old new es fs more x = (x.0, x.1, ap (λ xs. xs ++ more) x.2 ∙ tries-append x.0 fs more)

pub after_each : {A B : Type 0} (f : A → List (Event B)) (old new : ℕ) (es fs : List (Event A)) → AfterTries old new es fs → AfterTries old new (then_each f es) (then_each f fs)
after_each f old new es fs x = (x.0, x.1, ap (then_each f) x.2 ∙ tries-each f x.0 fs)

-- events halt where they begin with events that do
with_append : {A : Type 0} (left : ℕ) (ending : EndingOf) (es more : List (Event A)) → HaltsWith left ending es → HaltsWith left ending (es ++ more)
with_append left (Passed limit) es more h = (h.0, h.1, (h.2.0 ++ more, ap (λ xs. xs ++ more) h.2.1))
with_append left DepthSpent es more h = (h.0 ++ more, ap (λ xs. xs ++ more) h.1)
with_append left Spent es more h = (h.0, (h.1.0 ++ more, ap (λ xs. xs ++ more) h.1.1))
with_append left (Found head outs) es more h = h
with_append left Exhausted es more h = h

with_each : {A B : Type 0} (f : A → List (Event B)) (left : ℕ) (ending : EndingOf) (es : List (Event A)) → HaltsWith left ending es → HaltsWith left ending (then_each f es)
with_each f left (Passed limit) es h = (h.0, h.1, (then_each f h.2.0, ap (then_each f) h.2.1))
with_each f left DepthSpent es h = (then_each f h.0, ap (then_each f) h.1)
with_each f left Spent es h = (h.0, (then_each f h.1.0, ap (then_each f) h.1.1))
with_each f left (Found head outs) es h = absurd h
with_each f left Exhausted es h = absurd h

pub halts_append : {A : Type 0} (old new : ℕ) (ending : EndingOf) (es more : List (Event A)) → HaltsAfter old new es ending → HaltsAfter old new (es ++ more) ending
halts_append old new ending es more h = (h.0 ++ more, after_append old new es h.0 more h.1, with_append new ending h.0 more h.2)

pub halts_each : {A B : Type 0} (f : A → List (Event B)) (old new : ℕ) (ending : EndingOf) (es : List (Event A)) → HaltsAfter old new es ending → HaltsAfter old new (then_each f es) ending
halts_each f old new ending es h = (then_each f h.0, after_each f old new es h.0 h.1, with_each f new ending h.0 h.2)

pub halts_then : {A : Type 0} (old mid new : ℕ) (ending : EndingOf) (es fs : List (Event A)) → AfterTries old mid es fs → HaltsAfter mid new fs ending → HaltsAfter old new es ending
halts_then old mid new ending es fs x h = (h.0, after_then old mid new es fs h.0 x h.1, h.2)

pub halts_as : {A : Type 0} (old new : ℕ) (ending : EndingOf) (es fs : List (Event A)) → es ≡ fs → HaltsAfter old new fs ending → HaltsAfter old new es ending
halts_as old new ending es fs e h = (h.0, after_as old new es fs h.0 e h.1, h.2)

-- no try is taken before the halt
pub halts_here : {A : Type 0} (left : ℕ) (ending : EndingOf) (es : List (Event A)) → HaltsWith left ending es → HaltsAfter left left es ending
halts_here left ending es h = (es, after_none left es es refl, h)

-- more tries come than there are left
pub halts_spent : {A : Type 0} (old many : ℕ) (es rest : List (Event A)) → old ≤ many → es ≡ tries_then (suc many) rest → HaltsAfter old 0 es Spent
halts_spent zero many es rest l e = halts_here 0 Spent es (refl, (tries_then many rest, e))
halts_spent (suc old) zero es rest l e = absurd (omega arith)
halts_spent (suc old) (suc many) es rest l e =
    let r = halts_spent old many (tries_then (suc many) rest) rest (omega arith) refl in
    let a = r.1.1 in
    (r.0, (suc r.1.0, (omega arith), e ∙ ap (λ xs. try ∷ xs) r.1.2), r.2)

-- where no stop stands among the events and the tries are enough
quiet_tries : {A : Type 0} (budget n : ℕ) (es : List (Event A)) → IsQuiet budget (tries_then n es) → (HasStop es → ⊥) × (n + count es ≤ budget)
quiet_tries budget zero es q = (q.no_stop, (let l : count es ≤ budget = q.few in omega arith))
quiet_tries budget (suc n) es q =
    let l = q.few in
    let r = quiet_tries (budget - 1) n es (record { no_stop = q.no_stop; few = (omega arith) }) in
    (r.0, (let k = r.1 in omega arith))

-- quiet events do not halt
pub quiet_halts : {A : Type 0} (budget left : ℕ) (es : List (Event A)) (ending : EndingOf) → IsQuiet budget es → HaltsAfter budget left es ending → ⊥
quiet_halts {A} budget left es ending q h = go ending h.2
  where
    told : (HasStop h.0 → ⊥) × (h.1.0 + count h.0 ≤ budget)
    told = quiet_tries budget h.1.0 h.0 (subst (λ (xs : List (Event A)). IsQuiet budget xs) h.1.2 q)

    go : (ending : EndingOf) → HaltsWith left ending h.0 → ⊥
    go (Passed limit) w = told.0 (subst (λ (xs : List (Event A)). HasStop xs) (sym w.2.1) tt)
    go DepthSpent w = told.0 (subst (λ (xs : List (Event A)). HasStop xs) (sym w.1) tt)
    go Spent w =
        let a = h.1.1 in
        let z = w.0 in
        let k = told.1 in
        let n = ap count w.1.1 in
        absurd (omega arith)
    go (Found head outs) w = w
    go Exhausted w = w

-- a run that ends with nothing else halts
pub run_halts : (modes : Modes) (rules : List Rule) (pairs : List Pair) (js : List Judgement) (n : ℕ) (first new : Store) (old left : ℕ) (es : List (Event Answer)) (tasks : List TaskOf) (ending : EndingOf) → ((head : Head) (outs : Vec ℕ Global) → ending ≡ Found head outs → ⊥) → (ending ≡ Exhausted → ⊥) →
    IsRunTo modes rules pairs js n first new old left es tasks ending → StoreGrows modes rules first new × HaltsAfter old left es ending
run_halts modes rules pairs js n first new old left es tasks (Found head outs) f e x = absurd (f head outs refl)
run_halts modes rules pairs js n first new old left es tasks Exhausted f e x = absurd (e refl)
run_halts modes rules pairs js n first new old left es tasks (Passed limit) f e x = x
run_halts modes rules pairs js n first new old left es tasks DepthSpent f e x = x
run_halts modes rules pairs js n first new old left es tasks Spent f e x = x
