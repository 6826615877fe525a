-- The steps of the commands on core files have one result each, read faults aside.
use Rattle.std.proofs.Common.{◌≡◌, ℕ, List, [], refl, ap, ◌∙◌, sym}
use Rattle.std.specs.Prelude.{Result, Ok, Err, None}
use Rattle.sx_outside.specs.Files.{Files}
use Rattle.sx_rules.specs.Views.{modes_of, subjects_in}
use Rattle.sx_rules.specs.Modes.{AllModed}
use Rattle.sx_rules.specs.First.{Answer}
use Rattle.sx_core.specs.Problem.{Problem}
use Rattle.sx_derive.specs.Search.{Ending, found, stopped, spent, exhausted, walk}
use Rattle.sx_derive.specs.Stuck.{Blame}
use Rattle.sx_derive.proofs.BlamedOnce.{stuck_goal_is_unique}
use Rattle.sx_steps.specs.declared.stop.Stop.{Stop}
use Rattle.sx_top.specs.CoreStops.{underivable}
use Rattle.sx_top.specs.FindFirst.{problem_rules}
use Rattle.sx_rules.specs.Rules.{no_hypotheses}
use Rattle.sx_steps.specs.Held.{Held}
use Rattle.sx_term.specs.Limits.{most_bytes}
use Rattle.sx_top.specs.Search.{core_goal_events, SearchComesTo, Searches}
use Rattle.sx_top.specs.Written.{Equals, Compares}
use Rattle.sx_steps.proofs.Ones.{IsOne, then_one, held_one}

-- ---- files

-- a text in a file
pub equals_one : (file text bytes : List ℕ) → IsOne (Equals file text bytes)
equals_one file text bytes (Ok a) (Ok b) h k n m = refl
equals_one file text bytes (Ok a) (Err t) h k n m = absurd (k.0 h)
equals_one file text bytes (Err s) (Ok b) h k n m = absurd (h.0 k)
equals_one file text bytes (Err s) (Err t) h k n m = ap Err (h.1 ∙ sym k.1)

pub compares_one : (file text : List ℕ) (files : Files) → IsOne (Compares file text files)
compares_one file text files = then_one (Held most_bytes file files) (Equals file text) (held_one most_bytes file files) (λ bytes held. equals_one file text bytes)

-- ---- the search

comes_one : (file : List ℕ) (problem : Problem) (budget : ℕ) (ending : Ending) → AllModed (modes_of problem.forms) (problem_rules problem) → (x y : Result Answer Stop) → SearchComesTo file problem budget ending x → SearchComesTo file problem budget ending y → x ≡ y
comes_one file problem budget (found answer) moded x y h k = h ∙ sym k
comes_one file problem budget (stopped cause) moded x y h k = h ∙ sym k
comes_one file problem budget spent moded x y h k = h ∙ sym k
comes_one file problem budget exhausted moded x y h k =
    let same = stuck_goal_is_unique (modes_of problem.forms) (subjects_in problem.forms) (problem_rules problem) no_hypotheses moded problem.goal [] 3000 3000 h.0 k.0 h.1 k.1 in
    h.2 ∙ ap (λ (blame : Blame). Err (underivable file problem blame)) same ∙ sym k.2

pub searches_one : (file : List ℕ) (budget : ℕ) (problem : Problem) → AllModed (modes_of problem.forms) (problem_rules problem) → IsOne (Searches file budget problem)
searches_one file budget problem moded x y h k n m = comes_one file problem budget (walk None budget (core_goal_events problem)) moded x y h k
