-- What is proved of `verify --core`.
use Rattle.std.specs.Prelude.{◌≡◌, ℕ, ◌≤◌, List, length, Ok, Option}
use Rattle.sx_outside.specs.Files.{Files, after_writes}
use Rattle.sx_term.specs.Tree.{Tree}
use Rattle.sx_rules.specs.Rules.{Rule, Hypotheses}
use Rattle.sx_rules.specs.Modes.{Modes, Goal, AllModed}
use Rattle.sx_rules.specs.Derivations.{AreShallow, ShallowJudgements, nodes_of}
use Rattle.sx_rules.specs.First.{Answer}
use Rattle.sx_rules.specs.Orders.{order_of}
use Rattle.sx_core.specs.Problem.{Problem}
use Rattle.sx_derive.specs.Walk.{events}
use Rattle.sx_derive.specs.Search.{found, walk}
use Rattle.sx_replay.specs.Fronts.{whole}
use Rattle.sx_replay.specs.Replay.{IsWithin}
use Rattle.sx_top.specs.ReadCore.{core_file, ReadsCore}
use Rattle.sx_top.specs.Search.{Searches}
use Rattle.sx_top.specs.CoreTexts.{term_lines}
use Rattle.sx_top.specs.BuildCore.{core_plan}
use Rattle.sx_verify.specs.Verified.{verified_plan}
use Rattle.sx_top.specs.VerifyCore.{VerifiesWhole}
use Rattle.sx_term.specs.Limits.{most_budget, most_bytes}

-- what a walk finds is within the limits of replaying: no term that it makes passes one, and no
-- entry stands deeper than 3,000
abbrev pub FoundIsWithin : Type 0
FoundIsWithin =
    (modes : Modes) (rules : List Rule) (hyps : Hypotheses) → AllModed modes rules →
    ShallowJudgements hyps.judgements →
    (goal : Goal) → AreShallow goal.terms →
    (wanted : Option (List Tree)) (budget : ℕ) (a : Answer) →
    walk wanted budget (events modes rules hyps goal 1) ≡ found a →
    IsWithin modes rules hyps goal (whole a.1) (order_of a.0)

-- What was built is verified, with as many entries as the derivation has nodes, where the text of
-- its outputs is short enough to be read. A walk takes 1,000,000 tries at most.
abbrev pub BuiltIsVerified : Type 0
BuiltIsVerified =
    (name : List ℕ) (budget : ℕ) (files : Files) (problem : Problem) (answer : Answer) →
    ReadsCore (core_file name) files (Ok problem) →
    Searches (core_file name) budget problem (Ok answer) →
    budget ≤ most_budget → length (term_lines answer.1) ≤ most_bytes →
    VerifiesWhole name (after_writes ((core_plan name problem answer).files) files)
    (Ok (verified_plan name (nodes_of answer.0)))
