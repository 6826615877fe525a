-- The goal of a source, and what its walk finds.
use Rattle.std.specs.Prelude.{◌≡◌, ◌+◌, ◌≤◌, ℕ, List, [], ◌∷◌, None, Result, Err}
use Rattle.sx_term.specs.declared.role.Role.TheVariants.{Sub, Out}
use Rattle.sx_term.specs.Term.{tree}
use Rattle.sx_term.specs.Tree.{Tree}
use Rattle.sx_token.specs.declared.token.Token.{Token}
use Rattle.sx_grammar.specs.Reading.{Reading}
use Rattle.sx_rules.specs.EntryView.{entries}
use Rattle.sx_rules.specs.First.{Answer, DerivesGoal, IsFirst}
use Rattle.sx_rules.specs.Modes.{AllModed, Goal}
use Rattle.sx_rules.specs.Orders.{order_of}
use Rattle.sx_rules.specs.Rules.{Rule}
use Rattle.sx_rules.specs.Views.{goal as goal_of, modes_of, subjects_in}
use Rattle.sx_derive.specs.declared.derive_error.DeriveError.{DeriveError}
use Rattle.sx_derive.specs.declared.listed.Listed.{Listed}
use Rattle.sx_derive.specs.Listing.{IsListed}
use Rattle.sx_derive.specs.Search.{found, walk}
use Rattle.sx_derive.specs.Walk.{Event, events}
use Rattle.sx_rewrite.specs.Accepted.{extended_rules as accepted_rules}
use Rattle.sx_rewrite.specs.Rewrites.{CanRewrite}
use Rattle.sx_typing.specs.declared.typed.Typed.{Typed}
use Rattle.sx_typing.specs.declared.module_error.ModuleError.{ModuleError}
use Rattle.sx_typing.specs.declared.module_error.ModuleError.TheVariants.{Memory}
use Rattle.sx_typing.specs.Body.{ReadsAs}
use Rattle.sx_typing.specs.Dialects.{DialectData}
use Rattle.sx_typing.specs.MainGoals.{main_goal}
use Rattle.sx_typing.specs.Outcomes.{nameless}
use Rattle.sx_rules.specs.Rules.{no_hypotheses}
use Rattle.sx_typing.specs.BodySource.{BodySource, IsTermFor, main_sort}

-- the rules of a dialect without their names
abbrev pub dialect_rules : DialectData → List Rule
dialect_rules d = nameless d.rules

-- the goal of the source with this body's term
abbrev pub goal_with : BodySource → (subject : Tree) → Goal
goal_with s subject =
    main_goal s.dialect.language.forms s.dialect.language.main.form s.environment subject

-- the events of the walk of that goal
abbrev pub source_events : BodySource → (subject : Tree) → List (Event Answer)
source_events s subject = events (modes_of s.dialect.language.forms) (dialect_rules s.dialect)
    no_hypotheses (goal_with s subject) 1

-- the body has only this reading, whose term is the subject
abbrev pub IsBody : BodySource → List Token → Reading → (subject : Tree) → Type 0
IsBody s ts r subject = ReadsAs s.dialect.parts (main_sort s.dialect.language Sub) s.header.body ts
    r subject

-- the walk of its goal, with so many tries to spend, finds this answer, whose output is this one
pub record IsSubjectTyped (s : BodySource) (tries : ℕ) (subject output : Tree)
    (answer : Answer) : Type 0
  where
    pub finds : walk None tries (source_events s subject) ≡ found answer
    pub gives : answer.1 ≡ output ∷ []

-- The goal is that of the subject, the list is that of the answer that its walk finds, and the
-- output is the answer's. The answer derives the goal by what is accepted, and can be rewritten.
pub record IsTypedBy (s : BodySource) (tries : ℕ) (subject : Tree) (t : Typed) : Type 0 where
  pub goal_is : goal_of t.goal ≡ goal_with s subject
  pub answer : Answer
  pub typed : IsSubjectTyped s tries subject (tree t.output) answer
  pub list : entries t.list.items ≡ order_of answer.0
  pub good : IsTermFor s.dialect Out (tree t.output)
  pub derives : DerivesGoal (modes_of s.dialect.language.forms) (accepted_rules s.dialect.set)
      no_hypotheses (goal_with s subject) answer
  pub rewritable : CanRewrite s.dialect.set no_hypotheses answer.0

-- what is found says how the walk of the subject's goal ends
abbrev pub IsFoundBy : BodySource → ℕ → Tree → Result Listed DeriveError → Type 0
IsFoundBy s tries subject answer =
    IsListed (modes_of s.dialect.language.forms) (subjects_in s.dialect.language.forms)
    (dialect_rules s.dialect) no_hypotheses (goal_with s subject) None tries answer

-- each of so many tries was counted; without memory some of them were
abbrev pub AreTriesCounted : {X : Type 0} → ℕ → ℕ → ℕ → Result X ModuleError → Type 0
AreTriesCounted made first last (Err Memory) = (first ≤ last) × (last ≤ first + made)
AreTriesCounted made first last _ = last ≡ first + made

-- what a walk by rules that can be followed finds is the first derivation of the goal
abbrev pub TypingsAreFirst : Type 0
TypingsAreFirst =
    (s : BodySource) (tries : ℕ) (subject output : Tree) (answer : Answer) →
    AllModed (modes_of s.dialect.language.forms) (dialect_rules s.dialect) →
    IsSubjectTyped s tries subject output answer →
    IsFirst (modes_of s.dialect.language.forms) (dialect_rules s.dialect) no_hypotheses
    (goal_with s subject) None answer
