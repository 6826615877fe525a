-- What holds of what is typed in a dialect.
use Rattle.std.specs.Prelude.{ℕ, []}
use Rattle.std.specs.List.{AllByRecursion}
use Rattle.sx_term.specs.declared.role.Role.TheVariants.{In, Sub, Out}
use Rattle.sx_grammar.specs.Tables.{literals_of}
use Rattle.sx_grammar.specs.Told.{shapes_of}
use Rattle.sx_print.specs.Cut.{HasLexemes}
use Rattle.sx_rules.specs.Derivations.{Proof}
use Rattle.sx_rules.specs.First.{DerivesGoal}
use Rattle.sx_rules.specs.Rules.{Judgement}
use Rattle.sx_rules.specs.Sorts.{GoalIsSorted}
use Rattle.sx_rules.specs.Views.{modes_of, sorts_of, subjects_in}
use Rattle.sx_rewrite.specs.Accepted.{extended_rules}
use Rattle.sx_rewrite.specs.Lowers.{Lowers}
use Rattle.sx_rewrite.specs.Rewrites.{CanRewrite}
use Rattle.sx_typing.specs.Dialects.{IsDialect}
use Rattle.sx_typing.specs.Goals.{goal_with}
use Rattle.sx_rules.specs.Rules.{no_hypotheses}
use Rattle.sx_typing.specs.Refused.{HasTyping}
use Rattle.sx_typing.specs.BodySource.{BodySource, IsTermFor}

-- The subject and the output are terms of the dialect, and the goal is well sorted. The derivation
-- derives the goal by what is accepted, and can be rewritten; the lexemes of the judgement that it
-- is lowered to are tokens and no literals of the language.
pub record IsGoodTyping (s : BodySource) (tries : ℕ) (t : HasTyping s tries) : Type 0 where
  pub subject : IsTermFor s.dialect Sub t.body.subject
  pub output : IsTermFor s.dialect Out t.output
  pub sorted : GoalIsSorted (shapes_of s.dialect.parts) (sorts_of s.dialect.language.forms)
      (modes_of s.dialect.language.forms) [] (goal_with s t.body.subject)
  pub derives : DerivesGoal (modes_of s.dialect.language.forms) (extended_rules s.dialect.set)
      no_hypotheses (goal_with s t.body.subject) t.answer
  pub rewritable : CanRewrite s.dialect.set no_hypotheses t.answer.0
  pub lowered : (q : Proof) (k : Judgement) →
      Lowers s.dialect.set (subjects_in s.dialect.language.forms) no_hypotheses t.answer.0 q k →
      AllByRecursion (HasLexemes (literals_of s.dialect.language.parts)) k.places

-- so it is of each typing of a source whose environment is a term of its dialect
abbrev pub TypingsAreGood : Type 0
TypingsAreGood =
    (s : BodySource) → IsDialect s.dialect → IsTermFor s.dialect In s.environment →
    (tries : ℕ) (t : HasTyping s tries) → IsGoodTyping s tries t
