-- A module and its three texts.
use Rattle.std.specs.Prelude.{◌≡◌, List, [], ◌∷◌, None, length, Ok}
use Rattle.sx_term.specs.Tree.{Tree}
use Rattle.sx_token.specs.declared.token.Token.{Token}
use Rattle.sx_grammar.specs.Reading.{Reading}
use Rattle.sx_rules.specs.Derivations.{Proof}
use Rattle.sx_rules.specs.First.{Answer, IsFirst}
use Rattle.sx_rules.specs.Modes.{AllModed, outputs_of}
use Rattle.sx_rules.specs.Rules.{Judgement}
use Rattle.sx_rules.specs.Views.{modes_of, subjects_in}
use Rattle.sx_rewrite.specs.Lowers.{Lowers}
use Rattle.sx_rewrite.specs.Rewriting.{Rewritten, IsRewritten}
use Rattle.sx_extcheck.specs.declared.budgets.Budgets.{Budgets}
use Rattle.sx_typing.specs.Dialects.{DialectData}
use Rattle.sx_typing.specs.Goals.{dialect_rules, goal_with, IsBody}
use Rattle.sx_rules.specs.Rules.{no_hypotheses}
use Rattle.sx_typing.specs.Refused.{HasTyping}
use Rattle.sx_unit.specs.Modules.{ModuleData}
use Rattle.sx_unit.specs.PrintedParts.{PrintedData}
use Rattle.sx_unit.specs.Written.{UnitData, IsWritten}

-- the terms that are printed: the subject and the output of the lowered judgement, and the output
-- of the derivation
pub record ArePrinted (d : DialectData) (j : Judgement) (output : Tree) (t : PrintedData) : Type 0
  where
    pub subject : outputs_of (subjects_in d.language.forms) j ≡ t.subject ∷ []
    pub signature : outputs_of (modes_of d.language.forms) j ≡ t.signature ∷ []
    pub stated : t.stated ≡ output

-- The module's body has only one reading by the grammar of the dialect; its goal has this first
-- derivation by the rules of the dialect; this is lowered to a derivation by the language's rules;
-- and the texts are theirs.
pub record IsUnit (m : ModuleData) (u : UnitData) : Type 0 where
  pub tokens : List Token
  pub reading : Reading
  pub subject : Tree
  pub read : IsBody m.source tokens reading subject
  pub answer : Answer
  pub first : IsFirst (modes_of m.source.dialect.language.forms) (dialect_rules m.source.dialect)
      no_hypotheses (goal_with m.source subject) None answer
  pub output : Tree
  pub gives : answer.1 ≡ output ∷ []
  pub proof : Proof
  pub judgement : Judgement
  pub lowers : Lowers m.source.dialect.set (subjects_in m.source.dialect.language.forms)
      no_hypotheses answer.0 proof judgement
  pub terms : PrintedData
  pub are : ArePrinted m.source.dialect judgement output terms
  pub written : IsWritten m terms proof u
  pub source_tokens : u.source_tokens ≡ length tokens

-- the body is read and typed with so many tries, and the derivation is lowered, with so many nodes
pub record HasLowering (m : ModuleData) (b : Budgets) : Type 0 where
  pub typing : HasTyping m.source b.tries
  pub lowered : Rewritten
  pub rewriting : IsRewritten m.source.dialect.set (subjects_in m.source.dialect.language.forms)
      no_hypotheses typing.answer.0 b.nodes (Ok lowered)
  pub terms : PrintedData
  pub are : ArePrinted m.source.dialect lowered.judgement typing.output terms

-- the texts are those of what is lowered
pub record IsUnitMade (m : ModuleData) (b : Budgets) (u : UnitData) : Type 0 where
  pub lowering : HasLowering m b
  pub written : IsWritten m lowering.terms lowering.lowered.proof u
  pub source_tokens : u.source_tokens ≡ length lowering.typing.body.tokens

-- what is made by rules that can be followed is the unit of the module
abbrev pub UnitsAreMade : Type 0
UnitsAreMade = (m : ModuleData) (b : Budgets) (u : UnitData) →
    AllModed (modes_of m.source.dialect.language.forms) (dialect_rules m.source.dialect) →
    IsUnitMade m b u → IsUnit m u
