-- Terms, rules and accepted sets all of whose lexemes have a property.
use Rattle.std.specs.Prelude.{◌≡◌, ℕ, false, List, IfSome, Some}
use Rattle.std.specs.List.{AllByRecursion}
use Rattle.sx_term.specs.declared.lex_kind.LexKind.{LexKind}
use Rattle.sx_term.specs.declared.mark.Mark.TheVariants.{Lex}
use Rattle.sx_term.specs.Spaced.{IsTokenText}
use Rattle.sx_term.specs.Tree.{Tree, Trees, node, lexeme, hole, none, ◌▹◌}
use Rattle.sx_rules.specs.Rules.{Judgement, Premise, holds, apart, Rule}
use Rattle.sx_plain.specs.Plain.{Body, Table}
use Rattle.sx_rewrite.specs.Accepted.{ExtRule, Checked, Accepted, extended_rules}

-- the text is a token of the kind, and none of the literals
abbrev pub IsToken : (literals : List (List ℕ)) → LexKind → List ℕ → Type 0
IsToken literals kind text = IsTokenText literals false (Lex kind) text

abbrev mutual
  -- each lexeme of the term has the property
  pub LexemesAre : (LexKind → List ℕ → Type 0) → Tree → Type 0
  LexemesAre P (node label kids) = KidsLexemesAre P kids
  LexemesAre P (lexeme kind text) = P kind text
  LexemesAre P (hole v) = Unit {0}

  -- so it is of each term
  pub KidsLexemesAre : (LexKind → List ℕ → Type 0) → Trees → Type 0
  KidsLexemesAre P none = Unit {0}
  KidsLexemesAre P (t ▹ ts) = LexemesAre P t × KidsLexemesAre P ts

-- so it is of each of the terms
abbrev pub AllLexemesAre : (LexKind → List ℕ → Type 0) → List Tree → Type 0
AllLexemesAre P ts = AllByRecursion (LexemesAre P) ts

-- so it is of the terms of the judgements
abbrev pub JudgementLexemesAre : (LexKind → List ℕ → Type 0) → Judgement → Type 0
JudgementLexemesAre P j = AllLexemesAre P j.places

-- and of those of a premise
abbrev pub PremiseLexemesAre : (LexKind → List ℕ → Type 0) → Premise → Type 0
PremiseLexemesAre P (holds j) = JudgementLexemesAre P j
PremiseLexemesAre P (apart t u) = LexemesAre P t × LexemesAre P u

-- and of those of a rule
pub record RuleLexemesAre (P : LexKind → List ℕ → Type 0) (rule : Rule) : Type 0 where
  pub premises : AllByRecursion (PremiseLexemesAre P) rule.premises
  pub conclusion : JudgementLexemesAre P rule.conclusion

-- and of those of an extension rule, with its body where it has one
pub record ExtLexemesAre (P : LexKind → List ℕ → Type 0) (e : ExtRule) : Type 0 where
  pub rule : RuleLexemesAre P e.rule
  pub body : IfSome e.body (LexemesAre P)

-- and of the flat bodies of a table
abbrev pub TableLexemesAre : (LexKind → List ℕ → Type 0) → Table → Type 0
TableLexemesAre P table =
    (label : ℕ) (body : Body) → table label ≡ Some body → LexemesAre P body.flat

-- and of the flat body of an extension rule, where it has one
abbrev pub BodyLexemesAre : (LexKind → List ℕ → Type 0) → Checked → Type 0
BodyLexemesAre P c = IfSome c.body (LexemesAre P)

-- and of the rules, the flat bodies and the plain table of an accepted set
pub record SetLexemesAre (P : LexKind → List ℕ → Type 0) (a : Accepted) : Type 0 where
  pub rules : AllByRecursion (RuleLexemesAre P) (extended_rules a)
  pub bodies : AllByRecursion (BodyLexemesAre P) a.more
  pub table : TableLexemesAre P a.table
