-- Where the lexemes of derivations come from.
use Rattle.std.specs.Prelude.{ℕ, List, length}
use Rattle.std.specs.List.{AllByRecursion}
use Rattle.sx_term.specs.Sorts.{Shape}
use Rattle.sx_term.specs.Tree.{Tree}
use Rattle.sx_rules.specs.Derivations.{Proof, Derives}
use Rattle.sx_rules.specs.Modes.{Modes, inputs_of, AllModed}
use Rattle.sx_rules.specs.Rules.{Judgement, Rule, Hypotheses}
use Rattle.sx_plain.specs.Plain.{Table, image}
use Rattle.sx_rewrite.specs.Accepted.{Accepted, Signature, IsAccepted, extended_rules}
use Rattle.sx_rewrite.specs.Extensions.{StoredExtension, FitsRules, extended_by, with_table}
use Rattle.sx_rewrite.specs.Lowers.{Lowers}
use Rattle.sx_rewrite.specs.Sound.{AreSoundBy}
use Rattle.sx_lexemes.specs.Lexemes.{IsToken, LexemesAre, AllLexemesAre, JudgementLexemesAre}
use Rattle.sx_lexemes.specs.Lexemes.{RuleLexemesAre, ExtLexemesAre, TableLexemesAre}
use Rattle.sx_lexemes.specs.Lexemes.{SetLexemesAre}

-- each lexeme of a plain image stands in the term or in a flat body
abbrev pub ImagesKeepLexemes : Type 0
ImagesKeepLexemes =
    (literals : List (List ℕ)) (table : Table) → TableLexemesAre (IsToken literals) table →
    (t : Tree) → LexemesAre (IsToken literals) t → LexemesAre (IsToken literals) (image table t)

-- each lexeme of a judgement that is derived stands at its inputs, in a hypothesis or in a rule
abbrev pub DerivedKeepLexemes : Type 0
DerivedKeepLexemes =
    (literals : List (List ℕ)) (modes : Modes) (rules : List Rule) (hyps : Hypotheses) →
    AllModed modes rules → AllByRecursion (RuleLexemesAre (IsToken literals)) rules →
    AllByRecursion (JudgementLexemesAre (IsToken literals)) hyps.judgements →
    (p : Proof) (j : Judgement) → Derives rules hyps j p →
    AllLexemesAre (IsToken literals) (inputs_of modes j) →
    JudgementLexemesAre (IsToken literals) j

-- each lexeme of the judgement of a lowered derivation stands at the inputs of the judgement that
-- was derived, in a hypothesis, in a rule, in a flat body or in the plain table
abbrev pub LoweredKeepLexemes : Type 0
LoweredKeepLexemes =
    (literals : List (List ℕ)) (sig : Signature) (base shapes : List Shape) (a : Accepted) →
    IsAccepted sig base shapes a → SetLexemesAre (IsToken literals) a →
    (hyps : Hypotheses) →
    AllByRecursion (JudgementLexemesAre (IsToken literals)) hyps.judgements →
    (p q : Proof) (j k : Judgement) → Derives (extended_rules a) hyps j p →
    AllLexemesAre (IsToken literals) (inputs_of sig.modes j) →
    Lowers a sig.subjects hyps p q k →
    JudgementLexemesAre (IsToken literals) k

-- so it is of what an accepted set has when it grows by an extension that is sound after it, where
-- the lexemes of the extension's rules, of their bodies and of the plain table are tokens
abbrev pub GrownSetsKeepLexemes : Type 0
GrownSetsKeepLexemes =
    (literals : List (List ℕ)) (sig : Signature) (base shapes all : List Shape) (a : Accepted)
    (e : StoredExtension) → IsAccepted sig base shapes a →
    FitsRules sig base shapes all a.table e.table e.rules →
    AreSoundBy sig.subjects (length base) (with_table a e.table) e.rules e.stored →
    SetLexemesAre (IsToken literals) a →
    AllByRecursion (ExtLexemesAre (IsToken literals)) e.rules →
    TableLexemesAre (IsToken literals) e.table →
    SetLexemesAre (IsToken literals) (extended_by a e)
