-- The rules of a language that a text states have names.
use Rattle.std.proofs.Common.{◌≡◌, ℕ, List, [], ◌∷◌, ◌++◌, map, sym, subst, inl, inr}
use Rattle.std.specs.Prelude.{Result, Ok, Err, Option, true}
use Rattle.std.specs.List.{AllByRecursion}
use Rattle.sx_lines.specs.Lines.{Lines, over, line, lines_from}
use Rattle.sx_lines.specs.Words.{is_name}
use Rattle.sx_lines.specs.declared.kind.Kind.{Kind}
use Rattle.sx_directives.specs.declared.file_kind.FileKind.{FileKind}
use Rattle.sx_directives.specs.declared.file_kind.FileKind.TheVariants as files
use Rattle.sx_directives.specs.declared.row.Row.{Row}
use Rattle.sx_directives.specs.declared.row.Row.TheVariants.{Language, Sort, Prod, Var, Form, Main}
use Rattle.sx_directives.specs.declared.row.Row.TheVariants.{Rule, Bar, End, Extension, Use, Plain}
use Rattle.sx_directives.specs.declared.row.Row.TheVariants.{To}
use Rattle.sx_directives.specs.Rows.{IsRow}
use Rattle.sx_directives.specs.Spelling.{IsName}
use Rattle.sx_term.specs.Tree.{Tree}
use Rattle.sx_rules.specs.RuleNames.{AreNames}
use Rattle.sx_rules.specs.Sets.{rules_in, names_in}
use Rattle.sx_rules.specs.Views.{NamedRule}
use Rattle.sx_grammar.specs.Grammar.{Text}
use Rattle.sx_outline.specs.declared.outline_error.OutlineError.{OutlineError}
use Rattle.sx_outline.specs.declared.outline_error.OutlineError.TheVariants.{Notation}
use Rattle.sx_outline.specs.Declarations.{Declared}
use Rattle.sx_outline.specs.Known.{kept_lines}
use Rattle.sx_outline.specs.Outcomes.{IsReadingOutcome}
use Rattle.sx_outline.specs.Outlined.{OutlineData, IsEnd, outline}
use Rattle.sx_outline.specs.Stages.{Stage, at_start, at_declarations, at_body, at_plains, at_rules}
use Rattle.sx_outline.specs.Stages.{at_premises, at_conclusion, at_end, RuleData, Numbered, State}
use Rattle.sx_outline.specs.Stages.{start, state_after_row, ended, bodied, StepsByRow, StepsAt, rule_data}
use Rattle.sx_notation.specs.declared.language.Language.{Language as LanguageOf}
use Rattle.sx_notation.specs.Language.{LanguageData}
use Rattle.sx_language.specs.RuleLine.{Reader}
use Rattle.sx_language.specs.RuleTexts.{AreRules}
use Rattle.sx_language.specs.States.{IsLanguageIn}
use Rattle.sx_accepting.specs.ReadLanguage.{Stated, IsLanguageStated}
use Rattle.sx_verify.proofs.RuleViews.{names_are}

-- the rule that has begun, or has its conclusion, has a name
abbrev IsNamedAt : Stage → Type 0
IsNamedAt at_start = Unit {0}
IsNamedAt at_declarations = Unit {0}
IsNamedAt (at_body b) = Unit {0}
IsNamedAt at_plains = Unit {0}
IsNamedAt at_rules = Unit {0}
IsNamedAt (at_premises b) = IsName b.name
IsNamedAt (at_conclusion b) = IsName b.name
IsNamedAt (at_end r) = IsName r.name

abbrev AreNamed : List RuleData → Type 0
AreNamed rules = AllByRecursion (λ r. IsName r.name) rules

-- and so have those that are ended
abbrev IsNamed : State → Type 0
IsNamed s = IsNamedAt s.stage × AreNamed s.rules

named_more : (rules : List RuleData) (r : RuleData) → AreNamed rules → IsName r.name →
    AreNamed (rules ++ r ∷ [])
named_more [] r all one = (one, tt)
named_more (x ∷ rules) r all one = (all.0, named_more rules r all.1 one)

ended_named : (stage : Stage) (s : State) → IsNamedAt stage → IsNamed s → IsNamed (ended s stage)
ended_named at_start s h k = k
ended_named at_declarations s h k = k
ended_named (at_body b) s h k = k
ended_named at_plains s h k = k
ended_named at_rules s h k = k
ended_named (at_premises b) s h k = k
ended_named (at_conclusion b) s h k = k
ended_named (at_end r) s h k = (tt, named_more s.rules r k.1 h)

bodied_named : (stage : Stage) (s : State) (l : Numbered) → IsNamedAt stage → IsNamed s →
    IsNamed (bodied s stage l)
bodied_named at_start s l h k = k
bodied_named at_declarations s l h k = k
bodied_named (at_body b) s l h k = k
bodied_named at_plains s l h k = k
bodied_named at_rules s l h k = k
bodied_named (at_premises b) s l h k = k
bodied_named (at_conclusion b) s l h k = k
bodied_named (at_end r) s l h k = (h, k.1)

after_named : (kind : FileKind) (text : List ℕ) (s : State) (number : ℕ) (row : Row) →
    IsRow kind text row → IsNamed s → IsNamed (state_after_row s number row)
after_named kind text s number (Language name) is h = h
after_named kind text s number (Sort x) is h = h
after_named kind text s number (Prod x) is h = h
after_named kind text s number (Var x) is h = h
after_named kind text s number (Form x) is h = h
after_named kind text s number (Main x) is h = h
after_named kind text s number (Rule name) is h = (is.follows.named, h.1)
after_named kind text s number Bar is h = h
after_named kind text s number End is h = ended_named s.stage s h.0 h
after_named kind text s number (Extension name) is h = h
after_named kind text s number (Use name) is h = h
after_named kind text s number (Plain x) is h = (tt, h.1)
after_named kind text s number (To body) is h =
    bodied_named s.stage s (record { number = number; text = body }) h.0 h

by_row : (kind : FileKind) (known : Declared) (s t : State) (number : ℕ) (text : List ℕ) →
    StepsByRow kind known s number text t → IsNamed s → IsNamed t
by_row kind known s t number text (row, good, is) h =
    subst IsNamed (sym is) (after_named kind text s number row good.spelled h)

at_named : (stage : Stage) (kind : FileKind) (known : Declared) (name : List ℕ) (s t : State)
    (number : ℕ) (text : List ℕ) →
    StepsAt stage kind known name s number text t → IsNamedAt stage → IsNamed s → IsNamed t
at_named at_start kind known name s t number text step h k = subst IsNamed (sym step.1) (tt, k.1)
at_named at_declarations kind known name s t number text step h k =
    by_row kind known s t number text step k
at_named (at_body b) kind known name s t number text step h k = subst IsNamed (sym step) (tt, k.1)
at_named at_plains kind known name s t number text step h k =
    by_row kind known s t number text step k
at_named at_rules kind known name s t number text step h k =
    by_row kind known s t number text step k
at_named (at_premises b) kind known name s t number text (inl step) h k =
    subst IsNamed (sym step.1) (h, k.1)
at_named (at_premises b) kind known name s t number text (inr step) h k =
    subst IsNamed (sym step.1) (h, k.1)
at_named (at_conclusion b) kind known name s t number text step h k =
    subst IsNamed (sym step) (h, k.1)
at_named (at_end r) kind known name s t number text step h k =
    by_row kind known s t number text step k

-- a file that has an outline
module _ (known : Declared) (name : List ℕ) (o : OutlineData) where
  abbrev Ends : State → ℕ → Type 0
  Ends s end = IsEnd s end (Ok o)

  abbrev Fails : ℕ → Kind → Type 0
  Fails number kind = ◌≡◌ {A = Result OutlineData OutlineError} (Ok o) (Err (Notation number kind))

  no_fail : (A : Type 0) (number : ℕ) (kind : Kind) → Fails number kind → A
  no_fail A number kind e = absurd cc

  outline_named : (s : State) (lines : Lines) →
      IsReadingOutcome files.Language known name s lines Ends Fails → IsNamed s → AreNamed o.rules
  outline_named s (over end) h k = subst AreNamed h.1.rules k.1
  outline_named s (line number text rest more) (inl (t, step, later)) k =
      outline_named t more later
      (at_named s.stage files.Language known name s t number text step k.0 k)
  outline_named s (line number text rest more) (inr (bad, is, fails)) k =
      no_fail (AreNamed o.rules) number bad fails

-- the rules that are read have the names of their lines
rules_named : (r : Reader) (ls : List RuleData) (names : List (List Text)) (qs : List NamedRule)
    (bodies : List (Option Tree)) →
    AreRules r ls names qs bodies → AreNamed ls → AreNames (map (λ q. q.name) qs)
rules_named r [] [] [] [] h k = tt
rules_named r (l ∷ ls) (n ∷ ns) (q ∷ qs) (b ∷ bs) h k = (
  subst (λ (x : List ℕ). is_name true x ≡ true) (sym h.0.name) k.0,
  rules_named r ls ns qs bs h.1 k.1,
)
rules_named r _ _ _ _ h k = absurd h

rules_are_named : (name bytes : List ℕ) (l : LanguageOf) → IsLanguageIn name bytes l →
    AreNames (map (λ q. q.name) (rules_in l.rules))
rules_are_named name bytes l states =
    let outlined = states.readable.outlined in
    let o = outline states.outline in
    let named = outline_named outlined.known name o start (kept_lines (lines_from 1 bytes))
    outlined.outcome (tt, tt) in
    rules_named states.reader (map rule_data states.outline.rules.items) l.names.items
    (rules_in l.rules) _ states.rules named

pub language_named : (name bytes : List ℕ) (l : LanguageOf) → IsLanguageIn name bytes l →
    AreNames (names_in l.rules)
language_named name bytes l states =
    subst AreNames (names_are l.rules.rules.items) (rules_are_named name bytes l states)

pub stated_named : (name bytes : List ℕ) (l : Stated) → IsLanguageStated name bytes l →
    AreNames (map (λ r. r.name) l.language.rules)
stated_named name bytes l states =
    subst (λ (d : LanguageData). AreNames (map (λ r. r.name) d.rules)) (sym states.language)
    (rules_are_named name bytes states.whole states.states)
