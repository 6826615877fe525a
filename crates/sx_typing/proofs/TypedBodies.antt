-- The goal of a source can be searched for, and what is found has one output and can be rewritten.
use Rattle.std.proofs.Common.{◌≡◌, ◌≤◌, ℕ, ◌-◌, List, [], ◌∷◌, None, length, map, drop, ap, ◌∙◌}
use Rattle.std.proofs.Common.{sym, subst, arith}
use Rattle.std.specs.Global.{Vec}
use Rattle.std.specs.List.{AllByRecursion}
use Rattle.std.specs.Prelude.{Result, Ok, Err, IfOk}
use Rattle.std.proofs.lemmas.List.{length-drop, length-map}
use Rattle.sx_term.specs.declared.role.Role.TheVariants.{In, Sub, Out}
use Rattle.sx_term.specs.declared.sort.Sort.TheVariants as sorts
use Rattle.sx_term.specs.declared.term.Term.{Term}
use Rattle.sx_term.specs.Sorts.{Shape, HasSort}
use Rattle.sx_term.specs.Term.{tree}
use Rattle.sx_term.specs.Tree.{Tree}
use Rattle.sx_grammar.specs.Grammar.{Text}
use Rattle.sx_grammar.specs.Tables.{literals_of}
use Rattle.sx_grammar.specs.Told.{shapes_of}
use Rattle.sx_print.specs.Cut.{HasLexemes}
use Rattle.sx_rules.specs.declared.entry.Entry.{Entry as EntryOf}
use Rattle.sx_rules.specs.declared.rule_set.RuleSet.{RuleSet}
use Rattle.sx_rules.specs.Deep.{AreShallow}
use Rattle.sx_rules.specs.Derivations.{height_of, HasShallowBinds}
use Rattle.sx_rules.specs.EntryView.{entries}
use Rattle.sx_rules.specs.First.{Answer, DerivesGoal}
use Rattle.sx_rules.specs.Modes.{Goal}
use Rattle.sx_rules.specs.Rules.{Rule}
use Rattle.sx_rules.specs.Sets.{forms_in, rules_in}
use Rattle.sx_rules.specs.Views.{FormData, NamedRule, goal as goal_of, modes_of, places_at}
use Rattle.sx_rules.proofs.Refusals.{good_moded}
use Rattle.sx_derive.specs.declared.listed.Listed.{Listed}
use Rattle.sx_derive.specs.Listing.{Lists}
use Rattle.sx_derive.specs.Search.{found, walk}
use Rattle.sx_derive.proofs.Walked.{found_is_first}
use Rattle.sx_lexemes.specs.Lexemes.{IsToken, RuleLexemesAre}
use Rattle.sx_notation.specs.Language.{IsMain, RuleHasLexemes}
use Rattle.sx_rewrite.specs.Accepted.{extended_rules as accepted_rules}
use Rattle.sx_rewrite.specs.Rewrites.{CanRewrite}
use Rattle.sx_rewrite.specs.Stored.{signature_of}
use Rattle.sx_rewrite.proofs.FitTerms.{found_can_be_rewritten}
use Rattle.sx_typing.specs.declared.typed.Typed.{Typed}
use Rattle.sx_typing.specs.Dialects.{DialectData, IsDialect}
use Rattle.sx_typing.specs.Goals.{goal_with, source_events, IsTypedBy}
use Rattle.sx_typing.specs.MainGoals.{main_goal}
use Rattle.sx_typing.specs.Outcomes.{nameless}
use Rattle.sx_rules.specs.Rules.{no_hypotheses}
use Rattle.sx_typing.specs.Searched.{IsGoalFor, AreOutputsFor}
use Rattle.sx_typing.specs.BodySource.{BodySource, IsTermFor}
use Rattle.sx_typing.proofs.Finding.{found_outputs_fit, found_is_bounded}
use Rattle.sx_typing.proofs.Lexemes.{rules_from_tokens}
use Rattle.sx_typing.proofs.MainGoals.{main_goals_fit, main_goals_have_lexemes}
use Rattle.sx_typing.proofs.MainGoals.{main_goals_are_shallow}
use Rattle.sx_typing.proofs.MainSorts.{main_sort_is}

-- what holds of a value holds of it if it is there
pub ok_if : {X E : Type 0} (r : Result X E) (P Q : X → Type 0) → IfOk r P → ((x : X) → P x → Q x) →
    IfOk r Q
ok_if (Ok x) P Q h f = f x h
ok_if (Err e) P Q h f = tt

-- what holds by a rule set holds by the one that it is, by its forms, and of the goal that is meant
pub by_rules : (P : List FormData → List NamedRule → Goal → Type 0) (x y : RuleSet)
    (forms : List FormData) (g h : Goal) →
    x ≡ y → forms_in y ≡ forms → g ≡ h → P (forms_in x) (rules_in x) g → P forms (rules_in y) h
by_rules P x y forms g h same of_forms asked p =
    subst (λ (k : Goal). P forms (rules_in y) k) asked
    (subst (λ (fs : List FormData). P fs (rules_in y) g) of_forms
    (subst (λ (z : RuleSet). P (forms_in z) (rules_in z) g) same p))

-- how many bytes the body has
pub size_is : (bytes body : List ℕ) (k : ℕ) → body ≡ drop k bytes →
    length bytes - (length bytes - length body) ≡ length (drop k bytes)
size_is bytes body k e = let a : length body ≡ length (drop k bytes) = ap length e in let b =
    length-drop k bytes in omega (arith, a, b)

module _ (d : DialectData) (is : IsDialect d) where
  abbrev literals : List Text
  literals = literals_of d.language.parts

  abbrev shapes : List Shape
  shapes = shapes_of d.parts

  abbrev forms : List FormData
  forms = d.language.forms

  abbrev number : ℕ
  number = d.language.main.form

  abbrev m : IsMain d.language.parts forms d.language.main
  m = is.main

  -- the lexemes of the rules are tokens, and no literals of the language
  rules_have : AllByRecursion (RuleHasLexemes literals) d.rules
  rules_have =
      rules_from_tokens literals d.rules
      (subst (λ (rs : List Rule). AllByRecursion (RuleLexemesAre (IsToken literals)) rs)
      (sym is.rules_are) is.lexemes.rules)

  module _ (environment subject : Tree) (he : IsTermFor d In environment)
      (hs : IsTermFor d Sub subject) where
    environment_sorted : HasSort shapes [] environment (sorts.Plain m.environment)
    environment_sorted =
        subst (HasSort shapes [] environment)
        (main_sort_is forms number m.form In (sorts.Plain m.environment) m.is m.input) he.sorted

    subject_sorted : HasSort shapes [] subject (sorts.Typed m.subject)
    subject_sorted = subst (HasSort shapes [] subject)
        (main_sort_is forms number m.form Sub (sorts.Typed m.subject) m.is m.typed) hs.sorted

    pub goal_for : IsGoalFor literals shapes forms [] subject
        (main_goal forms number environment subject)
    goal_for =
        let fits =
        main_goals_fit shapes forms [] number m.form (sorts.Plain m.environment)
        (sorts.Typed m.subject) (sorts.Plain m.signature) environment subject m.is
        m.input m.typed m.output environment_sorted subject_sorted in
        record {
          form = m.form;
          is = m.is;
          sorted = fits.0;
          lexemes = main_goals_have_lexemes literals (places_at forms number) environment subject
              he.lexemes hs.lexemes;
          shallow = main_goals_are_shallow (places_at forms number) environment subject he.depth
              hs.depth;
          leads = fits.1;
        }

    -- the outputs are one term, for the output of the main form
    one_output : (outs : List Tree) →
        AreOutputsFor literals shapes forms [] (main_goal forms number environment subject) outs →
        (t : Tree) × (outs ≡ t ∷ []) × IsTermFor d Out t
    one_output outs h =
        let fits =
        main_goals_fit shapes forms [] number m.form (sorts.Plain m.environment)
        (sorts.Typed m.subject) (sorts.Plain m.signature) environment subject m.is
        m.input m.typed m.output environment_sorted subject_sorted in
        let one = fits.2 outs h.sorted in
        let lexemes = subst (λ (ts : List Tree). AllByRecursion (HasLexemes literals) ts) one.1
        h.lexemes in
        let shallow = subst AreShallow one.1 h.shallow in (
          one.0,
          one.1,
          record {
            sorted = subst (HasSort shapes [] one.0)
                (sym (main_sort_is forms number m.form Out (sorts.Plain m.signature) m.is m.output))
                one.2;
            depth = shallow.0;
            lexemes = lexemes.0;
          },
        )

-- what is used of an answer that a walk finds
pub record IsGoodAnswer (s : BodySource) (subject : Tree) (a : Answer) : Type 0 where
  pub output : Tree
  pub one : a.1 ≡ output ∷ []
  pub good : IsTermFor s.dialect Out output
  pub derives : DerivesGoal (modes_of s.dialect.language.forms) (accepted_rules s.dialect.set)
      no_hypotheses (goal_with s subject) a
  pub rewritable : CanRewrite s.dialect.set no_hypotheses a.0

module _ (s : BodySource) (is : IsDialect s.dialect) (subject : Tree)
    (he : IsTermFor s.dialect In s.environment) (hs : IsTermFor s.dialect Sub subject) where
  abbrev d : DialectData
  d = s.dialect

  pub source_goal : IsGoalFor (literals_of d.language.parts) (shapes_of d.parts) d.language.forms []
      subject (goal_with s subject)
  source_goal = goal_for d is s.environment subject he hs

  pub found_good : (tries : ℕ) (a : Answer) → walk None tries (source_events s subject) ≡ found a →
      IsGoodAnswer s subject a
  found_good tries a finds = record {
    output = one.0;
    one = one.1;
    good = one.2;
    derives = derives;
    rewritable = found_can_be_rewritten (signature_of d.language.forms) (shapes_of d.language.parts)
        (shapes_of d.parts) d.set is.accepted no_hypotheses [] tt
        (goal_with s subject) source_goal.sorted a derives bounds.0 bounds.1;
  }
    where
      one : (t : Tree) × (a.1 ≡ t ∷ []) × IsTermFor d Out t
      one =
          one_output d is s.environment subject he hs a.1
          (found_outputs_fit (literals_of d.language.parts) (shapes_of d.parts) d.language.forms
          d.rules is.rule_set (rules_have d is) [] subject (goal_with s subject)
          source_goal None tries a finds)

      derives : DerivesGoal (modes_of d.language.forms) (accepted_rules d.set) no_hypotheses
          (goal_with s subject) a
      derives =
          subst (λ (rs : List Rule). DerivesGoal (modes_of d.language.forms) rs no_hypotheses
          (goal_with s subject) a) is.rules_are
          (found_is_first (modes_of d.language.forms) (nameless d.rules) no_hypotheses
          (good_moded (shapes_of d.parts) d.language.forms [] d.rules is.rule_set.1)
          (goal_with s subject) None tries 1 a finds).derives

      bounds : (height_of a.0 ≤ 3000) × HasShallowBinds a.0
      bounds =
          found_is_bounded (literals_of d.language.parts) (shapes_of d.parts) d.language.forms
          d.rules [] subject (goal_with s subject) source_goal tries a
          finds

one_length : (items : List Term) (ts : List Tree) (t : Tree) → map tree items ≡ ts → ts ≡ t ∷ [] →
    length items ≡ 1
one_length items ts t e f = let a = length-map items tree in let b : length (map tree items) ≡ 1 =
    ap length (e ∙ f) in omega (arith, a, b)

pub head_same : (t u : Tree) → t ∷ [] ≡ u ∷ [] → t ≡ u
head_same t u e = cc

-- a list with its outputs has one
pub one_listed : (l : Listed) (a : Answer) (t : Tree) → Lists l a → a.1 ≡ t ∷ [] →
    length l.outputs.items ≡ 1
one_listed l a t lists one = one_length l.outputs.items a.1 t lists.outputs one

pub typed_by : (s : BodySource) (tries : ℕ) (subject : Tree) (l : Listed) (a : Answer) (t : Typed) →
    walk None tries (source_events s subject) ≡ found a → Lists l a →
    goal_of t.goal ≡ goal_with s subject → t.list ≡ l.entries → l.outputs.items ≡ t.output ∷ [] →
    IsGoodAnswer s subject a → IsTypedBy s tries subject t
typed_by s tries subject l a t finds lists asked same outputs good =
    let output : a.1 ≡ tree t.output ∷ [] = sym lists.outputs ∙ ap (map tree) outputs in
    record {
      goal_is = asked;
      answer = a;
      typed = record { finds = finds; gives = output };
      list = ap (λ (v : Vec EntryOf). entries v.items) same ∙ lists.entries;
      good = subst (IsTermFor s.dialect Out)
          (head_same good.output (tree t.output) (sym good.one ∙ output)) good.good;
      derives = good.derives;
      rewritable = good.rewritable;
    }
