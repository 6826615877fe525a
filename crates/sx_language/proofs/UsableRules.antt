-- What holds of each term of a line holds of the terms of the rules.
use Rattle.std.proofs.Common.{◌≡◌, ℕ, ◌≤◌, List, [], ◌∷◌, max, map, Contains, Option, Some, None, refl, sym, subst, arith}
use Rattle.std.specs.Prelude.{IfSome}
use Rattle.std.specs.List.{AllByRecursion}
use Rattle.std.proofs.Math.Nat.{le-max_left, le-max_right}
use Rattle.sx_term.specs.declared.lex_kind.LexKind.TheVariants.{Id, Num, Str}
use Rattle.sx_term.specs.declared.sort.Sort.{Sort}
use Rattle.sx_term.specs.Tree.{Tree, Trees, node, lexeme, hole, none, ◌▹◌, forest, depth_of}
use Rattle.sx_term.specs.Tree.{greatest_depth}
use Rattle.sx_grammar.specs.Grammar.{Text}
use Rattle.sx_grammar.specs.Parts.{Parts}
use Rattle.sx_grammar.specs.Tables.{literals_of}
use Rattle.sx_grammar.proofs.DistinctLaws.{distinct_has, distinct_from}
use Rattle.sx_grammar.specs.Parts.{literals}
use Rattle.sx_print.specs.Cut.{HasLexemes, HaveLexemes}
use Rattle.sx_rules.specs.Rules.{Premise, holds, apart}
use Rattle.sx_rules.specs.Views.{NamedRule}
use Rattle.sx_rules.specs.Deep.{AreShallow, PremisesAreShallow, RulesAreShallow}
use Rattle.sx_directives.specs.declared.rows.FormLine.{FormLine}
use Rattle.sx_outline.specs.Stages.{Numbered, RuleData}
use Rattle.sx_notation.specs.RuleParts.{rule_parts}
use Rattle.sx_notation.specs.ReadText.{IsReadLine}
use Rattle.sx_notation.specs.Language.{PremiseHasLexemes, RuleHasLexemes}
use Rattle.sx_notation.proofs.ReadLexemes.{reads_have_lexemes, reads_are_shallow}
use Rattle.sx_language.specs.Laws.{RulesAreUsable}
use Rattle.sx_language.specs.RuleLine.{Reader, judgements, subject_sort, Says, IsLine}
use Rattle.sx_language.specs.RuleTexts.{ArePremises, IsRuleBody, IsRule, AreRules, AreBareRules}
use Rattle.sx_language.proofs.KnownForms.{literal_stays}

-- it holds of the terms of the premise
abbrev pub OfPremise : (Tree → Type 0) → Premise → Type 0
OfPremise P (holds j) = AllByRecursion P j.places
OfPremise P (apart t u) = P t × P u

abbrev pub OfRule : (Tree → Type 0) → NamedRule → Type 0
OfRule P q = AllByRecursion (OfPremise P) q.rule.premises × AllByRecursion P q.rule.conclusion.places

abbrev pub OfBody : (Tree → Type 0) → Option Tree → Type 0
OfBody P body = IfSome body P

-- a property that passes from a node to its kids, and that holds of what is read
module _ (r : Reader) (P : Tree → Type 0) (down : (label : ℕ) (ts : List Tree) → P (node label (forest ts)) → AllByRecursion P ts)
    (read : (sort : Sort) (text : Text) (old new : List Text) (t : Tree) → IsReadLine r.parts r.stems sort text old new t → P t) where
  said : (t : Tree) (q : Premise) → Says r t q → P t → OfPremise P q
  said t (holds j) h k = down _ j.places (subst P h.1 k)
  said t (apart u v) h k = let both = down _ (u ∷ v ∷ []) (subst P h.2 k) in (both.0, both.1.0)

  of_line : (text : Text) (old new : List Text) (q : Premise) → IsLine r text old new q → OfPremise P q
  of_line text old new q h = said h.term q h.says (read (judgements r.parts) text old new h.term h.read)

  of_premises : (ls : List Numbered) (old new : List Text) (qs : List Premise) → ArePremises r ls old new qs → AllByRecursion (OfPremise P) qs
  of_premises [] old new [] h = tt
  of_premises [] old new (q ∷ qs) h = absurd h
  of_premises (l ∷ ls) old new [] h = absurd h
  of_premises (l ∷ ls) old new (q ∷ qs) h = (of_line l.text old h.0 q h.1, of_premises ls h.0 new qs h.2)

  of_body : (line : Option Numbered) (subject : Option Sort) (old new : List Text) (body : Option Tree) → IsRuleBody r line subject old new body → OfBody P body
  of_body None subject old new body h = subst (OfBody P) (sym h.1) tt
  of_body (Some l) None old new body h = subst (OfBody P) (sym h.1) tt
  of_body (Some l) (Some sort) old new None h = absurd h
  of_body (Some l) (Some sort) old new (Some t) h = read sort l.text old new t h

  of_rule : (l : RuleData) (n : List Text) (q : NamedRule) (b : Option Tree) → IsRule r l n q b → OfRule P q
  of_rule l n q b h = (
    of_premises l.premises [] h.stated.middle q.rule.premises h.stated.premises,
    of_line l.conclusion.text h.stated.middle h.stated.last (holds q.rule.conclusion) h.stated.conclusion,
  )

  pub of_rules : (ls : List RuleData) (names : List (List Text)) (qs : List NamedRule) (bs : List (Option Tree)) → AreRules r ls names qs bs →
      AllByRecursion (OfRule P) qs × AllByRecursion (OfBody P) bs
  of_rules [] [] [] [] h = (tt, tt)
  of_rules [] [] [] (b ∷ bs) h = absurd h
  of_rules [] [] (q ∷ qs) bs h = absurd h
  of_rules [] (n ∷ ns) qs bs h = absurd h
  of_rules (l ∷ ls) [] qs bs h = absurd h
  of_rules (l ∷ ls) (n ∷ ns) [] bs h = absurd h
  of_rules (l ∷ ls) (n ∷ ns) (q ∷ qs) [] h = absurd h
  of_rules (l ∷ ls) (n ∷ ns) (q ∷ qs) (b ∷ bs) h =
      let rest = of_rules ls ns qs bs h.1 in
      let body = of_body l.body (subject_sort r.forms q.rule.conclusion.form) h.0.stated.last n b h.0.stated.bodied in
      ((of_rule l n q b h.0, rest.0), (body, rest.1))

-- ---- depth

abbrev pub IsShallow : Tree → Type 0
IsShallow t = depth_of t ≤ 1000

shallow_kids : (ts : List Tree) → greatest_depth (forest ts) ≤ 1000 → AllByRecursion IsShallow ts
shallow_kids [] h = tt
shallow_kids (t ∷ ts) h =
    let left : depth_of t ≤ max (depth_of t) (greatest_depth (forest ts)) = le-max_left (depth_of t) (greatest_depth (forest ts)) in
    let right : greatest_depth (forest ts) ≤ max (depth_of t) (greatest_depth (forest ts)) = le-max_right (depth_of t) (greatest_depth (forest ts)) in
    (omega (arith, left, h), shallow_kids ts (omega (arith, right, h)))

shallow_down : (label : ℕ) (ts : List Tree) → IsShallow (node label (forest ts)) → AllByRecursion IsShallow ts
shallow_down label ts h = shallow_kids ts (omega (arith, h))

are_shallow : (ts : List Tree) → AllByRecursion IsShallow ts → AreShallow ts
are_shallow [] h = tt
are_shallow (t ∷ ts) h = (h.0, are_shallow ts h.1)

premises_shallow : (qs : List Premise) → AllByRecursion (OfPremise IsShallow) qs → PremisesAreShallow qs
premises_shallow [] h = tt
premises_shallow (holds j ∷ qs) h = (are_shallow j.places h.0, premises_shallow qs h.1)
premises_shallow (apart t u ∷ qs) h = (h.0, premises_shallow qs h.1)

bare_shallow : (qs : List NamedRule) → AllByRecursion (OfRule IsShallow) qs → RulesAreShallow (map (λ q. q.rule) qs)
bare_shallow [] h = tt
bare_shallow (q ∷ qs) h = ((are_shallow q.rule.conclusion.places h.0.1, premises_shallow q.rule.premises h.0.0), bare_shallow qs h.1)

pub rules_shallow : (r : Reader) (ls : List RuleData) (names : List (List Text)) (qs : List NamedRule) (bs : List (Option Tree)) → AreRules r ls names qs bs →
    RulesAreShallow (map (λ q. q.rule) qs) × AllByRecursion (OfBody IsShallow) bs
rules_shallow r ls names qs bs h = let all = of_rules r IsShallow shallow_down (reads_are_shallow r.parts r.stems) ls names qs bs h in (bare_shallow qs all.0, all.1)

-- ---- lexemes

lexemes_kids : (few : List Text) (ts : List Tree) → HaveLexemes few (forest ts) → AllByRecursion (HasLexemes few) ts
lexemes_kids few [] h = tt
lexemes_kids few (t ∷ ts) h = (h.0, lexemes_kids few ts h.1)

-- tokens that are none of the literals are none of fewer literals
module _ (many few : List Text) (inside : (text : Text) → Contains few text → ¬ (¬ (Contains many text))) where
  mutual
    fewer : (t : Tree) → HasLexemes many t → HasLexemes few t
    fewer (node label kids) h = fewer_kids kids h
    fewer (lexeme Id text) h = (λ has. inside text has h.0, h.1)
    fewer (lexeme Num text) h = h
    fewer (lexeme Str text) h = h
    fewer (hole v) h = tt

    fewer_kids : (ts : Trees) → HaveLexemes many ts → HaveLexemes few ts
    fewer_kids none h = tt
    fewer_kids (t ▹ ts) h = (fewer t h.0, fewer_kids ts h.1)

lexical_premise : (few : List Text) (qs : List Premise) → AllByRecursion (OfPremise (HasLexemes few)) qs → AllByRecursion (PremiseHasLexemes few) qs
lexical_premise few [] h = tt
lexical_premise few (holds j ∷ qs) h = (h.0, lexical_premise few qs h.1)
lexical_premise few (apart t u ∷ qs) h = (h.0, lexical_premise few qs h.1)

lexical_rules : (few : List Text) (qs : List NamedRule) → AllByRecursion (OfRule (HasLexemes few)) qs → AllByRecursion (RuleHasLexemes few) qs
lexical_rules few [] h = tt
lexical_rules few (q ∷ qs) h = (record { premises = lexical_premise few q.rule.premises h.0.0; conclusion = h.0.1 }, lexical_rules few qs h.1)

pub rules_lexical : (p : Parts) (fs : List FormLine) (r : Reader) (ls : List RuleData) (names : List (List Text)) (qs : List NamedRule) (bs : List (Option Tree)) → r.parts ≡ rule_parts p fs →
    AreRules r ls names qs bs → AllByRecursion (RuleHasLexemes (literals_of p)) qs × AllByRecursion (OfBody (HasLexemes (literals_of p))) bs
rules_lexical p fs r ls names qs bs same h =
    let inside : (text : Text) → Contains (literals_of p) text → ¬ (¬ (Contains (literals_of r.parts) text)) =
    λ text has. distinct_has (literals r.parts) text (subst (λ x. Contains (literals x) text) (sym same) (literal_stays p fs text (distinct_from (literals p) text has))) in
    let all = of_rules r (HasLexemes (literals_of p)) (λ label ts k. lexemes_kids (literals_of p) ts k)
    (λ sort text old new t k. fewer (literals_of r.parts) (literals_of p) inside t (reads_have_lexemes r.parts r.stems sort text old new t k)) ls names qs bs h in
    (lexical_rules (literals_of p) qs all.0, all.1)

-- ---- names

-- the rules have the names of their lines
pub rule_names : (r : Reader) (ls : List RuleData) (names : List (List Text)) (qs : List NamedRule) (bs : List (Option Tree)) → AreRules r ls names qs bs → map (λ q. q.name) qs ≡ map (λ l. l.name) ls
rule_names r [] [] [] [] h = refl
rule_names r [] [] [] (b ∷ bs) h = absurd h
rule_names r [] [] (q ∷ qs) bs h = absurd h
rule_names r [] (n ∷ ns) qs bs h = absurd h
rule_names r (l ∷ ls) [] qs bs h = absurd h
rule_names r (l ∷ ls) (n ∷ ns) [] bs h = absurd h
rule_names r (l ∷ ls) (n ∷ ns) (q ∷ qs) [] h = absurd h
rule_names r (l ∷ ls) (n ∷ ns) (q ∷ qs) (b ∷ bs) h = λ i. h.0.name i ∷ rule_names r ls ns qs bs h.1 i

-- ---- bodies

-- lines without bodies state rules without bodies
pub none_bodied : (r : Reader) (ls : List RuleData) (names : List (List Text)) (qs : List NamedRule) (bs : List (Option Tree)) → AllByRecursion (λ l. l.body ≡ None) ls → AreRules r ls names qs bs →
    AreBareRules r ls names qs
none_bodied r [] [] [] [] bare h = tt
none_bodied r [] [] [] (b ∷ bs) bare h = absurd h
none_bodied r [] [] (q ∷ qs) bs bare h = absurd h
none_bodied r [] (n ∷ ns) qs bs bare h = absurd h
none_bodied r (l ∷ ls) [] qs bs bare h = absurd h
none_bodied r (l ∷ ls) (n ∷ ns) [] bs bare h = absurd h
none_bodied r (l ∷ ls) (n ∷ ns) (q ∷ qs) [] bare h = absurd h
none_bodied r (l ∷ ls) (n ∷ ns) (q ∷ qs) (b ∷ bs) bare h =
    let subject = subject_sort r.forms q.rule.conclusion.form in
    let read = subst (λ (o : Option Numbered). IsRuleBody r o subject h.0.stated.last n b) bare.0 h.0.stated.bodied in
    (subst (λ (o : Option Tree). IsRule r l n q o) read.1 h.0, none_bodied r ls ns qs bs bare.1 h.1)

pub rules_are_usable : RulesAreUsable
rules_are_usable = record {
  lexemes = λ p fs r ls ns qs bs same h. rules_lexical p fs r ls ns qs bs same h;
  shallow = rules_shallow;
}
