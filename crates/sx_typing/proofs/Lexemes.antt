-- Lexemes of the outputs of derivations, and of what is accepted.
use Rattle.std.proofs.Common.{◌≡◌, ℕ, List, [], ◌∷◌, ◌++◌, ◌⊎◌, inl, inr, Contains, map, sym, subst}
use Rattle.std.specs.Prelude.{flat_map, IfSome, None, Option, Some}
use Rattle.std.specs.List.{AllByRecursion}
use Rattle.std.proofs.lemmas.Grind.{flat_map-append}
use Rattle.std.proofs.lemmas.List.Elements.{Contains-append_left, Contains-append_right}
use Rattle.std.proofs.lemmas.List.Elements.{Contains-append_cases}
use Rattle.sx_term.specs.declared.lex_kind.LexKind.TheVariants.{Id, Num, Str}
use Rattle.sx_term.specs.Tree.{Tree, Trees, node, lexeme, hole, none, ◌▹◌}
use Rattle.sx_grammar.specs.Grammar.{Text}
use Rattle.sx_grammar.specs.Extended.{extended}
use Rattle.sx_grammar.specs.Parts.{Line, Parts, literals, bracket_literals, symbol_literals}
use Rattle.sx_grammar.specs.Tables.{literals_of}
use Rattle.sx_grammar.proofs.DistinctLaws.{distinct_has, distinct_from}
use Rattle.sx_print.specs.Cut.{HasLexemes, HaveLexemes}
use Rattle.sx_rules.specs.Modes.{Goal}
use Rattle.sx_rules.specs.Rules.{Premise, holds, apart, Rule}
use Rattle.sx_rules.specs.Views.{NamedRule, modes_of}
use Rattle.sx_rules.proofs.Refusals.{good_moded}
use Rattle.sx_plain.specs.Plain.{Body, Table}
use Rattle.sx_rewrite.specs.Accepted.{ExtRule}
use Rattle.sx_lexemes.specs.Lexemes.{ExtLexemesAre, TableLexemesAre}
use Rattle.sx_lexemes.specs.Lexemes.{IsToken, LexemesAre, KidsLexemesAre, AllLexemesAre}
use Rattle.sx_lexemes.specs.Lexemes.{PremiseLexemesAre, RuleLexemesAre}
use Rattle.sx_lexemes.proofs.Derived.{derived_keep_lexemes}
use Rattle.sx_lexemes.proofs.Terms.{outputs_lexemes}
use Rattle.sx_notation.specs.Language.{PremiseHasLexemes, RuleHasLexemes}
use Rattle.sx_typing.specs.Outcomes.{nameless, OutputsHaveLexemes}
use Rattle.sx_rules.specs.Rules.{no_hypotheses}

-- ---- both words for it

module _ (literals : List Text) where
  mutual
    pub to_tokens : (t : Tree) → HasLexemes literals t → LexemesAre (IsToken literals) t
    to_tokens (node label kids) h = to_kids_tokens kids h
    to_tokens (lexeme kind text) h = h
    to_tokens (hole v) h = tt

    to_kids_tokens : (ts : Trees) → HaveLexemes literals ts → KidsLexemesAre (IsToken literals) ts
    to_kids_tokens none h = tt
    to_kids_tokens (t ▹ ts) h = (to_tokens t h.0, to_kids_tokens ts h.1)

  mutual
    pub from_tokens : (t : Tree) → LexemesAre (IsToken literals) t → HasLexemes literals t
    from_tokens (node label kids) h = from_kids_tokens kids h
    from_tokens (lexeme kind text) h = h
    from_tokens (hole v) h = tt

    from_kids_tokens : (ts : Trees) → KidsLexemesAre (IsToken literals) ts → HaveLexemes literals ts
    from_kids_tokens none h = tt
    from_kids_tokens (t ▹ ts) h = (from_tokens t h.0, from_kids_tokens ts h.1)

  pub all_to_tokens : (ts : List Tree) → AllByRecursion (HasLexemes literals) ts →
      AllLexemesAre (IsToken literals) ts
  all_to_tokens [] h = tt
  all_to_tokens (t ∷ ts) h = (to_tokens t h.0, all_to_tokens ts h.1)

  pub all_from_tokens : (ts : List Tree) → AllLexemesAre (IsToken literals) ts →
      AllByRecursion (HasLexemes literals) ts
  all_from_tokens [] h = tt
  all_from_tokens (t ∷ ts) h = (from_tokens t h.0, all_from_tokens ts h.1)

  premises_to_tokens : (ps : List Premise) → AllByRecursion (PremiseHasLexemes literals) ps →
      AllByRecursion (PremiseLexemesAre (IsToken literals)) ps
  premises_to_tokens [] h = tt
  premises_to_tokens (holds j ∷ ps) h = (all_to_tokens j.places h.0, premises_to_tokens ps h.1)
  premises_to_tokens (apart t u ∷ ps) h =
      ((to_tokens t h.0.0, to_tokens u h.0.1), premises_to_tokens ps h.1)

  premises_from_tokens : (ps : List Premise) →
      AllByRecursion (PremiseLexemesAre (IsToken literals)) ps →
      AllByRecursion (PremiseHasLexemes literals) ps
  premises_from_tokens [] h = tt
  premises_from_tokens (holds j ∷ ps) h =
      (all_from_tokens j.places h.0, premises_from_tokens ps h.1)
  premises_from_tokens (apart t u ∷ ps) h =
      ((from_tokens t h.0.0, from_tokens u h.0.1), premises_from_tokens ps h.1)

  pub rules_to_tokens : (rules : List NamedRule) → AllByRecursion (RuleHasLexemes literals) rules →
      AllByRecursion (RuleLexemesAre (IsToken literals)) (nameless rules)
  rules_to_tokens [] h = tt
  rules_to_tokens (r ∷ rules) h = (
    record {
      premises = premises_to_tokens r.rule.premises h.0.premises;
      conclusion =
          all_to_tokens r.rule.conclusion.places h.0.conclusion;
    },
    rules_to_tokens rules h.1,
  )

  -- rules whose lexemes are tokens, with their names
  pub rules_from_tokens : (rules : List NamedRule) →
      AllByRecursion (RuleLexemesAre (IsToken literals)) (nameless rules) →
      AllByRecursion (RuleHasLexemes literals) rules
  rules_from_tokens [] h = tt
  rules_from_tokens (r ∷ rules) h = (
    record {
      premises = premises_from_tokens r.rule.premises h.0.premises;
      conclusion =
          all_from_tokens r.rule.conclusion.places h.0.conclusion;
    },
    rules_from_tokens rules h.1,
  )

  may_to_tokens : (body : Option Tree) → IfSome body (HasLexemes literals) →
      IfSome body (LexemesAre (IsToken literals))
  may_to_tokens None h = tt
  may_to_tokens (Some t) h = to_tokens t h

  with_bodies : (es : List ExtRule) →
      AllByRecursion (RuleLexemesAre (IsToken literals)) (map (λ e. e.rule) es) →
      AllByRecursion (λ e. IfSome e.body (HasLexemes literals)) es →
      AllByRecursion (ExtLexemesAre (IsToken literals)) es
  with_bodies [] h k = tt
  with_bodies (e ∷ es) h k =
      (record { rule = h.0; body = may_to_tokens e.body k.0 }, with_bodies es h.1 k.1)

  -- extension rules with their bodies, where they are the rules with these names
  pub extension_to_tokens : (rules : List NamedRule) (es : List ExtRule) →
      nameless rules ≡ map (λ e. e.rule) es → AllByRecursion (RuleHasLexemes literals) rules →
      AllByRecursion (λ e. IfSome e.body (HasLexemes literals)) es →
      AllByRecursion (ExtLexemesAre (IsToken literals)) es
  extension_to_tokens rules es same h k =
      with_bodies es
      (subst (λ (rs : List Rule). AllByRecursion (RuleLexemesAre (IsToken literals)) rs) same
      (rules_to_tokens rules h)) k

  -- and a plain table
  pub table_to_tokens : (table : Table) →
      ((label : ℕ) (body : Body) → table label ≡ Some body → HasLexemes literals body.flat) →
      TableLexemesAre (IsToken literals) table
  table_to_tokens table h = λ label body e. to_tokens body.flat (h label body e)

-- ---- outputs

pub outputs_have_lexemes : OutputsHaveLexemes
outputs_have_lexemes literals shapes forms rules set have goal a g (j, is_goal, is_outs, d) =
    let modes = modes_of forms in
    let ins = subst (λ (x : Goal). AllLexemesAre (IsToken literals) x.terms) (sym is_goal)
    (all_to_tokens literals goal.terms g) in
    let all =
    derived_keep_lexemes literals modes (nameless rules) no_hypotheses
    (good_moded shapes forms [] rules set.1) (rules_to_tokens literals rules have) tt a.0 j d
    ins in
    let outs = outputs_lexemes (IsToken literals) (modes j.form) j.places all in
    all_from_tokens literals a.1 (subst (λ (ts : List Tree). AllLexemesAre (IsToken literals) ts)
    is_outs outs)

-- ---- fewer literals

-- tokens that are none of the literals are none of fewer literals
module _ (many few : List Text)
    (inside : (text : Text) → Contains few text → ¬ (¬ (Contains many text))) where
  mutual
    fewer : (t : Tree) → HasLexemes many t → HasLexemes few t
    fewer (node label kids) h = fewer_kids kids h
    fewer (lexeme Id text) h = (λ has. inside text has h.0, h.1)
    fewer (lexeme Num text) h = h
    fewer (lexeme Str text) h = h
    fewer (hole v) h = tt

    fewer_kids : (ts : Trees) → HaveLexemes many ts → HaveLexemes few ts
    fewer_kids none h = tt
    fewer_kids (t ▹ ts) h = (fewer t h.0, fewer_kids ts h.1)

module _ (p : Parts) (more : List Line) where
  abbrev in_sorts : List Text
  in_sorts = flat_map (λ s. bracket_literals s.brackets) p.sorts

  abbrev in_lines : List Line → List Text
  in_lines ls = flat_map (λ r. flat_map symbol_literals r.symbols) ls

  -- literals stay where productions are added
  literal_stays : (text : Text) → Contains (literals p) text →
      Contains (literals (extended p more)) text
  literal_stays text h = by (Contains-append_cases in_sorts (in_lines p.productions) text h)
    where
      by : Contains in_sorts text ⊎ Contains (in_lines p.productions) text →
          Contains (literals (extended p more)) text
      by (inl k) = Contains-append_left in_sorts (in_lines (p.productions ++ more)) text k
      by (inr k) =
          Contains-append_right in_sorts (in_lines (p.productions ++ more)) text
          (subst (λ (ts : List Text). Contains ts text)
          (sym (flat_map-append (λ r. flat_map symbol_literals r.symbols) p.productions more))
          (Contains-append_left (in_lines p.productions) (in_lines more) text k))

  -- what has no literals of a grammar with more productions as lexemes has none of the grammar's
  pub without_more : (t : Tree) → HasLexemes (literals_of (extended p more)) t →
      HasLexemes (literals_of p) t
  without_more t h =
      fewer (literals_of (extended p more)) (literals_of p)
      (λ text has. distinct_has (literals (extended p more)) text
      (literal_stays text (distinct_from (literals p) text has))) t h
