-- The lexemes of what an extension states are tokens, and no literals of the language.
use Rattle.std.proofs.Common.{◌≡◌, ℕ, ◌⊎◌, inl, inr, List, [], ◌∷◌, ◌++◌, Option, Some, None}
use Rattle.std.proofs.Common.{Contains, sym, subst}
use Rattle.std.specs.Prelude.{IfSome, flat_map}
use Rattle.std.specs.List.{AllByRecursion}
use Rattle.std.proofs.lemmas.Grind.{flat_map-append}
use Rattle.std.proofs.lemmas.List.Elements.{Contains-append_left, Contains-append_right}
use Rattle.std.proofs.lemmas.List.Elements.{Contains-append_cases}
use Rattle.sx_term.specs.declared.lex_kind.LexKind.TheVariants.{Id, Num, Str}
use Rattle.sx_term.specs.Tree.{Tree, Trees, node, lexeme, hole, none, ◌▹◌}
use Rattle.sx_grammar.specs.Grammar.{Text}
use Rattle.sx_grammar.specs.Parts.{Line, Parts, literals, symbol_literals}
use Rattle.sx_grammar.specs.Tables.{literals_of}
use Rattle.sx_grammar.specs.Extended.{extended}
use Rattle.sx_grammar.proofs.DistinctLaws.{distinct_has, distinct_from}
use Rattle.sx_print.specs.Cut.{HasLexemes, HaveLexemes}
use Rattle.sx_plain.specs.Plain.{Table}
use Rattle.sx_plain.specs.Views.{table_of}
use Rattle.sx_rules.specs.Rules.{Premise, holds, apart}
use Rattle.sx_rules.specs.Views.{NamedRule}
use Rattle.sx_directives.specs.declared.rows.FormLine.{FormLine}
use Rattle.sx_outline.specs.Stages.{PlainData, RuleData}
use Rattle.sx_rewrite.specs.declared.extension_data.ExtensionData.{ExtensionData}
use Rattle.sx_notation.specs.Language.{PremiseHasLexemes, RuleHasLexemes}
use Rattle.sx_notation.specs.RuleParts.{rule_parts}
use Rattle.sx_notation.proofs.AmongNames.{among_is_read}
use Rattle.sx_notation.proofs.ReadLexemes.{reads_have_lexemes}
use Rattle.sx_language.specs.RuleLine.{Reader}
use Rattle.sx_language.specs.RuleTexts.{AreRules}
use Rattle.sx_language.proofs.KnownForms.{literal_stays}
use Rattle.sx_language.proofs.UsableRules.{rules_lexical}
use Rattle.sx_extension.specs.Fitting.{ExtensionHasLexemes}
use Rattle.sx_extension.specs.PlainBodies.{BodyData}
use Rattle.sx_extension.specs.PlainTables.{AddsAll}
use Rattle.sx_extension.specs.Readings.{tables, ArePlainsRead}
use Rattle.sx_extension.proofs.FitFlats.{new_lexemes, flat_lexemes}
use Rattle.sx_extension.proofs.FitRules.{rules_of, bodies_of, each_body}
use Rattle.sx_extension.proofs.Rooms.{L, S}

-- ---- fewer literals

each_of : {X : Type 0} (P Q : X → Type 0) → ((x : X) → P x → Q x) → (xs : List X) →
    AllByRecursion P xs → AllByRecursion Q xs
each_of P Q f [] h = tt
each_of P Q f (x ∷ xs) h = (f x h.0, each_of P Q f xs h.1)

-- tokens that are none of the literals are none of fewer literals
module _ (many few : List Text) (inside : (text : Text) → Contains few text →
    ¬ (¬ (Contains many text))) where
  mutual
    fewer : (t : Tree) → HasLexemes many t → HasLexemes few t
    fewer (node label kids) h = fewer_kids kids h
    fewer (lexeme Id text) h = (λ has. inside text has h.0, h.1)
    fewer (lexeme Num text) h = h
    fewer (lexeme Str text) h = h
    fewer (hole v) h = tt

    fewer_kids : (ts : Trees) → HaveLexemes many ts → HaveLexemes few ts
    fewer_kids none h = tt
    fewer_kids (t ▹ ts) h = (fewer t h.0, fewer_kids ts h.1)

  fewer_premise : (q : Premise) → PremiseHasLexemes many q → PremiseHasLexemes few q
  fewer_premise (holds j) h = each_of (HasLexemes many) (HasLexemes few) fewer j.places h
  fewer_premise (apart t u) h = (fewer t h.0, fewer u h.1)

  fewer_rule : (q : NamedRule) → RuleHasLexemes many q → RuleHasLexemes few q
  fewer_rule q h = record {
    premises = each_of (PremiseHasLexemes many) (PremiseHasLexemes few) fewer_premise
        q.rule.premises h.premises;
    conclusion = each_of (HasLexemes many) (HasLexemes few) fewer q.rule.conclusion.places
        h.conclusion;
  }

  fewer_body : (b : Option Tree) → IfSome b (HasLexemes many) → IfSome b (HasLexemes few)
  fewer_body None h = tt
  fewer_body (Some t) h = fewer t h

-- ---- more productions

-- literals stay where productions are added
pub literal_kept : (p : Parts) (more : List Line) (text : Text) → Contains (literals p) text →
    Contains (literals (extended p more)) text
literal_kept p more text h = by (Contains-append_cases (S p) (L p.productions) text h)
  where
    by : Contains (S p) text ⊎ Contains (L p.productions) text →
        Contains (literals (extended p more)) text
    by (inl k) = Contains-append_left (S p) (L (p.productions ++ more)) text k
    by (inr k) =
        Contains-append_right (S p) (L (p.productions ++ more)) text
        (subst (λ (ts : List Text). Contains ts text)
        (sym (flat_map-append (λ r. flat_map symbol_literals r.symbols) p.productions more))
        (Contains-append_left (L p.productions) (L more) text k))

-- a literal is one of the distinct literals of parts that have all
distinct_inside : (few many : Parts) → ((text : Text) → Contains (literals few) text →
    Contains (literals many) text) → (text : Text) → Contains (literals_of few) text →
    ¬ (¬ (Contains (literals_of many) text))
distinct_inside few many kept text has = distinct_has (literals many) text
    (kept text (distinct_from (literals few) text has))

-- ---- what is read

module _ (few p : Parts) (kept : (text : Text) → Contains (literals few) text →
    Contains (literals p) text) (fs : List FormLine) (r : Reader)
    (same : r.parts ≡ rule_parts p fs) where
  kept_by_rules : (text : Text) → Contains (literals few) text → Contains (literals r.parts) text
  kept_by_rules text has = subst (λ (y : Parts). Contains (literals y) text) (sym same)
      (literal_stays p fs text (kept text has))

  plain_lexemes : (q : Parts) (ls : List PlainData) (bs : List BodyData) →
      ArePlainsRead q (tables r) ls bs → AllByRecursion (λ b. HasLexemes (literals_of few) b.term)
      bs
  plain_lexemes q [] [] h = tt
  plain_lexemes q [] (b ∷ bs) h = absurd h
  plain_lexemes q (l ∷ ls) [] h = absurd h
  plain_lexemes q (l ∷ ls) (b ∷ bs) h =
      let read = among_is_read r.parts r.stems h.0.sort l.body.text l.names b.term h.0.read in
      let all = reads_have_lexemes r.parts r.stems h.0.sort l.body.text l.names l.names b.term
      read in (
        fewer (literals_of r.parts) (literals_of few) (distinct_inside few r.parts kept_by_rules)
            b.term all,
        plain_lexemes q ls bs h.1,
      )

  -- so it is of the rules, their bodies and the flat bodies of an extension
  pub has_lexemes : (x : ExtensionData) (before : Table) (ls : List RuleData)
      (ns : List (List Text)) → AreRules r ls ns (rules_of x.rules.items)
      (bodies_of x.rules.items) →
      (q : Parts) (ps : List PlainData) (bs : List BodyData) → ArePlainsRead q (tables r) ps bs →
      (n : ℕ) → AddsAll n before bs (table_of x.plain) →
      ExtensionHasLexemes (literals_of few) before x
  has_lexemes x before ls ns rules q ps bs plains n adds =
      let es = x.rules.items in
      let all = rules_lexical p fs r ls ns (rules_of es) (bodies_of es) same rules in
      let inside = distinct_inside few p kept in
      let new = new_lexemes (literals_of few) before n (table_of x.plain) bs
      (plain_lexemes q ps bs plains) adds in
      record {
        rules = each_of (RuleHasLexemes (literals_of p)) (RuleHasLexemes (literals_of few))
            (fewer_rule (literals_of p) (literals_of few) inside) (rules_of es) all.0;
        bodies = each_body (HasLexemes (literals_of few)) es
            (each_of (λ b. IfSome b (HasLexemes (literals_of p)))
            (λ b. IfSome b (HasLexemes (literals_of few)))
            (fewer_body (literals_of p) (literals_of few) inside) (bodies_of es) all.1);
        new = new;
        flat = flat_lexemes (literals_of few) before (table_of x.plain) new;
      }
