-- An extension that is read and checked.
use Rattle.std.proofs.Common.{◌≡◌, ℕ, suc, ◌<◌, List, [], ◌∷◌, Option, map, length, Result, Ok}
use Rattle.std.proofs.Common.{Err, refl, ap, ◌∙◌, sym, subst, arith}
use Rattle.std.specs.Prelude.{option_map, IfOk}
use Rattle.std.proofs.lemmas.List.{length-map}
use Rattle.sx_term.specs.Term.{tree}
use Rattle.sx_term.specs.Tree.{Tree}
use Rattle.sx_grammar.specs.Grammar.{Text}
use Rattle.sx_grammar.specs.Tables.{GrammarData}
use Rattle.sx_grammar.specs.Told.{shapes_of}
use Rattle.sx_plain.specs.declared.table.PlainTable.{PlainTable}
use Rattle.sx_plain.specs.Tables.{Desugars}
use Rattle.sx_plain.specs.Views.{table_of}
use Rattle.sx_rules.specs.Views.{NamedRule, named}
use Rattle.sx_outline.specs.Stages.{RuleData, rule_data}
use Rattle.sx_language.specs.RuleLine.{Reader}
use Rattle.sx_language.specs.RuleTexts.{AreRules}
use Rattle.sx_extension.specs.declared.checked_texts.CheckedTexts.{CheckedTexts}
use Rattle.sx_extension.specs.declared.extension.ReadExtension.{ReadExtension}
use Rattle.sx_extension.specs.declared.prepared.Prepared.{Prepared}
use Rattle.sx_extension.specs.Checked.{HasCheckedRules, IsExtensionOf, IsReadFrom}
use Rattle.sx_extension.specs.Fitting.{FitsAfter}
use Rattle.sx_extension.specs.Grounds.{Ground, IsGroundBefore}
use Rattle.sx_extension.specs.ReadTexts.{read_texts, AreTextsOf}
use Rattle.sx_extension.specs.Stages.{reader_of, IsPreparedExtension}
use Rattle.sx_extension.specs.States.{IsExtensionTextRead, HasTable, IsExtensionIn}
use Rattle.sx_extension.proofs.Fitted.{prepared_fits}
use Rattle.sx_extension.proofs.Refusing.{read_as, rule_set, has_table, bodied}

-- there are as many bodies as rules
as_many : (r : Reader) (ls : List RuleData) (ns : List (List Text)) (qs : List NamedRule)
    (bs : List (Option Tree)) → AreRules r ls ns qs bs → length qs ≡ length bs
as_many r [] [] [] [] h = refl
as_many r (l ∷ ls) (n ∷ ns) (q ∷ qs) (b ∷ bs) h = ap suc (as_many r ls ns qs bs h.1)
as_many r [] [] [] (b ∷ bs) h = absurd h
as_many r [] [] (q ∷ qs) bs h = absurd h
as_many r [] (n ∷ ns) qs bs h = absurd h
as_many r (l ∷ ls) [] qs bs h = absurd h
as_many r (l ∷ ls) (n ∷ ns) [] bs h = absurd h
as_many r (l ∷ ls) (n ∷ ns) (q ∷ qs) [] h = absurd h

module _ (g : Ground) (x : Prepared) (c : CheckedTexts) (read : AreTextsOf g x c.texts) where
  pub as_many_bodies : length c.texts.rules.rules.items ≡ length c.texts.rules.bodies.items
  as_many_bodies =
      let ts = read_texts c.texts in
      omega (
        arith,
        as_many (reader_of g x) (map rule_data x.rules.items) ts.names ts.rules
            ts.bodies read.rules,
        length-map c.texts.rules.rules.items named,
        length-map c.texts.rules.bodies.items (option_map tree),
      )

  module _ (before : IsGroundBefore g) (checked : HasCheckedRules g x c.texts c.plain) (bytes : Text)
      (h : IsPreparedExtension g bytes x) (y : ReadExtension) (is : IsExtensionOf x c y) where
    grammars : IsExtensionTextRead g bytes h.from y.grammar y.rule_grammar (read_texts c.texts)
    grammars =
        subst (λ (b : GrammarData). IsExtensionTextRead g bytes h.from y.grammar b (read_texts c.texts))
        (sym is.rule_grammar)
        (subst (λ (b : GrammarData). IsExtensionTextRead g bytes h.from b x.rule_grammar (read_texts c.texts))
        (sym is.grammar) (read_as g bytes x h c.texts read))

    stated : IsExtensionIn g bytes y
    stated = record {
      outline = h.from;
      texts = read_texts c.texts;
      read = grammars;
      name = is.name ∙ h.name;
      rules = is.rules;
      bodies = is.bodies;
      names = is.names;
      rule_set = rule_set g bytes x h c.texts read checked.rule_set;
      table = subst (λ (t : PlainTable). HasTable g h.from (read_texts c.texts) t) (sym is.plain)
          (has_table g bytes x h c.texts read c.plain checked.table);
      bodied = bodied g bytes x h c.texts read checked.bodied;
    }

    -- its plain table has an entry for each plain constructor that the language has not, and
    -- keeps those before it
    desugars : Desugars (shapes_of g.language) (shapes_of y.grammar.parts)
        (table_of y.extension.plain)
    desugars =
        subst (λ (b : GrammarData). Desugars (shapes_of g.language) (shapes_of b.parts)
        (table_of y.extension.plain)) (sym is.grammar)
        (subst (λ (t : PlainTable). Desugars (shapes_of g.language) (shapes_of x.grammar.parts)
        (table_of t)) (sym is.plain) checked.desugars)

    keeps : (label : ℕ) → label < length g.shapes →
        g.table label ≡ table_of y.extension.plain label
    keeps =
        subst (λ (t : PlainTable). (label : ℕ) → label < length g.shapes →
        g.table label ≡ table_of t label) (sym is.plain) checked.keeps

    -- the extension is stated, and fits what it was read after
    pub read_from : IsReadFrom g bytes y
    unfolding stated
    read_from = record {
      states = stated;
      fits = prepared_fits g before bytes y stated x h refl desugars keeps;
    }

-- what is read is stated
pub all_stated : (g : Ground) (bytes : Text) {E : Type 0} (r : Result ReadExtension E) →
    IfOk r (IsReadFrom g bytes) → IfOk r (IsExtensionIn g bytes)
all_stated g bytes (Ok x) h = h.states
all_stated g bytes (Err e) h = tt

-- and fits
pub all_fit : (g : Ground) (bytes : Text) {E : Type 0} (r : Result ReadExtension E) →
    IfOk r (IsReadFrom g bytes) → IfOk r (FitsAfter g)
all_fit g bytes (Ok x) h = h.fits
all_fit g bytes (Err e) h = tt
