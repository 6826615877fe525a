-- Refusals of an extension file, step by step.
use Rattle.std.proofs.Common.{◌≡◌, ◌++◌, ◌⊎◌, inl, inr, Option, List, [], ◌∷◌, map, length, Ok}
use Rattle.std.proofs.Common.{refl, ap, ◌∙◌, sym, subst}
use Rattle.sx_grammar.specs.Grammar.{Text}
use Rattle.sx_grammar.specs.Parts.{Parts}
use Rattle.sx_grammar.specs.Told.{shapes_of}
use Rattle.sx_rules.specs.declared.error.RuleError.{RuleError}
use Rattle.sx_rules.specs.declared.error.RuleError.TheVariants as rules
use Rattle.sx_rules.specs.Good.{IsRuleSet, IsRuleSetRefused as IsNoSet}
use Rattle.sx_plain.specs.declared.table.PlainTable.{PlainTable}
use Rattle.sx_outline.specs.declared.rule_lines.RuleLines.{RuleLines}
use Rattle.sx_outline.specs.Stages.{PlainData, RuleData, plain_data, rule_data}
use Rattle.sx_outline.specs.ExtensionOutlined.{ExtensionOutlineData}
use Rattle.sx_notation.specs.declared.notation_error.NotationError.{NotationError}
use Rattle.sx_notation.specs.declared.notation_error.NotationError.TheVariants.{Memory, NotUtf8}
use Rattle.sx_notation.specs.declared.notation_error.NotationError.TheVariants.{Notation, Token}
use Rattle.sx_notation.specs.declared.notation_error.NotationError.TheVariants.{Grammar, Read}
use Rattle.sx_notation.specs.declared.notation_error.NotationError.TheVariants.{Rules}
use Rattle.sx_language.specs.Prepared.{IsReason}
use Rattle.sx_language.specs.RuleLine.{Reader}
use Rattle.sx_language.specs.RuleTexts.{AreRules, IsFirstBadRule, OrMemory}
use Rattle.sx_language.specs.States.{name_unbound}
use Rattle.sx_language.proofs.Stating.{IsLineError, rules_kind}
use Rattle.sx_language.proofs.UsableRules.{rule_names}
use Rattle.sx_extension.specs.declared.body_defect.BodyDefect.{BodyDefect}
use Rattle.sx_extension.specs.declared.body_defect.BodyDefect.TheVariants as defect
use Rattle.sx_extension.specs.declared.extension_error.ExtensionError.{ExtensionError}
use Rattle.sx_extension.specs.declared.extension_error.ExtensionError.TheVariants as extension
use Rattle.sx_extension.specs.declared.prepared.Prepared.{Prepared}
use Rattle.sx_extension.specs.declared.read_texts.ReadTexts.{ReadTexts}
use Rattle.sx_extension.specs.declared.table_error.TableError.{TableError}
use Rattle.sx_extension.specs.declared.table_error.TableError.TheVariants as table
use Rattle.sx_extension.specs.Bodies.{AreBodied}
use Rattle.sx_extension.specs.BodyRefusals.{IsBodyRefusal, HaveBadBody}
use Rattle.sx_extension.specs.Checks.{IsNotationRefusal, HaveRuleSet, HaveTable, HaveNoRuleSet}
use Rattle.sx_extension.specs.Checks.{AreUnchecked, HaveBodies, HaveBodyDefect}
use Rattle.sx_extension.specs.Grounds.{Ground}
use Rattle.sx_extension.specs.PlainBodies.{BodyData}
use Rattle.sx_extension.specs.PlainTables.{IsTableMade}
use Rattle.sx_extension.specs.Readings.{Texts, with_own, tables, ArePlainsRead, IsFirstBadPlain}
use Rattle.sx_extension.specs.ReadTexts.{read_texts, AreTextsOf, AreBadTextsOf}
use Rattle.sx_extension.specs.Stages.{reader_of, IsUnprepared, IsPreparedExtension, IsSetRefusal}
use Rattle.sx_extension.specs.Stages.{IsNoTable}
use Rattle.sx_extension.specs.States.{IsExtensionTextRead, HasTexts, HasRuleSet, HasTable, RulesHaveBodies}
use Rattle.sx_extension.specs.States.{HasBadText, IsNoExtendedRules, HasNoExtendedRuleSet, HasNoTable}
use Rattle.sx_extension.specs.States.{HasBodyDefect, IsBadNotation, IsExtensionTextRefused}
use Rattle.sx_extension.specs.TableRefusals.{IsTableRefusal}
use Rattle.sx_extension.proofs.LineErrors.{plains_kind}

-- memory is not what is lacking
abbrev IsKnown : NotationError → Type 0
IsKnown Memory = ⊥
IsKnown _ = Unit {0}

-- one of the refusals of a plain table
abbrev IsTableKind : ExtensionError → Type 0
IsTableKind extension.Memory = Unit {0}
IsTableKind (extension.Plain label d) = Unit {0}
IsTableKind (extension.NoPlain label) = Unit {0}
IsTableKind _ = ⊥

table_kind : (p : Parts) (ls : List PlainData) (e : TableError) (x : ExtensionError) →
    IsTableRefusal p ls e x → IsTableKind x
table_kind p ls table.Memory x h = subst IsTableKind (sym h) tt
table_kind p ls (table.Plain n e) extension.Memory h = tt
table_kind p ls (table.Plain n e) (extension.Plain label d) h = tt
table_kind p ls (table.Plain n e) (extension.NoPlain label) h = tt
table_kind p ls (table.Plain n e) (extension.Notation x) h = absurd h.2
table_kind p ls (table.Plain n e) (extension.NoBody rule) h = absurd h.2
table_kind p ls (table.Plain n e) (extension.BodySort rule) h = absurd h.2
table_kind p ls (table.Plain n e) (extension.BodyExtended rule) h = absurd h.2
table_kind p ls (table.NoPlain n) extension.Memory h = tt
table_kind p ls (table.NoPlain n) (extension.Plain label d) h = tt
table_kind p ls (table.NoPlain n) (extension.NoPlain label) h = tt
table_kind p ls (table.NoPlain n) (extension.Notation x) h = absurd h
table_kind p ls (table.NoPlain n) (extension.NoBody rule) h = absurd h
table_kind p ls (table.NoPlain n) (extension.BodySort rule) h = absurd h
table_kind p ls (table.NoPlain n) (extension.BodyExtended rule) h = absurd h

-- one of the refusals of a body
abbrev IsBodyKind : ExtensionError → Type 0
IsBodyKind extension.Memory = Unit {0}
IsBodyKind (extension.NoBody rule) = Unit {0}
IsBodyKind (extension.BodySort rule) = Unit {0}
IsBodyKind (extension.BodyExtended rule) = Unit {0}
IsBodyKind _ = ⊥

body_kind : (rule : Text) (d : BodyDefect) (x : ExtensionError) → IsBodyRefusal rule d x →
    IsBodyKind x
body_kind rule d extension.Memory h = tt
body_kind rule d (extension.NoBody name) h = tt
body_kind rule d (extension.BodySort name) h = tt
body_kind rule d (extension.BodyExtended name) h = tt
body_kind rule defect.NoBody (extension.Notation e) h = absurd h
body_kind rule defect.BodySort (extension.Notation e) h = absurd h
body_kind rule defect.BodyExtended (extension.Notation e) h = absurd h
body_kind rule defect.NoBody (extension.Plain label e) h = absurd h
body_kind rule defect.BodySort (extension.Plain label e) h = absurd h
body_kind rule defect.BodyExtended (extension.Plain label e) h = absurd h
body_kind rule defect.NoBody (extension.NoPlain label) h = absurd h
body_kind rule defect.BodySort (extension.NoPlain label) h = absurd h
body_kind rule defect.BodyExtended (extension.NoPlain label) h = absurd h

lines_named : (ls : List RuleLines) → map (λ l. l.name) ls ≡ map (λ l. l.name) (map rule_data ls)
lines_named [] = refl
lines_named (l ∷ ls) = ap (λ z. l.name ∷ z) (lines_named ls)

-- why the rules are no rule set, where memory is not why
no_rules : (g : Ground) (o : ExtensionOutlineData) (x : Texts) (e : RuleError) → IsReason e →
    IsNoSet (shapes_of (with_own g o.productions)) g.forms (g.rules ++ x.rules) e →
    IsNoExtendedRules g o x e
no_rules g o x rules.Memory r m = absurd r
no_rules g o x rules.TooManyRules r m = m
no_rules g o x (rules.TooManyVars t) r m = m
no_rules g o x (rules.SameRule t) r m = m
no_rules g o x (rules.SortDiffers t) r m = m
no_rules g o x (rules.Discipline t a b) r m = m
no_rules g o x (rules.NotModed t v) r m = m

-- the first bad line of these plain bodies is refused, or they are read and that of these rules is
abbrev IsBad : Reader → NotationError → Parts → List PlainData → List RuleData → Type 0
IsBad r e p ls rs =
    IsFirstBadPlain p (tables r) ls e ⊎ ((bs : List BodyData) × ArePlainsRead p (tables r) ls bs ×
    IsFirstBadRule r rs e)

module _ (g : Ground) (bytes : Text) where
  -- a refusal of notation is one of the extension
  told : (e : NotationError) (y : ExtensionError) → OrMemory (IsBadNotation g bytes) e →
      IsNotationRefusal e y → IsExtensionTextRefused g bytes y
  told Memory y h same = subst (IsExtensionTextRefused g bytes) (sym same) tt
  told (NotUtf8 place) y h same = subst (IsExtensionTextRefused g bytes) (sym same) h
  told (Notation line kind) y h same = subst (IsExtensionTextRefused g bytes) (sym same) h
  told (Token line e) y h same = subst (IsExtensionTextRefused g bytes) (sym same) h
  told (Grammar e) y h same = subst (IsExtensionTextRefused g bytes) (sym same) h
  told (Read line e) y h same = subst (IsExtensionTextRefused g bytes) (sym same) h
  told (Rules e v) y h same = subst (IsExtensionTextRefused g bytes) (sym same) h

  no_lines : (e : NotationError) → IsUnprepared g bytes e → OrMemory (IsBadNotation g bytes) e
  no_lines Memory h = tt
  no_lines (NotUtf8 place) h = h
  no_lines (Notation line kind) h = inl h
  no_lines (Token line e) h = absurd h
  no_lines (Grammar e) h = record { outline = h.0; outlined = h.1; refused = h.2 }
  no_lines (Read line e) h = absurd h
  no_lines (Rules e v) h = absurd h

  -- a text that is not prepared is refused
  pub unprepared : (e : NotationError) (y : ExtensionError) → IsUnprepared g bytes e →
      IsNotationRefusal e y → IsExtensionTextRefused g bytes y
  unprepared e y h same = told e y (no_lines e h) same

  module _ (x : Prepared) (h : IsPreparedExtension g bytes x) where
    parts_are : x.grammar.parts ≡ with_own g h.from.productions
    parts_are = h.readable.grammars.parts

    bad_text : (e : NotationError) → AreBadTextsOf g x e → HasBadText g bytes e
    bad_text e b =
        let r = reader_of g x in
        let by_parts = subst (λ (p : Parts). IsBad r e p (map plain_data x.plains.items)
        (map rule_data x.rules.items)) parts_are b in
        let by_plains = subst (λ (ls : List PlainData). IsBad r e (with_own g h.from.productions)
        ls (map rule_data x.rules.items)) h.plains by_parts in
        record {
          outline = h.from;
          grammar = x.grammar;
          by_rules = x.rule_grammar;
          reader = r;
          readable = h.readable;
          refused = subst (λ (ls : List RuleData). IsBad r e (with_own g h.from.productions)
              h.from.plains ls) h.rules by_plains;
        }

    line_error : (e : NotationError) → AreBadTextsOf g x e → IsLineError e
    line_error e (inl b) = plains_kind x.grammar.parts (tables (reader_of g x))
        (map plain_data x.plains.items) e b
    line_error e (inr b) = rules_kind (reader_of g x) (map rule_data x.rules.items) e b.2

    bad_line : (e : NotationError) → OrMemory (AreBadTextsOf g x) e →
        OrMemory (IsBadNotation g bytes) e
    bad_line Memory b = tt
    bad_line (NotUtf8 place) b = absurd (line_error (NotUtf8 place) b)
    bad_line (Notation n k) b = inr (bad_text (Notation n k) b)
    bad_line (Token n e) b = bad_text (Token n e) b
    bad_line (Grammar e) b = absurd (line_error (Grammar e) b)
    bad_line (Read n e) b = bad_text (Read n e) b
    bad_line (Rules e v) b = absurd (line_error (Rules e v) b)

    -- a text whose lines are not read is refused
    pub unread : (e : NotationError) (y : ExtensionError) → OrMemory (AreBadTextsOf g x) e →
        IsNotationRefusal e y → IsExtensionTextRefused g bytes y
    unread e y b same = told e y (bad_line e b) same

    module _ (t : ReadTexts) (read : AreTextsOf g x t) where
      pub read_as : IsExtensionTextRead g bytes h.from x.grammar x.rule_grammar (read_texts t)
      read_as =
          let r = reader_of g x in
          let ts = read_texts t in
          record {
            reader = r;
            readable = h.readable;
            read = record {
              plains = subst (λ (ls : List PlainData). ArePlainsRead
                  (with_own g h.from.productions) (tables r) ls ts.plains) h.plains
                  (subst (λ (p : Parts). ArePlainsRead p (tables r) (map plain_data x.plains.items)
                  ts.plains) parts_are read.plains);
              rules = subst (λ (ls : List RuleData). AreRules r ls ts.names ts.rules ts.bodies)
                  h.rules read.rules;
            };
          }

      has_texts : HasTexts g bytes h.from (read_texts t)
      has_texts = record { grammar = x.grammar; by_rules = x.rule_grammar; read = read_as }

      pub rule_set : HaveRuleSet g x t → HasRuleSet g h.from (read_texts t)
      rule_set s = subst (λ (p : Parts). IsRuleSet (shapes_of p) g.forms
          (g.rules ++ (read_texts t).rules)) parts_are s

      pub has_table : (plain : PlainTable) → HaveTable g x t plain →
          HasTable g h.from (read_texts t) plain
      has_table plain s = subst (λ (p : Parts). IsTableMade g.base (shapes_of p) (length g.shapes)
          g.table (read_texts t).plains (Ok plain)) parts_are s

      pub bodied : HaveBodies g x t → RulesHaveBodies g h.from (read_texts t)
      bodied s =
          subst (λ (ls : List RuleData). AreBodied g.forms
          (shapes_of (with_own g h.from.productions)) (length g.shapes) ls (read_texts t).rules
          (read_texts t).bodies) h.rules
          (subst (λ (p : Parts). AreBodied g.forms (shapes_of p) (length g.shapes)
          (map rule_data x.rules.items) (read_texts t).rules (read_texts t).bodies) parts_are s)

      no_set : (e : RuleError) (unbound : Option Text) → IsReason e →
          IsNoSet (shapes_of x.grammar.parts) g.forms (g.rules ++ (read_texts t).rules) e →
          unbound ≡ name_unbound (map (λ l. l.name) x.rules.items) (read_texts t).names e →
          HasNoExtendedRuleSet g bytes e unbound
      no_set e unbound reason m called =
          let ts = read_texts t in
          let same : map (λ l. l.name) x.rules.items ≡ map (λ q. q.name) ts.rules =
          lines_named x.rules.items ∙ sym (rule_names (reader_of g x)
          (map rule_data x.rules.items) ts.names ts.rules ts.bodies read.rules) in
          record {
            outline = h.from;
            texts = ts;
            read = has_texts;
            refused = no_rules g h.from ts e reason
                (subst (λ (p : Parts). IsNoSet (shapes_of p) g.forms (g.rules ++ ts.rules) e)
                parts_are m);
            named = called ∙ ap (λ l. name_unbound l ts.names e) same;
          }

      abbrev Refuses : NotationError → Type 0
      Refuses e = IsSetRefusal (shapes_of x.grammar.parts) g.forms (g.rules ++ (read_texts t).rules)
          (map (λ l. l.name) x.rules.items) (read_texts t).names e

      set_refused : (e : NotationError) → IsKnown e → Refuses e → IsBadNotation g bytes e
      set_refused e known (why, m, inl none) = absurd (subst IsKnown none known)
      set_refused e known (why, m, inr (reason, (unbound, is, called))) =
          subst (IsBadNotation g bytes) (sym is) (no_set why unbound reason m called)

      no_rule_set : (e : ExtensionError) → HaveNoRuleSet g x t e → IsExtensionTextRefused g bytes e
      no_rule_set extension.Memory s = tt
      no_rule_set (extension.Notation Memory) s = absurd s
      no_rule_set (extension.Notation (NotUtf8 place)) s = set_refused (NotUtf8 place) tt s
      no_rule_set (extension.Notation (Notation n k)) s = set_refused (Notation n k) tt s
      no_rule_set (extension.Notation (Token n e)) s = set_refused (Token n e) tt s
      no_rule_set (extension.Notation (Grammar e)) s = set_refused (Grammar e) tt s
      no_rule_set (extension.Notation (Read n e)) s = set_refused (Read n e) tt s
      no_rule_set (extension.Notation (Rules e v)) s = set_refused (Rules e v) tt s
      no_rule_set (extension.Plain label e) s = absurd s
      no_rule_set (extension.NoPlain label) s = absurd s
      no_rule_set (extension.NoBody rule) s = absurd s
      no_rule_set (extension.BodySort rule) s = absurd s
      no_rule_set (extension.BodyExtended rule) s = absurd s

      no_table : (e : ExtensionError) → HaveRuleSet g x t →
          IsNoTable g x.grammar.parts (map plain_data x.plains.items) (read_texts t).plains e →
          HasNoTable g bytes e
      no_table e s m = record {
        outline = h.from;
        texts = read_texts t;
        read = has_texts;
        rule_set = rule_set s;
        refused = subst (λ (ls : List PlainData). IsNoTable g (with_own g h.from.productions) ls
            (read_texts t).plains e) h.plains
            (subst (λ (p : Parts). IsNoTable g p (map plain_data x.plains.items)
            (read_texts t).plains e) parts_are m);
      }

      table_refused : (e : ExtensionError) → HaveRuleSet g x t →
          IsNoTable g x.grammar.parts (map plain_data x.plains.items) (read_texts t).plains e →
          IsExtensionTextRefused g bytes e
      table_refused extension.Memory s m = tt
      table_refused (extension.Notation e) s m = absurd
          (table_kind x.grammar.parts (map plain_data x.plains.items) m.0 (extension.Notation e)
          m.2)
      table_refused (extension.Plain label e) s m = no_table (extension.Plain label e) s m
      table_refused (extension.NoPlain label) s m = no_table (extension.NoPlain label) s m
      table_refused (extension.NoBody rule) s m = absurd
          (table_kind x.grammar.parts (map plain_data x.plains.items) m.0 (extension.NoBody rule)
          m.2)
      table_refused (extension.BodySort rule) s m =
          absurd (table_kind x.grammar.parts (map plain_data x.plains.items) m.0
          (extension.BodySort rule) m.2)
      table_refused (extension.BodyExtended rule) s m =
          absurd (table_kind x.grammar.parts (map plain_data x.plains.items) m.0
          (extension.BodyExtended rule) m.2)

      -- texts that make no rule set or no plain table are refused
      pub unchecked : (e : ExtensionError) → AreUnchecked g x t e → IsExtensionTextRefused g bytes e
      unchecked e (inl s) = no_rule_set e s
      unchecked e (inr s) = table_refused e s.0 s.1

      module _ (plain : PlainTable) (set : HaveRuleSet g x t) (made : HaveTable g x t plain) where
        abbrev BadBody : ExtensionError → Type 0
        BadBody e = HaveBadBody g.forms (shapes_of x.grammar.parts) (length g.shapes)
            (map rule_data x.rules.items) (read_texts t).rules (read_texts t).bodies e

        bad_body : (e : ExtensionError) → BadBody e → HasBodyDefect g bytes e
        bad_body e m = record {
          outline = h.from;
          texts = read_texts t;
          read = has_texts;
          rule_set = rule_set set;
          table = plain;
          has_table = has_table plain made;
          refused = subst (λ (ls : List RuleData). HaveBadBody g.forms
              (shapes_of (with_own g h.from.productions)) (length g.shapes) ls (read_texts t).rules
              (read_texts t).bodies e) h.rules
              (subst (λ (p : Parts). HaveBadBody g.forms (shapes_of p) (length g.shapes)
              (map rule_data x.rules.items) (read_texts t).rules (read_texts t).bodies e) parts_are
              m);
        }

        no_kind : (e : ExtensionError) → BadBody e → IsBodyKind e
        no_kind e m = body_kind m.lines.name m.defect e m.refused

        -- an extension with a body that is not as it should be is refused
        pub unbodied : (e : ExtensionError) → HaveBodyDefect g x t e → IsExtensionTextRefused g bytes e
        unbodied extension.Memory m = tt
        unbodied (extension.Notation e) m = absurd (no_kind (extension.Notation e) m)
        unbodied (extension.Plain label e) m = absurd (no_kind (extension.Plain label e) m)
        unbodied (extension.NoPlain label) m = absurd (no_kind (extension.NoPlain label) m)
        unbodied (extension.NoBody rule) m = bad_body (extension.NoBody rule) m
        unbodied (extension.BodySort rule) m = bad_body (extension.BodySort rule) m
        unbodied (extension.BodyExtended rule) m = bad_body (extension.BodyExtended rule) m
