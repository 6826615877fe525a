-- A text states one extension, or has one refusal, but for the two readings that it may show where
-- a line has more.
use Rattle.std.proofs.Common.{◌≡◌, ◌≢◌, ◌++◌, ◌⊎◌, inl, inr, length, map, refl, ap, ◌∙◌, sym}
use Rattle.std.specs.Prelude.{Option}
use Rattle.sx_grammar.specs.declared.grammar_error.GrammarError.{GrammarError}
use Rattle.sx_grammar.specs.Grammar.{Text}
use Rattle.sx_grammar.specs.Tables.{GrammarData}
use Rattle.sx_grammar.specs.Told.{shapes_of}
use Rattle.sx_plain.specs.declared.table.PlainTable.{PlainTable}
use Rattle.sx_plain.specs.Views.{table_of}
use Rattle.sx_rules.specs.declared.error.RuleError.{RuleError}
use Rattle.sx_rules.proofs.Refusals.{one_refusal, not_refused}
use Rattle.sx_outline.specs.declared.outline_error.OutlineError.{OutlineError}
use Rattle.sx_outline.specs.declared.outline_error.OutlineError.TheVariants as outlines
use Rattle.sx_outline.specs.ExtensionOutlined.{ExtensionOutlineData}
use Rattle.sx_notation.specs.declared.notation_error.NotationError.{NotationError}
use Rattle.sx_notation.specs.declared.notation_error.NotationError.TheVariants as notation
use Rattle.sx_language.specs.RuleLine.{Reader}
use Rattle.sx_language.specs.States.{name_unbound}
use Rattle.sx_language.proofs.OneLine.{Alike, alike_so}
use Rattle.sx_language.proofs.Stepwise.{AreAlike, Step, step_alike, step_none}
use Rattle.sx_extension.specs.declared.extension_error.ExtensionError.{ExtensionError}
use Rattle.sx_extension.specs.declared.extension_error.ExtensionError.TheVariants.{Memory}
use Rattle.sx_extension.specs.declared.extension_error.ExtensionError.TheVariants.{Notation, Plain}
use Rattle.sx_extension.specs.declared.extension_error.ExtensionError.TheVariants.{NoPlain, NoBody}
use Rattle.sx_extension.specs.declared.extension_error.ExtensionError.TheVariants.{BodySort}
use Rattle.sx_extension.specs.declared.extension_error.ExtensionError.TheVariants.{BodyExtended}
use Rattle.sx_extension.specs.declared.extension.ReadExtension.{ReadExtension}
use Rattle.sx_extension.specs.Grounds.{Ground}
use Rattle.sx_extension.specs.Readings.{HasOutline, HasNoOutline, with_own}
use Rattle.sx_extension.specs.Readings.{IsExtensionReadable, Texts}
use Rattle.sx_extension.specs.States.{HasRuleSet, HasTable, IsExtensionIn, HasBadText}
use Rattle.sx_extension.specs.States.{HasNoGrammars}
use Rattle.sx_extension.specs.States.{HasTexts, HasNoExtendedRuleSet, HasNoTable, HasBodyDefect}
use Rattle.sx_extension.specs.States.{IsBadNotation, IsExtensionTextRefused}
use Rattle.sx_extension.specs.Alike.{TextsHaveThree, ExtensionHasThree, ShowOtherReadings}
use Rattle.sx_extension.specs.Laws.{SameExtension, OneExtension}
use Rattle.sx_extension.proofs.OneDefect.{table_refusal_one, table_or_refusal, bad_body_one}
use Rattle.sx_extension.proofs.OneDefect.{bodied_or_bad}
use Rattle.sx_extension.proofs.OneGround.{defect_one, outline_or_defect}
use Rattle.sx_extension.proofs.OneGround.{no_grammars_one, grammars_or_not}
use Rattle.sx_extension.proofs.OneStated.{no_rules, no_grammars_there, bad_there, no_rules_there}
use Rattle.sx_extension.proofs.OneStated.{no_table_there, bad_body_there, texts_outline}
use Rattle.sx_extension.proofs.OneStated.{texts_same, moved, text_has_three}
use Rattle.sx_extension.proofs.OneTable.{table_one}
use Rattle.sx_extension.proofs.OneTexts.{readable_grammar, readable_rules}
use Rattle.sx_extension.proofs.OneTexts.{bad_text_one, texts_or_bad}

module _ (g : Ground) (bytes : Text) where
  -- the same refusal, but for the two readings that it shows of a line that has more
  abbrev Same : ExtensionError → ExtensionError → Type 0
  Same e d = (e ≡ d) ⊎ ShowOtherReadings g bytes e d

  same_notation : (e d : ExtensionError) (x y : NotationError) → e ≡ Notation x →
      d ≡ Notation y → Alike (ExtensionHasThree g bytes) x y → Same e d
  same_notation e d x y h k (inl same) = inl (h ∙ ap Notation same ∙ sym k)
  same_notation e d x y h k (inr two) = inr (record
      { one = x; other = y; first = h; second = k; shown = two })

  -- ---- the refusals in order

  -- the refusal of lines that state no outline
  abbrev told : OutlineError → NotationError
  told outlines.Memory = notation.Memory
  told (outlines.NotUtf8 place) = notation.NotUtf8 place
  told (outlines.Notation line kind) = notation.Notation line kind

  abbrev ByLines : ExtensionError → Type 0
  ByLines e = (x : OutlineError) × (x ≢ outlines.Memory) × HasNoOutline g bytes x ×
      (e ≡ Notation (told x))

  abbrev ByGrammars : ExtensionError → Type 0
  ByGrammars e = (x : GrammarError) × (e ≡ Notation (notation.Grammar x)) × HasNoGrammars g bytes x

  abbrev ByTexts : ExtensionError → Type 0
  ByTexts e = (x : NotationError) × (x ≢ notation.Memory) × (e ≡ Notation x) × HasBadText g bytes x

  abbrev ByRules : ExtensionError → Type 0
  ByRules e = (x : RuleError) × (unbound : Option Text) × (e ≡ Notation (notation.Rules x unbound))
      × HasNoExtendedRuleSet g bytes x unbound

  abbrev ByTable : ExtensionError → Type 0
  ByTable e = (e ≢ Memory) × HasNoTable g bytes e

  abbrev ByBodies : ExtensionError → Type 0
  ByBodies e = (e ≢ Memory) × HasBodyDefect g bytes e

  -- what holds where none of the earlier is due
  abbrev IsOutlined : Type 0
  IsOutlined = (o : ExtensionOutlineData) × HasOutline g bytes o

  record HasReader : Type 0 where
    outline : ExtensionOutlineData
    grammar : GrammarData
    by_rules : GrammarData
    reader : Reader
    readable : IsExtensionReadable g bytes outline grammar by_rules reader

  record IsRead : Type 0 where
    outline : ExtensionOutlineData
    texts : Texts
    read : HasTexts g bytes outline texts

  record HasSet : Type 0 where
    outline : ExtensionOutlineData
    texts : Texts
    read : HasTexts g bytes outline texts
    rule_set : HasRuleSet g outline texts

  record IsTabled : Type 0 where
    outline : ExtensionOutlineData
    texts : Texts
    read : HasTexts g bytes outline texts
    table : PlainTable
    has_table : HasTable g outline texts table

  abbrev AfterSet : ExtensionError → Type 0
  AfterSet = Step ByTable IsTabled ByBodies

  abbrev AfterTexts : ExtensionError → Type 0
  AfterTexts = Step ByRules HasSet AfterSet

  abbrev AfterGrammars : ExtensionError → Type 0
  AfterGrammars = Step ByTexts IsRead AfterTexts

  abbrev AfterLines : ExtensionError → Type 0
  AfterLines = Step ByGrammars HasReader AfterGrammars

  abbrev IsDue : ExtensionError → Type 0
  IsDue = Step ByLines IsOutlined AfterLines

  -- ---- each refusal is due in one of these ways

  outlined_by : (o : ExtensionOutlineData) (x : Texts) → HasTexts g bytes o x → IsOutlined
  outlined_by o x h = (o, h.read.readable.outlined)

  reader_by : (o : ExtensionOutlineData) (x : Texts) → HasTexts g bytes o x → HasReader
  reader_by o x h = record {
    outline = o;
    grammar = h.grammar;
    by_rules = h.by_rules;
    reader = h.read.reader;
    readable = h.read.readable;
  }

  -- a refusal after the texts are read
  after_texts : (e : ExtensionError) (o : ExtensionOutlineData) (x : Texts) →
      HasTexts g bytes o x → AfterTexts e → IsDue e
  after_texts e o x h due = inr (
    outlined_by o x h,
    inr (reader_by o x h, inr (record { outline = o; texts = x; read = h }, due)),
  )

  by_lines : (x : OutlineError) → (x ≢ outlines.Memory) → HasNoOutline g bytes x →
      IsDue (Notation (told x))
  by_lines x n h = inl (x, n, h, refl)

  by_texts : (x : NotationError) → x ≢ notation.Memory → HasBadText g bytes x → IsDue (Notation x)
  by_texts x n h = inr (
    (h.outline, h.readable.outlined),
    inr (
      record {
        outline = h.outline;
        grammar = h.grammar;
        by_rules = h.by_rules;
        reader = h.reader;
        readable = h.readable;
      },
      inl (x, n, refl, h),
    ),
  )

  by_table : (e : ExtensionError) → e ≢ Memory → HasNoTable g bytes e → IsDue e
  by_table e n h =
      after_texts e h.outline h.texts h.read (inr (
        record { outline = h.outline; texts = h.texts; read = h.read; rule_set = h.rule_set },
        inl (n, h),
      ))

  by_bodies : (e : ExtensionError) → e ≢ Memory → HasBodyDefect g bytes e → IsDue e
  by_bodies e n h =
      after_texts e h.outline h.texts h.read
      (inr (
        record { outline = h.outline; texts = h.texts; read = h.read; rule_set = h.rule_set },
        inr (
          record {
            outline = h.outline;
            texts = h.texts;
            read = h.read;
            table = h.table;
            has_table = h.has_table;
          },
          (n, h),
        ),
      ))

  by_rules : (x : RuleError) (unbound : Option Text) → HasNoExtendedRuleSet g bytes x unbound →
      IsDue (Notation (notation.Rules x unbound))
  by_rules x unbound h = after_texts (Notation (notation.Rules x unbound)) h.outline h.texts h.read
      (inl (x, unbound, refl, h))

  by_notation : (x : NotationError) → IsBadNotation g bytes x → IsDue (Notation x)
  by_notation notation.Memory h = absurd h
  by_notation (notation.NotUtf8 place) h = by_lines (outlines.NotUtf8 place) (λ e. cc) h
  by_notation (notation.Notation line kind) (inl h) = by_lines (outlines.Notation line kind)
      (λ e. cc) h
  by_notation (notation.Notation line kind) (inr h) = by_texts (notation.Notation line kind)
      (λ e. cc) h
  by_notation (notation.Token line x) h = by_texts (notation.Token line x) (λ e. cc) h
  by_notation (notation.Grammar x) h = inr ((h.outline, h.outlined), inl (x, refl, h))
  by_notation (notation.Read line x) h = by_texts (notation.Read line x) (λ e. cc) h
  by_notation (notation.Rules x unbound) h = by_rules x unbound h

  -- memory is lacking, or the refusal is due
  memory_or_due : (e : ExtensionError) → IsExtensionTextRefused g bytes e → (e ≡ Memory) ⊎ IsDue e
  memory_or_due Memory h = inl refl
  memory_or_due (Notation x) h = inr (by_notation x h)
  memory_or_due (Plain label x) h = inr (by_table (Plain label x) (λ e. cc) h)
  memory_or_due (NoPlain label) h = inr (by_table (NoPlain label) (λ e. cc) h)
  memory_or_due (NoBody rule) h = inr (by_bodies (NoBody rule) (λ e. cc) h)
  memory_or_due (BodySort rule) h = inr (by_bodies (BodySort rule) (λ e. cc) h)
  memory_or_due (BodyExtended rule) h = inr (by_bodies (BodyExtended rule) (λ e. cc) h)

  due : (e : ExtensionError) → e ≢ Memory → IsExtensionTextRefused g bytes e → IsDue e
  due e n h = by (memory_or_due e h)
    where
      by : (e ≡ Memory) ⊎ IsDue e → IsDue e
      by (inl q) = absurd (n q)
      by (inr d) = d

  -- ---- and none of them where more is stated

  not_lines : (e : ExtensionError) → ByLines e → IsOutlined → ⊥
  not_lines e h o = outline_or_defect g bytes o.0 h.0 h.1 o.1 h.2

  not_grammars : (e : ExtensionError) → ByGrammars e → HasReader → ⊥
  not_grammars e h k =
      grammars_or_not g k.outline.productions k.grammar k.by_rules h.0 k.readable.grammars
      (no_grammars_there g bytes h.0 h.2 k.outline k.readable.outlined)

  not_texts : (e : ExtensionError) → ByTexts e → IsRead → ⊥
  not_texts e h k =
      let r = k.read in
      texts_or_bad (with_own g k.outline.productions) r.read.readable.grammars.is_grammar
      r.read.reader k.outline k.texts h.0 h.1 r.read.read
      (bad_there g bytes h.0 h.3 k.outline r.grammar r.by_rules r.read.reader r.read.readable)

  not_rules : (e : ExtensionError) → ByRules e → HasSet → ⊥
  not_rules e h k =
      let a : HasNoExtendedRuleSet g bytes h.0 h.1 = h.3 in
      (no_rules g a.outline a.texts h.0 a.refused).1
      (not_refused (shapes_of (with_own g k.outline.productions)) g.forms
      (g.rules ++ k.texts.rules) h.0 k.rule_set
      (no_rules_there g bytes h.0 h.1 a k.outline k.texts k.read))

  not_table : (e : ExtensionError) → ByTable e → IsTabled → ⊥
  not_table e h k =
      table_or_refusal g (with_own g k.outline.productions) k.outline.plains k.texts.plains k.table
      e h.0 k.has_table (no_table_there g bytes e h.1 k.outline k.texts k.read)

  -- ---- each is one

  lines_one : AreAlike Same ByLines
  lines_one e d h k = inl (h.3 ∙ ap (λ (x : OutlineError). Notation (told x))
      (defect_one g bytes h.0 k.0 h.1 k.1 h.2 k.2) ∙ sym k.3)

  grammars_one : AreAlike Same ByGrammars
  grammars_one e d h k =
      let b : HasNoGrammars g bytes k.0 = k.2 in
      let same = no_grammars_one g b.outline.productions h.0 k.0
      (no_grammars_there g bytes h.0 h.2 b.outline b.outlined) b.refused in
      inl (h.1 ∙ ap (λ (x : GrammarError). Notation (notation.Grammar x)) same ∙ sym k.1)

  bad_texts_one : AreAlike Same ByTexts
  bad_texts_one e d h k =
      let b : HasBadText g bytes k.0 = k.3 in
      let p = with_own g b.outline.productions in
      same_notation e d h.0 k.0 h.2 k.2
      (alike_so (TextsHaveThree p b.reader b.outline) (ExtensionHasThree g bytes)
      (text_has_three g bytes k.0 b) h.0 k.0
      (bad_text_one p b.readable.grammars.is_grammar b.reader b.outline h.0 k.0 h.1 k.1
      (bad_there g bytes h.0 h.3 b.outline b.grammar b.by_rules b.reader b.readable) b.refused))

  rules_one : AreAlike Same ByRules
  rules_one e d h k = inl (h.2 ∙ (λ i. Notation (notation.Rules (why i) (unbound i))) ∙ sym k.2)
    where
      a : HasNoExtendedRuleSet g bytes h.0 h.1
      a = h.3

      b : HasNoExtendedRuleSet g bytes k.0 k.1
      b = k.3

      why : h.0 ≡ k.0
      why =
          let other = no_rules g b.outline b.texts k.0 b.refused in
          one_refusal (shapes_of (with_own g b.outline.productions)) g.forms
          (g.rules ++ b.texts.rules) h.0 k.0
          (no_rules_there g bytes h.0 h.1 a b.outline b.texts b.read) other.0
          (no_rules g a.outline a.texts h.0 a.refused).1 other.1

      texts : a.texts ≡ b.texts
      texts = texts_same g bytes a.outline b.outline a.texts b.texts a.read b.read

      unbound : h.1 ≡ k.1
      unbound = a.named ∙ (λ i. name_unbound (map (λ q. q.name) ((texts i).rules))
          ((texts i).names) (why i)) ∙ sym b.named

  table_refusals_one : AreAlike Same ByTable
  table_refusals_one e d h k =
      let b : HasNoTable g bytes d = k.1 in
      inl (table_refusal_one g (with_own g b.outline.productions) b.outline.plains b.texts.plains e
      d h.0 k.0 (no_table_there g bytes e h.1 b.outline b.texts b.read) b.refused)

  bodies_one : AreAlike Same ByBodies
  bodies_one e d h k =
      let b : HasBodyDefect g bytes d = k.1 in
      inl
      (bad_body_one g.forms (shapes_of (with_own g b.outline.productions)) (length g.shapes)
      b.outline.rules b.texts.rules b.texts.bodies e d h.0 k.0
      (bad_body_there g bytes e h.1 b.outline b.texts b.read) b.refused)

  due_one : AreAlike Same IsDue
  due_one =
      step_alike ByLines IsOutlined AfterLines not_lines Same lines_one
      (step_alike ByGrammars HasReader AfterGrammars not_grammars Same grammars_one
      (step_alike ByTexts IsRead AfterTexts not_texts Same bad_texts_one
      (step_alike ByRules HasSet AfterSet not_rules Same rules_one
      (step_alike ByTable IsTabled ByBodies not_table Same table_refusals_one bodies_one))))

  -- ---- extensions

  -- the outline and the texts of an extension
  texts_of : (x : ReadExtension) (s : IsExtensionIn g bytes x) → HasTexts g bytes s.outline s.texts
  texts_of x s = record { grammar = x.grammar; by_rules = x.rule_grammar; read = s.read }

  none_due : (x : ReadExtension) → IsExtensionIn g bytes x → (e : ExtensionError) → IsDue e → ⊥
  none_due x s =
      let read = texts_of x s in
      step_none ByLines IsOutlined AfterLines not_lines (outlined_by s.outline s.texts read)
      (step_none ByGrammars HasReader AfterGrammars not_grammars (reader_by s.outline s.texts read)
      (step_none ByTexts IsRead AfterTexts not_texts
      (record { outline = s.outline; texts = s.texts; read = read })
      (step_none ByRules HasSet AfterSet not_rules
      (record { outline = s.outline; texts = s.texts; read = read; rule_set = s.rule_set })
      (step_none ByTable IsTabled ByBodies not_table
      (record {
        outline = s.outline;
        texts = s.texts;
        read = read;
        table = x.extension.plain;
        has_table = s.table;
      }) not_bodies))))
    where
      not_bodies : (e : ExtensionError) → ByBodies e → ⊥
      not_bodies e h =
          bodied_or_bad g.forms (shapes_of (with_own g s.outline.productions)) (length g.shapes)
          s.outline.rules s.texts.rules s.texts.bodies e s.bodied
          (bad_body_there g bytes e h.1 s.outline s.texts (texts_of x s))

  memory_alone : (x : ReadExtension) (e : ExtensionError) → IsExtensionIn g bytes x →
      (e ≡ Memory) ⊎ IsDue e → e ≡ Memory
  memory_alone x e s (inl h) = h
  memory_alone x e s (inr h) = absurd (none_due x s e h)

  found : (x y : ReadExtension) → IsExtensionIn g bytes x → IsExtensionIn g bytes y → SameExtension x y
  found x y s t = record {
    grammar = readable_grammar g bytes s.outline t.outline x.grammar x.rule_grammar y.grammar
        y.rule_grammar s.read.reader t.read.reader s.read.readable t.read.readable;
    rule_grammar = readable_rules g bytes s.outline t.outline x.grammar x.rule_grammar y.grammar
        y.rule_grammar s.read.reader t.read.reader s.read.readable t.read.readable;
    name = s.name ∙ ap (λ (o : ExtensionOutlineData). o.header.name) outline ∙ sym t.name;
    rules = s.rules ∙ ap (λ (z : Texts). z.rules) texts ∙ sym t.rules;
    bodies = s.bodies ∙ ap (λ (z : Texts). z.bodies) texts ∙ sym t.bodies;
    names = s.names ∙ ap (λ (z : Texts). z.names) texts ∙ sym t.names;
    base = table.0;
    table = table.1;
  }
    where
      outline : s.outline ≡ t.outline
      outline = texts_outline g bytes s.outline t.outline s.texts t.texts (texts_of x s)
          (texts_of y t)

      texts : s.texts ≡ t.texts
      texts = texts_same g bytes s.outline t.outline s.texts t.texts (texts_of x s) (texts_of y t)

      table : (x.extension.plain.base ≡ y.extension.plain.base) ×
          (table_of x.extension.plain ≡ table_of y.extension.plain)
      table =
          table_one g.base (shapes_of (with_own g t.outline.productions)) (length g.shapes) g.table
          t.texts.plains x.extension.plain y.extension.plain
          (moved g bytes s.outline t.outline s.texts t.texts (texts_of x s) (texts_of y t)
          (λ o z. HasTable g o z x.extension.plain) s.table) t.table

pub one_extension : OneExtension
one_extension = record {
  found = found;
  either = λ g bytes x e s h. memory_alone g bytes x e s (memory_or_due g bytes e h);
  refused = λ g bytes e d h k n m. due_one g bytes e d (due g bytes e n h) (due g bytes d m k);
}
