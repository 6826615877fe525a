-- After a language, and after each extension, the next extension can be read.
use Rattle.std.proofs.Common.{◌≡◌, ℕ, ◌+◌, ◌<◌, ◌≤◌, inl, List, [], ◌∷◌, ◌++◌, length}
use Rattle.std.proofs.Common.{length-append, map, None, refl, ap, ◌∙◌, sym, subst, arith}
use Rattle.std.specs.Prelude.{Ok, flat_map}
use Rattle.std.proofs.lemmas.Grind.{flat_map-append}
use Rattle.std.proofs.lemmas.List.{length-map, append-nil, append_assoc}
use Rattle.std.proofs.lemmas.Option.{slice_get_within, none-some}
use Rattle.sx_term.specs.Sorts.{Shape}
use Rattle.sx_grammar.specs.Grammar.{Text}
use Rattle.sx_grammar.specs.Parts.{Line, Parts, parts, literals, symbol_literals, bracket_literals}
use Rattle.sx_grammar.specs.Tables.{GrammarData}
use Rattle.sx_grammar.specs.Told.{shapes_of}
use Rattle.sx_grammar.specs.Extended.{extended}
use Rattle.sx_plain.specs.Tables.{Desugars}
use Rattle.sx_directives.specs.declared.rows.FormLine.{FormLine}
use Rattle.sx_directives.specs.declared.spelled.SpelledSort.TheVariants.{Lex, Named}
use Rattle.sx_directives.specs.declared.spelled.FormSymbol.{FormSymbol}
use Rattle.sx_directives.specs.declared.spelled.FormSymbol.TheVariants.{Lit, Place}
use Rattle.sx_outline.specs.Declarations.{declared_form}
use Rattle.sx_outline.specs.Outlined.{outline}
use Rattle.sx_outline.specs.Sized.{IsSized}
use Rattle.sx_outline.proofs.FitLaws.{sized_answer}
use Rattle.sx_notation.specs.declared.language.Language.{Language}
use Rattle.sx_notation.specs.RuleParts.{judgement_sort, symbol_for, form_line, apart_lines}
use Rattle.sx_notation.specs.RuleParts.{rule_parts}
use Rattle.sx_notation.specs.Language.{IsLanguage}
use Rattle.sx_language.specs.States.{AreStems, IsLanguageIn as StatesLanguage}
use Rattle.sx_extension.specs.declared.extension.ReadExtension.{ReadExtension}
use Rattle.sx_extension.specs.Fitting.{FitsAfter}
use Rattle.sx_extension.specs.Grounds.{Ground, HasRoomFor, IsGroundBefore}
use Rattle.sx_extension.specs.Readings.{AreGrammars}
use Rattle.sx_extension.specs.States.{IsExtensionIn}
use Rattle.sx_extension.specs.Laws.{SameExtension, first_ground, next_ground, LanguagesBegin}
use Rattle.sx_extension.specs.Laws.{ExtensionsGoOn}

-- ---- how much a language takes

few_literals : (ss : List FormSymbol) → length (flat_map symbol_literals (map symbol_for ss)) ≤
    length ss
few_literals [] = omega arith
few_literals (Lit text ∷ ss) = omega (arith, few_literals ss)
few_literals (Place role (Lex kind) ∷ ss) = omega (arith, few_literals ss)
few_literals (Place role (Named name least) ∷ ss) = omega (arith, few_literals ss)

abbrev texts_in : List Line → List Text
texts_in ls = flat_map (λ r. flat_map symbol_literals r.symbols) ls

abbrev bracket_texts : Parts → List Text
bracket_texts p = flat_map (λ s. bracket_literals s.brackets) p.sorts

few_in_forms : (fs : List FormLine) → length (texts_in (map form_line fs)) ≤ length
    (flat_map (λ f. f.symbols) (map declared_form fs))
few_in_forms [] = omega arith
few_in_forms (f ∷ fs) = omega (
  arith,
  few_literals f.symbols.items,
  few_in_forms fs,
  length-append (flat_map symbol_literals (map symbol_for f.symbols.items))
      (texts_in (map form_line fs)),
  length-append f.symbols.items (flat_map (λ g. g.symbols) (map declared_form fs)),
)

module _ (p : Parts) (fs : List FormLine) where
  productions_many : length (rule_parts p fs).productions ≡ length p.productions + (length fs + 3)
  productions_many =
      omega (
        arith,
        length-append p.productions (map form_line fs ++ apart_lines),
        length-append
            (map form_line fs) apart_lines,
        length-map fs form_line,
      )

  texts_split : texts_in (rule_parts p fs).productions ≡ texts_in p.productions ++ texts_in
      (map form_line fs ++ apart_lines)
  texts_split = flat_map-append (λ r. flat_map symbol_literals r.symbols) p.productions
      (map form_line fs ++ apart_lines)

  own_split : texts_in (map form_line fs ++ apart_lines) ≡ texts_in (map form_line fs) ++ texts_in
      apart_lines
  own_split = flat_map-append (λ r. flat_map symbol_literals r.symbols) (map form_line fs)
      apart_lines

  literals_few : length (literals (rule_parts p fs)) ≤ length (literals p) +
      (length (flat_map (λ f. f.symbols) (map declared_form fs)) + 3)
  literals_few =
      let q = rule_parts p fs in
      let brackets : length (bracket_texts q) ≡ length (bracket_texts p) + 0 =
      ap length (flat_map-append (λ s. bracket_literals s.brackets) p.sorts (judgement_sort ∷ []))
      ∙ length-append (bracket_texts p) [] in
      let lines : length (texts_in q.productions) ≡ length (texts_in p.productions) +
      (length (texts_in (map form_line fs)) + 3) =
      ap length (texts_split ∙ ap (λ (x : List Text). texts_in p.productions ++ x) own_split)
      ∙ length-append (texts_in p.productions)
      (texts_in (map form_line fs) ++ texts_in apart_lines)
      ∙ ap (λ (n : ℕ). length (texts_in p.productions) + n)
      (length-append (texts_in (map form_line fs)) (texts_in apart_lines)) in
      let all : length (literals q) ≡ length (bracket_texts q) + length (texts_in q.productions) =
      length-append (bracket_texts q) (texts_in q.productions) in
      let base : length (literals p) ≡ length (bracket_texts p) + length (texts_in p.productions) =
      length-append (bracket_texts p) (texts_in p.productions) in
      let forms : length (texts_in (map form_line fs)) ≤ length
      (flat_map (λ f. f.symbols) (map declared_form fs)) = few_in_forms fs in
      omega (arith, brackets, lines, all, base, forms)

-- ---- the first extension of a language

-- no constructor that is not base is there, and none has a body
none_desugars : (shapes : List Shape) → Desugars shapes shapes (λ label. None)
none_desugars shapes = record {
  is_table = record {
    keeps_base = λ label low. refl;
    flat = λ label body is. absurd
        (none-some body is);
  };
  bodies = λ label body is. absurd (none-some body is);
  every = λ label shape is plain. inl (slice_get_within shapes label shape is);
}

module _ (name bytes : Text) (l : Language) (s : StatesLanguage name bytes l) where
  abbrev its_parts : Parts
  its_parts = parts s.outline.parts

  parts_are : l.grammar.parts ≡ its_parts
  parts_are = ap (λ (y : GrammarData). y.parts) s.grammar

  rule_parts_are : l.rule_grammar.parts ≡ rule_parts its_parts s.outline.forms.items
  rule_parts_are = ap (λ (y : GrammarData). y.parts) s.rule_grammar ∙ s.readable.read_by

  has_room : (files : ℕ) → length bytes ≤ 262144 → files ≤ 8190 → HasRoomFor (first_ground l) files
  has_room files low few =
      let fs = s.outline.forms.items in
      let sized : IsSized (length bytes) (outline s.outline) = sized_answer name bytes
      (Ok s.outline) s.readable.outlined in
      record {
        productions = omega (
          arith,
          low,
          few,
          sized.many,
          length-map fs declared_form,
          productions_many
              its_parts fs,
          ap (λ (y : Parts). length y.productions) rule_parts_are,
        );
        literals = omega (
          arith,
          low,
          few,
          sized.many,
          length-map fs declared_form,
          literals_few its_parts
              fs,
          ap (λ (y : Parts). length (literals y)) rule_parts_are,
        );
      }

  begins : IsLanguage l → length bytes ≤ 262144 → IsGroundBefore (first_ground l)
  begins is low = record {
    more = [];
    goes_on = λ i. record {
      sorts = l.grammar.parts.sorts;
      productions = sym
          (append-nil l.grammar.parts.productions) i;
    };
    base = is.base;
    lines = is.lines;
    forms = record { read_by = is.read_by; forms = is.forms; known = is.known };
    fit = is.fit;
    vars = s.outline.vars.items;
    stems = subst (λ (p : Parts). AreStems p s.outline.vars.items l.metas.stems.items)
        (sym parts_are)
        (subst (AreStems its_parts s.outline.vars.items) (sym s.metas) s.readable.stems);
    shapes = is.shapes;
    rule_forms = refl;
    labels = refl;
    desugars = none_desugars (shapes_of l.grammar.parts);
    room = has_room 1 low (omega arith);
  }

pub languages_begin : LanguagesBegin
languages_begin = record {
  before = λ name bytes l s is low. begins name bytes l s is low;
  room = λ name bytes l files s low few. has_room name bytes l s files low few;
}

-- ---- the next extension

module _ (g : Ground) (x : ReadExtension) (fits : FitsAfter g x) where
  room_left : (files more : ℕ) → files < more → HasRoomFor g more →
      HasRoomFor (next_ground g x) files
  room_left files more low room = record {
    productions = omega (arith, low, fits.productions, room.productions);
    literals = omega (arith, low, fits.literals, room.literals);
  }

  module _ (bytes : Text) (is : IsGroundBefore g) (s : IsExtensionIn g bytes x) where
    abbrev made : AreGrammars g s.outline.productions x.grammar x.rule_grammar
    made = s.read.readable.grammars

    extends : x.grammar.parts ≡ extended g.language (is.more ++ s.outline.productions)
    extends =
        let own = s.outline.productions in
        let grouped : extended (extended g.language is.more) own ≡ extended g.language
        (is.more ++ own) =
        λ i. record {
          sorts = g.language.sorts;
          productions = append_assoc g.language.productions
              is.more own i;
        } in
        made.parts ∙ ap (λ (p : Parts). extended p own) is.goes_on ∙ grouped

    goes_on : HasRoomFor (next_ground g x) 1 → IsGroundBefore (next_ground g x)
    goes_on room = record {
      more = is.more ++ s.outline.productions;
      goes_on = extends;
      base = made.base ∙ is.base;
      lines = made.lines;
      forms = record {
        read_by = made.read_by ∙ ap (λ (p : Parts). rule_parts p made.lines) (sym made.parts);
        forms = made.has_forms.forms;
        known = made.has_forms.known;
      };
      fit = is.fit;
      vars = is.vars;
      stems = is.stems;
      shapes = refl;
      rule_forms = refl;
      labels = is.labels;
      desugars = fits.fits.goes_on.desugars;
      room = room;
    }

same_next : (g : Ground) (x y : ReadExtension) → SameExtension x y →
    next_ground g x ≡ next_ground g y
same_next g x y same = λ i. record {
  language = g.language;
  stems = g.stems;
  forms = g.forms;
  grammar = same.grammar i;
  by_rules = ap (λ (d : GrammarData). d.parts) same.rule_grammar i;
  rules = g.rules ++ same.rules i;
  shapes = ap (λ (d : GrammarData). shapes_of d.parts) same.grammar i;
  rule_forms = g.forms;
  base = g.base;
  table = same.table i;
}

pub extensions_go_on : ExtensionsGoOn
extensions_go_on = record {
  before = λ g bytes x is s fits room. goes_on g x fits bytes is s room;
  room = λ g x files more fits low room. room_left g x fits files more low room;
  same = same_next;
}
