-- The language without extensions.
use Rattle.std.proofs.Common.{◌≡◌, ℕ, suc, ◌≤◌, false, true, List, [], ◌∷◌, map, length, refl, sym}
use Rattle.std.proofs.Common.{ap, ◌∙◌, subst, arith}
use Rattle.std.proofs.lemmas.List.{length-map}
use Rattle.std.specs.Prelude.{Some, None}
use Rattle.std.specs.List.{AllByRecursion}
use Rattle.sx_term.specs.declared.role.Role.{Role}
use Rattle.sx_term.specs.declared.role.Role.TheVariants.{In, Sub, Out}
use Rattle.sx_term.specs.declared.sort.Sort.{Sort}
use Rattle.sx_term.specs.declared.sort.Sort.TheVariants.{Lex, Plain, Typed}
use Rattle.sx_term.specs.Untyped.{IsUntypedSort}
use Rattle.sx_grammar.specs.Parts.{Parts, names, numbered, numbered_line}
use Rattle.sx_grammar.specs.Tables.{GrammarData}
use Rattle.sx_grammar.specs.Told.{shape_of, shapes_of}
use Rattle.sx_rules.specs.declared.rule.Place.{Place}
use Rattle.sx_rules.specs.declared.rule.Rule.{Rule as RuleOf}
use Rattle.sx_rules.specs.Rules.{Rule}
use Rattle.sx_rules.specs.Sets.{shapes_in, forms_in, rules_in, bare_rules_in}
use Rattle.sx_rules.specs.Subjects.{is_typed_sort}
use Rattle.sx_rules.specs.Views.{FormData, is_sub, named, rule}
use Rattle.sx_rewrite.specs.declared.accepted.Accepted.{Accepted as AcceptedOf}
use Rattle.sx_rewrite.specs.AcceptedView.{accepted}
use Rattle.sx_rewrite.specs.Extensions.{without_extensions}
use Rattle.sx_rewrite.specs.Kinds.{IsSortFor, HaveSortsFor}
use Rattle.sx_notation.specs.declared.language.Language.{Language}
use Rattle.sx_notation.specs.Language.{PlaceFits, FormFits, IsLanguage, language_data}
use Rattle.sx_language.specs.States.{IsLanguageIn}
use Rattle.sx_extension.specs.Grounds.{Ground, HasRoomFor, IsGroundBefore}
use Rattle.sx_extension.specs.Laws.{first_ground, LanguagesBegin}
use Rattle.sx_accepting.specs.ExtendedLanguages.{base_of, extended_data, unextended, ground_of}
use Rattle.sx_accepting.specs.ExtendedLanguages.{CanExtend}

-- ---- the sorts of forms

untyped : (s : Sort) → is_typed_sort (Some s) ≡ false → IsUntypedSort s
untyped (Lex kind) e k q = let same : Lex kind ≡ Typed k = q in cc
untyped (Plain n) e k q = let same : Plain n ≡ Typed k = q in cc
untyped (Typed n) e k q = let same : true ≡ false = e in cc

typed : (s : Sort) → is_typed_sort (Some s) ≡ true → (k : ℕ) × (s ≡ Typed k)
typed (Lex kind) e = let same : false ≡ true = e in absurd cc
typed (Plain n) e = let same : false ≡ true = e in absurd cc
typed (Typed n) e = (n, refl)

sort_for : (r : Role) (s : Sort) → is_typed_sort (Some s) ≡ is_sub r → IsSortFor r s
sort_for In s e = untyped s e
sort_for Sub s e = typed s e
sort_for Out s e = untyped s e

places_for : (ps : List Place) → AllByRecursion PlaceFits ps →
    AllByRecursion (λ p. IsSortFor p.role p.sort) ps
places_for [] h = tt
places_for (p ∷ ps) h = (sort_for p.role p.sort h.0, places_for ps h.1)

-- the forms of a language have the sorts of their roles
pub sorts_for : (fs : List FormData) → AllByRecursion FormFits fs → HaveSortsFor fs
sorts_for [] h = tt
sorts_for (f ∷ fs) h = (places_for f.places h.0.0, sorts_for fs h.1)

-- ---- the data

pub bare_named : (rs : List RuleOf) → map rule rs ≡ map (λ r. r.rule) (map named rs)
bare_named [] = refl
bare_named (r ∷ rs) = ap (λ (l : List Rule). rule r ∷ l) (bare_named rs)

-- there are as many shapes as productions
pub many_shapes : (p : Parts) → length (shapes_of p) ≡ length p.productions
many_shapes p = length-map (numbered p).productions (shape_of p.sorts) ∙
    length-map p.productions (numbered_line (names p))

module _ (l : Language) (is : IsLanguage l) where
  grammar_is : l.grammar ≡ (let g : GrammarData = record {
    parts = l.grammar.parts;
    base = length
        l.grammar.parts.productions;
  } in g)
  grammar_is = λ i. record { parts = l.grammar.parts; base = is.base i }

  -- the set of the language's rules, and its grammars, are the language without extensions
  pub begins : (a : AcceptedOf) → accepted a ≡ without_extensions (bare_rules_in l.rules) →
      rules_in a.base ≡ rules_in l.rules → rules_in a.rules ≡ rules_in l.rules →
      shapes_in a.base ≡ shapes_in l.rules → shapes_in a.rules ≡ shapes_in l.rules →
      forms_in a.base ≡ forms_in l.rules →
      extended_data l (record { grammars = None; accepted = a; last = 0 }) ≡ unextended
      (language_data l)
  begins a kept base_rules rules base_shapes shapes forms = λ i. record {
    grammar = grammar_is i;
    by_rules = l.rule_grammar.parts;
    set = record {
      base_rules = base_rules i;
      base_shapes = (base_shapes ∙ is.shapes) i;
      forms = forms i;
      rules = rules i;
      shapes = (shapes ∙ is.shapes) i;
      kept = (kept ∙ ap without_extensions (bare_named l.rules.rules.items)) i;
    };
    last = 0;
  }

  -- what the first extension is read after
  first_is : first_ground l ≡ ground_of (base_of l) (unextended (language_data l))
  first_is = λ i. record {
    language = l.grammar.parts;
    stems = l.metas.stems.items;
    forms = forms_in l.rules;
    grammar = grammar_is i;
    by_rules = l.rule_grammar.parts;
    rules = rules_in l.rules;
    shapes = is.shapes i;
    rule_forms = forms_in l.rules;
    base = sym (many_shapes l.grammar.parts) i;
    table = λ label. None;
  }

  -- the language can be extended
  pub first_can : LanguagesBegin → (name bytes : List ℕ) → IsLanguageIn name bytes l →
      length bytes ≤ 262144 → (files : ℕ) → files ≤ 8189 →
      CanExtend (base_of l) (unextended (language_data l)) files
  first_can law name bytes states short files few = record {
    rules = refl;
    shapes = refl;
    before = subst IsGroundBefore first_is (law.before name bytes l states is short);
    room = subst (λ (g : Ground). HasRoomFor g (suc files)) first_is
        (law.room name bytes l (suc files) states short (omega arith));
  }
