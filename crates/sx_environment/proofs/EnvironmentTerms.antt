-- Environments are terms of the dialect.
use Rattle.std.proofs.Common.{◌≡◌, ℕ, List, [], ◌∷◌, inl, inr, Some, refl, sym, subst, ◌∙◌}
use Rattle.std.specs.List.{AllByRecursion}
use Rattle.std.specs.Prelude.{slice_get}
use Rattle.std.proofs.lemmas.Option.{slice_get_within}
use Rattle.sx_term.specs.declared.role.Role.TheVariants.{In, Out}
use Rattle.sx_term.specs.declared.sort.Sort.TheVariants.{Plain}
use Rattle.sx_term.specs.Sorts.{Shape, HasSort}
use Rattle.sx_term.specs.Tree.{Tree}
use Rattle.sx_grammar.specs.Extended.{extended}
use Rattle.sx_grammar.specs.Parts.{Parts}
use Rattle.sx_grammar.specs.Tables.{literals_of}
use Rattle.sx_grammar.specs.Told.{shapes_of}
use Rattle.sx_plain.proofs.Tables.{begins-at}
use Rattle.sx_print.specs.Cut.{HasLexemes}
use Rattle.sx_rewrite.proofs.LoweredSorted.{more-sorted}
use Rattle.sx_interface.specs.Interfaces.{InterfaceParts}
use Rattle.sx_typing.specs.Dialects.{IsDialect}
use Rattle.sx_typing.specs.BodySource.{IsTermFor, main_sort}
use Rattle.sx_typing.proofs.Lexemes.{without_more}
use Rattle.sx_typing.proofs.MainSorts.{main_sort_is}
use Rattle.sx_environment.specs.declared.row.Row.TheVariants.{Signature, Stated}
use Rattle.sx_environment.specs.Environments.{empty_environment, with_import, AddsImports}
use Rattle.sx_environment.specs.Seen.{IsGoodImport, IsImportRowRead, Sees}
use Rattle.sx_environment.specs.SeenFrom.{SeenFrom, HasFreeName}
use Rattle.sx_environment.proofs.NameWords.{name_is_word}
use Rattle.sx_environment.proofs.Rows.{row_good}

module _ (s : SeenFrom) (is : IsDialect s.dialect) where
  stated_is_term : (it : InterfaceParts) (t : Tree) → IsImportRowRead s it Stated t →
      IsTermFor s.dialect Out t
  stated_is_term it t read =
      let d = s.dialect in
      let good = row_good s it Stated t is read in
      let there : HasLexemes (literals_of (extended d.language.parts is.more)) t =
      subst (λ (p : Parts). HasLexemes (literals_of p) t) is.goes_on good.lexemes in
      record {
        sorted = good.sorted;
        depth = good.depth;
        lexemes = without_more d.language.parts is.more t there;
      }

  signature_is_term : (it : InterfaceParts) (t : Tree) → IsImportRowRead s it Signature t →
      IsTermFor s.dialect Out t
  signature_is_term it t read =
      let d = s.dialect in
      let good = row_good s it Signature t is read in
      record {
        sorted = more-sorted (shapes_of d.language.parts) (shapes_of d.parts) is.accepted.begins []
            t (main_sort d.language Out) good.sorted;
        depth = good.depth;
        lexemes = good.lexemes;
      }

  -- what is seen is a term of the dialect, for a signature
  pub seen_is_term : (it : InterfaceParts) (seen : Tree) → IsGoodImport s it seen →
      IsTermFor s.dialect Out seen
  seen_is_term it seen good = by_cases good.sees
    where
      by_cases : Sees s it good.signature seen → IsTermFor s.dialect Out seen
      by_cases (inl h) = stated_is_term it seen h.1
      by_cases (inr h) = subst (IsTermFor s.dialect Out) (sym h.1)
          (signature_is_term it good.signature good.read)

  -- ---- environments

  -- the term is sorted as an environment, and its lexemes are no literals of the language
  pub record IsSorted (t : Tree) : Type 0 where
    pub sorted : HasSort (shapes_of s.dialect.parts) [] t (main_sort s.dialect.language In)
    pub lexemes : HasLexemes (literals_of s.dialect.language.parts) t

  abbrev base_shapes : List Shape
  base_shapes = shapes_of s.dialect.language.parts

  abbrev all_shapes : List Shape
  all_shapes = shapes_of s.dialect.parts

  input_is : main_sort s.dialect.language In ≡ Plain is.main.environment
  input_is = let l = s.dialect.language in let m = is.main in
      main_sort_is l.forms l.main.form m.form In (Plain m.environment) m.is m.input

  output_is : main_sort s.dialect.language Out ≡ Plain is.main.signature
  output_is = let l = s.dialect.language in let m = is.main in
      main_sort_is l.forms l.main.form m.form Out (Plain m.signature) m.is m.output

  there : (label : ℕ) (shape : Shape) → slice_get base_shapes label ≡ Some shape →
      slice_get all_shapes label ≡ Some shape
  there label shape at =
      sym (begins-at base_shapes all_shapes label is.accepted.begins
      (slice_get_within base_shapes label shape at)) ∙ at

  pub empty_is_sorted : IsSorted (empty_environment s)
  empty_is_sorted = record {
    sorted = (_, there s.dialect.language.main.empty _ is.main.empty, sym input_is, tt);
    lexemes = tt;
  }

  with_is_sorted : (before : Tree) (it : InterfaceParts) (seen : Tree) → IsSorted before →
      HasFreeName (literals_of s.dialect.language.parts) it → IsGoodImport s it seen →
      IsSorted (with_import s before it.name seen)
  with_is_sorted before it seen good named sees =
      let term = seen_is_term it seen sees in
      record {
        sorted = (
          _,
          there s.dialect.language.main.add _ is.main.add,
          sym input_is,
          (
            subst (HasSort all_shapes [] before) input_is good.sorted,
            (refl, (subst (HasSort all_shapes [] seen) output_is term.sorted, tt)),
          ),
        );
        lexemes = (good.lexemes, ((named.1, name_is_word it.name named.0), (term.lexemes, tt)));
      }

  pub added_are_sorted : (before : Tree) (its : List InterfaceParts) (after : Tree) →
      IsSorted before → AllByRecursion (HasFreeName (literals_of s.dialect.language.parts)) its →
      AddsImports s before its after → IsSorted after
  added_are_sorted before [] after good named adds = subst IsSorted (sym adds) good
  added_are_sorted before (it ∷ its) after good named adds =
      added_are_sorted (with_import s before it.name adds.0) its after
      (with_is_sorted before it adds.0 good named.0 adds.1) named.1 adds.2
