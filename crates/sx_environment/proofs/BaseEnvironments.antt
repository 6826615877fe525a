-- The environment by the language alone is the plain image of the environment.
use Rattle.std.proofs.Common.{◌≡◌, ℕ, ◌<◌, List, [], ◌∷◌, Option, inl, inr, subst, ap, ◌∙◌, length}
use Rattle.std.proofs.lemmas.Option.{slice_get_within}
use Rattle.sx_term.specs.declared.lex_kind.LexKind.TheVariants.{Id}
use Rattle.sx_term.specs.Tree.{Tree, lexeme, none, ◌▹◌}
use Rattle.sx_grammar.specs.Told.{shapes_of}
use Rattle.sx_plain.specs.Plain.{Body, image, image_node, images}
use Rattle.sx_plain.proofs.Tables.{base-stays, sorted-below}
use Rattle.sx_interface.specs.Interfaces.{InterfaceParts}
use Rattle.sx_typing.specs.Dialects.{IsDialect}
use Rattle.sx_environment.specs.declared.row.Row.TheVariants.{Signature}
use Rattle.sx_environment.specs.BaseEnvironment.{base_seen, BaseEnvironmentIsImage}
use Rattle.sx_environment.specs.Environments.{empty_environment, with_import, AddsImports}
use Rattle.sx_environment.specs.Seen.{IsGoodImport, IsImportRowRead, Sees}
use Rattle.sx_environment.specs.SeenFrom.{SeenFrom}
use Rattle.sx_environment.proofs.Rows.{row_good}

module _ (s : SeenFrom) (is : IsDialect s.dialect) where
  -- the plain image by the dialect
  abbrev plain : Tree → Tree
  plain t = image s.dialect.set.table t

  -- a signature's image is itself
  signature_stays : (it : InterfaceParts) (t : Tree) → IsImportRowRead s it Signature t → plain t ≡ t
  signature_stays it t read =
      base-stays (length (shapes_of s.dialect.language.parts)) s.dialect.set.table
      is.accepted.desugars.is_table t
      (sorted-below (shapes_of s.dialect.language.parts) [] t _
      (row_good s it Signature t is read).sorted)

  -- what is seen has the signature as its image
  signature_is : (it : InterfaceParts) (signature seen : Tree) → IsImportRowRead s it Signature signature →
      Sees s it signature seen → plain seen ≡ signature
  signature_is it signature seen read (inl h) = h.2
  signature_is it signature seen read (inr h) = ap plain h.1 ∙ signature_stays it signature read

  -- so an import is seen by the language alone
  good_import : (it : InterfaceParts) (seen : Tree) → IsGoodImport s it seen →
      IsGoodImport (base_seen s) it (plain seen)
  good_import it seen good = record {
    language = good.language;
    signature = good.signature;
    read = good.read;
    sees = inr (λ h. h.0 h.1, signature_is it good.signature seen good.read good.sees);
  }

  empty_below : s.dialect.language.main.empty < length (shapes_of s.dialect.language.parts)
  empty_below =
      slice_get_within (shapes_of s.dialect.language.parts) s.dialect.language.main.empty _
      is.main.empty

  add_below : s.dialect.language.main.add < length (shapes_of s.dialect.language.parts)
  add_below =
      slice_get_within (shapes_of s.dialect.language.parts) s.dialect.language.main.add _
      is.main.add

  empty_stays : plain (empty_environment s) ≡ empty_environment s
  empty_stays =
      base-stays (length (shapes_of s.dialect.language.parts)) s.dialect.set.table
      is.accepted.desugars.is_table (empty_environment s) (empty_below, tt)

  -- an added name stays, with the image of what is seen
  with_import_is : (before : Tree) (name : List ℕ) (seen : Tree) →
      plain (with_import s before name seen) ≡
      with_import (base_seen s) (plain before) name (plain seen)
  with_import_is before name seen =
      ap (λ (o : Option Body). image_node o s.dialect.language.main.add
      (images s.dialect.set.table (before ▹ lexeme Id name ▹ seen ▹ none)))
      (is.accepted.desugars.is_table.keeps_base s.dialect.language.main.add add_below)

  adds_image : (before : Tree) (its : List InterfaceParts) (after : Tree) →
      AddsImports s before its after → AddsImports (base_seen s) (plain before) its (plain after)
  adds_image before [] after adds = ap plain adds
  adds_image before (it ∷ its) after adds = (
    plain adds.0,
    good_import it adds.0 adds.1,
    subst (λ (t : Tree). AddsImports (base_seen s) t its (plain after))
        (with_import_is before it.name adds.0)
        (adds_image (with_import s before it.name adds.0) its after adds.2),
  )

pub base_environment_is_image : BaseEnvironmentIsImage
base_environment_is_image s its t is adds =
    subst (λ (e : Tree). AddsImports (base_seen s) e its (image s.dialect.set.table t)) (empty_stays s is)
    (adds_image s is (empty_environment s) its t adds)
