-- The unit of a module has an interface.
use Rattle.std.proofs.Common.{◌≡◌, ℕ, true, false, List, [], sym, subst}
use Rattle.sx_lines.specs.Words.{is_name}
use Rattle.sx_extcheck.specs.declared.budgets.Budgets.{Budgets}
use Rattle.sx_interface.specs.Interfaces.{InterfaceParts}
use Rattle.sx_interface.specs.Stated.{IsDigest, IsInterface, InterfacesAreWithin}
use Rattle.sx_unit.specs.Texts.{base_text}
use Rattle.sx_unit.specs.Written.{UnitData}
use Rattle.sx_outside.specs.Files.{Files}
use Rattle.sx_uses.proofs.Coming.{come_first}
use Rattle.sx_accepting.specs.ExtendedLanguages.{unextended}
use Rattle.sx_accepting.specs.ReadLanguage.{base_in}
use Rattle.sx_compiling.specs.Given.{GivenModule}
use Rattle.sx_compiling.specs.Headline.{HasUnit, IsInterfaceText}
use Rattle.sx_compiling.specs.Reached.{HasNamedLanguage, HasModule, HasGround, module_over}
use Rattle.sx_compiling.proofs.Digests.{digest_is}
use Rattle.sx_compiling.proofs.Grammars.{language_grammar, grammar_after}
use Rattle.sx_compiling.proofs.InterfaceMarks.{uses_are_marks, uses_are_new, imports_are_marks}
use Rattle.sx_compiling.proofs.InterfaceMarks.{imports_are_new}
use Rattle.sx_compiling.proofs.InterfaceTexts.{parts_from, interface_told}
use Rattle.sx_compiling.proofs.MadeUnits.{dialect_is}

module _ (name : List ℕ) (budgets : Budgets) (files : Files) (g : GivenModule) (u : UnitData)
    (is_a_name : is_name false name ≡ true) (l : HasNamedLanguage g) (h : HasModule name g)
    (made : HasUnit budgets files g u) where
  abbrev ground : HasGround budgets files g
  ground = made.ground

  abbrev it : InterfaceParts
  it = parts_from (module_over ground) made.compiled.terms

  is_interface : IsInterface name it
  is_interface =
      let first = come_first g.file g.read.header.language g.read.header.uses files
      ground.over.from.extensions ground.over.from.reached in
      record {
        same = h.states.same;
        language = record {
          name = h.states.language;
          digest = subst IsDigest (sym l.states.digest) (digest_is l.bytes);
        };
        uses = uses_are_marks g.read.header.language files ground.over.from.extensions first.1;
        distinct_uses = uses_are_new [] ground.over.from.extensions first.0;
        base = digest_is (base_text (module_over ground) made.compiled.terms);
        imports = imports_are_marks g.read.header.imports g.imports h.imports h.states.imports
            h.digests;
        distinct = imports_are_new g.read.header.imports g.imports h.imports
            h.states.distinct_imports;
      }

  pub interface_stated : InterfacesAreWithin → IsInterfaceText name u.interface it
  interface_stated within =
      let over = ground.over in
      let language = language_grammar g.read.header.language l.bytes g.language l.states in
      let dialect = grammar_after (base_in g.language) budgets over.from.extensions
      (unextended g.language.language) over.extended over.tries language over.extends in
      subst (λ (n : List ℕ). IsInterfaceText n u.interface it) h.states.same
      (interface_told within (module_over ground) made.compiled.terms made.compiled.proof u
      made.compiled.written (dialect_is budgets files g l over) language dialect
      (subst (λ (n : List ℕ). is_name false n ≡ true) (sym h.states.same) is_a_name)
      (subst (λ (n : List ℕ). IsInterface n it) (sym h.states.same) is_interface))
