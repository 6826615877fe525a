-- The three texts of a module.
use Rattle.std.specs.Prelude.{ℕ, ◌+◌, List, [], ◌∷◌, ◌++◌, map, codes, decimal, slice_index_or}
use Rattle.sha2.specs.Sha256.{sha256}
use Rattle.sx_term.specs.Tree.{Tree}
use Rattle.sx_lines.specs.Reading.{written}
use Rattle.sx_grammar.specs.Grammar.{Text, Token, of_sort}
use Rattle.sx_grammar.specs.Parts.{Parts, numbered}
use Rattle.sx_grammar.specs.Print.{print}
use Rattle.sx_print.specs.Printed.{text_of}
use Rattle.sx_rules.specs.Views.{NamedRule}
use Rattle.sx_rules.specs.Orders.{Entry, of_rule, of_given}
use Rattle.sx_interface.specs.Headers.{HeaderParts}
use Rattle.sx_interface.specs.Interfaces.{InterfaceParts, interface_lines}
use Rattle.sx_interface.specs.StatedHeader.{row_lines}
use Rattle.sx_unit.specs.Modules.{ModuleData}
use Rattle.sx_unit.specs.PrintedParts.{PrintedData}

-- the tokens of a term without variables, and their text
abbrev pub printed : Parts → Tree → List Token
printed p t = print (numbered p) [] t (of_sort 0) 0

abbrev pub print_text : Parts → Tree → Text
print_text p t = text_of (printed p t)

-- the text as it stands in a file, on a line
abbrev pub print_line : Parts → Tree → Text
print_line p t = print_text p t ++ 10 ∷ []

-- the header without its lines of extensions, `---`, and the printed text
abbrev pub base_bytes : HeaderParts → (shown : List ℕ) → List ℕ
base_bytes h shown =
    written ((codes "module " ++ h.name) ∷ (codes "language " ++ h.language) ∷ (row_lines
    (codes "import ") h.imports ++ codes "---" ∷ [])) ++ (shown ++ 10 ∷ [])

-- the base file: the subject by the language's grammar
abbrev pub base_text : ModuleData → PrintedData → List ℕ
base_text m t =
    base_bytes m.source.header (print_text m.source.dialect.language.parts t.subject)

-- what importers read of a module whose signatures are printed so: the digests of the language's
-- file, of the base file, of the extensions in use and of the imports
abbrev pub written_interface : ModuleData → (base signature stated : List ℕ) → InterfaceParts
written_interface m base signature stated =
    record {
      name = m.source.header.name;
      language = record { name = m.source.header.language; digest = m.digest };
      uses = m.uses;
      base = sha256 base;
      imports = m.imports;
      signature = signature;
      stated = stated;
    }

-- the interface file with a base file: the signature by the language's grammar, and the stated
-- signature by that of the dialect
abbrev pub interface_with : ModuleData → PrintedData → (base : List ℕ) → List ℕ
interface_with m t base =
    written (interface_lines (written_interface m base
    (print_text m.source.dialect.language.parts t.signature)
    (print_text m.source.dialect.parts t.stated)))

abbrev pub interface_text : ModuleData → PrintedData → List ℕ
interface_text m t = interface_with m t (base_text m t)

-- the name of a rule, or `given` and the number of a hypothesis from 1
abbrev pub entry_text : (names : List Text) → Entry → List ℕ
entry_text names (of_rule number) = slice_index_or names number []
entry_text names (of_given number) = codes "given " ++ decimal (number + 1)

abbrev pub derivation_text : List NamedRule → List Entry → List ℕ
derivation_text rules entries =
    written (codes "sxder 1" ∷ map (entry_text (map (λ r. r.name) rules)) entries)
