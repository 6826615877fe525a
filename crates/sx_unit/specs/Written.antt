-- What is written of a module, and why nothing is.
use Rattle.std.specs.Prelude.{◌≡◌, ℕ, ◌+◌, ◌-◌, List, length}
use Rattle.sx_grammar.specs.Tables.{literals_of}
use Rattle.sx_grammar.specs.Told.{shapes_of}
use Rattle.sx_rules.specs.Derivations.{Proof, nodes_of}
use Rattle.sx_rules.specs.EntryView.{entries}
use Rattle.sx_rules.specs.Orders.{Entry, order_of}
use Rattle.sx_words.specs.declared.print_defect.PrintedPart.{PrintedPart}
use Rattle.sx_words.specs.declared.print_defect.PrintedPart.TheVariants.{Body, Signature, Stated}
use Rattle.sx_words.specs.declared.print_defect.PrintDefect.{PrintDefect}
use Rattle.sx_typing.specs.Dialects.{DialectData}
use Rattle.sx_typing.specs.BodySource.{IsGoodTerm}
use Rattle.sx_unit.specs.declared.compiled.Compiled.{Compiled}
use Rattle.sx_typing.specs.declared.module_error.ModuleError.{ModuleError}
use Rattle.sx_typing.specs.declared.module_error.ModuleError.TheVariants.{Memory, Print, Captured}
use Rattle.sx_unit.specs.Captured.{IsCaptured, IsFree}
use Rattle.sx_unit.specs.Modules.{ModuleData}
use Rattle.sx_unit.specs.PrintedParts.{PrintedData, part_grammar_of, part_sort_of, part_term}
use Rattle.sx_unit.specs.Texts.{printed, print_text, print_line, base_text, interface_text}
use Rattle.sx_unit.specs.Texts.{derivation_text}
use Rattle.sx_unit.specs.Unprinted.{IsUnprintable, IsPrintable}

-- ---- each part

-- the text of a part as it stands in its file
abbrev pub shown_of : ModuleData → PrintedData → PrintedPart → List ℕ
shown_of m t Body = print_line m.source.dialect.language.parts t.subject
shown_of m t Signature = print_text m.source.dialect.language.parts t.signature
shown_of m t Stated = print_text m.source.dialect.parts t.stated

-- how many bytes are measured for it: those of its file, for the signature without the line of the
-- stated signature
abbrev pub file_size : ModuleData → PrintedData → PrintedPart → ℕ
file_size m t Body = length (base_text m t)
file_size m t Signature = length (interface_text m t) - (length (shown_of m t Stated) + 1)
file_size m t Stated = length (interface_text m t)

-- why it cannot be written
abbrev pub IsBadPart : ModuleData → PrintedData → PrintedPart → PrintDefect → Type 0
IsBadPart m t part defect =
    IsUnprintable (part_grammar_of m.source.dialect part) (part_sort_of m.source.dialect part)
    (file_size m t part) (shown_of m t part) (part_term t part) defect

-- it can be written
abbrev pub IsGoodPart : ModuleData → PrintedData → PrintedPart → Type 0
IsGoodPart m t part =
    IsPrintable (part_grammar_of m.source.dialect part) (part_sort_of m.source.dialect part)
    (file_size m t part) (shown_of m t part) (part_term t part)

-- no name in the stated signature is a literal of the dialect
abbrev pub HasFreeNames : ModuleData → PrintedData → Type 0
HasFreeNames m t = IsFree (literals_of m.source.dialect.parts) t.stated

-- the word is the first name in it that is one
abbrev pub HasCaptured : ModuleData → PrintedData → (word : List ℕ) → Type 0
HasCaptured m t word = IsCaptured (literals_of m.source.dialect.parts) t.stated word

-- the body comes first, then the signature, then the names of the stated signature, and then the
-- stated signature
abbrev pub IsPartDue : ModuleData → PrintedData → PrintedPart → Type 0
IsPartDue m t Body = Unit {0}
IsPartDue m t Signature = IsGoodPart m t Body
IsPartDue m t Stated = IsGoodPart m t Body × IsGoodPart m t Signature × HasFreeNames m t

-- ---- all of it

-- what was compiled, without where it lies in memory
pub record UnitData : Type 0 where
  pub base : List ℕ
  pub interface : List ℕ
  pub derivation : List ℕ
  pub list : List Entry
  pub nodes : ℕ
  pub source_tokens : ℕ
  pub base_tokens : ℕ

-- what a compiled module holds
abbrev pub unit_of : Compiled → UnitData
unit_of c = record {
  base = c.base.items;
  interface = c.interface.items;
  derivation = c.derivation.items;
  list = entries c.list.items;
  nodes = c.nodes;
  source_tokens = c.source_tokens;
  base_tokens = c.base_tokens;
}

-- the texts are those of these terms and of this derivation; each file is short enough, what is
-- printed has only one reading, and no name of the stated signature is a literal
pub record IsWritten (m : ModuleData) (t : PrintedData) (q : Proof) (u : UnitData) : Type 0 where
  pub base : u.base ≡ base_text m t
  pub interface : u.interface ≡ interface_text m t
  pub body_good : IsGoodPart m t Body
  pub signature_good : IsGoodPart m t Signature
  pub names_free : HasFreeNames m t
  pub stated_good : IsGoodPart m t Stated
  pub list : u.list ≡ order_of q
  pub derivation : u.derivation ≡ derivation_text m.source.dialect.language.rules u.list
  pub nodes : u.nodes ≡ nodes_of q
  pub base_tokens : u.base_tokens ≡ length (printed m.source.dialect.language.parts t.subject)

-- why nothing is written of these terms; out of memory is free
abbrev pub IsUnwritten : ModuleData → PrintedData → ModuleError → Type 0
IsUnwritten m t Memory = Unit {0}
IsUnwritten m t (Print part defect) = IsPartDue m t part × IsBadPart m t part defect
IsUnwritten m t (Captured word) =
    IsGoodPart m t Body × IsGoodPart m t Signature × HasCaptured m t word
IsUnwritten m t _ = ⊥

-- ---- what can be printed

-- the terms are without variables and at most 1,000 deep, the subject and the signature of the
-- language's shapes and the stated signature of those of the dialect, and their lexemes are tokens
-- and no literals of the language
pub record ArePrintable (d : DialectData) (t : PrintedData) : Type 0 where
  pub subject : IsGoodTerm (literals_of d.language.parts) (shapes_of d.language.parts)
      (part_sort_of d Body) t.subject
  pub signature : IsGoodTerm (literals_of d.language.parts) (shapes_of d.language.parts)
      (part_sort_of d Signature) t.signature
  pub stated : IsGoodTerm (literals_of d.language.parts) (shapes_of d.parts) (part_sort_of d Stated)
      t.stated
