-- What the three texts of a unit say of one another and of the source of its module.
use Rattle.std.specs.Prelude.{◌≡◌, ℕ, true, false, List, [], ◌∷◌, None, Ok}
use Rattle.std.specs.Str.{IsUtf8}
use Rattle.sha2.specs.Sha256.{sha256}
use Rattle.sx_term.specs.declared.role.Role.TheVariants.{Sub, Out}
use Rattle.sx_term.specs.declared.sort.Sort.{Sort}
use Rattle.sx_term.specs.Tree.{Tree}
use Rattle.sx_lines.specs.Lines.{lines_from, line_texts}
use Rattle.sx_lines.specs.Reading.{kept, written}
use Rattle.sx_lines.specs.Words.{is_name}
use Rattle.sx_token.specs.declared.token.Token.{Token}
use Rattle.sx_grammar.specs.Grammar.{Text}
use Rattle.sx_grammar.specs.Parts.{Parts, numbered}
use Rattle.sx_grammar.specs.Print.{term_of}
use Rattle.sx_grammar.specs.Reading.{Reading, ReadsWhole}
use Rattle.sx_earley.specs.Tokens.{plain_tokens}
use Rattle.sx_earley.specs.Completed.{sort_number}
use Rattle.sx_rules.specs.Derivations.{Proof}
use Rattle.sx_rules.specs.First.{DerivesGoal, IsFirst}
use Rattle.sx_rules.specs.Orders.{order_of}
use Rattle.sx_rules.specs.Rules.{Judgement}
use Rattle.sx_rules.specs.Views.{modes_of, subjects_in}
use Rattle.sx_plain.specs.Plain.{image}
use Rattle.sx_rewrite.specs.Lowers.{Lowers}
use Rattle.sx_extcheck.specs.declared.budgets.Budgets.{Budgets}
use Rattle.sx_interface.specs.Headers.{HeaderParts}
use Rattle.sx_interface.specs.Interfaces.{InterfaceParts, interface_lines}
use Rattle.sx_interface.specs.Stated.{StatesInterface, IsDigest, IsWithinSize}
use Rattle.sx_interface.specs.StatedHeader.{StatesHeader}
use Rattle.sx_notation.specs.Language.{LanguageData}
use Rattle.sx_typing.specs.Body.{IsCut}
use Rattle.sx_typing.specs.Goals.{dialect_rules, goal_with}
use Rattle.sx_typing.specs.MainGoals.{main_goal}
use Rattle.sx_typing.specs.Outcomes.{nameless}
use Rattle.sx_rules.specs.Rules.{no_hypotheses}
use Rattle.sx_typing.specs.BodySource.{BodySource, main_sort}
use Rattle.sx_unit.specs.Modules.{ModuleData}
use Rattle.sx_unit.specs.Texts.{derivation_text}
use Rattle.sx_unit.specs.Unit.{IsUnit}
use Rattle.sx_unit.specs.Written.{UnitData}
use Rattle.sx_environment.specs.BaseEnvironment.{base_seen}
use Rattle.sx_environment.specs.Environments.{IsEnvironment}
use Rattle.sx_outside.specs.Files.{Files}
use Rattle.sx_compiling.specs.Given.{GivenModule, interfaces_in}
use Rattle.sx_compiling.specs.MakeUnit.{MakesUnit}
use Rattle.sx_compiling.specs.Reached.{HasNamedLanguage, HasModule, HasGround, seen_over}
use Rattle.sx_compiling.specs.Reached.{module_over}
use Rattle.sx_term.specs.Limits.{most_bytes}

-- ---- the unit

-- it is that of the module in its dialect, in the environment of its imports
pub record HasUnit (budgets : Budgets) (files : Files) (g : GivenModule)
    (unit : UnitData) : Type 0 where
  pub ground : HasGround budgets files g
  pub compiled : IsUnit (module_over ground) unit

-- where the steps end with a unit, it is that
abbrev pub UnitsKeepPromise : Type 0
UnitsKeepPromise = (budgets : Budgets) (files : Files) (g : GivenModule) (unit : UnitData)
    (tries : ℕ) →
    HasNamedLanguage g → MakesUnit budgets files g (Ok unit) tries → HasUnit budgets files g unit

-- ---- texts that read in one way

-- the tokens that the text is cut into are read as the sort by the reading
pub record ReadsTextBy (p : Parts) (sort : Sort) (text : Text) (tokens : List Token)
    (reading : Reading) : Type 0 where
  pub cut : IsCut p text tokens
  pub reads : ReadsWhole (numbered p) (plain_tokens [] tokens) (sort_number sort) reading

-- the text reads as the sort in exactly one way, as this term
pub record ReadsOneWay (p : Parts) (sort : Sort) (text : Text) (t : Tree) : Type 0 where
  pub tokens : List Token
  pub reading : Reading
  pub by : ReadsTextBy p sort text tokens reading
  pub term : term_of (plain_tokens [] tokens) [] reading ≡ t
  pub only : (others : List Token) (other : Reading) → ReadsTextBy p sort text others other →
      (others ≡ tokens) × (other ≡ reading)

-- ---- by the language alone

-- The body of the base file reads in exactly one way, as the subject; the signature of the
-- interface reads in exactly one way; the rules alone derive the main judgement of the environment,
-- the subject and the signature; and the list is that of this derivation.
pub record HasDerivation (d : LanguageData) (environment : Tree) (header : HeaderParts)
    (parts : InterfaceParts) (list : List ℕ) : Type 0 where
  pub subject : Tree
  pub signature : Tree
  pub proof : Proof
  pub body : ReadsOneWay d.parts (main_sort d Sub) header.body subject
  pub signed : ReadsOneWay d.parts (main_sort d Out) parts.signature signature
  pub derives : DerivesGoal (modes_of d.forms) (nameless d.rules) no_hypotheses
      (main_goal d.forms d.main.form environment subject) (proof, signature ∷ [])
  pub listed : list ≡ derivation_text d.rules (order_of proof)

-- ---- from the source

-- The body of the source reads in exactly one way by the grammar of the dialect. By the rules of
-- the dialect its goal has this first derivation, which is lowered to this one of the judgement;
-- and the stated signature reads in exactly one way by that grammar, as the output of the first.
pub record IsDesugared (s : BodySource) (stated : Text) (lowered : Proof) (j : Judgement) :
    Type 0 where
  pub subject : Tree
  pub output : Tree
  pub proof : Proof
  pub body : ReadsOneWay s.dialect.parts (main_sort s.dialect.language Sub) s.header.body subject
  pub first : IsFirst (modes_of s.dialect.language.forms) (dialect_rules s.dialect) no_hypotheses
      (goal_with s subject) None (proof, output ∷ [])
  pub lowers : Lowers s.dialect.set (subjects_in s.dialect.language.forms) no_hypotheses proof
      lowered j
  pub signed : ReadsOneWay s.dialect.parts (main_sort s.dialect.language Out) stated output

-- ---- the three texts

-- the header of the base file is that of the module without its `use` lines
pub record IsBaseHeaderOf (header base : HeaderParts) : Type 0 where
  pub name : base.name ≡ header.name
  pub language : base.language ≡ header.language
  pub uses : base.uses ≡ []
  pub imports : base.imports ≡ header.imports

-- The interface names the language, the extensions in use and the imports with the digests of their
-- files, and has the digest of the base file.
pub record IsInterfaceOf (m : ModuleData) (base : List ℕ) (parts : InterfaceParts) : Type 0 where
  pub name : parts.name ≡ m.source.header.name
  pub language : parts.language ≡ record { name = m.source.header.language; digest = m.digest }
  pub uses : parts.uses ≡ m.uses
  pub digest : parts.base ≡ sha256 base
  pub imports : parts.imports ≡ m.imports

-- the text is that of this interface of a module with this name; a file can hold it
pub record IsInterfaceText (name text : List ℕ) (parts : InterfaceParts) : Type 0 where
  pub is : text ≡ written (interface_lines parts)
  pub utf8 : IsUtf8 text
  pub states : StatesInterface name (line_texts (lines_from 1 text)) parts
  pub within : IsWithinSize most_bytes parts
  pub digest : IsDigest (sha256 text)

-- The module in its dialect, whose extensions are all accepted, and its three texts: what they say
-- by the language alone, in the environment of the imports' signatures; and that they are the
-- desugaring of the first derivation that the source has by the rules of the dialect, in the
-- environment of what is seen of the imports, whose plain image the first is.
pub record HasHeadline (name : List ℕ) (budgets : Budgets) (files : Files) (g : GivenModule)
    (unit : UnitData) : Type 0 where
  pub ground : HasGround budgets files g
  pub base_header : HeaderParts
  pub base_headed : StatesHeader name (kept (lines_from 1 unit.base)) base_header
  pub plain : IsBaseHeaderOf g.read.header base_header
  pub interface : InterfaceParts
  pub interface_text : IsInterfaceText name unit.interface interface
  pub marked : IsInterfaceOf (module_over ground) unit.base interface
  pub environment : Tree
  pub by_signatures : IsEnvironment (base_seen (seen_over ground.over))
      (interfaces_in g) environment
  pub image_is : environment ≡ image (seen_over ground.over).dialect.set.table ground.environment
  pub derivation : HasDerivation g.language.language environment base_header interface
      unit.derivation
  pub desugared : IsDesugared (module_over ground).source interface.stated derivation.proof
      derivation.derives.0

-- a unit of a module has the headline
abbrev pub UnitsHaveHeadline : Type 0
UnitsHaveHeadline = (name : List ℕ) (budgets : Budgets) (files : Files) (g : GivenModule)
    (unit : UnitData) → is_name false name ≡ true → HasNamedLanguage g → HasModule name g →
    HasUnit budgets files g unit → HasHeadline name budgets files g unit
