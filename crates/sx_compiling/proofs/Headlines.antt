-- A unit stands by itself, and is the desugaring of the source of its module.
use Rattle.std.proofs.Common.{◌≡◌, ℕ, List, [], ◌∷◌, refl, sym, ap, ◌∙◌, subst}
use Rattle.sha2.specs.Sha256.{sha256}
use Rattle.sx_term.specs.declared.role.Role.TheVariants.{Sub, Out}
use Rattle.sx_term.specs.declared.sort.Sort.{Sort}
use Rattle.sx_term.specs.Tree.{Tree}
use Rattle.sx_lines.specs.Lines.{lines_from}
use Rattle.sx_lines.specs.Reading.{kept}
use Rattle.sx_token.specs.declared.token.Token.{Token}
use Rattle.sx_grammar.specs.Grammar.{Text}
use Rattle.sx_grammar.specs.Parts.{Parts, numbered}
use Rattle.sx_grammar.specs.Reading.{ReadsWhole}
use Rattle.sx_grammar.specs.Told.{shapes_of}
use Rattle.sx_earley.specs.Tokens.{plain_tokens}
use Rattle.sx_earley.specs.Completed.{sort_number}
use Rattle.sx_rules.specs.Derivations.{Derives}
use Rattle.sx_rules.specs.First.{DerivesGoal}
use Rattle.sx_rules.specs.Modes.{goal_of}
use Rattle.sx_rules.specs.Orders.{Entry}
use Rattle.sx_rules.specs.Rules.{Rule, Judgement}
use Rattle.sx_rules.specs.Views.{FormData, modes_of, subjects_in}
use Rattle.sx_plain.specs.Plain.{image}
use Rattle.sx_rewrite.specs.Lowers.{IsImageOf}
use Rattle.sx_rewrite.specs.Stored.{signature_of}
use Rattle.sx_rewrite.proofs.Lowerings.{lowered_are_derivations}
use Rattle.sx_interface.specs.Stated.{InterfacesAreWithin}
use Rattle.sx_interface.specs.StatedHeader.{StatesHeader}
use Rattle.sx_typing.specs.Body.{ReadsOnly}
use Rattle.sx_typing.specs.Dialects.{DialectData, IsDialect}
use Rattle.sx_typing.specs.MainGoals.{main_goal}
use Rattle.sx_typing.specs.Outcomes.{nameless}
use Rattle.sx_rules.specs.Rules.{no_hypotheses}
use Rattle.sx_typing.specs.BodySource.{main_sort}
use Rattle.sx_typing.proofs.OneBody.{one_cut}
use Rattle.sx_unit.specs.Modules.{ModuleData}
use Rattle.sx_unit.specs.Texts.{print_text, print_line, base_text, written_interface}
use Rattle.sx_unit.specs.Texts.{derivation_text}
use Rattle.sx_unit.specs.Unit.{IsUnit}
use Rattle.sx_unit.specs.Written.{UnitData}
use Rattle.sx_environment.proofs.BaseEnvironments.{base_environment_is_image}
use Rattle.sx_compiling.specs.Given.{interfaces_in}
use Rattle.sx_compiling.specs.Headline.{ReadsOneWay, IsDesugared, UnitsHaveHeadline}
use Rattle.sx_compiling.specs.Reached.{seen_over, module_over}
use Rattle.sx_compiling.proofs.BaseHeaders.{base_header, base_states}
use Rattle.sx_compiling.proofs.LoweredGoals.{lowered_goal}
use Rattle.sx_compiling.proofs.MadeUnits.{dialect_is}
use Rattle.sx_compiling.proofs.UnitInterfaces.{interface_stated}

-- a text with only one reading is read in exactly one way
one_way : (p : Parts) (sort : Sort) (text : Text) (t : Tree) → ReadsOnly p sort text t →
    ReadsOneWay p sort text t
one_way p sort text t only =
    let tokens = only.0 in
    let reading = only.1 in
    let read = only.2 in
    record {
      tokens = tokens;
      reading = reading;
      by = record { cut = read.cut; reads = read.answer.1.0 };
      term = sym read.term;
      only = λ others other by.
          let same : others ≡ tokens = one_cut p text others tokens by.cut read.cut in (
            same,
            read.answer.1.1 other (subst (λ (ts : List Token). ReadsWhole (numbered p)
                (plain_tokens [] ts) (sort_number sort) other) same by.reads),
          );
    }

-- ---- a unit of a module

module _ (m : ModuleData) (is : IsDialect m.source.dialect) (u : UnitData) (unit : IsUnit m u) where
  abbrev d : DialectData
  d = m.source.dialect

  abbrev forms : List FormData
  forms = d.language.forms

  -- the judgement of the first derivation
  abbrev first_judgement : Judgement
  first_judgement = unit.first.derives.0

  lowered : Derives d.set.base no_hypotheses unit.judgement unit.proof
      × IsImageOf d.set.table (subjects_in forms) unit.judgement first_judgement
  lowered =
      lowered_are_derivations (signature_of forms) (shapes_of d.language.parts) (shapes_of d.parts)
      d.set is.accepted no_hypotheses (tt, tt) unit.answer.0 unit.proof first_judgement
      unit.judgement
      (subst (λ (rules : List Rule). Derives rules no_hypotheses first_judgement unit.answer.0)
      is.rules_are unit.first.derives.3) unit.lowers

  -- the plain image of the environment
  abbrev environment : Tree
  environment = image d.set.table m.source.environment

  goal_is : goal_of (modes_of forms) unit.judgement ≡ main_goal forms d.language.main.form
      environment unit.terms.subject
  goal_is =
      lowered_goal (image d.set.table) m.source.environment unit.subject unit.terms.subject
      forms d.language.main.form is.main.form _ is.main.is is.main.typed first_judgement
      unit.judgement unit.first.derives.1 lowered.1.same_form lowered.1.images unit.are.subject

  derived : DerivesGoal (modes_of forms) (nameless d.language.rules) no_hypotheses
      (main_goal forms d.language.main.form environment unit.terms.subject)
      (unit.proof, unit.terms.signature ∷ [])
  derived = (
    unit.judgement,
    goal_is,
    unit.are.signature,
    subst (λ (rules : List Rule). Derives rules no_hypotheses unit.judgement unit.proof) is.base
        lowered.0,
  )

  pub desugared : IsDesugared m.source (print_text d.parts unit.terms.stated) unit.proof
      unit.judgement
  desugared = record {
    subject = unit.subject;
    output = unit.output;
    proof = unit.answer.0;
    body = one_way d.parts (main_sort d.language Sub) m.source.header.body unit.subject
        (unit.tokens, unit.reading, unit.read);
    first = record {
      derives = let found = unit.first.derives in (found.0, found.1, found.2 ∙ unit.gives, found.3);
      is_wanted = tt;
      least = unit.first.least;
    };
    lowers = unit.lowers;
    signed = subst (λ (t : Tree). ReadsOneWay d.parts (main_sort d.language Out)
        (print_text d.parts unit.terms.stated) t) unit.are.stated
        (one_way d.parts (main_sort d.language Out) (print_text d.parts unit.terms.stated)
        unit.terms.stated unit.written.stated_good.read);
  }

-- ---- the headline

pub units_have_headline : InterfacesAreWithin → UnitsHaveHeadline
unfolding derived
units_have_headline within name budgets files g u is_a_name l stated made =
    let ground = made.ground in
    let m = module_over ground in
    let is = dialect_is budgets files g l ground.over in
    let unit = made.compiled in
    let w = unit.written in
    let t = unit.terms in
    let d = g.language.language in
    let back = base_states name (kept (lines_from 1 g.read.bytes)) g.read.header
    (print_text d.parts t.subject) is_a_name stated.states in
    record {
      ground = ground;
      base_header = base_header g.read.header (print_line d.parts t.subject) back.0;
      base_headed = subst (λ (b : List ℕ). StatesHeader name (kept (lines_from 1 b))
          (base_header g.read.header (print_line d.parts t.subject) back.0)) (sym w.base) back.1;
      plain = record { name = refl; language = refl; uses = refl; imports = refl };
      interface = written_interface m (base_text m t) (print_text d.parts t.signature)
          (print_text m.source.dialect.parts t.stated);
      interface_text = interface_stated name budgets files g u is_a_name l stated made within;
      marked = record {
        name = refl;
        language = refl;
        uses = refl;
        digest = ap sha256 (sym w.base);
        imports = refl;
      };
      environment = environment m is u unit;
      by_signatures = base_environment_is_image (seen_over ground.over) (interfaces_in g)
          ground.environment is ground.sees;
      image_is = refl;
      derivation = record {
        subject = t.subject;
        signature = t.signature;
        proof = unit.proof;
        body = one_way d.parts (main_sort d Sub) (print_line d.parts t.subject) t.subject
            w.body_good.read;
        signed = one_way d.parts (main_sort d Out) (print_text d.parts t.signature) t.signature
            w.signature_good.read;
        derives = derived m is u unit;
        listed = w.derivation ∙ ap (λ (es : List Entry). derivation_text d.rules es) w.list;
      };
      desugared = desugared m is u unit;
    }
