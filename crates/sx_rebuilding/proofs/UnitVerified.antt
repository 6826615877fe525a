-- A unit that was made is verified over files that hold its texts and what it was made from.
use Rattle.std.proofs.Common.{◌≡◌, ℕ, ◌≤◌, true, false, List, [], ◌∷◌, map, length, codes}
use Rattle.std.proofs.Common.{refl, sym, ap, ◌∙◌, subst, arith}
use Rattle.std.specs.Prelude.{Ok}
use Rattle.std.specs.List.{AllByRecursion}
use Rattle.std.specs.Str.{IsUtf8}
use Rattle.sha2.specs.Sha256.{sha256}
use Rattle.sx_lines.specs.Lines.{lines_from, line_texts}
use Rattle.sx_lines.specs.Reading.{kept, written}
use Rattle.sx_lines.specs.Words.{is_name}
use Rattle.sx_grammar.specs.Told.{shapes_of}
use Rattle.sx_rules.specs.Derivations.{Proof, nodes_of}
use Rattle.sx_rules.specs.EntryView.{entries}
use Rattle.sx_rules.specs.ListText.{IsEntry, entry_line, StatesList}
use Rattle.sx_rules.specs.Orders.{Entry, of_rule, of_given, order_of}
use Rattle.sx_rules.specs.RuleNames.{AreNames, AreNamesDistinct}
use Rattle.sx_rules.specs.Views.{modes_of}
use Rattle.sx_replay.specs.Fronts.{whole}
use Rattle.sx_replay.specs.Replay.{IsWithin}
use Rattle.sx_interface.specs.Interfaces.{InterfaceParts}
use Rattle.sx_interface.specs.Stated.{InterfacesAreWithin}
use Rattle.sx_interface.specs.StatedHeader.{StatesHeader}
use Rattle.sx_extcheck.specs.declared.budgets.Budgets.{Budgets}
use Rattle.sx_notation.specs.Language.{LanguageData}
use Rattle.sx_typing.specs.Dialects.{IsDialect}
use Rattle.sx_typing.specs.Growing.{unextended_dialect}
use Rattle.sx_typing.specs.Outcomes.{nameless}
use Rattle.sx_rules.specs.Rules.{no_hypotheses}
use Rattle.sx_unit.specs.Texts.{print_text, print_line, base_text, entry_text, derivation_text}
use Rattle.sx_unit.specs.Modules.{ModuleData}
use Rattle.sx_unit.specs.PrintedParts.{PrintedData}
use Rattle.sx_unit.specs.Written.{UnitData, IsWritten}
use Rattle.sx_unit.proofs.Entries.{lists_fit}
use Rattle.sx_environment.proofs.BaseEnvironments.{base_environment_is_image}
use Rattle.sx_outside.specs.Files.{Files}
use Rattle.sx_steps.specs.Held.{Held}
use Rattle.sx_term.specs.Limits.{most_bytes}
use Rattle.sx_steps.specs.Unit.{interface_file}
use Rattle.sx_steps.proofs.StepsOn.{Went}
use Rattle.sx_accepting.specs.LanguageFiles.{language_file}
use Rattle.sx_accepting.specs.ReadLanguage.{StatesLanguage}
use Rattle.sx_dialects.proofs.LanguagesBegun.{extended_is_dialect}
use Rattle.sx_headers.specs.ReadModule.{Module}
use Rattle.sx_compiling.specs.Given.{GivenModule, interfaces_in}
use Rattle.sx_compiling.specs.Headline.{IsInterfaceText}
use Rattle.sx_compiling.specs.Reached.{HasNamedLanguage, HasModule, seen_over}
use Rattle.sx_compiling.proofs.InterfaceTexts.{parts_from}
use Rattle.sx_compiling.proofs.UnitInterfaces.{interface_stated}
use Rattle.sx_build.specs.BuiltModules.{HoldsTexts}
use Rattle.sx_build.specs.MadeModules.{made_of}
use Rattle.sx_verify.specs.Verified.{verified_plan}
use Rattle.sx_verify.specs.VerifyModule.{both_written, ReadsWritten, VerifiesModule}
use Rattle.sx_verify.proofs.DistinctRules.{all_distinct}
use Rattle.sx_verify.proofs.NamedRules.{stated_named}
use Rattle.sx_compiling.proofs.BaseHeaders.{base_header, base_states}
use Rattle.sx_rebuilding.proofs.BaseUtf8.{base_utf8}
use Rattle.sx_rebuilding.proofs.ImportsAgain.{AreKept, all_kept, marked_names}
use Rattle.sx_rebuilding.proofs.LimitedUnits as limited
use Rattle.sx_rebuilding.proofs.LimitedUnits.{MadeUnit}
use Rattle.sx_rebuilding.proofs.ListsAgain.{list_again, same_entries, text_of, text_states}
use Rattle.sx_rebuilding.proofs.ListsAgain.{text_length}

-- ---- the text of a list

same_rows : (names : List (List ℕ)) (list : List Entry) →
    map (entry_text names) list ≡ map (entry_line names) (list_again list)
same_rows names [] = refl
same_rows names (of_rule n ∷ list) =
    ap (λ (rows : List (List ℕ)). entry_text names (of_rule n) ∷ rows) (same_rows names list)
same_rows names (of_given n ∷ list) =
    ap (λ (rows : List (List ℕ)). entry_text names (of_given n) ∷ rows) (same_rows names list)

-- ---- the unit of a module

module _ (name : List ℕ) (budgets : Budgets) (old new : Files) (g : GivenModule) (u : UnitData)
    (is_a_name : is_name false name ≡ true)
    (states : StatesHeader name (kept (lines_from 1 g.read.bytes)) g.read.header)
    (few_nodes : budgets.nodes ≤ 1000000)
    (language : Went (Held most_bytes (language_file g.read.header.language) new)
    (StatesLanguage g.read.header.language) g.language)
    (imports : AreKept (interface_file name) new g.read.header.imports g.imports)
    (holds : HoldsTexts new (made_of name u)) where
  abbrev l : HasNamedLanguage g
  l = record { bytes = language.given; states = language.goes }

  abbrev h : HasModule name g
  h = record { states = states; imports = imports.same; digests = imports.digests }

  abbrev d : LanguageData
  d = g.language.language

  -- ---- the rules

  is_language : IsDialect (unextended_dialect d)
  is_language =
      extended_is_dialect g.read.header.language language.given g.language language.goes
      (record { tries = 0; nodes = 0 }) [] _ 0 (refl, refl)

  abbrev names : List (List ℕ)
  names = map (λ r. r.name) d.rules

  named : AreNames names
  named = stated_named g.read.header.language language.given g.language language.goes

  distinct : AreNamesDistinct names
  distinct = all_distinct (shapes_of d.parts) d.forms [] d.rules is_language.rule_set.1

  module _ (made : MadeUnit budgets old g u) where
    abbrev m : ModuleData
    m = limited.m budgets old g l u made

    abbrev t : PrintedData
    t = limited.terms budgets old g l u made

    abbrev proof : Proof
    proof = made.gives.made.lowering.lowered.proof

    abbrev w : IsWritten m t proof u
    w = made.gives.made.written

    abbrev it : InterfaceParts
    it = parts_from m t

    -- ---- the interface and the base file

    interface_short : length u.interface ≤ 262144
    interface_short =
        subst (λ (b : List ℕ). length b ≤ 262144) (sym w.interface) w.stated_good.short

    base_short : length u.base ≤ 262144
    base_short = subst (λ (b : List ℕ). length b ≤ 262144) (sym w.base) w.body_good.short

    back : (number : ℕ) × StatesHeader name (kept (lines_from 1 (base_text m t)))
        (base_header g.read.header (print_line d.parts t.subject) number)
    back =
        base_states name (kept (lines_from 1 g.read.bytes)) g.read.header
        (print_text d.parts t.subject) is_a_name states

    abbrev base : Module
    base = record {
      bytes = u.base;
      header = base_header g.read.header (print_line d.parts t.subject) back.0;
    }

    utf8 : IsUtf8 u.base
    utf8 =
        subst IsUtf8 (sym w.base)
        (base_utf8 g.read.header (print_text d.parts t.subject)
        (subst (λ (n : List ℕ). is_name false n ≡ true) (sym states.same) is_a_name)
        states.language states.imports w.body_good.read.2.cut.0)

    module _ (within : InterfacesAreWithin) where
      text : IsInterfaceText name u.interface it
      text =
          interface_stated name budgets old g u is_a_name l h
          (limited.unit budgets old g l u made) within

      reads_written : ReadsWritten name new (Ok (both_written it base))
      reads_written = record {
        given = Ok (record { bytes = u.interface; parts = it });
        begins = record {
          given = Ok u.interface;
          begins = (holds.interface, interface_short);
          goes = record { same = refl; utf8 = text.utf8; states = text.states };
        };
        goes = record {
          given = Ok base;
          begins = record {
            given = Ok u.base;
            begins = (holds.base, base_short);
            goes = record {
              same = refl;
              utf8 = utf8;
              states = subst
                  (λ (b : List ℕ). StatesHeader name (kept (lines_from 1 b)) base.header)
                  (sym w.base) back.1;
            };
          };
          goes = record {
            given = Ok tt;
            begins = record {
              language = refl;
              uses = refl;
              imports = sym imports.same ∙ sym (marked_names g.imports);
            };
            goes = record { given = Ok tt; begins = ap sha256 (sym w.base); goes = refl };
          };
        };
      }

      -- ---- the list

      abbrev list : List Entry
      list = order_of proof

      text_is : u.derivation ≡ text_of names (list_again list)
      text_is =
          w.derivation ∙ ap (λ (es : List Entry). derivation_text d.rules es) w.list
          ∙ ap (λ (rows : List (List ℕ)). written (codes "sxder 1" ∷ rows)) (same_rows names list)

      fit : AllByRecursion (IsEntry names) (list_again list)
          × (length (list_again list) ≡ nodes_of proof)
      fit =
          let derived = limited.derived budgets old g l u made in
          lists_fit d.rules derived.0 proof (list_again list) derived.3 (same_entries list)

      list_states : StatesList names (line_texts (lines_from 1 u.derivation)) (list_again list)
      list_states =
          subst (λ (b : List ℕ). StatesList names (line_texts (lines_from 1 b)) (list_again list))
          (sym text_is)
          (text_states names (list_again list) (record { named = named; distinct = distinct })
          fit.0)

      list_short : length u.derivation ≤ 67108864
      list_short =
          let size = text_length names (list_again list) named fit.0 in
          let nodes = fit.1 in
          let few = limited.few budgets old g l u made in
          let same = ap (λ (b : List ℕ). length b) text_is in
          omega (arith, size, nodes, few, few_nodes, same)

      replayed : IsWithin (modes_of d.forms) (nameless d.rules) no_hypotheses
          (limited.asked budgets old g l u made) (whole (t.signature ∷ []))
          (entries (list_again list))
      replayed =
          subst (λ (es : List Entry). IsWithin (modes_of d.forms) (nameless d.rules) no_hypotheses
          (limited.asked budgets old g l u made) (whole (t.signature ∷ [])) es)
          (sym (same_entries list)) (limited.within budgets old g l u made)

      -- ---- all steps

      pub unit_verified : VerifiesModule name new
          (Ok (verified_plan name (length (list_again list))))
      unit_verified = record {
        given = Ok (both_written it base);
        begins = reads_written;
        goes = record {
          given = Ok language.given;
          begins = language.begins;
          goes = record {
            given = Ok tt;
            begins = language.goes.digest;
            goes = record {
              given = Ok (interfaces_in g);
              begins = all_kept (interface_file name) new g.read.header.imports g.imports imports;
              goes = record {
                given = Ok g.language;
                begins = language.goes;
                goes = record {
                  given = Ok tt;
                  begins = made.ground.over.from.free;
                  goes = record {
                    given = Ok (limited.environment budgets old g l u made);
                    begins = (
                      base_environment_is_image (seen_over made.ground.over) (interfaces_in g)
                          made.ground.environment (limited.is budgets old g l u made)
                          made.ground.sees,
                      limited.depth budgets old g l u made,
                    );
                    goes = record {
                      given = Ok t.subject;
                      begins = w.body_good.read;
                      goes = record {
                        given = Ok (list_again list);
                        begins = record {
                          given = Ok u.derivation;
                          begins = (holds.list, list_short);
                          goes = list_states;
                        };
                        goes = record {
                          given = Ok t.signature;
                          begins = replayed;
                          goes = record { given = Ok tt; begins = refl; goes = refl };
                        };
                      };
                    };
                  };
                };
              };
            };
          };
        };
      }
