-- What accepting an extension answers, as a step.
use Rattle.std.proofs.Common.{◌≡◌, ℕ, List, [], ◌∷◌, map, length, inl, inr, refl, sym, ap, ◌∙◌}
use Rattle.std.proofs.Common.{subst, arith}
use Rattle.std.proofs.lemmas.List.{length-map}
use Rattle.std.specs.Prelude.{Result, Ok, Err, Some}
use Rattle.sx_term.specs.Sorts.{Shape}
use Rattle.sx_grammar.specs.Grammar.{Text}
use Rattle.sx_grammar.specs.Told.{shapes_of}
use Rattle.sx_rules.specs.Sets.{shapes_in, forms_in, rules_in}
use Rattle.sx_rules.specs.Views.{named, rule}
use Rattle.sx_rewrite.specs.declared.accepted.Accepted.{Accepted as AcceptedOf}
use Rattle.sx_rewrite.specs.declared.ext_rule.ExtRule.{ExtRule as ExtRuleOf}
use Rattle.sx_rewrite.specs.Accepted.{Checked}
use Rattle.sx_rewrite.specs.Stored.{checked_of}
use Rattle.sx_extcheck.specs.declared.accept_error.AcceptError.{AcceptError}
use Rattle.sx_extcheck.specs.declared.accept_error.AcceptError.TheVariants.{Memory, Rule}
use Rattle.sx_extcheck.specs.declared.budgets.Budgets.{Budgets}
use Rattle.sx_extcheck.specs.declared.refused.Refused.{Refused}
use Rattle.sx_extcheck.specs.Accepts.{check_for, AreRulesChecked, IsCheckAnswered}
use Rattle.sx_extcheck.specs.Checks.{Check}
use Rattle.sx_notation.specs.declared.language.Language.{Language}
use Rattle.sx_extension.specs.declared.extension.ReadExtension.{ReadExtension}
use Rattle.sx_steps.specs.declared.step_error.StepError.{StepError}
use Rattle.sx_steps.specs.declared.step_error.StepError.TheVariants as errors
use Rattle.sx_steps.specs.Stop.{Does}
use Rattle.sx_accepting.specs.declared.extended.Extended.{Extended}
use Rattle.sx_accepting.specs.AcceptanceStops.{Refusing}
use Rattle.sx_accepting.specs.ExtendedLanguages.{base_of, extended_data}
use Rattle.sx_accepting.specs.Extending.{read_data, HaveChecks, check_after, refusing_by}
use Rattle.sx_accepting.specs.Extending.{refusing_after, Accepts, IsStopToldBy}

-- ---- tries

-- no try was made before memory lacked
pub none_checked : (c : Check) (es : List ExtRuleOf) → AreRulesChecked c es 0 (Err Memory)
none_checked c [] = refl
none_checked c (e ∷ es) = inl (omega arith)

-- where a rule is refused, memory may lack for the answer
pub refused_checked : (c : Check) (es : List ExtRuleOf) (n : ℕ) (e : AcceptError) →
    AreRulesChecked c es n (Err e) → AreRulesChecked c es n (Err Memory)
refused_checked c es n Memory h = h
refused_checked c [] n (Rule name d) h = absurd h
refused_checked c (e ∷ es) n (Rule name d) (inl (same, refused, is)) = inl (omega (arith, is))
refused_checked c (e ∷ es) n (Rule name d) (inr (s, stored, rest, sum, more)) =
    inr (s, stored, rest, sum, refused_checked c es rest (Rule name d) more)

-- ---- names

pub names_named : (es : List ExtRuleOf) →
    map (λ e. e.rule.name) es ≡ map (λ r. r.name) (map (λ e. named e.rule) es)
names_named [] = refl
names_named (e ∷ es) = ap (λ (ns : List Text). e.rule.name ∷ ns) (names_named es)

module _ (l : Language) (s : Extended) (read : ReadExtension) (budgets : Budgets) (file : List ℕ)
  where
    abbrev before : Check
    before = check_for s.accepted read.extension budgets

    have_checks : (n : ℕ) (answer : Result (List Checked) AcceptError) →
        AreRulesChecked before read.extension.rules.items n answer →
        HaveChecks (check_after (extended_data l s).set (read_data read).table budgets)
        (read_data read) n answer
    have_checks n answer checked =
        record {
          held = read.extension.rules.items;
          rules = refl;
          bodies = refl;
          checked = checked;
        }

    -- a refused rule is told by what was read
    pub same_refusing : (kept : AcceptedOf) (names : List Text) (vars : List (List Text)) →
        kept.rules ≡ s.accepted.rules → names ≡ map (λ e. e.rule.name) read.extension.rules.items →
        vars ≡ read.names.items →
        refusing_after l read.rule_grammar kept names vars ≡ refusing_by (base_of l)
        (extended_data l s) (read_data read)
    same_refusing kept names vars rules are told = λ i. record {
      parts = read.rule_grammar.parts;
      forms = forms_in l.rules;
      rules = rules_in (rules i);
      names = (are ∙ names_named read.extension.rules.items) i;
      vars = told i;
    }

    -- ---- answers

    module _ (first last : ℕ) where
      -- memory lacked before any rule was checked
      pub accepts_nothing : Does (extended_data l)
          (Accepts (base_of l) budgets file (extended_data l s) (read_data read))
          (Err errors.Memory)
          first first
      accepts_nothing = (
        0,
        have_checks 0 (Err Memory)
            (none_checked before read.extension.rules.items),
        omega arith,
      )

      -- the extension is accepted
      pub accepts_new : (all : List Shape) → all ≡ shapes_of read.grammar.parts →
          (new : AcceptedOf) (many : ℕ) → many ≡ length read.extension.rules.items →
          IsCheckAnswered s.accepted all read.extension before first last (Ok new) →
          Does (extended_data l) (Accepts (base_of l) budgets file (extended_data l s) (read_data
          read)) (Ok (record {
            grammars =
                Some (record { grammar = read.grammar; rule_grammar = read.rule_grammar });
            accepted =
                new;
            last = many;
          })) first last
      accepts_new all all_are new many many_are answer =
          let outcome = answer.2 in
          let stored = checked_of (map (λ e. rule e.rule) read.extension.rules.items) outcome.0 in
          let added = outcome.2 in (
            answer.0,
            (
              stored,
              have_checks answer.0 (Ok stored) outcome.1,
              λ i. record {
                grammar = read.grammar;
                by_rules = read.rule_grammar.parts;
                set = record {
                  base_rules = rules_in (added.0 i);
                  base_shapes = shapes_in (added.0 i);
                  forms = forms_in (added.0 i);
                  rules = added.2 i;
                  shapes = (added.1 ∙ all_are) i;
                  kept = added.3 i;
                };
                last = (many_are ∙ sym (length-map read.extension.rules.items (λ (e : ExtRuleOf).
                    named e.rule))) i;
              },
            ),
            answer.1,
          )

      told_so : (n : ℕ) (e : AcceptError) (why : StepError) →
          AreRulesChecked before read.extension.rules.items n (Err e) →
          IsStopToldBy file (refusing_by (base_of l) (extended_data l s) (read_data read)) e why →
          Accepts (base_of l) budgets file (extended_data l s) (read_data read) (Err why) n
      told_so n e errors.Memory checked told =
          have_checks n (Err Memory)
          (refused_checked before read.extension.rules.items n e checked)
      told_so n e (errors.Stopped stop) checked told = (e, have_checks n (Err e) checked, told)

      -- a rule is refused, or memory lacks
      pub accepts_none : (all : List Shape) (refused : Refused) (why : StepError)
          (names : List Text)
          (vars : List (List Text)) → names ≡ map (λ e. e.rule.name) read.extension.rules.items →
          vars ≡ read.names.items →
          IsCheckAnswered s.accepted all read.extension before first last (Err refused) →
          IsStopToldBy file (refusing_after l read.rule_grammar refused.set names vars)
          refused.error why
          →
          Does (extended_data l) (Accepts (base_of l) budgets file (extended_data l s) (read_data
          read)) (Err why) first last
      accepts_none all refused why names vars are named_so answer told =
          let outcome = answer.2 in (
            answer.0,
            told_so answer.0 refused.error why outcome.0
                (subst (λ (by : Refusing). IsStopToldBy file by refused.error why)
                (same_refusing refused.set names vars outcome.1.rules are named_so) told),
            answer.1,
          )
