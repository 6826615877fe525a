-- Extensions that were read fit what is accepted so far, and with them more can be read.
use Rattle.std.proofs.Common.{◌≡◌, ℕ, suc, ◌≤◌, List, [], ◌∷◌, ◌++◌, map, sym, ◌∙◌, subst, arith}
use Rattle.std.specs.Prelude.{Option, Some, None, IfSome, option_map}
use Rattle.std.specs.List.{AllByRecursion}
use Rattle.sx_term.specs.Sorts.{Shape}
use Rattle.sx_term.specs.Term.{tree}
use Rattle.sx_term.specs.Tree.{Tree, depth_of}
use Rattle.sx_grammar.specs.Grammar.{Text}
use Rattle.sx_grammar.specs.Told.{shapes_of}
use Rattle.sx_plain.specs.Views.{table_of}
use Rattle.sx_rules.specs.Deep.{AreShallow}
use Rattle.sx_rules.specs.Good.{IsRuleSet}
use Rattle.sx_rules.specs.Sets.{shapes_in, forms_in, rules_in}
use Rattle.sx_rules.specs.Views.{FormData}
use Rattle.sx_rewrite.specs.declared.ext_rule.ExtRule.{ExtRule as ExtRuleOf}
use Rattle.sx_rewrite.specs.Accepted.{Checked}
use Rattle.sx_rewrite.specs.Extensions.{FitsRules}
use Rattle.sx_rewrite.specs.ExtensionView.{ext_rule, named_rules}
use Rattle.sx_rewrite.specs.Stored.{signature_of}
use Rattle.sx_extcheck.specs.FlatTerms.{listed_term}
use Rattle.sx_notation.specs.declared.language.Language.{Language}
use Rattle.sx_extension.specs.declared.extension.ReadExtension.{ReadExtension}
use Rattle.sx_extension.specs.Fitting.{FitsAfter}
use Rattle.sx_extension.specs.Grounds.{Ground, HasRoomFor, IsGroundBefore}
use Rattle.sx_extension.specs.Laws.{next_ground, ExtensionsGoOn}
use Rattle.sx_extension.specs.States.{IsExtensionIn}
use Rattle.sx_accepting.specs.declared.extended.Extended.{Extended}
use Rattle.sx_accepting.specs.ExtendedLanguages.{BaseLanguage, ExtendedData, ground_of}
use Rattle.sx_accepting.specs.ExtendedLanguages.{ground_after, CanExtend}
use Rattle.sx_accepting.specs.Extending.{read_data, with_extension}
use Rattle.sx_accepting.specs.Refusals.{IsAcceptedSet, CanAccept}

-- ---- more can be read

module _ (law : ExtensionsGoOn) (l : BaseLanguage) (x : ExtendedData) (read : ReadExtension)
    (bytes : Text) (states : IsExtensionIn (ground_of l x) bytes read)
    (fits : FitsAfter (ground_of l x) read)
    (stored : List Checked) where
  next_is : x.set.forms ≡ l.content.forms →
      next_ground (ground_of l x) read ≡ ground_of l (with_extension x (read_data read) stored)
  next_is forms = λ i. record {
    language = l.content.parts;
    stems = l.stems;
    forms = l.content.forms;
    grammar = read.grammar;
    by_rules = read.rule_grammar.parts;
    rules = x.set.rules ++ named_rules read.extension;
    shapes = shapes_of read.grammar.parts;
    rule_forms = sym forms i;
    base = (ground_of l x).base;
    table = table_of read.extension.plain;
  }

  -- with the extension the language can be extended by one file less
  pub lasts : (files : ℕ) → CanExtend l x (suc files) →
      CanExtend l (with_extension x (read_data read) stored) files
  lasts files can =
      let g = ground_of l x in
      let one = law.room g read 1 (suc (suc files)) fits (omega arith) can.room in
      record {
        rules = can.rules;
        shapes = can.shapes;
        before = subst IsGroundBefore (next_is can.before.rule_forms)
            (law.before g bytes read can.before states fits one);
        room = subst (λ (y : Ground). HasRoomFor y (suc files)) (next_is can.before.rule_forms)
            (law.room g read (suc files) (suc (suc files)) fits (omega arith) can.room);
      }

-- ---- the extension fits

body_shallow : (b : Option Tree) → IfSome b (λ t. depth_of t ≤ 1000) → AreShallow (listed_term b)
body_shallow None h = tt
body_shallow (Some t) h = (h, tt)

bodies_shallow : (es : List ExtRuleOf) → AllByRecursion
    (λ e. IfSome e.body (λ t. depth_of t ≤ 1000)) (map ext_rule es) →
    AllByRecursion (λ e. AreShallow (listed_term (option_map tree e.body))) es
bodies_shallow [] h = tt
bodies_shallow (e ∷ es) h = (body_shallow (option_map tree e.body) h.0, bodies_shallow es h.1)

-- the extension can be accepted after the set
pub can_accept : (l : Language) (s : Extended) (read : ReadExtension) → IsAcceptedSet s.accepted →
    IsGroundBefore (ground_after l s) → shapes_in s.accepted.base ≡ shapes_of l.grammar.parts →
    FitsAfter (ground_after l s) read → CanAccept s.accepted (shapes_of read.grammar.parts)
    read.extension
can_accept l s read k before base fits =
    let set = s.accepted in
    let all = shapes_of read.grammar.parts in
    let rules = rules_in set.rules ++ named_rules read.extension in
    record {
      good = subst (λ (fs : List FormData). IsRuleSet all fs rules)
          (sym (k.forms ∙ before.rule_forms)) fits.good;
      shallow = fits.usable.shallow;
      bodies = bodies_shallow read.extension.rules.items fits.usable.bodies;
      few = fits.usable.few;
      labels = fits.labels ∙ sym k.labels;
      fits = subst (λ (fs : List FormData). FitsRules (signature_of fs) (shapes_in set.base)
          (shapes_in set.rules) all (table_of set.plain) (table_of read.extension.plain)
          (map ext_rule read.extension.rules.items)) (sym before.rule_forms)
          (subst (λ (ss : List Shape). FitsRules (signature_of (forms_in l.rules)) ss
          (shapes_in set.rules) all (table_of set.plain) (table_of read.extension.plain)
          (map ext_rule read.extension.rules.items)) (sym base) fits.fits);
    }
