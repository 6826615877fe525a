-- Languages are dialects, and dialects grow by extensions.
use Rattle.std.proofs.Common.{◌≡◌, ℕ, List, [], ◌∷◌, ◌++◌, append_assoc, map, refl, sym, ap, ◌∙◌}
use Rattle.std.proofs.Common.{subst}
use Rattle.std.proofs.lemmas.List.{append-nil}
use Rattle.std.specs.List.{AllByRecursion}
use Rattle.sx_grammar.specs.Extended.{extended}
use Rattle.sx_grammar.specs.Parts.{Line, Parts}
use Rattle.sx_grammar.specs.Tables.{literals_of}
use Rattle.sx_grammar.specs.Told.{shapes_of}
use Rattle.sx_rules.specs.Modes.{Modes}
use Rattle.sx_rules.specs.Rules.{Rule}
use Rattle.sx_rules.specs.Sets.{forms_in, rules_in}
use Rattle.sx_rules.specs.Views.{NamedRule}
use Rattle.sx_rewrite.specs.Accepted.{Accepted, Checked, ExtRule, checked, rule_in}
use Rattle.sx_rewrite.specs.Sound.{AreSoundBy}
use Rattle.sx_rewrite.specs.Stored.{signature_of}
use Rattle.sx_rewrite.proofs.Growing.{all-rules, same-rules}
use Rattle.sx_rewrite.proofs.Growing.{accepted_sets_grow, base_rules_are_accepted}
use Rattle.sx_rewrite.proofs.KindLaws.{forms-fit, forms-typed}
use Rattle.sx_rewrite.proofs.RuleSets.{good_rules_are_disciplined}
use Rattle.sx_lexemes.specs.Lexemes.{IsToken, RuleLexemesAre}
use Rattle.sx_lexemes.proofs.Grown.{grown_sets_keep_lexemes}
use Rattle.sx_typing.specs.Growing.{LanguagesAreDialects, DialectsGrow}
use Rattle.sx_typing.specs.Outcomes.{nameless}
use Rattle.sx_typing.proofs.Lexemes.{rules_to_tokens}

-- ---- languages

pub languages_are_dialects : LanguagesAreDialects
languages_are_dialects l is no_typed kinds good =
    let p = l.grammar.parts in
    let forms = forms_in l.rules in
    let rules = rules_in l.rules in
    let of_all = good_rules_are_disciplined (shapes_of p) forms [] rules good.1 in
    let same = same-rules (nameless rules) in
    record {
      more = [];
      goes_on = λ i. record {
        sorts = p.sorts;
        productions = sym (append-nil p.productions) i;
      };
      lines = is.lines;
      known = is.known;
      read_by = is.read_by;
      rules_read_by = is.read_by;
      forms = is.forms;
      fit = is.fit;
      main = is.main;
      accepted = base_rules_are_accepted (signature_of forms) (shapes_of p) (nameless rules) no_typed
          (forms-fit forms kinds) (forms-typed forms kinds) of_all.0 of_all.1 of_all.2;
      base = refl;
      rules_are = sym same;
      begins = ([], sym (append-nil rules));
      rule_set = good;
      lexemes = record {
        rules = subst (λ (rs : List Rule). AllByRecursion (RuleLexemesAre (IsToken (literals_of p)))
            rs)
            (sym same) (rules_to_tokens (literals_of p) rules is.lexemes);
        bodies = tt;
        table = λ label body e. cc;
      };
    }

-- ---- extensions

extended_more : (p : Parts) (more lines : List Line) →
    extended (extended p more) lines ≡ extended p (more ++ lines)
extended_more p more lines = λ i. record {
  sorts = p.sorts;
  productions = append_assoc p.productions more lines i;
}

-- what is stored has the rules of the extension
sound_rules : (subjects : Modes) (n : ℕ) (a : Accepted) (es : List ExtRule) (cs : List Checked) →
    AreSoundBy subjects n a es cs → map (λ e. e.rule) es ≡ map rule_in (map checked cs)
sound_rules subjects n a [] [] h = refl
sound_rules subjects n a [] (c ∷ cs) h = absurd h
sound_rules subjects n a (e ∷ es) [] h = absurd h
sound_rules subjects n a (e ∷ es) (c ∷ cs) h =
    let here = sym h.0.same_rule in
    let there = sound_rules subjects n a es cs h.1 in
    λ i. here i ∷ there i

bare_both : (rules more : List NamedRule) → nameless (rules ++ more) ≡ nameless rules ++ nameless more
bare_both [] more = refl
bare_both (r ∷ rules) more = ap (λ (rs : List Rule). r.rule ∷ rs) (bare_both rules more)

pub dialects_grow : DialectsGrow
dialects_grow d x is h =
    let l = d.language in
    let e = x.extension in
    let sig = signature_of l.forms in
    let base = shapes_of l.parts in
    let all = shapes_of (extended d.parts x.lines) in
    record {
      more = is.more ++ x.lines;
      goes_on = ap (λ (p : Parts). extended p x.lines) is.goes_on ∙ extended_more l.parts is.more
          x.lines;
      lines = is.lines;
      known = is.known;
      read_by = is.read_by;
      rules_read_by = h.read_by is.lines is.rules_read_by;
      forms = is.forms;
      fit = is.fit;
      main = is.main;
      accepted = accepted_sets_grow sig base (shapes_of d.parts) all d.set e is.accepted h.fits
          h.sound;
      base = is.base;
      rules_are = bare_both d.rules x.rules
          ∙ (λ i. is.rules_are i ++ (h.rules_are ∙ sound_rules _ _ _ e.rules e.stored h.sound) i)
          ∙ sym (all-rules d.set.base d.set.more e.stored);
      begins = (
        is.begins.0 ++ x.rules,
        ap (λ (rs : List NamedRule). rs ++ x.rules) is.begins.1
            ∙ append_assoc l.rules is.begins.0 x.rules,
      );
      rule_set = h.rule_set;
      lexemes = grown_sets_keep_lexemes (literals_of l.parts) sig base (shapes_of d.parts) all d.set
          e
          is.accepted h.fits h.sound is.lexemes h.lexemes h.table;
    }
