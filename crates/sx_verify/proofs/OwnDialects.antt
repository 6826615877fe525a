-- A dialect whose language is given again.
use Rattle.std.proofs.Common.{◌≡◌, sym, ap, ◌∙◌}
use Rattle.sx_notation.specs.Language.{LanguageData}
use Rattle.sx_typing.specs.Dialects.{DialectData}

abbrev pub with_language : DialectData → LanguageData → DialectData
with_language d l = record {
  language = l;
  parts = d.parts;
  rule_parts = d.rule_parts;
  rules = d.rules;
  set = d.set;
}

-- it is the same with its own language
pub same_language : (d : DialectData) (l : LanguageData) (e : DialectData) → d ≡ e →
    e.language ≡ l → with_language d l ≡ e
same_language d l e is same =
    ap (with_language d) (sym (ap (λ (x : DialectData). x.language) is ∙ same)) ∙ is
