-- What a language becomes by extensions has a grammar.
use Rattle.std.proofs.Common.{ℕ, List, [], ◌∷◌, ap, sym, ◌∙◌, subst}
use Rattle.std.specs.Prelude.{Ok}
use Rattle.sx_grammar.specs.Made.{IsGrammar}
use Rattle.sx_extcheck.specs.declared.budgets.Budgets.{Budgets}
use Rattle.sx_steps.proofs.Ones.{ok_same}
use Rattle.sx_steps.proofs.StepsOn.{went_on}
use Rattle.sx_uses.specs.ExtensionFile.{Extension}
use Rattle.sx_accepting.specs.ExtendedLanguages.{BaseLanguage, ExtendedData}
use Rattle.sx_accepting.specs.Extending.{ExtendsBy, ExtendsLanguage}
use Rattle.sx_accepting.specs.ReadLanguage.{Stated, IsLanguageStated}

-- a language that a text states has one
pub language_grammar : (name bytes : List ℕ) (l : Stated) → IsLanguageStated name bytes l →
    IsGrammar l.language.parts
language_grammar name bytes l s =
    subst IsGrammar (sym (ap (λ d. d.parts) s.language ∙ ap (λ g. g.parts) s.states.grammar))
    s.states.readable.grammar

module _ (l : BaseLanguage) (budgets : Budgets) where
  grammar_by : (file : Extension) (x y : ExtendedData) (tries : ℕ) →
      ExtendsBy l budgets file x (Ok y) tries → IsGrammar y.grammar.parts
  grammar_by file x y tries steps =
      let read = went_on _ _ _ tries steps in
      let stated = read.begins.0 in
      let made = stated.states.read.readable.grammars in
      subst IsGrammar (sym (ap (λ (z : ExtendedData). z.grammar.parts) read.goes.2
      ∙ ap (λ r. r.grammar.parts) stated.is ∙ made.parts)) made.is_grammar

  pub grammar_after : (files : List Extension) (x y : ExtendedData) (tries : ℕ) →
      IsGrammar x.grammar.parts → ExtendsLanguage l budgets files x (Ok y) tries →
      IsGrammar y.grammar.parts
  grammar_after [] x y tries h steps =
      subst (λ (z : ExtendedData). IsGrammar z.grammar.parts) (sym (ok_same y x steps.0)) h
  grammar_after (file ∷ files) x y tries h steps =
      let first = went_on _ _ _ tries steps in
      grammar_after files first.given y first.after
      (grammar_by file x first.given first.before first.begins) first.goes
