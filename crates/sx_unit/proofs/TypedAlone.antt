-- What is written of a typed body whose derivation is lowered to itself.
use Rattle.std.proofs.Common.{◌≡◌, ℕ, ◌<◌, ◌≤◌, ◌-◌, ◌^◌, min, List, [], ◌∷◌, ◌++◌, map}
use Rattle.std.proofs.Common.{length, Option, Some, None, refl, sym, ap, ◌∙◌, subst}
use Rattle.std.specs.List.{AllByRecursion}
use Rattle.std.specs.Prelude.{slice_get, Result, Ok, Err, IfOk, IfErr}
use Rattle.std.proofs.lemmas.Option.{slice_get_within}
use Rattle.sx_term.specs.declared.role.Role.{Role}
use Rattle.sx_term.specs.declared.role.Role.TheVariants.{In, Sub, Out}
use Rattle.sx_term.specs.Sorts.{Shape}
use Rattle.sx_term.specs.Term.{tree}
use Rattle.sx_term.specs.Tree.{Tree}
use Rattle.sx_token.specs.declared.token.Token.{Token}
use Rattle.sx_grammar.specs.Reading.{Reading}
use Rattle.sx_grammar.specs.Told.{shapes_of}
use Rattle.sx_rules.specs.declared.rule.Place.{Place}
use Rattle.sx_rules.specs.Derivations.{Proof, Derives, nodes_of}
use Rattle.sx_rules.specs.EntryView.{entries}
use Rattle.sx_rules.specs.ListText.{IsEntry}
use Rattle.sx_rules.specs.Modes.{Goal, AllModed, inputs, outputs, outputs_of}
use Rattle.sx_rules.specs.Orders.{order_of}
use Rattle.sx_rules.specs.Rules.{Judgement, Rule, no_hypotheses}
use Rattle.sx_rules.specs.Views.{goal as goal_of, modes_of, subjects_in, is_out, is_sub, places_at}
use Rattle.sx_rules.proofs.Refusals.{good_moded}
use Rattle.sx_plain.specs.Plain.{Body, Table}
use Rattle.sx_plain.specs.Tables.{Desugars}
use Rattle.sx_rewrite.specs.declared.rewrite_error.RewriteError.TheVariants as rewrite
use Rattle.sx_rewrite.specs.Accepted.{Signature}
use Rattle.sx_rewrite.specs.Copied.{copied}
use Rattle.sx_rewrite.specs.Rewriting.{Rewritten, IsRewritten, spent}
use Rattle.sx_rewrite.specs.Stored.{signature_of}
use Rattle.sx_expand.specs.Readings.{AllSmall}
use Rattle.sx_extcheck.specs.declared.budgets.Budgets.{Budgets}
use Rattle.sx_typing.specs.declared.typed.Typed.{Typed}
use Rattle.sx_typing.specs.BodySource.{BodySource, IsTermFor}
use Rattle.sx_typing.specs.Dialects.{DialectData, IsDialect}
use Rattle.sx_typing.specs.Goals.{IsBody, IsTypedBy, dialect_rules, goal_with}
use Rattle.sx_typing.specs.MainGoals.{input_at, main_terms}
use Rattle.sx_unit.specs.declared.compiled.Compiled.{Compiled}
use Rattle.sx_typing.specs.declared.module_error.ModuleError.{ModuleError}
use Rattle.sx_typing.specs.declared.module_error.ModuleError.TheVariants.{RewriteSpent}
use Rattle.sx_unit.specs.BaseAlone.{IsBaseAlone}
use Rattle.sx_unit.specs.Modules.{ModuleData}
use Rattle.sx_unit.specs.PrintedParts.{PrintedData}
use Rattle.sx_unit.specs.Refused.{IsBadModule, IsCompiled}
use Rattle.sx_unit.specs.SmallTerms.{IsSmallProof}
use Rattle.sx_unit.specs.Unit.{ArePrinted, HasLowering}
use Rattle.sx_unit.specs.Written.{unit_of, ArePrintable, IsWritten, IsUnwritten}
use Rattle.sx_unit.proofs.BaseAlone.{rules_are_base, rewritten_itself, too_many_of_itself}
use Rattle.sx_unit.proofs.Entries.{lists_fit}
use Rattle.sx_unit.proofs.LoweredTerms.{printable, subject_good}
use Rattle.sx_unit.proofs.MadeUnits.{typing_is, unlowered_bad, unwritten_bad}
use Rattle.sx_unit.proofs.SmallAnswers.{found_small}

-- ---- dialects without extensions

-- where there are no more shapes, no constructor has a body
pub no_bodies : (base shapes : List Shape) (table : Table) → Desugars base shapes table →
    shapes ≡ base → (label : ℕ) → table label ≡ None
no_bodies base shapes table d same label = go (table label) refl
  where
    go : (o : Option Body) → table label ≡ o → table label ≡ None
    go None e = e
    go (Some body) e =
        let shape = d.bodies label body e in
        let within = slice_get_within base label shape.0
        (ap (λ (ss : List Shape). slice_get ss label) (sym same) ∙ shape.1) in
        d.is_table.keeps_base label within

-- ---- the subject of the goal

-- each of the terms is this one
abbrev AllAre : Tree → List Tree → Type 0
AllAre subject [] = Unit {0}
AllAre subject (t ∷ ts) = (t ≡ subject) × AllAre subject ts

module _ (environment subject : Tree) where
  subject_at : (role : Role) (places : List Place) (t : Tree) (ts : List Tree) →
      (inputs (map (λ p. is_out p.role) places) ts ≡ main_terms places environment subject →
      AllAre subject (outputs (map (λ p. is_sub p.role) places) ts)) →
      inputs (is_out role ∷ map (λ p. is_out p.role) places) (t ∷ ts) ≡
      input_at environment subject role ++ main_terms places environment subject →
      AllAre subject (outputs (is_sub role ∷ map (λ p. is_sub p.role) places) (t ∷ ts))
  subject_at In places t ts go e =
      let rest : inputs (map (λ p. is_out p.role) places) ts ≡ main_terms places environment subject
      = cc in go rest
  subject_at Sub places t ts go e =
      let same : t ≡ subject = cc in
      let rest : inputs (map (λ p. is_out p.role) places) ts ≡ main_terms places environment subject
      = cc in (same, go rest)
  subject_at Out places t ts go e = go e

  subjects_are : (places : List Place) (ts : List Tree) →
      inputs (map (λ p. is_out p.role) places) ts ≡ main_terms places environment subject →
      AllAre subject (outputs (map (λ p. is_sub p.role) places) ts)
  subjects_are [] ts e = tt
  subjects_are (p ∷ ps) [] e = tt
  subjects_are (p ∷ ps) (t ∷ ts) e = subject_at p.role ps t ts (subjects_are ps ts) e

only_one : (subject t : Tree) (ts : List Tree) → AllAre subject ts → ts ≡ t ∷ [] →
    ts ≡ subject ∷ []
only_one subject t ts all e =
    let same = subst (AllAre subject) e all in e ∙ ap (λ (u : Tree). u ∷ []) same.0

-- ---- the derivation itself

module _ (s : BodySource) (is : IsDialect s.dialect) (subject : Tree) (tries nodes : ℕ) (t : Typed)
    (by : IsTypedBy s tries subject t) (alone : IsBaseAlone s.dialect.set) where
  abbrev d : DialectData
  d = s.dialect

  abbrev sig : Signature
  sig = signature_of d.language.forms

  abbrev p : Proof
  p = by.answer.0

  abbrev j : Judgement
  j = by.derives.0

  by_base : Derives (map (λ r. r.rule) d.language.rules) no_hypotheses j p
  by_base = subst (λ (rules : List Rule). Derives rules no_hypotheses j p)
      (rules_are_base d.set alone ∙ is.base) by.derives.3

  -- the list names the language's rules, and has an entry for each node
  pub own_list_fits : AllByRecursion (IsEntry (map (λ r. r.name) d.language.rules)) t.list.items
      × (length t.list.items ≡ nodes_of p)
  own_list_fits = lists_fit d.language.rules j p t.list.items by_base by.list

  pub too_many : nodes < length t.list.items →
      IsRewritten d.set (subjects_in d.language.forms) no_hypotheses p nodes (Err spent)
  too_many many = too_many_of_itself d.set alone sig j p by.derives.3 nodes
      (subst (λ (n : ℕ). nodes < n) own_list_fits.1 many)

  module _ (small : AllSmall (goal_of t.goal).terms) (few : length t.list.items ≤ nodes) where
    moded : AllModed (modes_of d.language.forms) (dialect_rules d)
    moded = good_moded (shapes_of d.parts) d.language.forms [] d.rules is.rule_set.1

    proof_small : IsSmallProof d.set.base p
    proof_small =
        subst (λ (rules : List Rule). IsSmallProof rules p)
        (is.rules_are ∙ rules_are_base d.set alone)
        (found_small (modes_of d.language.forms) (dialect_rules d) moded (goal_with s subject)
        (subst (λ (g : Goal). AllSmall g.terms) by.goal_is small) tries by.answer by.typed.finds)

    abbrev pub itself : Rewritten
    itself = record { proof = p; judgement = j; copied = min (copied d.set p) (2 ^ 64 - 1) }

    pub rewriting : IsRewritten d.set (subjects_in d.language.forms) no_hypotheses p nodes
        (Ok itself)
    rewriting = rewritten_itself d.set alone sig j p by.derives.3 nodes proof_small
        (subst (λ (n : ℕ). n ≤ nodes) own_list_fits.1 few) by.rewritable.height

    module _ (he : IsTermFor d In s.environment) (hs : IsTermFor d Sub subject) where
      subjects_in_j : AllAre subject (outputs_of (subjects_in d.language.forms) j)
      subjects_in_j = subjects_are s.environment subject (places_at d.language.forms j.form)
          j.places (ap (λ (g : Goal). g.terms) by.derives.1
          ∙ ap (λ (n : ℕ). main_terms (places_at d.language.forms n) s.environment subject)
          (sym (ap (λ (g : Goal). g.form) by.derives.1)))

      one_subject : outputs_of (subjects_in d.language.forms) j ≡ subject ∷ []
      one_subject =
          let good = subject_good s is subject (tree t.output) he hs by.good by.answer by.derives
          nodes itself rewriting in
          only_one subject good.0 (outputs_of (subjects_in d.language.forms) j) subjects_in_j good.1

      pub own_terms_printed : (terms : PrintedData) → terms.subject ≡ subject →
          terms.signature ≡ tree t.output → terms.stated ≡ tree t.output →
          ArePrinted d j (tree t.output) terms
      own_terms_printed terms subject_is signature_is stated_is = record {
        subject = one_subject ∙ ap (λ (u : Tree). u ∷ []) (sym subject_is);
        signature = by.derives.2 ∙ by.typed.gives ∙ ap (λ (u : Tree). u ∷ []) (sym signature_is);
        stated = stated_is;
      }

      pub own_terms_printable : (terms : PrintedData) → terms.subject ≡ subject →
          terms.signature ≡ tree t.output → terms.stated ≡ tree t.output → ArePrintable d terms
      own_terms_printable terms subject_is signature_is stated_is =
          printable s is subject (tree t.output) he hs by.good by.answer by.derives nodes itself
          rewriting terms (own_terms_printed terms subject_is signature_is stated_is)

-- ---- what is written

module _ (m : ModuleData) (b : Budgets) (is : IsDialect m.source.dialect) (tokens : List Token)
    (reading : Reading) (subject : Tree) (read : IsBody m.source tokens reading subject) (t : Typed)
    (by : IsTypedBy m.source b.tries subject t) (alone : IsBaseAlone m.source.dialect.set) where
  -- where there are more nodes than the budget, that is the refusal
  pub spent_bad : b.nodes < length t.list.items → IsBadModule m b (RewriteSpent b.nodes)
  spent_bad many =
      unlowered_bad m b (rewrite.RewriteSpent b.nodes) (
        typing_is m b tokens reading subject read t by,
        (refl, too_many m.source is subject b.tries b.nodes t by alone many),
      )

  -- or else the texts are those of the terms of the derivation itself
  pub compiled_alone : AllSmall (goal_of t.goal).terms → length t.list.items ≤ b.nodes →
      IsTermFor m.source.dialect In m.source.environment → IsTermFor m.source.dialect Sub subject →
      (terms : PrintedData) → terms.subject ≡ subject → terms.signature ≡ tree t.output →
      terms.stated ≡ tree t.output → (r : Result Compiled ModuleError) (count : ℕ) →
      IfOk r (λ c. (q : Proof) → entries t.list.items ≡ order_of q →
      length t.list.items ≡ nodes_of q → IsWritten m terms q (unit_of c)) →
      IfOk r (λ c. c.source_tokens ≡ count) → count ≡ length tokens →
      IfErr r (IsUnwritten m terms) → IsCompiled m b r
  compiled_alone small few he hs terms subject_is signature_is stated_is =
      compiled_with (record {
        typing = typing_is m b tokens reading subject read t by;
        lowered = itself m.source is subject b.tries b.nodes t by alone small few;
        rewriting = rewriting m.source is subject b.tries b.nodes t by alone small few;
        terms = terms;
        are = own_terms_printed m.source is subject b.tries b.nodes t by alone small few he hs terms
            subject_is signature_is stated_is;
      })
      by.list (own_list_fits m.source is subject b.tries b.nodes t by alone).1
    where
      compiled_with : (l : HasLowering m b) → entries t.list.items ≡ order_of l.lowered.proof →
          length t.list.items ≡ nodes_of l.lowered.proof → (r : Result Compiled ModuleError)
          (count : ℕ) → IfOk r (λ c. (q : Proof) → entries t.list.items ≡ order_of q →
          length t.list.items ≡ nodes_of q → IsWritten m l.terms q (unit_of c)) →
          IfOk r (λ c. c.source_tokens ≡ count) → count ≡ length l.typing.body.tokens →
          IfErr r (IsUnwritten m l.terms) → IsCompiled m b r
      compiled_with l list nodes (Ok c) count written counted many refused = record {
        lowering = l;
        written = written l.lowered.proof list nodes;
        source_tokens = subst (λ (n : ℕ). c.source_tokens ≡ n) many counted;
      }
      compiled_with l list nodes (Err e) count written counted many refused =
          unwritten_bad m b l e refused
