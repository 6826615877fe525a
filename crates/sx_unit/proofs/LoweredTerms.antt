-- What a typed body is lowered to can be printed.
use Rattle.std.proofs.Common.{◌≡◌, ℕ, Bool, true, false, List, [], ◌∷◌, ◌++◌, map, length, refl}
use Rattle.std.proofs.Common.{sym, ap, ◌∙◌, subst}
use Rattle.std.specs.Prelude.{Ok}
use Rattle.std.specs.List.{AllByRecursion}
use Rattle.sx_term.specs.declared.role.Role.{Role}
use Rattle.sx_term.specs.declared.role.Role.TheVariants.{In, Sub, Out}
use Rattle.sx_term.specs.declared.sort.Sort.{Sort}
use Rattle.sx_term.specs.declared.sort.Sort.TheVariants.{Plain, Typed}
use Rattle.sx_term.specs.Sorts.{Shape, HaveSorts}
use Rattle.sx_term.specs.Tree.{Tree}
use Rattle.sx_grammar.specs.Grammar.{Text}
use Rattle.sx_grammar.specs.Tables.{literals_of}
use Rattle.sx_grammar.specs.Told.{shapes_of}
use Rattle.sx_rules.specs.declared.rule.Place.{Place}
use Rattle.sx_rules.specs.declared.entry.Entry.{Entry as EntryOf}
use Rattle.sx_rules.specs.Deep.{AreShallow}
use Rattle.sx_rules.specs.Derivations.{Derives, nodes_of}
use Rattle.sx_rules.specs.EntryView.{entries}
use Rattle.sx_rules.specs.ListText.{IsEntry}
use Rattle.sx_rules.specs.Orders.{order_of}
use Rattle.sx_rules.specs.First.{Answer, DerivesGoal}
use Rattle.sx_rules.specs.Modes.{outputs, outputs_of, Goal, goal_of}
use Rattle.sx_rules.specs.Rules.{Rule}
use Rattle.sx_rules.specs.Sorts.{GoalIsSorted}
use Rattle.sx_rules.specs.Views.{FormData, modes_of, subjects_in, sorts_of, places_at}
use Rattle.sx_rules.specs.Views.{places_or_none, is_out, is_sub}
use Rattle.sx_rules.proofs.Sorted.{outputs-sorted}
use Rattle.sx_lexemes.specs.Lexemes.{IsToken, AllLexemesAre}
use Rattle.sx_lexemes.proofs.Lowered.{lowered_keep_lexemes}
use Rattle.sx_lexemes.proofs.Terms.{outputs_lexemes}
use Rattle.sx_notation.specs.Language.{sort_when, sorts_with}
use Rattle.sx_rewrite.specs.Accepted.{extended_rules as accepted_rules}
use Rattle.sx_rewrite.specs.Rewriting.{Rewritten, IsRewritten}
use Rattle.sx_rewrite.specs.RewritingLaws.{IsGoodRewriting}
use Rattle.sx_rewrite.specs.Stored.{signature_of}
use Rattle.sx_rewrite.proofs.Rewriting.{rewriting_is_good}
use Rattle.sx_typing.specs.Dialects.{IsDialect}
use Rattle.sx_typing.specs.Goals.{goal_with}
use Rattle.sx_rules.specs.Rules.{no_hypotheses}
use Rattle.sx_typing.specs.BodySource.{BodySource, IsGoodTerm, IsTermFor, main_sort}
use Rattle.sx_typing.proofs.Lexemes.{all_to_tokens, from_tokens}
use Rattle.sx_typing.proofs.MainSorts.{main_sort_is}
use Rattle.sx_typing.proofs.TypedBodies.{source_goal}
use Rattle.sx_unit.specs.PrintedParts.{PrintedData}
use Rattle.sx_unit.specs.Unit.{ArePrinted}
use Rattle.sx_unit.specs.Written.{ArePrintable}
use Rattle.sx_unit.proofs.Entries.{lists_fit}

-- ---- the sorts at the subjects and at the outputs of a form

subject_place : (role : Role) (sort : Sort) (subs : List Bool) (sorts more : List Sort) →
    outputs subs sorts ≡ more → outputs (is_sub role ∷ subs) (sort ∷ sorts) ≡ sort_when Sub role
    sort ++ more
subject_place In sort subs sorts more e = e
subject_place Sub sort subs sorts more e = ap (λ (ss : List Sort). sort ∷ ss) e
subject_place Out sort subs sorts more e = e

subject_sorts : (places : List Place) → outputs (map (λ p. is_sub p.role) places)
    (map (λ p. p.sort) places) ≡ sorts_with Sub places
subject_sorts [] = refl
subject_sorts (p ∷ ps) = subject_place p.role p.sort (map (λ q. is_sub q.role) ps)
    (map (λ q. q.sort) ps) (sorts_with Sub ps) (subject_sorts ps)

output_place : (role : Role) (sort : Sort) (outs : List Bool) (sorts more : List Sort) →
    outputs outs sorts ≡ more → outputs (is_out role ∷ outs) (sort ∷ sorts) ≡ sort_when Out role
    sort ++ more
output_place In sort outs sorts more e = e
output_place Sub sort outs sorts more e = e
output_place Out sort outs sorts more e = ap (λ (ss : List Sort). sort ∷ ss) e

output_sorts : (places : List Place) → outputs (map (λ p. is_out p.role) places)
    (map (λ p. p.sort) places) ≡ sorts_with Out places
output_sorts [] = refl
output_sorts (p ∷ ps) = output_place p.role p.sort (map (λ q. is_out q.role) ps)
    (map (λ q. q.sort) ps) (sorts_with Out ps) (output_sorts ps)

-- ---- one good term

same_head : (t u : Tree) → t ∷ [] ≡ u ∷ [] → t ≡ u
same_head t u e = cc

shallow_outputs : (bs : List Bool) (ts : List Tree) → AreShallow ts → AreShallow (outputs bs ts)
shallow_outputs [] ts h = tt
shallow_outputs (b ∷ bs) [] h = tt
shallow_outputs (true ∷ bs) (t ∷ ts) h = (h.0, shallow_outputs bs ts h.1)
shallow_outputs (false ∷ bs) (t ∷ ts) h = shallow_outputs bs ts h.1

module _ (literals : List Text) (shapes : List Shape) where
  one_good : (sort : Sort) (ts : List Tree) → HaveSorts shapes [] ts (sort ∷ []) → AreShallow ts →
      AllLexemesAre (IsToken literals) ts → (t : Tree) × (ts ≡ t ∷ []) × IsGoodTerm literals shapes
      sort t
  one_good sort [] h s l = absurd h
  one_good sort (t ∷ u ∷ ts) h s l = absurd h.1
  one_good sort (t ∷ []) h s l =
      (t, refl, record { sorted = h.0; depth = s.0; lexemes = from_tokens literals t l.0 })

  good_at : (bs : List Bool) (sorts : List Sort) (ts : List Tree) (sort : Sort) →
      outputs bs sorts ≡ sort ∷ [] → HaveSorts shapes [] ts sorts → AreShallow ts →
      AllLexemesAre (IsToken literals) ts →
      (t : Tree) × (outputs bs ts ≡ t ∷ []) × IsGoodTerm literals shapes sort t
  good_at bs sorts ts sort one h s l =
      one_good sort (outputs bs ts) (subst (λ (ss : List Sort). HaveSorts shapes [] (outputs bs ts)
      ss) one (outputs-sorted shapes [] bs ts sorts h)) (shallow_outputs bs ts s)
      (outputs_lexemes (IsToken literals) bs ts l)

-- ---- what is lowered

module _ (s : BodySource) (is : IsDialect s.dialect) (subject output : Tree)
    (he : IsTermFor s.dialect In s.environment) (hs : IsTermFor s.dialect Sub subject)
    (ho : IsTermFor s.dialect Out output)
    (answer : Answer) (derives : DerivesGoal (modes_of s.dialect.language.forms)
    (accepted_rules s.dialect.set) no_hypotheses (goal_with s subject) answer) (nodes : ℕ)
    (x : Rewritten)
    (rewriting : IsRewritten s.dialect.set (subjects_in s.dialect.language.forms) no_hypotheses
    answer.0 nodes (Ok x)) where
  abbrev forms : List FormData
  forms = s.dialect.language.forms

  abbrev literals : List Text
  literals = literals_of s.dialect.language.parts

  abbrev base : List Shape
  base = shapes_of s.dialect.language.parts

  abbrev number : ℕ
  number = s.dialect.language.main.form

  asked : GoalIsSorted (shapes_of s.dialect.parts) (sorts_of forms) (modes_of forms) []
      (goal_of (modes_of forms) derives.0)
  asked = subst (λ (g : Goal). GoalIsSorted (shapes_of s.dialect.parts) (sorts_of forms)
      (modes_of forms) [] g) (sym derives.1) (source_goal s is subject he hs).sorted

  good : IsGoodRewriting (signature_of forms) base s.dialect.set no_hypotheses [] nodes derives.0 x
  good =
      rewriting_is_good (signature_of forms) base (shapes_of s.dialect.parts) s.dialect.set
      is.accepted no_hypotheses [] tt (tt, tt) tt answer.0 derives.0 derives.3 asked nodes x
      rewriting

  have : AllLexemesAre (IsToken literals) x.judgement.places
  have =
      lowered_keep_lexemes literals (signature_of forms) base (shapes_of s.dialect.parts)
      s.dialect.set is.accepted is.lexemes no_hypotheses tt answer.0 x.proof derives.0
      x.judgement derives.3
      (subst (λ (g : Goal). AllLexemesAre (IsToken literals) g.terms) (sym derives.1)
      (all_to_tokens literals (goal_with s subject).terms (source_goal s is subject he hs).lexemes))
      rewriting.0

  same_form : x.judgement.form ≡ number
  same_form = good.images.same_form ∙ ap (λ (g : Goal). g.form) derives.1

  places_are : places_at forms x.judgement.form ≡ is.main.form.places
  places_are = ap (places_at forms) same_form ∙ ap places_or_none is.main.is

  subject_one : outputs (subjects_in forms x.judgement.form) (sorts_of forms x.judgement.form) ≡
      Typed is.main.subject ∷ []
  subject_one = subject_sorts (places_at forms x.judgement.form) ∙ ap (sorts_with Sub) places_are
      ∙ is.main.typed

  output_one : outputs (modes_of forms x.judgement.form) (sorts_of forms x.judgement.form) ≡ Plain
      is.main.signature ∷ []
  output_one = output_sorts (places_at forms x.judgement.form) ∙ ap (sorts_with Out) places_are
      ∙ is.main.output

  pub subject_good : (t : Tree) × (outputs_of (subjects_in forms) x.judgement ≡ t ∷ []) × IsGoodTerm
      literals base (Typed is.main.subject) t
  subject_good =
      good_at literals base (subjects_in forms x.judgement.form) (sorts_of forms x.judgement.form)
      x.judgement.places (Typed is.main.subject) subject_one good.judgement_sorted good.places
      have

  pub output_good : (t : Tree) × (outputs_of (modes_of forms) x.judgement ≡ t ∷ []) × IsGoodTerm
      literals base (Plain is.main.signature) t
  output_good =
      good_at literals base (modes_of forms x.judgement.form) (sorts_of forms x.judgement.form)
      x.judgement.places (Plain is.main.signature) output_one good.judgement_sorted good.places
      have

  -- what is printed of it can be printed
  pub printable : (t : PrintedData) → ArePrinted s.dialect x.judgement output t →
      ArePrintable s.dialect t
  printable t are = record {
    subject = subst (λ (u : Tree). IsGoodTerm literals base (main_sort s.dialect.language Sub) u)
        (same_head subject_good.0 t.subject (sym subject_good.1 ∙ are.subject))
        (subst (λ (sort : Sort). IsGoodTerm literals base sort subject_good.0)
        (sym (main_sort_is forms number is.main.form Sub (Typed is.main.subject) is.main.is
        is.main.typed)) subject_good.2);
    signature = subst (λ (u : Tree). IsGoodTerm literals base (main_sort s.dialect.language Out) u)
        (same_head output_good.0 t.signature (sym output_good.1 ∙ are.signature))
        (subst (λ (sort : Sort). IsGoodTerm literals base sort output_good.0)
        (sym (main_sort_is forms number is.main.form Out (Plain is.main.signature) is.main.is
        is.main.output)) output_good.2);
    stated = subst (IsTermFor s.dialect Out) (sym are.stated) ho;
  }

  -- and its list names the language's rules, and has an entry for each node
  pub list_fits : (list : List EntryOf) → entries list ≡ order_of x.proof →
      AllByRecursion (IsEntry (map (λ r. r.name) s.dialect.language.rules)) list ×
      (length list ≡ nodes_of x.proof)
  list_fits list same =
      lists_fit s.dialect.language.rules x.judgement x.proof list
      (subst (λ (rules : List Rule). Derives rules no_hypotheses x.judgement x.proof) is.base
      good.derives) same
