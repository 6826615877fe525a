-- What the derivation of a typed body is lowered to, from what expanding its list answers.
use Rattle.std.proofs.Common.{◌≡◌, ℕ, ◌≤◌, Bool, List, [], ◌∷◌, ◌++◌, map, length, refl, sym, ap}
use Rattle.std.proofs.Common.{◌∙◌, subst, arith}
use Rattle.std.specs.Prelude.{Ok, Err}
use Rattle.sx_term.specs.declared.role.Role.{Role}
use Rattle.sx_term.specs.declared.role.Role.TheVariants.{In, Sub, Out}
use Rattle.sx_term.specs.declared.sort.Sort.{Sort}
use Rattle.sx_term.specs.Tree.{Tree}
use Rattle.sx_rules.specs.declared.entry.Entry.{Entry}
use Rattle.sx_rules.specs.declared.rule.Place.{Place}
use Rattle.sx_rules.specs.Deep.{AreShallow}
use Rattle.sx_rules.specs.Derivations.{Proof}
use Rattle.sx_rules.specs.EntryView.{entries}
use Rattle.sx_rules.specs.First.{DerivesGoal}
use Rattle.sx_rules.specs.Modes.{Goal, outputs}
use Rattle.sx_rules.specs.Views.{FormData, goal as goal_of, judgement, modes_of, subjects_in}
use Rattle.sx_rules.specs.Views.{places_or_none, is_sub}
use Rattle.sx_rewrite.specs.declared.rewrite_error.RewriteError.{RewriteError}
use Rattle.sx_rewrite.specs.Accepted.{extended_rules}
use Rattle.sx_rewrite.specs.RewrittenView.{IsRewriting}
use Rattle.sx_expand.specs.declared.expanded.Expanded.{Expanded}
use Rattle.sx_expand.specs.Expansions.{HasOneSubject, IsExpanding, IsListedAnswer}
use Rattle.sx_notation.specs.Language.{sort_when, sorts_with}
use Rattle.sx_typing.specs.declared.typed.Typed.{Typed}
use Rattle.sx_typing.specs.Dialects.{DialectData, IsDialect}
use Rattle.sx_typing.specs.Goals.{IsTypedBy}
use Rattle.sx_rules.specs.Rules.{no_hypotheses}
use Rattle.sx_typing.specs.BodySource.{BodySource, IsTermFor}
use Rattle.sx_typing.proofs.TypedBodies.{source_goal}
use Rattle.sx_unit.specs.Lowered.{IsLowering}

-- ---- the subject of the main form

subject_place : (place : Place) (role : Role) (sort : Sort) (subs : List Bool) (places : List Place)
    (sorts : List Sort) → length (outputs subs places) ≡ length sorts →
    length (outputs (is_sub role ∷ subs) (place ∷ places)) ≡
    length (sort_when Sub role sort ++ sorts)
subject_place place In sort subs places sorts e = e
subject_place place Sub sort subs places sorts e = omega (arith, e)
subject_place place Out sort subs places sorts e = e

-- there are as many subjects among the places as sorts of them
subject_places : (places : List Place) →
    length (outputs (map (λ p. is_sub p.role) places) places) ≡ length (sorts_with Sub places)
subject_places [] = refl
subject_places (p ∷ ps) = subject_place p p.role p.sort (map (λ q. is_sub q.role) ps) ps
    (sorts_with Sub ps) (subject_places ps)

main_has_one : (d : DialectData) → IsDialect d →
    HasOneSubject d.language.forms d.language.main.form
main_has_one d is =
    subst (λ (ps : List Place). length (outputs (map (λ p. is_sub p.role) ps) ps) ≤ 1)
    (sym (ap places_or_none is.main.is))
    (omega (arith, subject_places is.main.form.places, ap length is.main.typed))

-- ---- the conditions of expanding

-- a typed source whose dialect is accepted with these forms
module _ (s : BodySource) (is : IsDialect s.dialect) (own : List FormData)
    (forms_are : own ≡ s.dialect.language.forms) (tries : ℕ) (subject : Tree) (t : Typed)
    (by : IsTypedBy s tries subject t) where
  pub goal_is_shallow : IsTermFor s.dialect In s.environment → IsTermFor s.dialect Sub subject →
      AreShallow (goal_of t.goal).terms
  goal_is_shallow he hs = subst (λ (g : Goal). AreShallow g.terms) (sym by.goal_is)
      (source_goal s is subject he hs).shallow

  pub goal_has_one : HasOneSubject own t.goal.form
  goal_has_one =
      subst (λ (fs : List FormData). HasOneSubject fs t.goal.form) (sym forms_are)
      (subst (λ (n : ℕ). HasOneSubject s.dialect.language.forms n)
      (sym (ap (λ (g : Goal). g.form) by.goal_is)) (main_has_one s.dialect is))

  pub is_listed : (list : List Entry) → list ≡ t.list.items →
      IsListedAnswer (modes_of own) s.dialect.set (goal_of t.goal) (entries list) by.answer
  is_listed list list_is = record {
    derives = subst (λ (fs : List FormData). DerivesGoal (modes_of fs) (extended_rules s.dialect.set)
        no_hypotheses (goal_of t.goal) by.answer) (sym forms_are)
        (subst (λ (g : Goal). DerivesGoal (modes_of s.dialect.language.forms)
        (extended_rules s.dialect.set) no_hypotheses g by.answer) (sym by.goal_is) by.derives);
    list_is = ap entries list_is ∙ by.list;
    rewritable = by.rewritable;
    near = subst AreShallow (sym by.typed.gives) (by.good.depth, tt);
  }

-- ---- what expanding answers

module _ (d : DialectData) (own : List FormData) (forms_are : own ≡ d.language.forms) (p : Proof)
    (nodes : ℕ) where
  -- the list and the judgement of what the derivation is expanded to
  pub lowered_so : (x : Expanded) →
      IsExpanding d.set (subjects_in own) no_hypotheses p nodes (Ok x) →
      IsLowering d p nodes (record { list = x.entries; judgement = x.judgement })
  lowered_so x h =
      let by_these = subst (λ (fs : List FormData). IsExpanding d.set (subjects_in fs)
      no_hypotheses p nodes (Ok x)) forms_are h in
      record {
        lowered = record {
          proof = by_these.0;
          judgement = judgement x.judgement;
          copied = x.copied;
        };
        rewriting = by_these.1;
        judgement_is = refl;
        list_is = by_these.2;
      }

  -- or the refusal
  pub unlowered_so : (e : RewriteError) →
      IsExpanding d.set (subjects_in own) no_hypotheses p nodes (Err e) →
      IsRewriting d.set (subjects_in d.language.forms) no_hypotheses p nodes (Err e)
  unlowered_so e h =
      subst (λ (fs : List FormData). IsExpanding d.set (subjects_in fs) no_hypotheses p nodes
      (Err e)) forms_are h
