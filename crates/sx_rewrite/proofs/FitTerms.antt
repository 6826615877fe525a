-- Terms of derivations of well sorted goals have as many parts as the table asks for.
use Rattle.std.proofs.Common.{List, [], ◌∷◌, sym, subst}
use Rattle.sx_term.specs.Tree.{Tree, forest}
use Rattle.sx_term.specs.declared.sort.Sort.{Sort}
use Rattle.sx_term.specs.Sorts.{Shape, HaveSorts}
use Rattle.sx_rules.specs.Rules.{Rule}
use Rattle.sx_rules.specs.Modes.{Goal}
use Rattle.sx_rules.specs.Sorts.{GoalIsSorted, ProofIsSorted, ProofsAreSorted}
use Rattle.sx_rules.specs.Derivations.{Proof, Proofs, by, given, no_more, ◌⊳◌}
use Rattle.sx_rules.proofs.Sorted.{derivations_are_sorted}
use Rattle.sx_plain.specs.Plain.{Table}
use Rattle.sx_plain.specs.Tables.{Desugars, FitTable}
use Rattle.sx_plain.proofs.Tables.{sorted-fits}
use Rattle.sx_rewrite.specs.Accepted.{extended_rules}
use Rattle.sx_rewrite.specs.FitLaws.{DerivationsHaveFitTerms, FoundCanBeRewritten}
use Rattle.sx_rewrite.specs.Lowering.{BindsFit, AllBindsFit}

module _ (base shapes : List Shape) (table : Table) (vars : List Sort) (d : Desugars base shapes table) where
  list-fits : (ts : List Tree) (sorts : List Sort) → HaveSorts shapes vars ts sorts → FitTable table (forest ts)
  list-fits [] sorts h = tt
  list-fits (t ∷ ts) [] h = absurd h
  list-fits (t ∷ ts) (x ∷ xs) h = (sorted-fits base shapes table vars d t x h.0, list-fits ts xs h.1)

  module _ (rules : List Rule) where
    mutual
      pub binds-fit : (p : Proof) → ProofIsSorted shapes rules vars p → BindsFit table p
      binds-fit (given i) h = tt
      binds-fit (by r binds kids) (rule, at_r, sorted, each) = (list-fits binds rule.sorts sorted, all_binds-fit kids each)

      all_binds-fit : (ps : Proofs) → ProofsAreSorted shapes rules vars ps → AllBindsFit table ps
      all_binds-fit no_more h = tt
      all_binds-fit (p ⊳ ps) h = (binds-fit p h.0, all_binds-fit ps h.1)

pub derivations_have_fit_terms : DerivationsHaveFitTerms
derivations_have_fit_terms sig base shapes a ok hyps vars given_sorted p j d g =
    let own = derivations_are_sorted sig.modes (extended_rules a) hyps shapes sig.forms vars ok.moded ok.sorted given_sorted j p d g in
    binds-fit base shapes a.table vars ok.desugars (extended_rules a) p own.1

pub found_can_be_rewritten : FoundCanBeRewritten
found_can_be_rewritten sig base shapes a ok hyps vars given_sorted goal sorted answer (j, is_goal, outs, d) low near =
    let own = subst (λ (g : Goal). GoalIsSorted shapes sig.forms sig.modes vars g) (sym is_goal) sorted in
    record {
      judgement = j;
      derives = d;
      height = low;
      binds = near;
      fit = derivations_have_fit_terms sig base shapes a ok hyps vars given_sorted answer.0 j d own;
    }
