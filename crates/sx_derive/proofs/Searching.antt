-- A problem in a store, and its search.
use Rattle.std.proofs.Common.{◌≡◌, ℕ, ◌+◌, ◌≤◌, List, length, reverse, Option, Ok, Err, ◌∙◌, arith, subst}
use Rattle.sx_term.specs.Tree.{Tree}
use Rattle.sx_term.specs.declared.no_memory.NoMemory.{NoMemory}
use Rattle.sx_rules.specs.Rules.{Rule, Hypotheses}
use Rattle.sx_rules.specs.Modes.{Modes}
use Rattle.sx_derive.specs.Walk.{goal_events, events}
use Rattle.sx_derive.specs.Search.{walk, tries_of}
use Rattle.sx_arena.specs.declared.arena.Arena.{Arena}
use Rattle.sx_derive.specs.declared.problem.Problem.{Problem}
use Rattle.sx_derive.specs.declared.store.Store.{Store}
use Rattle.sx_derive.specs.declared.numbered_goal.NumberedGoal.{NumberedGoal}
use Rattle.sx_derive.specs.declared.walk.Walked.{Walked}
use Rattle.sx_arena.specs.Arena.{trees}
use Rattle.sx_arena.specs.Entered.{AreFactsIn, ArePairsIn}
use Rattle.sx_arena.specs.Places.{AreHeld}
use Rattle.sx_derive.specs.Candidates.{goal_in}
use Rattle.sx_derive.specs.Failing.{FailsAlong}
use Rattle.sx_derive.specs.Handing.{hyps_in}
use Rattle.sx_derive.specs.Problems.{IsWantedIn, IsProblem, IsSearched}
use Rattle.sx_derive.specs.Store.{IsStore}
use Rattle.sx_derive.specs.Tasks.{IsEnding, wanted_in}
use Rattle.sx_derive.specs.Walked.{events_in, IsWalked}
use Rattle.sx_arena.proofs.Arenas.{maps_same, below_more}
use Rattle.sx_arena.proofs.Growing.{extends-then, extends-length}
use Rattle.sx_arena.proofs.Parted.{pairs_more_terms, pairs_stay}
use Rattle.sx_derive.proofs.Stored.{grows_terms}
use Rattle.sx_arena.proofs.Facts.{facts_stay}

pub problem_is : (modes : Modes) (rules : List Rule) (hyps : Hypotheses) (terms : List Tree) (wanted : Option (List Tree)) (s : Store) (a b c : Arena) (p : Problem) → IsStore modes rules s →
    AreFactsIn modes s.arena a hyps.judgements p.facts.items → ArePairsIn a b hyps.pairs p.pairs.items → AreHeld b c p.terms.items terms → IsWantedIn c p.store.arena wanted p.wanted →
    p.store.binds ≡ s.binds → p.store.kids.items ≡ s.kids.items → p.store.frames.items ≡ s.frames.items → p.store.until ≡ s.until → IsProblem modes rules hyps terms wanted p
problem_is modes rules hyps terms wanted s a b c p h f q t w eb ek ef eu =
    let d = p.store.arena in
    let xc = w.extends in
    let xb = extends-then (trees b) (trees c) (trees d) t.extends xc in
    let xa = extends-then (trees a) (trees b) (trees d) q.extends xb in
    let xs = extends-then (trees s.arena) (trees a) (trees d) f.extends xa in
    record {
      store = (grows_terms modes rules s p.store h w.arena xs eb ek ef eu).store;
      facts = facts_stay modes (trees a) (trees d) xa hyps.judgements p.facts.items f.are;
      pairs = pairs_more_terms (length (trees b)) (length (trees d)) (extends-length (trees b) (trees d) xb) p.pairs.items q.within;
      pairs_are = pairs_stay (trees b) (trees d) xb p.pairs.items q.within ∙ q.are;
      terms_below = below_more (length (trees c)) (length (trees d)) (extends-length (trees c) (trees d) xc) p.terms.items t.within;
      terms_are = maps_same (trees c) (trees d) xc p.terms.items t.within ∙ t.are;
      wanted_below = w.within;
      wanted_are = w.are;
    }

module _ (modes : Modes) (rules : List Rule) (hyps : Hypotheses) (form : ℕ) (terms : List Tree) (wanted : Option (List Tree)) (p : Problem) (h : IsProblem modes rules hyps terms wanted p) where
  pub problem_events : events_in modes rules p.pairs.items hyps.judgements p.store 2999 form p.terms.items ≡ events modes rules hyps (record { form = form; terms = terms }) 1
  unfolding events
  problem_events = λ i. goal_events modes rules (record { judgements = hyps.judgements; pairs = h.pairs_are i }) 3000 (record { form = form; terms = h.terms_are i })

  abbrev numbered : NumberedGoal
  numbered = record { form = form; terms = p.terms; levels = 2999 }

  hyps_same : hyps_in p.pairs.items p.store hyps.judgements ≡ hyps
  hyps_same = λ i. record { judgements = hyps.judgements; pairs = h.pairs_are i }

  problem_fails : (notes : List ℕ) → FailsAlong modes rules (hyps_in p.pairs.items p.store hyps.judgements) 3000 (goal_in p.store form p.terms.items) notes →
      FailsAlong modes rules hyps 3000 (record { form = form; terms = terms }) notes
  problem_fails notes f =
      subst (λ (x : Hypotheses). FailsAlong modes rules x 3000 (record { form = form; terms = terms }) notes) hyps_same
      (subst (λ (ts : List Tree). FailsAlong modes rules (hyps_in p.pairs.items p.store hyps.judgements) 3000 (record { form = form; terms = ts }) notes) h.terms_are f)

  pub searched_ok : (new : Store) (budget first last : ℕ) (w : Walked) → IsWalked modes rules p.pairs.items hyps.judgements p.store new p.wanted budget numbered first last (Ok w) →
      IsSearched modes rules hyps (record { form = form; terms = terms }) wanted budget first last (Ok (record { store = new; ending = w.ending; notes = w.notes }))
  searched_ok new budget first last w x =
      let ends = x.1.0 in
      let n : last ≡ first + tries_of (wanted_in p.store p.wanted) budget (events_in modes rules p.pairs.items hyps.judgements p.store 2999 form p.terms.items) = (let b = ends.2 in let l = x.2 in omega arith) in (
        ends.0.store,
        subst (λ es. IsEnding new w.ending (walk wanted budget es)) problem_events
            (subst (λ v. IsEnding new w.ending (walk v budget (events_in modes rules p.pairs.items hyps.judgements p.store 2999 form p.terms.items))) h.wanted_are ends.1),
        n ∙ (λ i. first + tries_of (h.wanted_are i) budget (problem_events i)),
        problem_fails (reverse w.notes.items) x.1.1,
      )

  pub searched_err : (new : Store) (budget first last : ℕ) (e : NoMemory) → IsWalked modes rules p.pairs.items hyps.judgements p.store new p.wanted budget numbered first last (Err e) →
      IsSearched modes rules hyps (record { form = form; terms = terms }) wanted budget first last (Err e)
  searched_err new budget first last e (a, b) =
      (a, subst (λ (n : ℕ). last ≤ n) (λ i. first + tries_of (h.wanted_are i) budget (problem_events i)) b)
