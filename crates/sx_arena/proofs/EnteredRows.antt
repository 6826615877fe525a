-- Hypotheses and pairs that are put into an arena.
use Rattle.std.proofs.Common.{◌≡◌, ℕ, zero, suc, ◌+◌, ◌<◌, ◌≤◌, List, [], ◌∷◌, ◌++◌, map, take, length, get_or, sym, ap, ◌∙◌, arith, subst}
use Rattle.std.proofs.lemmas.List.{map_push, map_more, take_all}
use Rattle.sx_term.specs.Tree.{Tree, node, none, depth_of}
use Rattle.sx_term.specs.declared.term.Term.{Term}
use Rattle.sx_term.specs.Term.{tree}
use Rattle.sx_rules.specs.declared.rule.Judgement.{Judgement as JudgementOf}
use Rattle.sx_rules.specs.Rules.{Judgement}
use Rattle.sx_rules.specs.Modes.{Modes, inputs_of, outputs_of}
use Rattle.sx_rules.specs.Deep.{AreShallow}
use Rattle.sx_rules.specs.Derivations.{ShallowJudgements}
use Rattle.sx_rules.specs.Views.{pair}
use Rattle.sx_arena.specs.declared.arena.Arena.{Arena}
use Rattle.sx_arena.specs.declared.fact.Fact.{Fact}
use Rattle.sx_arena.specs.declared.pairs.Pair.{Pair}
use Rattle.sx_arena.specs.Arena.{trees, IsArena, IsHeld}
use Rattle.sx_arena.specs.Facts.{IsFact, AreFacts}
use Rattle.sx_arena.specs.Entered.{IsFactIn, AreFactsIn, ArePairsShallow, IsPairIn, ArePairsIn}
use Rattle.sx_arena.specs.Pairs.{entered_pair, pairs_of, ArePairs}
use Rattle.sx_arena.specs.Places.{AreHeld}
use Rattle.sx_arena.specs.Views.{judgement_of}
use Rattle.sx_arena.proofs.Growing.{extends-same, extends-then, extends-length, extends-at}
use Rattle.sx_arena.proofs.Arenas.{maps_same, below_more}
use Rattle.sx_arena.proofs.Parted.{pairs_more_terms, pairs_stay}
use Rattle.sx_arena.proofs.Facts.{facts_stay}

-- the inputs and then the outputs of a judgement
pub fact_in : (modes : Modes) (old mid new : Arena) (j : Judgement) (fact : Fact) → fact.form ≡ j.form → AreHeld old mid fact.inputs.items (inputs_of modes j) → AreHeld mid new fact.outputs.items (outputs_of modes j) → IsFactIn modes old new j fact
fact_in modes old mid new j fact e a b = record {
  arena = b.arena;
  extends = extends-then (trees old) (trees mid) (trees new) a.extends b.extends;
  is = record {
    form = e;
    inputs_below = below_more (length (trees mid)) (length (trees new)) (extends-length (trees mid) (trees new) b.extends) fact.inputs.items a.within;
    outputs_below = b.within;
    inputs = maps_same (trees mid) (trees new) b.extends fact.inputs.items a.within ∙ a.are;
    outputs = b.are;
  };
}

facts_push : (modes : Modes) (ts : List Tree) (js : List Judgement) (fs : List Fact) (j : Judgement) (f : Fact) → AreFacts modes ts js fs → IsFact modes ts j f → AreFacts modes ts (js ++ j ∷ []) (fs ++ f ∷ [])
facts_push modes ts [] [] j f a b = (b, tt)
facts_push modes ts [] (g ∷ fs) j f a b = absurd a
facts_push modes ts (i ∷ js) [] j f a b = absurd a
facts_push modes ts (i ∷ js) (g ∷ fs) j f a b = (a.0, facts_push modes ts js fs j f a.1 b)

pub judgement_shallow : (js : List JudgementOf) → ShallowJudgements (map judgement_of js) → (i : ℕ) (j : JudgementOf) → i < length js → j ≡ get_or js i j → AreShallow (map tree j.places.items)
judgement_shallow [] h i j l e = absurd (omega arith)
judgement_shallow (k ∷ js) h zero j l e = subst (λ (x : JudgementOf). AreShallow (map tree x.places.items)) (sym e) h.0
judgement_shallow (k ∷ js) h (suc i) j l e = judgement_shallow js h.1 i j (omega arith) e

-- the hypotheses that are put in so far
pub facts_first : (modes : Modes) (a : Arena) (js : List JudgementOf) (facts : List Fact) → IsArena a → facts ≡ [] → AreFactsIn modes a a (map judgement_of (take 0 js)) facts
facts_first modes a js facts h e = record {
  arena = h;
  extends = extends-same (trees a);
  are = subst (λ (fs : List Fact). AreFacts modes (trees a) [] fs) (sym e) tt;
}

pub facts_more : (modes : Modes) (old mid new : Arena) (js : List JudgementOf) (facts more : List Fact) (i : ℕ) (j : JudgementOf) (f : Fact) → AreFactsIn modes old mid (map judgement_of (take i js)) facts → i < length js → j ≡ get_or js i j →
    IsFactIn modes mid new (judgement_of j) f → more ≡ facts ++ f ∷ [] → AreFactsIn modes old new (map judgement_of (take (i + 1) js)) more
facts_more modes old mid new js facts more i j f a l e b g =
    let c : map judgement_of (take i js) ++ judgement_of j ∷ [] ≡ map judgement_of (take (i + 1) js) = sym (map_more judgement_of js i j l ∙ ap (λ y. map judgement_of (take i js) ++ judgement_of y ∷ []) (sym e)) in
    record {
      arena = b.arena;
      extends = extends-then (trees old) (trees mid) (trees new) a.extends b.extends;
      are = subst (λ (fs : List Fact). AreFacts modes (trees new) (map judgement_of (take (i + 1) js)) fs) (sym g)
          (subst (λ (ks : List Judgement). AreFacts modes (trees new) ks (facts ++ f ∷ [])) c
          (facts_push modes (trees new) (map judgement_of (take i js)) facts (judgement_of j) f (facts_stay modes (trees mid) (trees new) b.extends (map judgement_of (take i js)) facts a.are) b.is));
    }

pub facts_end : (modes : Modes) (old new : Arena) (js : List JudgementOf) (facts : List Fact) (i : ℕ) → AreFactsIn modes old new (map judgement_of (take i js)) facts → length js ≤ i → AreFactsIn modes old new (map judgement_of js) facts
facts_end modes old new js facts i a l = subst (λ (ks : List JudgementOf). AreFactsIn modes old new (map judgement_of ks) facts) (take_all i js l) a

-- the two terms of a pair
pub pair_in : (old mid new : Arena) (first second : ℕ) (s t : Tree) → IsHeld old mid first s → IsHeld mid new second t → IsPairIn old new (s, t) (record { first = first; second = second })
pair_in old mid new first second s t a b = record {
  arena = b.arena;
  extends = extends-then (trees old) (trees mid) (trees new) a.extends b.extends;
  first = (let l = a.within in let x = extends-length (trees mid) (trees new) b.extends in omega arith);
  second = b.within;
  is = λ i. ((extends-at (trees mid) (trees new) b.extends first (node 0 none) a.within ∙ a.is) i, b.is i);
}

pairs_push : (n : ℕ) (ps : List Pair) (p : Pair) → ArePairs n ps → p.first < n → p.second < n → ArePairs n (ps ++ p ∷ [])
pairs_push n [] p a f s = ((f, s), tt)
pairs_push n (q ∷ ps) p a f s = (a.0, pairs_push n ps p a.1 f s)

pub pair_shallow : (ps : List (Term × Term)) → ArePairsShallow (map pair ps) → (i : ℕ) (p : Term × Term) → i < length ps → p ≡ get_or ps i p → (depth_of (tree p.0) ≤ 1000) × (depth_of (tree p.1) ≤ 1000)
pair_shallow [] h i p l e = absurd (omega arith)
pair_shallow (q ∷ ps) h zero p l e = subst (λ (x : Term × Term). (depth_of (tree x.0) ≤ 1000) × (depth_of (tree x.1) ≤ 1000)) (sym e) h.0
pair_shallow (q ∷ ps) h (suc i) p l e = pair_shallow ps h.1 i p (omega arith) e

pub pairs_first : (a : Arena) (ps : List (Term × Term)) (pairs : List Pair) → IsArena a → pairs ≡ [] → ArePairsIn a a (map pair (take 0 ps)) pairs
pairs_first a ps pairs h e = record {
  arena = h;
  extends = extends-same (trees a);
  within = subst (λ (qs : List Pair). ArePairs (length (trees a)) qs) (sym e) tt;
  are = ap (pairs_of (trees a)) e;
}

pub pairs_more : (old mid new : Arena) (ps : List (Term × Term)) (pairs more : List Pair) (i : ℕ) (p : Term × Term) (q : Pair) → ArePairsIn old mid (map pair (take i ps)) pairs → i < length ps → p ≡ get_or ps i p →
    IsPairIn mid new (pair p) q → more ≡ pairs ++ q ∷ [] → ArePairsIn old new (map pair (take (i + 1) ps)) more
pairs_more old mid new ps pairs more i p q a l e b g =
    let c : map pair (take (i + 1) ps) ≡ map pair (take i ps) ++ pair p ∷ [] = map_more pair ps i p l ∙ ap (λ y. map pair (take i ps) ++ pair y ∷ []) (sym e) in
    let x = extends-length (trees mid) (trees new) b.extends in
    record {
      arena = b.arena;
      extends = extends-then (trees old) (trees mid) (trees new) a.extends b.extends;
      within = subst (λ (qs : List Pair). ArePairs (length (trees new)) qs) (sym g) (pairs_push (length (trees new)) pairs q (pairs_more_terms (length (trees mid)) (length (trees new)) x pairs a.within) b.first b.second);
      are = ap (pairs_of (trees new)) g ∙ map_push (entered_pair (trees new)) pairs q ∙ (λ k. (pairs_stay (trees mid) (trees new) b.extends pairs a.within ∙ a.are) k ++ b.is k ∷ []) ∙ sym c;
    }

pub pairs_end : (old new : Arena) (ps : List (Term × Term)) (pairs : List Pair) (i : ℕ) → ArePairsIn old new (map pair (take i ps)) pairs → length ps ≤ i → ArePairsIn old new (map pair ps) pairs
pairs_end old new ps pairs i a l = subst (λ (qs : List (Term × Term)). ArePairsIn old new (map pair qs) pairs) (take_all i ps l) a
