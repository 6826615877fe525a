use Rattle.std.proofs.Common.{◌≡◌, ℕ, zero, suc, List, [], ◌∷◌, inl, inr, map, Some, refl, sym, ap, ◌∙◌, subst}
use Rattle.std.specs.Prelude.{slice_get}
use Rattle.std.specs.Option.{option_map}
use Rattle.std.proofs.lemmas.Option.{slice_get-map}
use Rattle.std.proofs.Math.ListN.{length-map}
use Rattle.sx_term.specs.Tree.{Tree, node, lexeme, hole}
use Rattle.sx_rules.specs.Instances.{instance, bound_by}
use Rattle.sx_rules.specs.Rules.{Judgement, Premise, holds, apart, Rule, Hypotheses, judgement_instance, judgements_of, AreDifferentLexemes, IsPair, AreApart, AllApart}
use Rattle.sx_rules.specs.Derivations.{Proof, Proofs, by, given, no_more, ◌⊳◌, Derives, DeriveEach, proof_instance, proof_instances, hypotheses_instance, pair_instance, proof_at, put_for, graft, grafts}
use Rattle.sx_rules.specs.DerivationLaws.{SubstitutionKeepsDerivations, PairsApart, GraftsAreDerivations}
use Rattle.sx_rules.proofs.Instancing.{instance-bound, map_instance-bound}

-- substitution
pair-instance : (s : ℕ → Tree) (ps : List (Tree × Tree)) (t u : Tree) → IsPair ps t u → IsPair (map (pair_instance s) ps) (instance s t) (instance s u)
pair-instance s [] t u h = h
pair-instance s (p ∷ ps) t u (inl h) = inl (ap (instance s) h.0, ap (instance s) h.1)
pair-instance s (p ∷ ps) t u (inr h) = inr (pair-instance s ps t u h)

lexemes-instance : (s : ℕ → Tree) (t u : Tree) → AreDifferentLexemes t u → AreDifferentLexemes (instance s t) (instance s u)
lexemes-instance s (lexeme k x) (lexeme m y) h = h
lexemes-instance s (lexeme k x) (node l ts) h = absurd h
lexemes-instance s (lexeme k x) (hole v) h = absurd h
lexemes-instance s (node l ts) u h = absurd h
lexemes-instance s (hole v) u h = absurd h

apart-instance : (s : ℕ → Tree) (hyps : Hypotheses) (t u : Tree) → AreApart hyps t u → AreApart (hypotheses_instance s hyps) (instance s t) (instance s u)
apart-instance s hyps t u (inl h) = inl (pair-instance s hyps.pairs t u h)
apart-instance s hyps t u (inr (inl h)) = inr (inl (pair-instance s hyps.pairs u t h))
apart-instance s hyps t u (inr (inr h)) = inr (inr (lexemes-instance s t u h))

all_apart-instance : (s : ℕ → Tree) (hyps : Hypotheses) (binds : List Tree) (ps : List Premise) →
    AllApart hyps (bound_by binds) ps → AllApart (hypotheses_instance s hyps) (bound_by (map (instance s) binds)) ps
all_apart-instance s hyps binds [] h = tt
all_apart-instance s hyps binds (holds j ∷ ps) h = all_apart-instance s hyps binds ps h
all_apart-instance s hyps binds (apart t u ∷ ps) h =
    let P : Tree → Tree → Type 0 = AreApart (hypotheses_instance s hyps) in
    let a = apart-instance s hyps (instance (bound_by binds) t) (instance (bound_by binds) u) h.0 in
    let b = subst (λ (x : Tree). P x (instance s (instance (bound_by binds) u))) (instance-bound s binds t) a in
    (subst (λ (x : Tree). P (instance (bound_by (map (instance s) binds)) t) x) (instance-bound s binds u) b, all_apart-instance s hyps binds ps h.1)

judgement-bound : (s : ℕ → Tree) (binds : List Tree) (j : Judgement) →
    judgement_instance s (judgement_instance (bound_by binds) j) ≡ judgement_instance (bound_by (map (instance s) binds)) j
judgement-bound s binds j = ap (λ (ts : List Tree). let r : Judgement = record { form = j.form; places = ts } in r) (map_instance-bound s binds j.places)

judgements-bound : (s : ℕ → Tree) (binds : List Tree) (js : List Judgement) →
    map (judgement_instance s) (map (judgement_instance (bound_by binds)) js) ≡ map (judgement_instance (bound_by (map (instance s) binds))) js
judgements-bound s binds [] = refl
judgements-bound s binds (j ∷ js) =
    let a = judgement-bound s binds j in
    let b = judgements-bound s binds js in cc

mutual
  derives-instance : (rules : List Rule) (hyps : Hypotheses) (s : ℕ → Tree) (p : Proof) (j : Judgement) →
      Derives rules hyps j p → Derives rules (hypotheses_instance s hyps) (judgement_instance s j) (proof_instance s p)
  derives-instance rules hyps s (given i) j h =
      slice_get-map (judgement_instance s) hyps.judgements i ∙ ap (option_map (judgement_instance s)) h
  derives-instance rules hyps s (by r binds kids) j (rule, found, many, concluded, all_apart, each) =
      let js = map (judgement_instance (bound_by binds)) (judgements_of rule.premises) in (
        rule,
        found,
        length-map binds (instance s) ∙ many,
        sym (judgement-bound s binds rule.conclusion) ∙ ap (judgement_instance s) concluded,
        all_apart-instance s hyps binds rule.premises all_apart,
        subst (λ (x : List Judgement). DeriveEach rules (hypotheses_instance s hyps) x (proof_instances s kids))
            (judgements-bound s binds (judgements_of rule.premises)) (derive_each-instance rules hyps s kids js each),
      )

  derive_each-instance : (rules : List Rule) (hyps : Hypotheses) (s : ℕ → Tree) (ps : Proofs) (js : List Judgement) →
      DeriveEach rules hyps js ps → DeriveEach rules (hypotheses_instance s hyps) (map (judgement_instance s) js) (proof_instances s ps)
  derive_each-instance rules hyps s no_more [] h = tt
  derive_each-instance rules hyps s no_more (j ∷ js) h = absurd h
  derive_each-instance rules hyps s (p ⊳ ps) [] h = absurd h
  derive_each-instance rules hyps s (p ⊳ ps) (j ∷ js) h = (derives-instance rules hyps s p j h.0, derive_each-instance rules hyps s ps js h.1)

pub substitution_keeps_derivations : SubstitutionKeepsDerivations
substitution_keeps_derivations rules hyps j p s h = derives-instance rules hyps s p j h

-- grafting
lexemes_sym : (t u : Tree) → AreDifferentLexemes t u → AreDifferentLexemes u t
lexemes_sym (lexeme k x) (lexeme m y) h = λ e. h (sym e)
lexemes_sym (lexeme k x) (node l ts) h = absurd h
lexemes_sym (lexeme k x) (hole v) h = absurd h
lexemes_sym (node l ts) u h = absurd h
lexemes_sym (hole v) u h = absurd h

pub apart_sym : (hyps : Hypotheses) (t u : Tree) → AreApart hyps t u → AreApart hyps u t
apart_sym hyps t u (inl h) = inr (inl h)
apart_sym hyps t u (inr (inl h)) = inl h
apart_sym hyps t u (inr (inr h)) = inr (inr (lexemes_sym t u h))

pair_apart : (others : Hypotheses) (ps : List (Tree × Tree)) (t u : Tree) → PairsApart others ps → IsPair ps t u → AreApart others t u
pair_apart others [] t u a h = absurd h
pair_apart others (p ∷ ps) t u a (inl h) =
    subst (λ (x : Tree). AreApart others t x) h.1 (subst (λ (x : Tree). AreApart others x p.1) h.0 a.0)
pair_apart others (p ∷ ps) t u a (inr h) = pair_apart others ps t u a.1 h

apart_graft : (hyps others : Hypotheses) → PairsApart others hyps.pairs → (t u : Tree) → AreApart hyps t u → AreApart others t u
apart_graft hyps others a t u (inl h) = pair_apart others hyps.pairs t u a h
apart_graft hyps others a t u (inr (inl h)) = apart_sym others u t (pair_apart others hyps.pairs u t a h)
apart_graft hyps others a t u (inr (inr h)) = inr (inr h)

all_apart_graft : (hyps others : Hypotheses) → PairsApart others hyps.pairs → (s : ℕ → Tree) (ps : List Premise) → AllApart hyps s ps → AllApart others s ps
all_apart_graft hyps others a s [] h = tt
all_apart_graft hyps others a s (holds j ∷ ps) h = all_apart_graft hyps others a s ps h
all_apart_graft hyps others a s (apart t u ∷ ps) h = (apart_graft hyps others a (instance s t) (instance s u) h.0, all_apart_graft hyps others a s ps h.1)

given_graft : (rules : List Rule) (others : Hypotheses) (js : List Judgement) (kids : Proofs) → DeriveEach rules others js kids →
    (i n : ℕ) (j : Judgement) → slice_get js i ≡ Some j → Derives rules others j (put_for (proof_at kids i) n)
given_graft rules others [] no_more h i n j e = cc
given_graft rules others [] (p ⊳ ps) h i n j e = absurd h
given_graft rules others (k ∷ js) no_more h i n j e = absurd h
given_graft rules others (k ∷ js) (p ⊳ ps) h zero n j e = let q : k ≡ j = cc in subst (λ (x : Judgement). Derives rules others x p) q h.0
given_graft rules others (k ∷ js) (p ⊳ ps) h (suc i) n j e = given_graft rules others js ps h.1 i n j e

module _ (rules : List Rule) (hyps others : Hypotheses) (kids : Proofs) (each : DeriveEach rules others hyps.judgements kids) (pairs : PairsApart others hyps.pairs) where
  mutual
    derives-graft : (p : Proof) (j : Judgement) → Derives rules hyps j p → Derives rules others j (graft kids p)
    derives-graft (given i) j h = given_graft rules others hyps.judgements kids each i i j h
    derives-graft (by r binds ks) j (rule, found, many, concluded, all_apart, ds) = (
      rule,
      found,
      many,
      concluded,
      all_apart_graft hyps others pairs (bound_by binds) rule.premises all_apart,
      derive_each-graft ks (map (judgement_instance (bound_by binds)) (judgements_of rule.premises)) ds,
    )

    derive_each-graft : (ps : Proofs) (js : List Judgement) → DeriveEach rules hyps js ps → DeriveEach rules others js (grafts kids ps)
    derive_each-graft no_more [] h = tt
    derive_each-graft no_more (j ∷ js) h = absurd h
    derive_each-graft (p ⊳ ps) [] h = absurd h
    derive_each-graft (p ⊳ ps) (j ∷ js) h = (derives-graft p j h.0, derive_each-graft ps js h.1)

pub grafts_are_derivations : GraftsAreDerivations
grafts_are_derivations rules hyps others kids each pairs j p h = derives-graft rules hyps others kids each pairs p j h
