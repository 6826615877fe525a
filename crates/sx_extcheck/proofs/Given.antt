-- The plain premises of a rule are its flat premises, and they are hypotheses with small terms.
use Rattle.std.proofs.Common.{◌≡◌, arith, ℕ, ◌+◌, ◌<◌, ◌≤◌, drop, get_or, length, Bool, true, false, List, [], ◌∷◌, inl, inr, map, None, refl, sym, ap, ◌∙◌}
use Rattle.std.specs.List.{AllByRecursion}
use Rattle.std.proofs.lemmas.List.{drop_more, drop_all, append_assoc, append-nil}
use Rattle.sx_term.specs.Tree.{Tree, hole}
use Rattle.sx_rules.specs.Rules.{Judgement, Premise, holds, apart, Hypotheses, judgements_of}
use Rattle.sx_rules.specs.Modes.{Modes, outputs}
use Rattle.sx_rules.specs.Deep.{AreShallow}
use Rattle.sx_rules.specs.Derivations.{ShallowJudgements}
use Rattle.sx_rules.specs.Discipline.{IsBareSubject, AreBareSubjects}
use Rattle.sx_rules.specs.declared.rule.Premise.{Premise as PremiseOf}
use Rattle.sx_rules.specs.Views.{premise}
use Rattle.sx_arena.specs.Entered.{ArePairsShallow}
use Rattle.sx_plain.specs.Plain.{Table, image}
use Rattle.sx_rewrite.specs.Flat.{flat_places, flat_judgement, flat_pairs, flat_hypotheses}
use Rattle.sx_rewrite.specs.PlainRules.{image_judgement, image_premise}
use Rattle.sx_rewrite.specs.Puts.{IsSmallTerm}
use Rattle.sx_extcheck.specs.FlatTerms.{premise_terms}
use Rattle.sx_extcheck.specs.Hypotheses.{plain_given, both_given}
use Rattle.sx_extcheck.proofs.Measurable.{small-split}

-- flat places without a subject, or with a variable as the subject, have plain images
flat-none : (table : Table) (bs : List Bool) (ts : List Tree) → outputs bs ts ≡ [] → flat_places table None bs ts ≡ map (image table) ts
flat-none table [] ts e = refl
flat-none table (b ∷ bs) [] e = refl
flat-none table (true ∷ bs) (t ∷ ts) e = cc
flat-none table (false ∷ bs) (t ∷ ts) e = ap (λ (us : List Tree). image table t ∷ us) (flat-none table bs ts e)

list-head : (t u : Tree) (ts us : List Tree) → t ∷ ts ≡ u ∷ us → (t ≡ u) × (ts ≡ us)
list-head t u ts us e = (ap head e, ap tail e)
  where
    head : List Tree → Tree
    head [] = t
    head (x ∷ xs) = x

    tail : List Tree → List Tree
    tail [] = ts
    tail (x ∷ xs) = xs

flat-one : (table : Table) (v : ℕ) (bs : List Bool) (ts : List Tree) → outputs bs ts ≡ hole v ∷ [] → flat_places table None bs ts ≡ map (image table) ts
flat-one table v [] ts e = refl
flat-one table v (b ∷ bs) [] e = refl
flat-one table v (false ∷ bs) (t ∷ ts) e = ap (λ (us : List Tree). image table t ∷ us) (flat-one table v bs ts e)
flat-one table v (true ∷ bs) (t ∷ ts) e =
    let h = list-head t (hole v) (outputs bs ts) [] e in
    ap (λ (us : List Tree). t ∷ us) (flat-none table bs ts h.1) ∙ ap (λ (u : Tree). u ∷ map (image table) ts) (h.0 ∙ sym (ap (image table) h.0))

flat-bare : (table : Table) (subjects : Modes) (conclusion : Judgement) (before : List Judgement) (j : Judgement) → IsBareSubject subjects conclusion before j →
    image_judgement table j ≡ flat_judgement table subjects None j
flat-bare table subjects conclusion before j (inl e) = ap (λ (ts : List Tree). let k : Judgement = record { form = j.form; places = ts } in k) (sym (flat-none table (subjects j.form) j.places e))
flat-bare table subjects conclusion before j (inr e) = ap (λ (ts : List Tree). let k : Judgement = record { form = j.form; places = ts } in k) (sym (flat-one table e.0 (subjects j.form) j.places e.1))

flat-all : (table : Table) (subjects : Modes) (conclusion : Judgement) (before js : List Judgement) → AreBareSubjects subjects conclusion before js →
    map (image_judgement table) js ≡ map (flat_judgement table subjects None) js
flat-all table subjects conclusion before [] h = refl
flat-all table subjects conclusion before (j ∷ js) h =
    let a = flat-bare table subjects conclusion before j h.0 in
    let b = flat-all table subjects conclusion (j ∷ before) js h.1 in
    λ i. a i ∷ b i

pub plain-is-flat : (table : Table) (subjects : Modes) (conclusion : Judgement) (ps : List Premise) → AreBareSubjects subjects conclusion [] (judgements_of ps) →
    plain_given table ps ≡ flat_hypotheses table subjects ps
plain-is-flat table subjects conclusion ps h =
    ap (λ (js : List Judgement). let k : Hypotheses = record { judgements = js; pairs = flat_pairs table ps } in k) (flat-all table subjects conclusion [] (judgements_of ps) h)

-- hypotheses after others
pub given-over : (g h k : Hypotheses) → both_given (both_given g h) k ≡ both_given g (both_given h k)
given-over g h k =
    let a = append_assoc g.judgements h.judgements k.judgements in
    let b = append_assoc g.pairs h.pairs k.pairs in
    λ i. record { judgements = a i; pairs = b i }

pub given-none : (g : Hypotheses) (table : Table) → both_given g (plain_given table []) ≡ g
given-none g table =
    let a = append-nil g.judgements in
    let b = append-nil g.pairs in
    λ i. record { judgements = a i; pairs = b i }

pub given-first : (table : Table) (p : Premise) (ps : List Premise) → plain_given table (p ∷ ps) ≡ both_given (plain_given table (p ∷ [])) (plain_given table ps)
given-first table (holds j) ps = refl
given-first table (apart t u) ps = refl

abbrev pub given_from : Table → List PremiseOf → Hypotheses
given_from table ps = plain_given table (map premise ps)

-- one premise more
pub given-step : (table : Table) (ps : List PremiseOf) (i : ℕ) (p : PremiseOf) (g h : Hypotheses) → i < length ps → p ≡ get_or ps i p →
    both_given g (given_from table (drop i ps)) ≡ given_from table ps → h ≡ both_given g (plain_given table (premise p ∷ [])) →
    both_given h (given_from table (drop (i + 1) ps)) ≡ given_from table ps
given-step table ps i p g h l e so here =
    ap (λ (k : Hypotheses). both_given k (given_from table (drop (i + 1) ps))) here
    ∙ given-over g (plain_given table (premise p ∷ [])) (given_from table (drop (i + 1) ps))
    ∙ ap (both_given g) (sym (given-first table (premise p) (map premise (drop (i + 1) ps))))
    ∙ ap (λ (q : PremiseOf). both_given g (plain_given table (premise q ∷ map premise (drop (i + 1) ps)))) e
    ∙ ap (λ (qs : List PremiseOf). both_given g (given_from table qs)) (sym (drop_more ps i p l))
    ∙ so

pub given-end : (table : Table) (ps : List PremiseOf) (i : ℕ) (g : Hypotheses) → length ps ≤ i →
    both_given g (given_from table (drop i ps)) ≡ given_from table ps → g ≡ given_from table ps
given-end table ps i g l so = sym (ap (λ (qs : List PremiseOf). both_given g (given_from table qs)) (drop_all i ps l) ∙ given-none g table) ∙ so

-- small terms are shallow
pub small-shallow : (ts : List Tree) → AllByRecursion IsSmallTerm ts → AreShallow ts
small-shallow [] h = tt
small-shallow (t ∷ ts) h = (h.0.0, small-shallow ts h.1)

pub given-shallow : (table : Table) (ps : List Premise) → AllByRecursion IsSmallTerm (premise_terms (map (image_premise table) ps)) →
    ShallowJudgements (plain_given table ps).judgements × ArePairsShallow (plain_given table ps).pairs
given-shallow table [] h = (tt, tt)
given-shallow table (holds j ∷ ps) h =
    let k = small-split (map (image table) j.places) (premise_terms (map (image_premise table) ps)) h in
    let r = given-shallow table ps k.1 in
    ((small-shallow (map (image table) j.places) k.0, r.0), r.1)
given-shallow table (apart t u ∷ ps) h = let r = given-shallow table ps h.1.1 in (r.0, ((h.0.0, h.1.0.0), r.1))

-- there are no more of them than premises
pub given-few : (ps : List Premise) → length (judgements_of ps) ≤ length ps
given-few [] = omega arith
given-few (holds j ∷ ps) = let r = given-few ps in omega (arith, r)
given-few (apart t u ∷ ps) = let r = given-few ps in omega (arith, r)
