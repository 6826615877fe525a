-- Steps from kid to kid.
use Rattle.std.proofs.Common.{◌≡◌, ℕ, suc, ◌+◌, ◌<◌, ◌≤◌, List, [], ◌∷◌, length, drop, get_or, set, map, refl, sym, ap, ◌∙◌, subst, arith, inl, inr}
use Rattle.std.proofs.lemmas.Bool.{cases_eq}
use Rattle.std.proofs.lemmas.List.{at_drop_more, drop_all, length-set, get_or-set_same, get_or-set_other}
use Rattle.sx_rules.specs.declared.rule.Premise.{Premise}
use Rattle.sx_rules.specs.declared.rule.Premise.TheVariants.{Holds, Apart}
use Rattle.sx_rules.specs.declared.rule.Judgement.{Judgement}
use Rattle.sx_rules.specs.Rules.{judgements_of}
use Rattle.sx_rules.specs.Views.{premise}
use Rattle.sx_rules.specs.Derivations.{Proof, Proofs, no_more, ◌⊳◌, nodes_of, nodes_of_all}
use Rattle.sx_rules.specs.Orders.{Entry}
use Rattle.sx_plain.specs.Measures.{total}
use Rattle.sx_term.specs.declared.term.Term.{Term}
use Rattle.sx_rewrite.specs.Accepted.{Accepted}
use Rattle.sx_rewrite.specs.LoweredSizes.{proof_count}
use Rattle.sx_expand.specs.Standing.{IsDerivationListed, AreListed, AreEndsFrom}
use Rattle.sx_expand.specs.Steps.{AreSteps}
use Rattle.sx_expand.proofs.Standing.{nodes-some, stands-within, listed-first}

-- the nodes of each of the proofs
abbrev pub nodes_each : Proofs → List ℕ
nodes_each no_more = []
nodes_each (p ⊳ ps) = nodes_of p ∷ nodes_each ps

pub nodes-total : (ps : Proofs) → total (nodes_each ps) ≡ nodes_of_all ps
nodes-total no_more = refl
nodes-total (p ⊳ ps) = ap (λ (n : ℕ). nodes_of p + n) (nodes-total ps)

pub nodes-many : (ps : Proofs) → length (nodes_each ps) ≡ proof_count ps
nodes-many no_more = refl
nodes-many (p ⊳ ps) = let h = nodes-many ps in omega (arith, h)

-- the ends lead from each of a row to the next
pub row-steps : (a : Accepted) (list : List Entry) (first : ℕ) (ends : List ℕ) → AreEndsFrom a list first ends → (i : ℕ) (ps : Proofs) → first ≤ i → AreListed a list i ps → AreSteps ends i (nodes_each ps)
row-steps a list first ends h i no_more l s = tt
row-steps a list first ends h i (p ⊳ ps) l s =
    let f = listed-first a list i p ps s in
    let w = stands-within list i p f.0.stands in
    let n = nodes-some p in
    let m = h.many in
    (omega (arith, w, n, m), h.each i p l f.0, row-steps a list first ends h (i + nodes_of p) ps (omega (arith, l)) f.1)

-- from here on a step for each judgement among the premises that are left
pub record StepsLeft (ps : List Premise) (ends : List ℕ) (i here end : ℕ) : Type 0 where
  pub sizes : List ℕ
  pub many : length sizes ≡ length (judgements_of (map premise (drop i ps)))
  pub steps : AreSteps ends here sizes
  pub sum : here + total sizes ≡ end

-- however long the steps are
abbrev pub Stepping : List Premise → List ℕ → ℕ → ℕ → ℕ → Type 0
Stepping ps ends first i here = (sizes : List ℕ) → length sizes ≡ length (judgements_of (map premise ps)) → AreSteps ends first sizes → StepsLeft ps ends i here (first + total sizes)

pub stepping-first : (ps : List Premise) (ends : List ℕ) (first : ℕ) → Stepping ps ends first 0 first
stepping-first ps ends first sizes many steps = record { sizes = sizes; many = many; steps = steps; sum = refl }

pub premise-drop : (ps : List Premise) (i : ℕ) (p : Premise) → i < length ps → p ≡ get_or ps i p → map premise (drop i ps) ≡ premise p ∷ map premise (drop (i + 1) ps)
premise-drop ps i p l e = at_drop_more (map premise) ps i p l ∙ ap (λ (x : Premise). premise x ∷ map premise (drop (i + 1) ps)) (sym e)

-- at a judgement there is a step
pub record IsStep (ps : List Premise) (ends : List ℕ) (i here end : ℕ) : Type 0 where
  pub within : here < length ends
  pub left : StepsLeft ps ends (i + 1) (get_or ends here 0) end

pub step-held : (ps : List Premise) (ends : List ℕ) (i here end : ℕ) (p : Premise) (j : Judgement) → i < length ps → p ≡ get_or ps i p → p ≡ Holds j → StepsLeft ps ends i here end → IsStep ps ends i here end
step-held ps ends i here end p j l e is left =
    let d = ap (λ x. length (judgements_of x)) (premise-drop ps i p l e ∙ ap (λ (x : Premise). premise x ∷ map premise (drop (i + 1) ps)) is) in go left.sizes (left.many ∙ d) left.steps left.sum
  where
    go : (sizes : List ℕ) → length sizes ≡ suc (length (judgements_of (map premise (drop (i + 1) ps)))) → AreSteps ends here sizes → here + total sizes ≡ end → IsStep ps ends i here end
    go [] m s t = absurd (omega (arith, m))
    go (n ∷ ns) m s t =
        let v = s.1 in
        record {
          within = s.0;
          left = record {
            sizes = ns;
            many = omega (arith, m);
            steps = subst (λ (x : ℕ). AreSteps ends x ns) (sym v) s.2;
            sum = omega (arith, v, t);
          };
        }

pub step-apart : (ps : List Premise) (ends : List ℕ) (i here end : ℕ) (p : Premise) (t u : Term) → i < length ps → p ≡ get_or ps i p → p ≡ Apart t u → StepsLeft ps ends i here end → StepsLeft ps ends (i + 1) here end
step-apart ps ends i here end p t u l e is left =
    let d = ap (λ x. length (judgements_of x)) (premise-drop ps i p l e ∙ ap (λ (x : Premise). premise x ∷ map premise (drop (i + 1) ps)) is) in
    record { sizes = left.sizes; many = left.many ∙ d; steps = left.steps; sum = left.sum }

-- past the last premise
pub steps-end : (ps : List Premise) (ends : List ℕ) (i here end : ℕ) → length ps ≤ i → StepsLeft ps ends i here end → here ≡ end
steps-end ps ends i here end l left =
    let d = ap (λ (x : List Premise). length (judgements_of (map premise x))) (drop_all i ps l) in go left.sizes (left.many ∙ d) left.sum
  where
    go : (sizes : List ℕ) → length sizes ≡ 0 → here + total sizes ≡ end → here ≡ end
    go [] m t = omega (arith, t)
    go (n ∷ ns) m t = absurd (omega (arith, m))

-- with one end more
pub ends-none : (a : Accepted) (list : List Entry) (ends : List ℕ) → length ends ≡ length list → AreEndsFrom a list (length list) ends
ends-none a list ends many = record {
  many = many;
  each = λ i p l h.
      let w = stands-within list i p h.stands in
      let n = nodes-some p in absurd (omega (arith, l, w, n));
}

pub ends-more : (a : Accepted) (list : List Entry) (left : ℕ) (ends : List ℕ) (end : ℕ) → left < length list → AreEndsFrom a list (left + 1) ends → ((p : Proof) → IsDerivationListed a list left p → end ≡ left + nodes_of p) → AreEndsFrom a list left (set ends left end)
ends-more a list left ends end l h here =
    let m = h.many in
    let within : left < length ends = omega (arith, l, m) in
    record {
      many = length-set ends left end ∙ h.many;
      each = λ i p le s. at i p le s within;
    }
  where
    at : (i : ℕ) (p : Proof) → left ≤ i → IsDerivationListed a list i p → left < length ends → get_or (set ends left end) i 0 ≡ i + nodes_of p
    at i p le s within = elim (cases_eq i left) [
      | inl same ↦
          let f = here p (subst (λ (n : ℕ). IsDerivationListed a list n p) same s) in
          ap (λ (n : ℕ). get_or (set ends left end) n 0) same ∙ get_or-set_same ends left end 0 within ∙ f ∙ ap (λ (n : ℕ). n + nodes_of p) (sym same)
      | inr other ↦ get_or-set_other ends left i end 0 other ∙ h.each i p (omega (arith, le, other)) s
    ]
