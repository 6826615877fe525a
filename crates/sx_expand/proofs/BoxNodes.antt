-- A node whose derivation is made in boxes.
use Rattle.std.proofs.Common.{◌≡◌, arith, ℕ, zero, suc, ◌+◌, ◌<◌, List, [], ◌∷◌, Vec, Box, map, length, get_or, Some, refl, sym, ap, ◌∙◌, subst}
use Rattle.std.proofs.lemmas.List.{length-map}
use Rattle.std.specs.Prelude.{slice_get}
use Rattle.std.specs.declared.alloc.Global.{Global}
use Rattle.sx_term.specs.declared.term.Term.{Term}
use Rattle.sx_term.specs.Term.{tree}
use Rattle.sx_term.specs.Tree.{Tree}
use Rattle.sx_rules.specs.declared.entry.Entry.{Entry as EntryOf}
use Rattle.sx_rules.specs.declared.entry.Entry.TheVariants.{Rule as OfRule, Given}
use Rattle.sx_rules.specs.declared.proof.Proof.{Proof as ProofOf, By}
use Rattle.sx_rules.specs.declared.rule.Judgement.{Judgement as JudgementOf}
use Rattle.sx_rules.specs.Deep.{AreShallow}
use Rattle.sx_rules.specs.Derivations.{Proof, Proofs, by, given, Derives, ShallowJudgements}
use Rattle.sx_rules.specs.Derivations.{nodes_of, nodes_of_all}
use Rattle.sx_rules.specs.EntryView.{entry}
use Rattle.sx_rules.specs.Instances.{instance, bound_by}
use Rattle.sx_rules.specs.Modes.{AllModed, inputs, inputs_of, outputs, outputs_of}
use Rattle.sx_rules.specs.ProofView.{boxed}
use Rattle.sx_rules.specs.Rules.{Judgement, holds, Rule, judgement_instance}
use Rattle.sx_rules.specs.Views.{judgement}
use Rattle.sx_rules.proofs.ProofRows.{proof-at_by}
use Rattle.sx_arena.specs.Arena.{tree_at, AreBelow}
use Rattle.sx_arena.specs.Limits.{first_values}
use Rattle.sx_arena.specs.Matching.{Assignment, nothing_bound, match_all, filled}
use Rattle.sx_expand.specs.declared.made.Made.{Made}
use Rattle.sx_expand.specs.declared.origin.Origin.{Origin}
use Rattle.sx_expand.specs.Boxes.{rules_from, modes_from, hyps_from, listed_entries, CanBox}
use Rattle.sx_expand.specs.Boxes.{HaveInputs, IsBoxNode, IsBoxed, IsFollowed}
use Rattle.sx_expand.specs.ReadNodes.{NodeData, KidData}
use Rattle.sx_expand.specs.Standing.{StandsInList}
use Rattle.sx_expand.proofs.Bindings.{rule-same, begins, begins-followed, kid-asks, kid-gives, kid-followed, ends-concluded, node-binds}
use Rattle.sx_expand.proofs.Standing.{nodes-some, stands-within, kids-stand, rule-stands, given-stands}

-- no term of a hypothesis is deeper than 1,000
pub hypothesis-shallow : (js : List Judgement) (i : ℕ) (j : Judgement) → ShallowJudgements js → slice_get js i ≡ Some j → AreShallow j.places
hypothesis-shallow [] i j h e = cc
hypothesis-shallow (k ∷ js) zero j h e = let q : k ≡ j = cc in subst (λ (x : Judgement). AreShallow x.places) q h.0
hypothesis-shallow (k ∷ js) (suc i) j h e = hypothesis-shallow js i j h.1 e

module _ (o : Origin) (moded : AllModed (modes_from o) (rules_from o)) (code : Rule) (r at : ℕ) (there : slice_get (rules_from o) r ≡ Some code) (d : NodeData) (is : IsBoxNode o at r d) where
  same : code ≡ d.rule
  same = rule-same (rules_from o) (rules_from o) refl r d.rule is.found code there

  module _ (terms : List Tree) (ins : terms ≡ inputs_of (modes_from o) d.judgement) where
    -- what its inputs bind
    pub box-begins : (more : Assignment) × (match_all (inputs_of (modes_from o) code.conclusion) terms nothing_bound ≡ Some more)
    box-begins = begins (modes_from o) (modes_from o) refl (rules_from o) (hyps_from o) moded r d.rule code same is.found d.judgement d.binds d.kids is.derives terms ins

    pub box-begun : (more : Assignment) → match_all (inputs_of (modes_from o) code.conclusion) terms nothing_bound ≡ Some more → IsFollowed o d.rule d.binds d.rule.premises more
    box-begun = begins-followed (modes_from o) (modes_from o) refl (rules_from o) (hyps_from o) moded r d.rule code same is.found d.judgement d.binds d.kids is.derives terms ins

  -- what is bound at its end
  module _ (env : Assignment) (f : IsFollowed o d.rule d.binds [] env) where
    pub box-binds : first_values (length code.sorts) (filled env) ≡ d.binds
    box-binds = node-binds (modes_from o) (rules_from o) (hyps_from o) r d.rule code same is.found d.judgement d.binds d.kids is.derives env f

    pub box-outputs : outputs (modes_from o code.conclusion.form) (map (instance (filled env)) code.conclusion.places) ≡ outputs_of (modes_from o) d.judgement
    box-outputs = ends-concluded (modes_from o) (modes_from o) refl (rules_from o) (hyps_from o) moded r d.rule code same is.found d.judgement d.binds d.kids is.derives env f

-- the node in boxes
module _ (o : Origin) (terms : List Tree) (r : ℕ) (d : NodeData) (binds : Vec Term Global) (kids : Vec (Box ProofOf Global) Global) (outs : Vec ℕ Global) where
  pub node-boxed : map tree binds.items ≡ d.binds → boxed kids.items ≡ d.kids → AreBelow (length terms) outs.items → map (tree_at terms) outs.items ≡ outputs_of (modes_from o) d.judgement →
      IsBoxed o terms d.judgement (by r d.binds d.kids) (record { proof = By r binds kids; outputs = outs })
  node-boxed e f below is = record {
    is = proof-at_by (By r binds kids) r binds kids refl ∙ (λ i. by r (e i) (f i));
    below = below;
    outputs = is;
  }

-- a kid of a node with these terms bound
module _ (o : Origin) (j : JudgementOf) (d : KidData) (env : Assignment) (f : IsFollowed o d.rule d.binds (holds (judgement j) ∷ d.rest) env) where
  abbrev kid_judgement : Judgement
  kid_judgement = judgement_instance (bound_by d.binds) (judgement j)

  pub kid-inputs : (terms : List Tree) (numbers held : List ℕ) → numbers ≡ held →
      map (tree_at terms) held ≡ inputs (modes_from o j.form) (map (instance (filled env)) (judgement j).places) → HaveInputs o terms numbers kid_judgement
  kid-inputs terms numbers held same are =
      ap (λ (ns : List ℕ). map (tree_at terms) ns) same ∙ are
      ∙ kid-asks (modes_from o) (modes_from o) refl d.rule (bound_by d.binds) (judgement j) d.rest env f

  module _ (outs : List Tree) (is : outs ≡ outputs_of (modes_from o) kid_judgement) where
    pub kid-matches : (more : Assignment) × (match_all (outputs_of (modes_from o) (judgement j)) outs env ≡ Some more)
    kid-matches = kid-gives (modes_from o) (modes_from o) refl d.rule (bound_by d.binds) (judgement j) d.rest env f outs is

    pub kid-matched : (more : Assignment) → match_all (outputs_of (modes_from o) (judgement j)) outs env ≡ Some more → IsFollowed o d.rule d.binds d.rest more
    kid-matched = kid-followed (modes_from o) (modes_from o) refl d.rule (bound_by d.binds) (judgement j) d.rest env f outs is

-- the entry tells how the derivation ends that stands next in the list
pub record IsHypothesis (o : Origin) (n : ℕ) (j : Judgement) (p : Proof) : Type 0 where
  pub is : p ≡ given n
  pub found : slice_get (hyps_from o).judgements n ≡ Some j

pub record EndsByRule (o : Origin) (at r : ℕ) (j : Judgement) (p : Proof) : Type 0 where
  pub rule : Rule
  pub binds : List Tree
  pub kids : Proofs
  pub is : p ≡ by r binds kids
  pub node : IsBoxNode o (at + 1) r (record { rule = rule; judgement = j; binds = binds; kids = kids })

abbrev pub ends_with : {o : Origin} {at r : ℕ} {j : Judgement} {p : Proof} → EndsByRule o at r j p → NodeData
ends_with {o} {at} {r} {j} {p} e = record { rule = e.rule; judgement = j; binds = e.binds; kids = e.kids }

module _ (o : Origin) (at : ℕ) (j : Judgement) (p : Proof) (can : CanBox o at j p) where
  pub box-within : at < length o.list.now
  box-within =
      let w = stands-within (listed_entries o) at p can.stands in
      let n = nodes-some p in
      let m = length-map o.list.now entry in omega (arith, w, n, m)

  module _ (x : EntryOf) (here : x ≡ get_or o.list.now at x) (n : ℕ) where
    pub box-hypothesis : x ≡ Given n → IsHypothesis o n j p
    box-hypothesis is =
        let e = given-stands o.list.now at x n p box-within here is can.stands in
        record { is = e; found = subst (Derives (rules_from o) (hyps_from o) j) e can.derives }

    pub box-rule : x ≡ OfRule n → EndsByRule o at n j p
    box-rule is =
        let b = rule-stands o.list.now at x n p box-within here is can.stands in
        let d = subst (Derives (rules_from o) (hyps_from o) j) b.is can.derives in
        let s = subst (StandsInList (listed_entries o) at) b.is can.stands in
        record {
          rule = d.0;
          binds = b.binds;
          kids = b.kids;
          is = b.is;
          node = record { found = d.1; stand = kids-stand (listed_entries o) at n b.binds b.kids s; derives = d };
        }

-- so it is made
module _ (o : Origin) (terms : List Tree) (at end : ℕ) (j : Judgement) (p : Proof) (m : Made) where
  pub boxed-by : (r : ℕ) (e : EndsByRule o at r j p) → IsBoxed o terms j (by r e.binds e.kids) m × (end ≡ at + 1 + nodes_of_all e.kids) → IsBoxed o terms j p m × (end ≡ at + nodes_of p)
  boxed-by r e h =
      let n = ap nodes_of e.is in
      let to = h.1 in
      (subst (λ (q : Proof). IsBoxed o terms j q m) (sym e.is) h.0, omega (arith, n, to))

  pub boxed-given : (n : ℕ) → p ≡ given n → IsBoxed o terms j (given n) m → end ≡ at + 1 → IsBoxed o terms j p m × (end ≡ at + nodes_of p)
  boxed-given n is h to =
      let e = ap nodes_of is in
      (subst (λ (q : Proof). IsBoxed o terms j q m) (sym is) h, omega (arith, e, to))
