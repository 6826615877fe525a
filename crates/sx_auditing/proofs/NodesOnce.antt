-- Derivations whose entries stand in one list have the same nodes.
use Rattle.std.proofs.Common.{◌≡◌, ℕ, ◌+◌, List, [], ◌∷◌, ◌++◌, map, length, Some, None}
use Rattle.std.proofs.Common.{ap, sym, refl, ◌∙◌, append_assoc}
use Rattle.std.specs.Prelude.{slice_get}
use Rattle.std.proofs.lemmas.List.{length-map}
use Rattle.sx_term.specs.Tree.{Tree}
use Rattle.sx_rules.specs.Derivations.{Proof, Proofs, by, given, no_more, ◌⊳◌, Derives, DeriveEach}
use Rattle.sx_rules.specs.Instances.{bound_by}
use Rattle.sx_rules.specs.Orders.{Entry, order_of, order_of_all}
use Rattle.sx_rules.specs.Rules.{Judgement, Rule, no_hypotheses, judgement_instance, judgements_of}
use Rattle.sx_rules.specs.Views.{NamedRule, rule_name}
use Rattle.sx_audit.specs.Meaning.{Node, node}
use Rattle.sx_audit.specs.Preorder.{nodes, nodes_of_each, IsDerivationList}

-- a rule has as many kids at each of its nodes
as-many : (one other : Rule) (s t : ℕ → Tree) → one ≡ other →
    length (map (judgement_instance s) (judgements_of one.premises))
    ≡ length (map (judgement_instance t) (judgements_of other.premises))
as-many one other s t e =
    length-map (judgements_of one.premises) (judgement_instance s)
    ∙ ap (λ (r : Rule). length (judgements_of r.premises)) e
    ∙ sym (length-map (judgements_of other.premises) (judgement_instance t))

module _ (named : List NamedRule) (rules : List Rule) where
  mutual
    nodes-same : (depth : ℕ) (j k : Judgement) (p q : Proof) → Derives rules no_hypotheses j p →
        Derives rules no_hypotheses k q → (more rest : List Entry) →
        order_of p ++ more ≡ order_of q ++ rest →
        (nodes named depth p ≡ nodes named depth q) × (more ≡ rest)
    nodes-same depth j k (given i) q d f more rest e =
        absurd (let h : None ≡ Some j = d in cc)
    nodes-same depth j k (by r binds ps) (given i) d f more rest e =
        absurd (let h : None ≡ Some k = f in cc)
    nodes-same depth j k (by r binds ps) (by c others qs) d f more rest e =
        let same : r ≡ c = cc in
        let tails : order_of_all ps ++ more ≡ order_of_all qs ++ rest = cc in
        let found : Some d.0 ≡ Some f.0 = sym d.1 ∙ ap (slice_get rules) same ∙ f.1 in
        let rule : d.0 ≡ f.0 = cc in
        let kids = each-same (depth + 1)
        (map (judgement_instance (bound_by binds)) (judgements_of d.0.premises))
        (map (judgement_instance (bound_by others)) (judgements_of f.0.premises))
        (as-many d.0 f.0 (bound_by binds) (bound_by others) rule) ps qs d.5 f.5 more rest tails in (
          ap (λ (n : ℕ). node (rule_name named n) depth ∷ nodes_of_each named (depth + 1) ps) same
              ∙ ap (λ (ns : List Node). node (rule_name named c) depth ∷ ns) kids.0,
          kids.1,
        )

    each-same : (depth : ℕ) (js ks : List Judgement) → length js ≡ length ks →
        (ps qs : Proofs) → DeriveEach rules no_hypotheses js ps →
        DeriveEach rules no_hypotheses ks qs → (more rest : List Entry) →
        order_of_all ps ++ more ≡ order_of_all qs ++ rest →
        (nodes_of_each named depth ps ≡ nodes_of_each named depth qs) × (more ≡ rest)
    each-same depth [] [] n no_more no_more d f more rest e = (refl, e)
    each-same depth [] [] n (p ⊳ ps) qs d f more rest e = absurd d
    each-same depth [] [] n no_more (q ⊳ qs) d f more rest e = absurd f
    each-same depth [] (k ∷ ks) n ps qs d f more rest e = absurd cc
    each-same depth (j ∷ js) [] n ps qs d f more rest e = absurd cc
    each-same depth (j ∷ js) (k ∷ ks) n no_more qs d f more rest e = absurd d
    each-same depth (j ∷ js) (k ∷ ks) n (p ⊳ ps) no_more d f more rest e = absurd f
    each-same depth (j ∷ js) (k ∷ ks) n (p ⊳ ps) (q ⊳ qs) d f more rest e =
        let m : length js ≡ length ks = cc in
        let first = nodes-same depth j k p q d.0 f.0 (order_of_all ps ++ more)
        (order_of_all qs ++ rest)
        (sym (append_assoc (order_of p) (order_of_all ps) more) ∙ e
        ∙ append_assoc (order_of q) (order_of_all qs) rest) in
        let others = each-same depth js ks m ps qs d.1 f.1 more rest first.1 in (
          ap (λ (ns : List Node). ns ++ nodes_of_each named depth ps) first.0
              ∙ ap (λ (ns : List Node). nodes named depth q ++ ns) others.0,
          others.1,
        )

-- so it is of a whole list
pub list-once : (rules : List NamedRule) (list : List Entry) (p q : Proof) →
    IsDerivationList (map (λ r. r.rule) rules) list p →
    IsDerivationList (map (λ r. r.rule) rules) list q → nodes rules 1 p ≡ nodes rules 1 q
list-once rules list p q one other =
    (nodes-same rules (map (λ r. r.rule) rules) 1 one.judgement other.judgement p q one.derives
    other.derives [] []
    (ap (λ (es : List Entry). es ++ []) (sym one.order ∙ other.order))).0
