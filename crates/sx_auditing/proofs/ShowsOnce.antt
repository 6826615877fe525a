-- Showing a list has one answer.
use Rattle.std.proofs.Common.{◌≡◌, ℕ, ◌+◌, List, length, ap, sym, subst, ◌∙◌}
use Rattle.std.specs.Prelude.{Result, Ok, Err}
use Rattle.sx_rules.specs.Orders.{Entry}
use Rattle.sx_rules.specs.Views.{NamedRule}
use Rattle.sx_steps.specs.declared.stop.Stop.{Stop}
use Rattle.sx_audit.specs.Meaning.{Node, Meaning}
use Rattle.sx_audit.specs.Preorder.{nodes}
use Rattle.sx_auditing.specs.Shows.{objection, ShowsNodes, Shows}
use Rattle.sx_auditing.proofs.NodesOnce.{list-once}
use Rattle.sx_auditing.proofs.Once.{not-admitted, refused-once}

nodes-shown-once : (file : List ℕ) (old : List Meaning) (ns : List Node)
    (one other : Result (List Meaning) Stop) → ShowsNodes file old ns one →
    ShowsNodes file old ns other → one ≡ other
nodes-shown-once file old ns (Ok new) (Ok other) h k = ap Ok (h.1 ∙ sym k.1)
nodes-shown-once file old ns (Ok new) (Err stop) h k = absurd (not-admitted old ns k.0 k.1 h.0)
nodes-shown-once file old ns (Err stop) (Ok new) h k = absurd (not-admitted old ns h.0 h.1 k.0)
nodes-shown-once file old ns (Err stop) (Err other) h k =
    let same = refused-once old ns h.0 k.0 h.1 k.1 in
    ap Err (h.2
    ∙ ap (λ (m : Meaning). objection file m (length h.1.seen + 1) h.1.node) same.one
    ∙ ap (λ (xs : List Node). objection file k.1.one (length xs + 1) h.1.node) same.seen
    ∙ ap (λ (n : Node). objection file k.1.one (length k.1.seen + 1) n) same.node ∙ sym k.2)

pub shows-once : (file : List ℕ) (rules : List NamedRule) (old : List Meaning)
    (list : List Entry) (one other : Result (List Meaning) Stop) →
    Shows file rules old list one → Shows file rules old list other → one ≡ other
shows-once file rules old list one other h k =
    nodes-shown-once file old (nodes rules 1 k.proof) one other
    (subst (λ (ns : List Node). ShowsNodes file old ns one)
    (list-once rules list h.proof k.proof h.is k.is) h.shows) k.shows
