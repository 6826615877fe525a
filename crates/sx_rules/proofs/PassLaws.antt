-- A premise that is passed.
use Rattle.std.proofs.Common.{◌≡◌, ℕ, ◌+◌, ◌<◌, List, ◌∷◌, Option, Some, None, length, get_or, drop, map, ap, ◌∙◌, sym}
use Rattle.std.proofs.lemmas.List.{at_drop_more}
use Rattle.sx_rules.specs.declared.rule.Premise.{Premise}
use Rattle.sx_rules.specs.Rules.{Judgement}
use Rattle.sx_rules.specs.Views.{FormData, premise}
use Rattle.sx_rules.specs.Unmoded.{first_unbound, united, or_else, uses_of, binds_of, unbound_from}

row : (ps : List Premise) (i : ℕ) (p : Premise) → i < length ps → p ≡ get_or ps i p → map premise (drop i ps) ≡ premise p ∷ map premise (drop (i + 1) ps)
row ps i p h g = at_drop_more (map premise) ps i p h ∙ ap (λ (x : Premise). premise x ∷ map premise (drop (i + 1) ps)) (sym g)

pub passed : (forms : List FormData) (ps : List Premise) (i : ℕ) (p : Premise) (c : Judgement) (many : ℕ) (b new : List ℕ) (whole : Option ℕ) → i < length ps → p ≡ get_or ps i p →
    first_unbound b (uses_of forms (premise p)) ≡ None → new ≡ united b (binds_of forms (premise p)) →
    unbound_from forms b (map premise (drop i ps)) c many ≡ whole → unbound_from forms new (map premise (drop (i + 1) ps)) c many ≡ whole
passed forms ps i p c many b new whole h g none e same =
    let rest = map premise (drop (i + 1) ps) in
    ap (λ (z : List ℕ). unbound_from forms z rest c many) e
    ∙ ap (λ (o : Option ℕ). or_else o (unbound_from forms (united b (binds_of forms (premise p))) rest c many)) (sym none)
    ∙ sym (ap (λ l. unbound_from forms b l c many) (row ps i p h g)) ∙ same

pub stopped : (forms : List FormData) (ps : List Premise) (i : ℕ) (p : Premise) (c : Judgement) (many v : ℕ) (b : List ℕ) (whole : Option ℕ) → i < length ps → p ≡ get_or ps i p →
    first_unbound b (uses_of forms (premise p)) ≡ Some v →
    unbound_from forms b (map premise (drop i ps)) c many ≡ whole → Some v ≡ whole
stopped forms ps i p c many v b whole h g some same =
    ap (λ (o : Option ℕ). or_else o (unbound_from forms (united b (binds_of forms (premise p))) (map premise (drop (i + 1) ps)) c many)) (sym some)
    ∙ sym (ap (λ l. unbound_from forms b l c many) (row ps i p h g)) ∙ same
