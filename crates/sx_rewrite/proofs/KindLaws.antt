-- Forms whose places have sorts for their roles.
use Rattle.std.proofs.Common.{ℕ, zero, suc, List, [], ◌∷◌, map}
use Rattle.std.specs.List.{AllByRecursion}
use Rattle.sx_term.specs.declared.role.Role.{Role}
use Rattle.sx_term.specs.declared.role.Role.TheVariants.{In, Sub, Out}
use Rattle.sx_rules.specs.declared.rule.Place.{Place}
use Rattle.sx_rules.specs.Modes.{inputs, outputs}
use Rattle.sx_rules.specs.Discipline.{AreUntypedSorts, FormsFit}
use Rattle.sx_rules.specs.Views.{FormData, places_at, is_out, is_sub, modes_of, subjects_in, sorts_of}
use Rattle.sx_rewrite.specs.Accepted.{AreTypedSorts}
use Rattle.sx_rewrite.specs.Kinds.{IsSortFor, HaveSortsFor}

abbrev Places : List Place → Type 0
Places ps = AllByRecursion (λ p. IsSortFor p.role p.sort) ps

at-form : (fs : List FormData) (n : ℕ) → HaveSortsFor fs → Places (places_at fs n)
at-form [] n h = tt
at-form (f ∷ fs) zero h = h.0
at-form (f ∷ fs) (suc n) h = at-form fs n h.1

others : (ps : List Place) → Places ps → AreUntypedSorts (inputs (map (λ p. is_sub p.role) ps) (map (λ p. p.sort) ps))
others [] h = tt
others (p ∷ ps) h = go (others ps h.1) p.role h.0
  where
    go : AreUntypedSorts (inputs (map (λ p. is_sub p.role) ps) (map (λ p. p.sort) ps)) → (r : Role) → IsSortFor r p.sort → AreUntypedSorts (inputs (is_sub r ∷ map (λ p. is_sub p.role) ps) (p.sort ∷ map (λ p. p.sort) ps))
    go rest In s = (s, rest)
    go rest Sub s = rest
    go rest Out s = (s, rest)

outs : (ps : List Place) → Places ps → AreUntypedSorts (outputs (map (λ p. is_out p.role) ps) (map (λ p. p.sort) ps))
outs [] h = tt
outs (p ∷ ps) h = go (outs ps h.1) p.role h.0
  where
    go : AreUntypedSorts (outputs (map (λ p. is_out p.role) ps) (map (λ p. p.sort) ps)) → (r : Role) → IsSortFor r p.sort → AreUntypedSorts (outputs (is_out r ∷ map (λ p. is_out p.role) ps) (p.sort ∷ map (λ p. p.sort) ps))
    go rest In s = rest
    go rest Sub s = rest
    go rest Out s = (s, rest)

subjects : (ps : List Place) → Places ps → AreTypedSorts (outputs (map (λ p. is_sub p.role) ps) (map (λ p. p.sort) ps))
subjects [] h = tt
subjects (p ∷ ps) h = go (subjects ps h.1) p.role h.0
  where
    go : AreTypedSorts (outputs (map (λ p. is_sub p.role) ps) (map (λ p. p.sort) ps)) → (r : Role) → IsSortFor r p.sort → AreTypedSorts (outputs (is_sub r ∷ map (λ p. is_sub p.role) ps) (p.sort ∷ map (λ p. p.sort) ps))
    go rest In s = rest
    go rest Sub s = (s, rest)
    go rest Out s = rest

pub forms-fit : (fs : List FormData) → HaveSortsFor fs → FormsFit (modes_of fs) (subjects_in fs) (sorts_of fs)
forms-fit fs h = record {
  others = λ n. others (places_at fs n) (at-form fs n h);
  outputs_plain = λ n. outs (places_at fs n) (at-form fs n h);
}

pub forms-typed : (fs : List FormData) → HaveSortsFor fs → (n : ℕ) → AreTypedSorts (outputs (subjects_in fs n) (sorts_of fs n))
forms-typed fs h n = subjects (places_at fs n) (at-form fs n h)
