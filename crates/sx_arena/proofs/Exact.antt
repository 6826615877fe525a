use Rattle.std.proofs.Common.{◌≡◌, ℕ, ◌⊎◌, inl, inr, Option, Some, None, refl, sym, ap, ◌∙◌}
use Rattle.sx_term.specs.Tree.{Tree}
use Rattle.sx_arena.specs.Matching.{Assignment, match, value_or, filled, IsBound, Agrees, IsMatch}
use Rattle.sx_arena.specs.Laws.{MatchIsExact}
use Rattle.sx_arena.proofs.Matchings.{match-matches, match_found}

pub filled_agrees : (env : Assignment) → Agrees env (filled env)
filled_agrees env v u e = ap value_or e

match_is : (p t : Tree) (env more : Assignment) → match p t env ≡ Some more → IsMatch p t env more
match_is p t env more e =
    let m = match-matches p t env more e in
    record { extends = m.extends; only = m.only; every = m.every; instance_is = m.instance_is (filled more) (filled_agrees more) }

-- two assignments that bind the same variables, to what one substitution gives, are one
same_assignment : (s : ℕ → Tree) (env more : Assignment) → Agrees env s → Agrees more s →
    ((v : ℕ) → IsBound env v → IsBound more v) → ((v : ℕ) → IsBound more v → IsBound env v) → env ≡ more
same_assignment s env more a b f g = λ i v. at_v v (env v) (more v) refl refl i
  where
    at_v : (v : ℕ) (x y : Option Tree) → env v ≡ x → more v ≡ y → env v ≡ more v
    at_v v None None e h = e ∙ sym h
    at_v v None (Some y) e h = let k = (g v (y, h)).1 in cc
    at_v v (Some x) None e h = let k = (f v (x, e)).1 in cc
    at_v v (Some x) (Some y) e h = e ∙ ap Some (sym (a v x e) ∙ b v y h) ∙ sym h

is_match : (p t : Tree) (env more : Assignment) → IsMatch p t env more → match p t env ≡ Some more
is_match p t env more h =
    let s = filled more in
    let r = match_found p t env s (λ v u e. filled_agrees more v u (h.extends v u e)) h.instance_is in
    let m = match-matches p t env r.0 r.1 in
    let same = same_assignment s r.0 more r.2 (filled_agrees more)
    (λ v b. to (λ (u, e). (u, h.extends v u e)) (h.every v) (m.only v b))
    (λ v b. to (λ (u, e). (u, m.extends v u e)) (m.every v) (h.only v b)) in
    r.1 ∙ ap Some same
  where
    to : {A B C : Type 0} → (A → C) → (B → C) → A ⊎ B → C
    to f g (inl x) = f x
    to f g (inr y) = g y

none_matches : (p t : Tree) (env : Assignment) (r : Option Assignment) → match p t env ≡ r → ((more : Assignment) → IsMatch p t env more → ⊥) → r ≡ None
none_matches p t env None e h = refl
none_matches p t env (Some more) e h = absurd (h more (match_is p t env more e))

pub match_is_exact : MatchIsExact
match_is_exact p t env = (
  λ more. (match_is p t env more, is_match p t env more),
  (λ e more h. let k = is_match p t env more h in cc, λ h. none_matches p t env (match p t env) refl h),
)
