use Rattle.std.proofs.Common.{◌≡◌, ℕ, Bool, true, false, List, [], ◌∷◌, ◌⊎◌, inl, inr, map, Option, Some, None, refl, sym, ap, ◌∙◌}
use Rattle.std.specs.Prelude.{nat_eq}
use Rattle.std.proofs.lemmas.Bool.{eq-eqb}
use Rattle.sx_term.specs.Tree.{Tree, Trees, node, lexeme, hole, none, ◌▹◌}
use Rattle.sx_rules.specs.Instances.{instance, instances, Stands, StandsInKids, StandsAmong}
use Rattle.sx_arena.specs.Matching.{same, Assignment, bind, match_variable, match_when, match_then}
use Rattle.sx_arena.specs.Matching.{match, match_kids, match_all, IsBound, ExtendsAssignment}
use Rattle.sx_arena.specs.Matching.{Agrees}
use Rattle.sx_arena.proofs.Sameness.{nat_same, same_true, same_self}

pub when_true : (b : Bool) (r : Option Assignment) (env : Assignment) → match_when b r ≡ Some env → (b ≡ true) × (r ≡ Some env)
when_true true r env e = (refl, e)
when_true false r env e = cc

pub then_parts : (r : Option Assignment) (f : Assignment → Option Assignment) (last : Assignment) → match_then r f ≡ Some last →
    (env : Assignment) × (r ≡ Some env) × (f env ≡ Some last)
then_parts None f last e = cc
then_parts (Some env) f last e = (env, refl, e)

-- bind
pub bind-at : (env : Assignment) (v : ℕ) (t : Tree) → bind env v t v ≡ Some t
bind-at env v t = rw (eq-eqb v v refl, bind)

pub bind-cases : (env : Assignment) (v : ℕ) (t : Tree) (w : ℕ) (u : Tree) → bind env v t w ≡ Some u → ((w ≡ v) × (t ≡ u)) ⊎ (env w ≡ Some u)
bind-cases env v t w u e = go (nat_eq w v) refl e
  where
    go : (b : Bool) → nat_eq w v ≡ b → elim b as (λ _. Option Tree) [ true ↦ Some t | false ↦ env w ] ≡ Some u → ((w ≡ v) × (t ≡ u)) ⊎ (env w ≡ Some u)
    go true q f = inl (nat_same w v q, cc)
    go false q f = inr f

pub bind-other : (env : Assignment) (v : ℕ) (t : Tree) (w : ℕ) → (w ≡ v → ⊥) → bind env v t w ≡ env w
bind-other env v t w ne = go (nat_eq w v) refl
  where
    go : (b : Bool) → nat_eq w v ≡ b → elim b as (λ _. Option Tree) [ true ↦ Some t | false ↦ env w ] ≡ env w
    go true q = absurd (ne (nat_same w v q))
    go false q = refl

-- what a match tells: the bindings stay, just the pattern's variables are added, and the instance is the term
pub record Matches (p t : Tree) (env more : Assignment) : Type 0 where
  pub extends : ExtendsAssignment env more
  pub only : (v : ℕ) → IsBound more v → IsBound env v ⊎ Stands v p
  pub every : (v : ℕ) → Stands v p → IsBound more v
  pub instance_is : (s : ℕ → Tree) → Agrees more s → instance s p ≡ t

pub record MatchesKids (ps ts : Trees) (env more : Assignment) : Type 0 where
  pub extends : ExtendsAssignment env more
  pub only : (v : ℕ) → IsBound more v → IsBound env v ⊎ StandsInKids v ps
  pub every : (v : ℕ) → StandsInKids v ps → IsBound more v
  pub instance_is : (s : ℕ → Tree) → Agrees more s → instances s ps ≡ ts

pub record MatchesAll (ps ts : List Tree) (env more : Assignment) : Type 0 where
  pub extends : ExtendsAssignment env more
  pub only : (v : ℕ) → IsBound more v → IsBound env v ⊎ StandsAmong v ps
  pub every : (v : ℕ) → StandsAmong v ps → IsBound more v
  pub instance_is : (s : ℕ → Tree) → Agrees more s → map (instance s) ps ≡ ts

pub stays-bound : (env more : Assignment) → ExtendsAssignment env more → (v : ℕ) → IsBound env v → IsBound more v
stays-bound env more h v (u, e) = (u, h v u e)

pub stays-agreed : (env more : Assignment) (s : ℕ → Tree) → ExtendsAssignment env more → Agrees more s → Agrees env s
stays-agreed env more s h a v u e = a v u (h v u e)

variable_matches : (r : Option Tree) (v : ℕ) (t : Tree) (env more : Assignment) → env v ≡ r → match_variable r v t env ≡ Some more → Matches (hole v) t env more
variable_matches None v t env more q e =
    let m : bind env v t ≡ more = cc in
    let at_v : more v ≡ Some t = sym (ap (λ f. f v) m) ∙ bind-at env v t in
    record {
      extends = λ w u k. sym (ap (λ f. f w) m) ∙ bind-other env v t w (λ x. let z : env v ≡ Some u = sym (ap env x) ∙ k in cc) ∙ k;
      only = λ w (u, k). only_cases w u (bind-cases env v t w u (ap (λ f. f w) m ∙ k));
      every = λ w k. (t, ap more k ∙ at_v);
      instance_is = λ s a. a v t at_v;
    }
  where
    only_cases : (w : ℕ) (u : Tree) → ((w ≡ v) × (t ≡ u)) ⊎ (env w ≡ Some u) → IsBound env w ⊎ (w ≡ v)
    only_cases w u (inl h) = inr h.0
    only_cases w u (inr h) = inl (u, h)
variable_matches (Some u) v t env more q e = go (same u t) refl e
  where
    go : (b : Bool) → same u t ≡ b → elim b as (λ _. Option Assignment) [ true ↦ Some env | false ↦ None ] ≡ Some more → Matches (hole v) t env more
    go true k f =
        let m : env ≡ more = cc in
        let ut : u ≡ t = same_true u t k in
        let at_v : more v ≡ Some t = sym (ap (λ g. g v) m) ∙ q ∙ ap Some ut in
        record {
          extends = λ w x h. sym (ap (λ g. g w) m) ∙ h;
          only = λ w (x, h). inl (x, ap (λ g. g w) m ∙ h);
          every = λ w h. (t, ap more h ∙ at_v);
          instance_is = λ s a. a v t at_v;
        }
    go false k f = cc

same_matches : (p : Tree) (env more : Assignment) → ((v : ℕ) → Stands v p → ⊥) → ((s : ℕ → Tree) → instance s p ≡ p) → (t : Tree) → p ≡ t → env ≡ more → Matches p t env more
same_matches p env more closed stays t e m = record {
  extends = λ w x h. sym (ap (λ g. g w) m) ∙ h;
  only = λ w (x, h). inl (x, ap (λ g. g w) m ∙ h);
  every = λ w h. absurd (closed w h);
  instance_is = λ s a. stays s ∙ e;
}

both_only : {A B C D : Type 0} → (C → A ⊎ B) → C ⊎ D → A ⊎ (B ⊎ D)
both_only f (inl c) = first (f c)
  where
    first : {A B D : Type 0} → A ⊎ B → A ⊎ (B ⊎ D)
    first (inl a) = inl a
    first (inr b) = inr (inl b)
both_only f (inr d) = inr (inr d)

mutual
  pub match-matches : (p t : Tree) (env more : Assignment) → match p t env ≡ Some more → Matches p t env more
  match-matches (hole v) t env more e = variable_matches (env v) v t env more refl e
  match-matches (lexeme k x) t env more e =
      let w = when_true (same (lexeme k x) t) (Some env) more e in
      same_matches (lexeme k x) env more (λ v h. h) (λ s. refl) t (same_true (lexeme k x) t w.0) (let q : Some env ≡ Some more = w.1 in cc)
  match-matches (node l ps) (node m ts) env more e =
      let w = when_true (nat_eq l m) (match_kids ps ts env) more e in
      let k = match_kids-matches ps ts env more w.1 in
      let q : l ≡ m = nat_same l m w.0 in
      record {
        extends = k.extends;
        only = k.only;
        every = k.every;
        instance_is = λ s a. let r : instances s ps ≡ ts = k.instance_is s a in cc;
      }
  match-matches (node l ps) (lexeme k x) env more e = cc
  match-matches (node l ps) (hole v) env more e = cc

  pub match_kids-matches : (ps ts : Trees) (env more : Assignment) → match_kids ps ts env ≡ Some more → MatchesKids ps ts env more
  match_kids-matches none none env more e =
      let m : env ≡ more = cc in
      record {
        extends = λ w x h. sym (ap (λ g. g w) m) ∙ h;
        only = λ w (x, h). inl (x, ap (λ g. g w) m ∙ h);
        every = λ w h. absurd h;
        instance_is = λ s a. refl;
      }
  match_kids-matches (p ▹ ps) (t ▹ ts) env more e =
      let w = then_parts (match p t env) (match_kids ps ts) more e in
      let a = match-matches p t env w.0 w.1 in
      let b = match_kids-matches ps ts w.0 more w.2 in
      record {
        extends = λ v u h. b.extends v u (a.extends v u h);
        only = λ v h. both_only (a.only v) (b.only v h);
        every = λ v. elim [ inl h ↦ stays-bound w.0 more b.extends v (a.every v h) | inr h ↦ b.every v h ];
        instance_is = λ s h.
            let x : instance s p ≡ t = a.instance_is s (stays-agreed w.0 more s b.extends h) in
            let y : instances s ps ≡ ts = b.instance_is s h in cc;
      }
  match_kids-matches _ _ env more e = cc

pub match_all-matches : (ps ts : List Tree) (env more : Assignment) → match_all ps ts env ≡ Some more → MatchesAll ps ts env more
match_all-matches [] [] env more e =
    let m : env ≡ more = cc in
    record {
      extends = λ w x h. sym (ap (λ g. g w) m) ∙ h;
      only = λ w (x, h). inl (x, ap (λ g. g w) m ∙ h);
      every = λ w h. absurd h;
      instance_is = λ s a. refl;
    }
match_all-matches (p ∷ ps) (t ∷ ts) env more e =
    let w = then_parts (match p t env) (match_all ps ts) more e in
    let a = match-matches p t env w.0 w.1 in
    let b = match_all-matches ps ts w.0 more w.2 in
    record {
      extends = λ v u h. b.extends v u (a.extends v u h);
      only = λ v h. both_only (a.only v) (b.only v h);
      every = λ v. elim [ inl h ↦ stays-bound w.0 more b.extends v (a.every v h) | inr h ↦ b.every v h ];
      instance_is = λ s h.
          let x : instance s p ≡ t = a.instance_is s (stays-agreed w.0 more s b.extends h) in
          let y : map (instance s) ps ≡ ts = b.instance_is s h in cc;
    }
match_all-matches _ _ env more e = cc

-- a match is found wherever a substitution that agrees with the bindings gives the term
abbrev Found : Option Assignment → (ℕ → Tree) → Type 0
Found r s = (more : Assignment) × (r ≡ Some more) × Agrees more s

variable_found : (r : Option Tree) (v : ℕ) (t : Tree) (env : Assignment) (s : ℕ → Tree) → env v ≡ r → Agrees env s → s v ≡ t → Found (match_variable r v t env) s
variable_found None v t env s q a e = (bind env v t, refl, λ w u k. cases w u (bind-cases env v t w u k))
  where
    cases : (w : ℕ) (u : Tree) → ((w ≡ v) × (t ≡ u)) ⊎ (env w ≡ Some u) → s w ≡ u
    cases w u (inl h) = ap s h.0 ∙ e ∙ h.1
    cases w u (inr h) = a w u h
variable_found (Some u) v t env s q a e =
    let ut : u ≡ t = sym (a v u q) ∙ e in
    let b : same u t ≡ true = ap (λ x. same u x) (sym ut) ∙ same_self u in
    (env, rw (b, match_variable), a)

when_found : (b : Bool) (r : Option Assignment) (s : ℕ → Tree) → b ≡ true → Found r s → Found (match_when b r) s
when_found true r s q f = f
when_found false r s q f = cc

then_found : (r : Option Assignment) (f : Assignment → Option Assignment) (s : ℕ → Tree) → Found r s → ((env : Assignment) → Agrees env s → Found (f env) s) → Found (match_then r f) s
then_found None f s (env, e, a) k = cc
then_found (Some x) f s (env, e, a) k =
    let m : x ≡ env = cc in
    k x (λ v u h. a v u (sym (ap (λ g. g v) m) ∙ h))

mutual
  pub match_found : (p t : Tree) (env : Assignment) (s : ℕ → Tree) → Agrees env s → instance s p ≡ t → Found (match p t env) s
  match_found (hole v) t env s a e = variable_found (env v) v t env s refl a e
  match_found (lexeme k x) t env s a e =
      let b : same (lexeme k x) t ≡ true = ap (λ y. same (lexeme k x) y) (sym e) ∙ same_self (lexeme k x) in
      when_found (same (lexeme k x) t) (Some env) s b (env, refl, a)
  match_found (node l ps) (node m ts) env s a e =
      let q : l ≡ m = cc in
      let r : instances s ps ≡ ts = cc in
      when_found (nat_eq l m) (match_kids ps ts env) s (eq-eqb l m q) (match_kids_found ps ts env s a r)
  match_found (node l ps) (lexeme k x) env s a e = cc
  match_found (node l ps) (hole v) env s a e = cc

  pub match_kids_found : (ps ts : Trees) (env : Assignment) (s : ℕ → Tree) → Agrees env s → instances s ps ≡ ts → Found (match_kids ps ts env) s
  match_kids_found none none env s a e = (env, refl, a)
  match_kids_found none (t ▹ ts) env s a e = cc
  match_kids_found (p ▹ ps) none env s a e = cc
  match_kids_found (p ▹ ps) (t ▹ ts) env s a e =
      let q : instance s p ≡ t = cc in
      let r : instances s ps ≡ ts = cc in
      then_found (match p t env) (match_kids ps ts) s (match_found p t env s a q) (λ more b. match_kids_found ps ts more s b r)

pub match_all_found : (ps ts : List Tree) (env : Assignment) (s : ℕ → Tree) → Agrees env s → map (instance s) ps ≡ ts → Found (match_all ps ts env) s
match_all_found [] [] env s a e = (env, refl, a)
match_all_found [] (t ∷ ts) env s a e = cc
match_all_found (p ∷ ps) [] env s a e = cc
match_all_found (p ∷ ps) (t ∷ ts) env s a e =
    let q : instance s p ≡ t = cc in
    let r : map (instance s) ps ≡ ts = cc in
    then_found (match p t env) (match_all ps ts) s (match_found p t env s a q) (λ more b. match_all_found ps ts more s b r)
