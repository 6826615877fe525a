-- A module of a closure does not import itself, and imports few.
use Rattle.std.proofs.Common.{◌≡◌, ℕ, zero, suc, ◌≤◌, Bool, true, false, List, [], ◌∷◌, ◌++◌, map}
use Rattle.std.proofs.Common.{length, length-append, refl, sym, ap, ◌∙◌, subst, append_assoc}
use Rattle.std.proofs.Common.{arith}
use Rattle.std.specs.Prelude.{◌||◌, Contains}
use Rattle.std.proofs.lemmas.Bool.{false≢true, or_left, or_right}
use Rattle.std.proofs.lemmas.List.{length-map, map-append}
use Rattle.std.proofs.lemmas.List.Elements.{Contains-append_left, Contains-append_right}
use Rattle.std.proofs.lemmas.List.Elements.{Contains-push}
use Rattle.std.proofs.lemmas.Slice.Eq.{bytes_eq-Decides}
use Rattle.std.specs.Str.{bytes_eq}
use Rattle.sx_lines.specs.Rows.{has_key, EachNew}
use Rattle.sx_imports.proofs.Lists.{split}
use Rattle.sx_walking.specs.Opened.{AreOnce}
use Rattle.sx_headers.specs.ReadModule.{Module}
use Rattle.sx_closure.specs.Closures.{IsClosure}
use Rattle.sx_closure.specs.ReadModules.{module_name}

-- ---- names that are all new

or_more : (a b c : Bool) → (b ≡ true → c ≡ true) → (a || b) ≡ true → (a || c) ≡ true
or_more true b c more h = refl
or_more false b c more h = more h

-- the name is one of these
abbrev Has : List (List ℕ) → List ℕ → Type 0
Has seen name = has_key (λ (n : List ℕ). n) seen name ≡ true

has_last : (seen : List (List ℕ)) (name : List ℕ) → Has (seen ++ name ∷ []) name
unfolding has_key
has_last [] name = or_left (bytes_eq name name) false ((bytes_eq-Decides name name).1 refl)
has_last (x ∷ seen) name =
    or_right (bytes_eq x name) (has_key (λ (n : List ℕ). n) (seen ++ name ∷ []) name)
    (has_last seen name)

has_more : (seen : List (List ℕ)) (next name : List ℕ) → Has seen name →
    Has (seen ++ next ∷ []) name
unfolding has_key
has_more [] next name h = absurd (false≢true h)
has_more (x ∷ seen) next name h =
    or_more (bytes_eq x name) (has_key (λ (n : List ℕ). n) seen name)
    (has_key (λ (n : List ℕ). n) (seen ++ next ∷ []) name) (has_more seen next name) h

-- names after those that were seen
abbrev AreNew : List (List ℕ) → List (List ℕ) → Type 0
AreNew seen names = EachNew (λ (n : List ℕ). n) seen names

not_again : (seen names : List (List ℕ)) (name : List ℕ) → AreNew seen names → Has seen name →
    Contains names name → ⊥
not_again seen [] name new has (k, below, same) = omega (arith, below)
not_again seen (x ∷ names) name new has (zero, below, same) =
    false≢true (sym new.0 ∙ subst (λ (n : List ℕ). Has seen n) (sym same) has)
not_again seen (x ∷ names) name new has (suc k, below, same) =
    not_again (seen ++ x ∷ []) names name new.1 (has_more seen x name has)
    (k, omega (arith, below), same)

new_once : (seen names : List (List ℕ)) → AreNew seen names → AreOnce names
new_once seen [] new = tt
new_once seen (x ∷ names) new = (
  not_again (seen ++ x ∷ []) names x new.1 (has_last seen x),
  new_once (seen ++ x ∷ []) names new.1,
)

-- ---- as many names as others

without : (front back : List (List ℕ)) (name other : List ℕ) → (name ≡ other → ⊥) →
    Contains (front ++ name ∷ back) other → Contains (front ++ back) other
without [] back name other differ (zero, below, same) = absurd (differ same)
without [] back name other differ (suc k, below, same) = (k, omega (arith, below), same)
without (x ∷ front) back name other differ (zero, below, same) = (0, omega arith, same)
without (x ∷ front) back name other differ (suc k, below, same) =
    Contains-append_right (x ∷ []) (front ++ back) other
    (without front back name other differ (k, omega (arith, below), same))

-- distinct names that all stand among others are no more than these
few_among : (names others : List (List ℕ)) → AreOnce names →
    ((name : List ℕ) → Contains names name → Contains others name) → length names ≤ length others
few_among [] others once all = omega arith
few_among (name ∷ names) others once all =
    let s = split others name (all name (0, omega arith, refl)) in
    let few = few_among names (s.before ++ s.after) once.1
    (λ other among. without s.before s.after name other
    (λ same. once.0 (subst (λ (n : List ℕ). Contains names n) (sym same) among))
    (subst (λ (l : List (List ℕ)). Contains l other) s.is
    (all other (Contains-append_right (name ∷ []) names other among)))) in
    let whole = ap (λ (l : List (List ℕ)). length l) s.is in
    let one = length-append s.before (name ∷ s.after) in
    let two = length-append s.before s.after in
    omega (arith, few, whole, one, two)

-- ---- a module of a closure

pub names_more : (front : List Module) (m : Module) (name : List ℕ) →
    Contains (map module_name front) name → Contains (map module_name (front ++ m ∷ [])) name
names_more front m name has =
    subst (λ (l : List (List ℕ)). Contains l name) (sym (map-append module_name front (m ∷ [])))
    (Contains-append_left (map module_name front) (module_name m ∷ []) name has)

-- the name of the last module stands among those of all
pub name_last : (front : List Module) (m : Module) →
    Contains (map module_name (front ++ m ∷ [])) (module_name m)
name_last front m =
    subst (λ (l : List (List ℕ)). Contains l (module_name m))
    (sym (map-append module_name front (m ∷ []))) (Contains-push (map module_name front) (module_name m))

module _ (name : List ℕ) (ms : List Module) (closure : IsClosure name ms) where
  module _ (before behind : List Module) (m : Module) (is : ms ≡ before ++ m ∷ behind) where
    pub imports_others : Contains m.header.imports m.header.name → ⊥
    imports_others among =
        (closure.order before behind m is).once
        ((closure.order before behind m is).after_them m.header.name among)

    pub imports_few : EachNew (λ n. n) [] m.header.imports → length m.header.imports ≤ 255
    imports_few new =
        let few = few_among m.header.imports (map module_name before)
        (new_once [] m.header.imports new) (closure.order before behind m is).after_them in
        let names = length-map before module_name in
        let whole = ap (λ (l : List Module). length l) is in
        let parts = length-append before (m ∷ behind) in
        let all = closure.few in
        omega (arith, few, names, whole, parts, all)

  -- no name of the first modules stands among the others
  pub no_more : (front behind : List Module) → ms ≡ front ++ behind → (n : List ℕ) →
      Contains (map module_name front) n → Contains (map module_name behind) n → ⊥
  no_more front [] is n has (k, below, same) = omega (arith, below)
  no_more front (x ∷ behind) is n has (zero, below, same) =
      (closure.order front behind x is).once
      (subst (λ (other : List ℕ). Contains (map module_name front) other) (sym same) has)
  no_more front (x ∷ behind) is n has (suc k, below, same) =
      no_more (front ++ x ∷ []) behind (is ∙ sym (append_assoc front (x ∷ []) behind)) n
      (names_more front x n has) (k, omega (arith, below), same)
