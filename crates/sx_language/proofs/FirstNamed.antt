-- The names of the first rule with a name, found one by one.
use Rattle.std.proofs.Common.{◌≡◌, ℕ, zero, suc, Bool, ◌++◌, inl, inr, if◌then◌else◌, arith, ◌+◌, ◌<◌, ◌≤◌, true, false, List, [], ◌∷◌, length, drop, get_or, map, slice_get, refl, ap, ◌∙◌, sym, add-one}
use Rattle.std.specs.Prelude.{unwrap_or}
use Rattle.std.specs.Str.{bytes_eq}
use Rattle.std.proofs.lemmas.List.{drop_more, drop_all}
use Rattle.std.proofs.lemmas.Slice.Eq.{bytes_eq-Decides}
use Rattle.sx_grammar.specs.Grammar.{Text}
use Rattle.sx_rules.specs.Good.{IsAmong}
use Rattle.sx_outline.specs.declared.rule_lines.RuleLines.{RuleLines}
use Rattle.sx_language.specs.Laws.{UnboundIsLater}
use Rattle.sx_language.specs.States.{variable_names}

abbrev titles : List RuleLines → List Text
titles rs = map (λ x. x.name) rs

-- where no names are left
none_left : (ts : List Text) (name : Text) → variable_names ts [] name ≡ []
none_left [] name = refl
none_left (t ∷ ts) name = refl

at_once : (t : Text) (ts : List Text) (ns : List (List Text)) (name : Text) → bytes_eq t name ≡ true → variable_names (t ∷ ts) ns name ≡ unwrap_or (slice_get ns 0) []
at_once t ts [] name e = refl
at_once t ts (n ∷ ns) name e = rw e refl

past_one : (t : Text) (ts : List Text) (ns : List (List Text)) (name : Text) → bytes_eq t name ≡ false → variable_names (t ∷ ts) ns name ≡ variable_names ts (drop 1 ns) name
past_one t ts [] name e = sym (none_left ts name)
past_one t ts (n ∷ ns) name e = rw e refl

get_drop : {X : Type 0} (xs : List X) (i : ℕ) → slice_get (drop i xs) 0 ≡ slice_get xs i
get_drop [] zero = refl
get_drop [] (suc i) = refl
get_drop (x ∷ xs) zero = refl
get_drop (x ∷ xs) (suc i) = get_drop xs i

drop_one : {X : Type 0} (xs : List X) (i : ℕ) → drop 1 (drop i xs) ≡ drop (suc i) xs
drop_one xs zero = refl
drop_one [] (suc i) = refl
drop_one (x ∷ xs) (suc i) = drop_one xs i

module _ (rs : List RuleLines) (ns : List (List Text)) (i : ℕ) (r : RuleLines) (name : Text) (low : i < length rs) (is : r ≡ get_or rs i r) where
  split : titles (drop i rs) ≡ r.name ∷ titles (drop (i + 1) rs)
  split = ap titles (drop_more rs i r low ∙ ap (λ x. x ∷ drop (i + 1) rs) (sym is))

  -- the rule has the name
  pub name_here : bytes_eq r.name name ≡ true → variable_names (titles (drop i rs)) (drop i ns) name ≡ variable_names (titles rs) ns name → variable_names (titles rs) ns name ≡ unwrap_or (slice_get ns i) []
  name_here e before =
      sym before ∙ ap (λ t. variable_names t (drop i ns) name) split ∙ at_once r.name (titles (drop (i + 1) rs)) (drop i ns) name e ∙ ap (λ o. unwrap_or o []) (get_drop ns i)

  -- it has another
  pub name_past : bytes_eq r.name name ≡ false → variable_names (titles (drop i rs)) (drop i ns) name ≡ variable_names (titles rs) ns name
      → variable_names (titles (drop (i + 1) rs)) (drop (i + 1) ns) name ≡ variable_names (titles rs) ns name
  name_past e before =
      sym (ap (λ t. variable_names t (drop i ns) name) split ∙ past_one r.name (titles (drop (i + 1) rs)) (drop i ns) name e ∙ ap (λ l. variable_names (titles (drop (i + 1) rs)) l name) (drop_one ns i ∙ ap (λ n. drop n ns) (sym (add-one i)))) ∙ before

-- no rule has the name
pub none_named : (rs : List RuleLines) (ns : List (List Text)) (i : ℕ) (name : Text) → length rs ≤ i → variable_names (titles (drop i rs)) (drop i ns) name ≡ variable_names (titles rs) ns name → variable_names (titles rs) ns name ≡ []
none_named rs ns i name past before = sym before ∙ ap (λ l. variable_names (titles l) (drop i ns) name) (drop_all i rs past)

-- the name is none of those before
not_before : (before known : List Text) (names later : List (List Text)) (name : Text) → length names ≡ length before → (IsAmong name before → ⊥) →
    variable_names (before ++ known) (names ++ later) name ≡ variable_names known later name
not_before [] known [] later name many new = refl
not_before [] known (n ∷ ns) later name many new = absurd (omega (arith, many))
not_before (t ∷ ts) known [] later name many new = absurd (omega (arith, many))
not_before (t ∷ ts) known (n ∷ ns) later name many new = by (bytes_eq t name) refl (not_before ts known ns later name (omega (arith, many)) (λ h. new (inr h)))
  where
    by : (b : Bool) → bytes_eq t name ≡ b → variable_names (ts ++ known) (ns ++ later) name ≡ variable_names known later name →
        (if b then n else variable_names (ts ++ known) (ns ++ later) name) ≡ variable_names known later name
    by true e rest = absurd (new (inl ((bytes_eq-Decides t name).0 e)))
    by false e rest = rest

pub unbound_is_later : UnboundIsLater
unbound_is_later before known names later name variable many new = ap (λ (ns : List Text). slice_get ns variable) (not_before before known names later name many new)
