-- What stands at the places of a form, place by place.
use Rattle.std.proofs.Common.{◌≡◌, ℕ, zero, suc, ◌+◌, ◌<◌, ◌≤◌, get_or, Bool, true, false, List, [], ◌∷◌, ◌++◌, length, map, drop, sym, refl, ap, ◌∙◌, append_assoc, add-one, arith, ◌⊎◌, inl, inr}
use Rattle.std.specs.Prelude.{Option, slice_get}
use Rattle.std.proofs.lemmas.List.{at_drop_more, at_drop_all, append-nil}
use Rattle.sx_term.specs.Tree.{Tree}
use Rattle.sx_rules.specs.declared.rule.Place.{Place}
use Rattle.sx_term.specs.declared.role.Role.{Role}
use Rattle.sx_term.specs.declared.role.Role.TheVariants.{In, Sub}
use Rattle.sx_rules.specs.Views.{is_out}
use Rattle.sx_notation.specs.GoalText.{contents}

-- which of the places are outputs
abbrev pub outs_of : List Place → List Bool
outs_of ps = map (λ p. is_out p.role) ps

head_drop : (xs : List Tree) (i : ℕ) → slice_get (drop i xs) 0 ≡ slice_get xs i
head_drop [] zero = refl
head_drop [] (suc i) = refl
head_drop (x ∷ xs) zero = refl
head_drop (x ∷ xs) (suc i) = head_drop xs i

tail_drop-suc : (xs : List Tree) (i : ℕ) → drop 1 (drop i xs) ≡ drop (suc i) xs
tail_drop-suc [] zero = refl
tail_drop-suc [] (suc i) = refl
tail_drop-suc (x ∷ xs) zero = refl
tail_drop-suc (x ∷ xs) (suc i) = tail_drop-suc xs i

tail_drop : (xs : List Tree) (i : ℕ) → drop 1 (drop i xs) ≡ drop (i + 1) xs
tail_drop xs i = tail_drop-suc xs i ∙ ap (λ n. drop n xs) (sym (add-one i))

-- an input or a subject is no output
pub is_no_output : (r : Role) → (r ≡ In) ⊎ (r ≡ Sub) → is_out r ≡ false
is_no_output r (inl e) = ap is_out e
is_no_output r (inr e) = ap is_out e

-- what is filled in so far, with what comes, is the whole
pub record Filled (ps : List Place) (ins os : List Tree) (k i j : ℕ) (now : List (Option Tree)) : Type 0 where
  pub low : i ≤ k
  pub under : j ≤ k
  pub whole : now ++ contents (outs_of (drop k ps)) (drop i ins) (drop j os) ≡ contents (outs_of ps) ins os

pub none_filled : (ps : List Place) (ins os : List Tree) → Filled ps ins os 0 0 0 []
none_filled ps ins os = record { low = omega arith; under = omega arith; whole = refl }

at_place : (ps : List Place) (ins os : List Tree) (k i j : ℕ) (d : Place) (b : Bool) → k < length ps → is_out (get_or ps k d).role ≡ b
    → contents (outs_of (drop k ps)) (drop i ins) (drop j os) ≡ contents (b ∷ outs_of (drop (k + 1) ps)) (drop i ins) (drop j os)
at_place ps ins os k i j d b lt is = ap (λ x. contents x (drop i ins) (drop j os)) (at_drop_more outs_of ps k d lt ∙ ap (λ x. x ∷ outs_of (drop (k + 1) ps)) is)

pub past_input : (ps : List Place) (ins os : List Tree) (k i j : ℕ) (d : Place) (now : List (Option Tree)) (x : Option Tree) → Filled ps ins os k i j now → k < length ps → is_out (get_or ps k d).role ≡ false
    → x ≡ slice_get ins i → Filled ps ins os (k + 1) (i + 1) j (now ++ x ∷ [])
past_input ps ins os k i j d now x before lt is at = record {
  low = let h = before.low in omega (arith, h);
  under = let h = before.under in omega (arith, h);
  whole =
      append_assoc now (x ∷ []) (contents (outs_of (drop (k + 1) ps)) (drop (i + 1) ins) (drop j os))
      ∙ sym (ap (λ y. now ++ y) (at_place ps ins os k i j d false lt is
      ∙ (λ a. (head_drop ins i ∙ sym at) a ∷ contents (outs_of (drop (k + 1) ps)) (tail_drop ins i a) (drop j os))))
      ∙ before.whole;
}

pub past_output : (ps : List Place) (ins os : List Tree) (k i j : ℕ) (d : Place) (now : List (Option Tree)) (x : Option Tree) → Filled ps ins os k i j now → k < length ps → is_out (get_or ps k d).role ≡ true
    → x ≡ slice_get os j → Filled ps ins os (k + 1) i (j + 1) (now ++ x ∷ [])
past_output ps ins os k i j d now x before lt is at = record {
  low = let h = before.low in omega (arith, h);
  under = let h = before.under in omega (arith, h);
  whole =
      append_assoc now (x ∷ []) (contents (outs_of (drop (k + 1) ps)) (drop i ins) (drop (j + 1) os))
      ∙ sym (ap (λ y. now ++ y) (at_place ps ins os k i j d true lt is
      ∙ (λ a. (head_drop os j ∙ sym at) a ∷ contents (outs_of (drop (k + 1) ps)) (drop i ins) (tail_drop os j a))))
      ∙ before.whole;
}

pub all_filled : (ps : List Place) (ins os : List Tree) (k i j : ℕ) (now : List (Option Tree)) → length ps ≤ k → Filled ps ins os k i j now → now ≡ contents (outs_of ps) ins os
all_filled ps ins os k i j now past before =
    sym (append-nil now) ∙ sym (ap (λ y. now ++ y) (at_drop_all (λ x. contents (outs_of x) (drop i ins) (drop j os)) ps k past)) ∙ before.whole
