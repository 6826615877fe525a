-- Rules that are checked one after the other.
use Rattle.std.proofs.Common.{◌≡◌, arith, ℕ, ◌+◌, ◌-◌, ◌<◌, ◌≤◌, drop, get_or, List, [], ◌∷◌, ◌++◌, inl, inr, map, length, refl, sym, ap, ◌∙◌, subst}
use Rattle.std.specs.Global.{Vec}
use Rattle.std.specs.List.{AllByRecursion}
use Rattle.std.proofs.lemmas.List.{drop_more, drop_all}
use Rattle.std.specs.Prelude.{Ok, Err}
use Rattle.sx_rules.specs.Views.{rule}
use Rattle.sx_rewrite.specs.declared.ext_rule.ExtRule.{ExtRule as ExtRuleOf}
use Rattle.sx_rewrite.specs.declared.flat.Flat.{Flat}
use Rattle.sx_rewrite.specs.ExtensionView.{ext_rule}
use Rattle.sx_rewrite.specs.Shallow.{IsShallowFlat}
use Rattle.sx_rewrite.specs.Stored.{checked_with, checked_of}
use Rattle.sx_extcheck.specs.declared.accept_error.AcceptError.{AcceptError}
use Rattle.sx_extcheck.specs.declared.accept_error.AcceptError.TheVariants.{Memory, Rule}
use Rattle.sx_extcheck.specs.declared.check_error.CheckError.{CheckError}
use Rattle.sx_extcheck.specs.declared.check_error.CheckError.TheVariants.{Memory as NoMemory}
use Rattle.sx_extcheck.specs.declared.check_error.CheckError.TheVariants.{Defect}
use Rattle.sx_extcheck.specs.declared.rule_refusal.RuleRefusal.{RuleRefusal}
use Rattle.sx_extcheck.specs.Accepts.{AreRulesChecked, WereChecked, IsAcceptRefusal}
use Rattle.sx_extcheck.specs.Checks.{Check, tries_for, IsStoredFor, IsRefusedFor}
use Rattle.sx_extcheck.specs.CheckView.{IsRuleChecked}
use Rattle.sx_extcheck.specs.Searches.{AreSearchesCounted}

-- the first of the rules are stored, with so many tries, and these are left
abbrev pub AreFront : Check → List ExtRuleOf → List Flat → ℕ → List ExtRuleOf → Type 0
AreFront c es [] count left = (left ≡ es) × (count ≡ 0)
AreFront c [] (f ∷ fs) count left = ⊥
AreFront c (e ∷ es) (f ∷ fs) count left =
    IsStoredFor c (ext_rule e) (checked_with (rule e.rule) f) × IsShallowFlat f × (rest : ℕ) × (count ≡ tries_for c (ext_rule e) + rest) × AreFront c es fs rest left

list-parts : (x y : ExtRuleOf) (xs ys : List ExtRuleOf) → x ∷ xs ≡ y ∷ ys → (x ≡ y) × (xs ≡ ys)
list-parts x y xs ys e = (ap head e, ap tail e)
  where
    head : List ExtRuleOf → ExtRuleOf
    head [] = x
    head (z ∷ zs) = z

    tail : List ExtRuleOf → List ExtRuleOf
    tail [] = xs
    tail (z ∷ zs) = zs

module _ (c : Check) where
  -- one more
  pub front-more : (es : List ExtRuleOf) (fs : List Flat) (count : ℕ) (e : ExtRuleOf) (left : List ExtRuleOf) (f : Flat) → AreFront c es fs count (e ∷ left) →
      IsStoredFor c (ext_rule e) (checked_with (rule e.rule) f) → IsShallowFlat f → AreFront c es (fs ++ f ∷ []) (count + tries_for c (ext_rule e)) left
  front-more [] [] count e left f h s k = let q = h.0 in cc
  front-more (x ∷ es) [] count e left f h s k =
      let p = list-parts e x left es h.0 in
      let n = h.1 in (
        subst (λ (y : ExtRuleOf). IsStoredFor c (ext_rule y) (checked_with (rule y.rule) f)) p.0 s,
        k,
        0,
        (let t : count + tries_for c (ext_rule e) ≡ tries_for c (ext_rule e) + 0 = omega (arith, n) in t) ∙ ap (λ (y : ExtRuleOf). tries_for c (ext_rule y) + 0) p.0,
        (p.1, refl),
      )
  front-more [] (g ∷ fs) count e left f h s k = absurd h
  front-more (x ∷ es) (g ∷ fs) count e left f (st, sh, rest, n, more) s k =
      (st, sh, rest + tries_for c (ext_rule e), omega (arith, n), front-more es fs rest e left f more s k)

  -- all are stored
  pub front-done : (es : List ExtRuleOf) (fs : List Flat) (count : ℕ) → AreFront c es fs count [] →
      AreRulesChecked c es count (Ok (checked_of (map (λ e. rule e.rule) es) fs)) × AllByRecursion IsShallowFlat fs × (length fs ≡ length es)
  front-done [] [] count h = (h.1, tt, refl)
  front-done (x ∷ es) [] count h = let q = h.0 in cc
  front-done [] (g ∷ fs) count h = absurd h
  front-done (x ∷ es) (g ∷ fs) count (st, sh, rest, n, more) =
      let k = front-done es fs rest more in
      let l = k.2 in
      ((st, rest, n, k.0), (sh, k.1), omega (arith, l))

  -- the end of those that are left is the end of all
  pub front-ended : (es : List ExtRuleOf) (fs : List Flat) (count last : ℕ) (left : List ExtRuleOf) (error : AcceptError) → AreFront c es fs count left →
      AreRulesChecked c left last (Err error) → AreRulesChecked c es (count + last) (Err error)
  front-ended es [] count last left error h k =
      let n = h.1 in
      let same : last ≡ count + last = omega (arith, n) in
      subst (λ (m : ℕ). AreRulesChecked c es m (Err error)) same (subst (λ (xs : List ExtRuleOf). AreRulesChecked c xs last (Err error)) h.0 k)
  front-ended [] (g ∷ fs) count last left error h k = absurd h
  front-ended (x ∷ es) (g ∷ fs) count last left Memory (st, sh, rest, n, more) k =
      inr (checked_with (rule x.rule) g, st, rest + last, omega (arith, n), front-ended es fs rest last left Memory more k)
  front-ended (x ∷ es) (g ∷ fs) count last left (Rule name defect) (st, sh, rest, n, more) k =
      inr (checked_with (rule x.rule) g, st, rest + last, omega (arith, n), front-ended es fs rest last left (Rule name defect) more k)

-- so far, with these rules left
abbrev pub FrontAt : Check → List ExtRuleOf → ℕ → ℕ → List Flat → ℕ → Type 0
FrontAt c es first last fs i = (count : ℕ) × (last ≡ first + count) × AreFront c es fs count (drop i es)

module _ (c : Check) (es : List ExtRuleOf) (first : ℕ) where
  pub front-begin : FrontAt c es first first [] 0
  front-begin = (0, omega arith, (refl, refl))

  module _ (last : ℕ) (fs : List Flat) (i : ℕ) (so : FrontAt c es first last fs i) where
    module _ (e : ExtRuleOf) (l : i < length es) (is : e ≡ get_or es i e) where
      split : drop i es ≡ e ∷ drop (i + 1) es
      split = drop_more es i e l ∙ ap (λ (x : ExtRuleOf). x ∷ drop (i + 1) es) (sym is)

      here : AreFront c es fs so.0 (e ∷ drop (i + 1) es)
      here = subst (λ (xs : List ExtRuleOf). AreFront c es fs so.0 xs) split so.2

      pub front-next : (f : Flat) (now : ℕ) → IsRuleChecked c e (Ok f) → now ≡ last + tries_for c (ext_rule e) → FrontAt c es first now (fs ++ f ∷ []) (i + 1)
      front-next f now h n =
          let m = so.1 in
          (so.0 + tries_for c (ext_rule e), omega (arith, m, n), front-more c es fs so.0 e (drop (i + 1) es) f here h.0 h.1)

      ended : (error : AcceptError) (more now : ℕ) → now ≡ last + more → AreRulesChecked c (e ∷ drop (i + 1) es) more (Err error) → WereChecked c es first now (Err error)
      ended error more now n h =
          let m = so.1 in
          (so.0 + more, omega (arith, m, n), front-ended c es fs so.0 more (e ∷ drop (i + 1) es) error here h)

      pub front-memory : (now : ℕ) → last ≤ now → now ≤ last + tries_for c (ext_rule e) → WereChecked c es first now (Err Memory)
      front-memory now a b = ended Memory (now - last) now (omega (arith, a)) (inl (omega (arith, a, b)))

      pub front-refused : (r : CheckError) (a : AcceptError) (now : ℕ) → IsRuleChecked c e (Err r) → AreSearchesCounted {X = Flat} (tries_for c (ext_rule e)) last now (Err r) → IsAcceptRefusal e.rule.name r a →
          WereChecked c es first now (Err a)
      front-refused NoMemory Memory now h n s = front-memory now n.0 n.1
      front-refused NoMemory (Rule name d) now h n s = absurd s
      front-refused (Defect d) Memory now h n s = front-memory now (omega (arith, n)) (omega (arith, n))
      front-refused (Defect d) (Rule name x) now h n s =
          ended (Rule name x) (tries_for c (ext_rule e)) now n (inl (s.0, subst (λ (y : RuleRefusal). IsRefusedFor c (ext_rule e) y) (sym s.1) h, refl))

    pub front-end : length es ≤ i → (flats : Vec Flat) → flats.items ≡ fs → WereChecked c es first last (Ok flats)
    front-end l flats same =
        let left = subst (λ (xs : List ExtRuleOf). AreFront c es fs so.0 xs) (drop_all i es l) so.2 in
        let k = front-done c es fs so.0 left in (
          so.0,
          so.1,
          subst (λ (x : List Flat). AreRulesChecked c es so.0 (Ok (checked_of (map (λ e. rule e.rule) es) x))) (sym same) k.0,
          subst (λ (x : List Flat). AllByRecursion IsShallowFlat x) (sym same) k.1,
          subst (λ (x : List Flat). length x ≡ length es) (sym same) k.2,
        )
