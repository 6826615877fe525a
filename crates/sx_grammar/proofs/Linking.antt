-- The steps that are found are those of the grammar.
use Rattle.std.proofs.Common.{◌≡◌, ℕ, zero, suc, ◌+◌, ◌<◌, List, [], ◌∷◌, ◌++◌, length, map, Bool, Some, sym, refl, ap, ◌∙◌, subst, arith, Vec, Contains}
use Rattle.std.specs.declared.alloc.Global.{Global}
use Rattle.std.specs.Prelude.{slice_get, None, option_map}
use Rattle.std.proofs.lemmas.List.{map-append}
use Rattle.std.proofs.lemmas.Option.{slice_get-map}
use Rattle.sx_grammar.specs.declared.numbered.NumberedSymbol.{NumberedSymbol}
use Rattle.sx_grammar.specs.declared.numbered.NumberedSymbol.TheVariants.{Lit, Lex, Part}
use Rattle.sx_grammar.specs.declared.numbered.NumberedProduction.{NumberedProduction}
use Rattle.sx_grammar.specs.Grammar.{Text, part, Grammar}
use Rattle.sx_grammar.specs.Cyclic.{StepsTo, DerivesAlone, one_step, step_after}
use Rattle.sx_grammar.specs.Numbered.{symbol, production, AreOf}
use Rattle.sx_grammar.specs.Cycles.{list_at, AreEmptySorts, IsClosed, AllMarked, unmarked, HasStep, AreStepsOf, HaveSortsBelow, HavePartsBelow}
use Rattle.sx_grammar.proofs.Emptying.{marked_vanish, vanish_marked, all_marked, none_unmarked, numbered_at, unmarked_cons}

-- a list is what stands before an element, the element, and what stands after it
parted : {X : Type 0} (xs : List X) (k : ℕ) (x : X) → slice_get xs k ≡ Some x → (before : List X) × (after : List X) × (xs ≡ before ++ x ∷ after)
parted [] k x e = let clash : None ≡ Some x = e in cc
parted (y ∷ xs) zero x e = let same : y ≡ x = cc in ([], xs, ap (λ z. z ∷ xs) same)
parted (y ∷ xs) (suc k) x e = let rest = parted xs k x e in (y ∷ rest.0, rest.1, ap (λ z. y ∷ z) rest.2)

at_seam : {X : Type 0} (before after : List X) (x : X) → slice_get (before ++ x ∷ after) (length before) ≡ Some x
at_seam [] after x = refl
at_seam (y ∷ before) after x = at_seam before after x

split_map : {X Y : Type 0} (f : X → Y) (xs : List X) (before : List Y) (y : Y) (after : List Y) → map f xs ≡ before ++ y ∷ after
    → (b : List X) × (x : X) × (a : List X) × (xs ≡ b ++ x ∷ a) × (map f b ≡ before) × (f x ≡ y) × (map f a ≡ after)
split_map f [] [] y after e = cc
split_map f [] (z ∷ before) y after e = cc
split_map f (x ∷ xs) [] y after e = ([], x, xs, refl, refl, (let h : f x ≡ y = cc in h), (let h : map f xs ≡ after = cc in h))
split_map f (x ∷ xs) (z ∷ before) y after e =
    let head : f x ≡ z = cc in
    let tail : map f xs ≡ before ++ y ∷ after = cc in
    let rest = split_map f xs before y after tail in
    (x ∷ rest.0, rest.1, rest.2, ap (λ t. x ∷ t) rest.3, (λ i. head i ∷ rest.4 i), rest.5, rest.6)

unmarked_seam : (marks : List Bool) (before after : List NumberedSymbol) (x : NumberedSymbol) → unmarked marks (before ++ x ∷ after) ≡ unmarked marks before + unmarked marks (x ∷ []) + unmarked marks after
unmarked_seam marks [] after x = omega (arith, unmarked_cons marks x after, unmarked_cons marks x [])
unmarked_seam marks (y ∷ before) after x = let h = unmarked_seam marks before after x in omega (arith, h, unmarked_cons marks y before, unmarked_cons marks y (before ++ x ∷ after))

pub is_part : (texts : List Text) (x : NumberedSymbol) (sort least : ℕ) → symbol texts x ≡ part sort least → x ≡ Part sort least
is_part texts (Lit number) sort least e = cc
is_part texts (Lex kind) sort least e = cc
is_part texts (Part s l) sort least e = let a : s ≡ sort = cc in let b : l ≡ least = cc in (λ i. Part (a i) (b i))

step_is : (g : Grammar) (ps : List NumberedProduction) (marks : List Bool) → AreOf g ps → AreEmptySorts g marks → (sort other : ℕ) → HasStep marks ps sort other → StepsTo g sort other
step_is g ps marks of are sort other has =
    let texts = of.0 in
    let p = has.1 in
    let target = has.4 in
    let is = target.3 in
    let parts = parted p.symbols.items target.0 target.1 target.2 in
    let size = unmarked_seam marks parts.0 parts.1 target.1 in
    let none : unmarked marks parts.0 + unmarked marks parts.1 ≡ 0 = omega (arith, size, ap (unmarked marks) parts.2, is.2, ap (λ s. unmarked marks (s ∷ [])) is.1) in
    record {
      label = has.0;
      production = production texts p;
      is = ap (λ t. slice_get t has.0) of.1 ∙ slice_get-map (production texts) ps has.0 ∙ ap (option_map (production texts)) has.2;
      same_sort = has.3;
      before = map (symbol texts) parts.0;
      least = is.0;
      after = map (symbol texts) parts.1;
      symbols = ap (map (symbol texts)) parts.2 ∙ map-append (symbol texts) parts.0 (target.1 ∷ parts.1) ∙ ap (λ s. map (symbol texts) parts.0 ++ symbol texts s ∷ map (symbol texts) parts.1) is.1;
      before_vanishes = marked_vanish g marks are (map (symbol texts) parts.0) (all_marked marks texts parts.0 (omega (arith, none)));
      after_vanishes = marked_vanish g marks are (map (symbol texts) parts.1) (all_marked marks texts parts.1 (omega (arith, none)));
    }

step_has : (g : Grammar) (ps : List NumberedProduction) (marks : List Bool) → AreOf g ps → IsClosed g marks → (sort other : ℕ) → StepsTo g sort other → HasStep marks ps sort other
step_has g ps marks of closed sort other step =
    let texts = of.0 in
    let found = numbered_at texts ps step.label step.production (ap (λ t. slice_get t step.label) (sym of.1) ∙ step.is) in
    let q = found.0 in
    let e : map (symbol texts) q.symbols.items ≡ step.before ++ (part other step.least ∷ step.after) = ap (λ r. r.symbols) found.2 ∙ step.symbols in
    let parts = split_map (symbol texts) q.symbols.items step.before (part other step.least) step.after e in
    let here = is_part texts parts.1 other step.least parts.5 in
    let none_before = none_unmarked marks texts parts.0 (subst (AllMarked marks) (sym parts.4) (vanish_marked g marks closed step.before_vanishes)) in
    let none_after = none_unmarked marks texts parts.2 (subst (AllMarked marks) (sym parts.6) (vanish_marked g marks closed step.after_vanishes)) in
    let size = unmarked_seam marks parts.0 parts.2 parts.1 in (
      step.label,
      q,
      found.1,
      ap (λ r. r.sort) found.2 ∙ step.same_sort,
      (
        length parts.0,
        parts.1,
        ap (λ t. slice_get t (length parts.0)) parts.3 ∙ at_seam parts.0 parts.2 parts.1,
        (step.least, here, omega (arith, size, ap (unmarked marks) parts.3, none_before, none_after, ap (λ s. unmarked marks (s ∷ [])) here)),
      ),
    )

pub steps_of : (g : Grammar) (ps : List NumberedProduction) (marks : List Bool) (lists : List (Vec ℕ Global)) → AreOf g ps → AreEmptySorts g marks → IsClosed g marks
    → ((sort other : ℕ) → Contains (list_at lists sort) other → HasStep marks ps sort other) → ((sort other : ℕ) → HasStep marks ps sort other → Contains (list_at lists sort) other) → AreStepsOf g lists
steps_of g ps marks lists of are closed only all = λ sort other.
    (λ has. step_is g ps marks of are sort other (only sort other has), λ step. all sort other (step_has g ps marks of closed sort other step))

pub step_below : (bound : ℕ) (marks : List Bool) (ps : List NumberedProduction) (sort other : ℕ) → HavePartsBelow bound ps → HasStep marks ps sort other → other < bound
step_below bound marks ps sort other below has =
    let target = has.4 in
    below has.0 has.1 target.0 other target.3.0 has.2 (target.2 ∙ ap Some target.3.1)

-- a sort that leads anywhere is below the bound
pub leads_below : (g : Grammar) (bound : ℕ) (ps : List NumberedProduction) → AreOf g ps → HaveSortsBelow bound ps → {sort other : ℕ} → DerivesAlone g sort other → sort < bound
leads_below g bound ps of below (one_step step) =
    let found = numbered_at of.0 ps step.label step.production (ap (λ t. slice_get t step.label) (sym of.1) ∙ step.is) in
    subst (λ s. s < bound) (ap (λ r. r.sort) found.2 ∙ step.same_sort) (below step.label found.0 found.1)
leads_below g bound ps of below (step_after leads step) = leads_below g bound ps of below leads
