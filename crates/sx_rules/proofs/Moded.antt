-- Inputs and outputs of instances.
use Rattle.std.proofs.Common.{◌≡◌, ℕ, zero, suc, Bool, true, false, List, [], ◌∷◌, map, Some, refl, sym, ap, ◌∙◌}
use Rattle.std.specs.Prelude.{slice_get}
use Rattle.sx_term.specs.Tree.{Tree}
use Rattle.sx_rules.specs.Instances.{instance}
use Rattle.sx_rules.specs.Rules.{Judgement, Rule}
use Rattle.sx_rules.specs.Modes.{Modes, inputs, outputs, outputs_of, Goal, goal_of, IsModed, AllModed}

-- inputs and outputs of an instance
pub inputs-map : (s : ℕ → Tree) (bs : List Bool) (ts : List Tree) → inputs bs (map (instance s) ts) ≡ map (instance s) (inputs bs ts)
inputs-map s [] ts = refl
inputs-map s (b ∷ bs) [] = refl
inputs-map s (true ∷ bs) (t ∷ ts) = inputs-map s bs ts
inputs-map s (false ∷ bs) (t ∷ ts) = ap (λ (us : List Tree). instance s t ∷ us) (inputs-map s bs ts)

pub outputs-map : (s : ℕ → Tree) (bs : List Bool) (ts : List Tree) → outputs bs (map (instance s) ts) ≡ map (instance s) (outputs bs ts)
outputs-map s [] ts = refl
outputs-map s (b ∷ bs) [] = refl
outputs-map s (true ∷ bs) (t ∷ ts) = ap (λ (us : List Tree). instance s t ∷ us) (outputs-map s bs ts)
outputs-map s (false ∷ bs) (t ∷ ts) = outputs-map s bs ts

-- a list of places is known by its inputs and its outputs
pub places_same : (bs : List Bool) (ts us : List Tree) → inputs bs ts ≡ inputs bs us → outputs bs ts ≡ outputs bs us → ts ≡ us
places_same [] ts us e f = e
places_same (b ∷ bs) [] [] e f = refl
places_same (true ∷ bs) [] (u ∷ us) e f = cc
places_same (false ∷ bs) [] (u ∷ us) e f = cc
places_same (true ∷ bs) (t ∷ ts) [] e f = cc
places_same (false ∷ bs) (t ∷ ts) [] e f = cc
places_same (true ∷ bs) (t ∷ ts) (u ∷ us) e f =
    let h : t ≡ u = cc in
    let k : ts ≡ us = places_same bs ts us e (let g : outputs bs ts ≡ outputs bs us = cc in g) in cc
places_same (false ∷ bs) (t ∷ ts) (u ∷ us) e f =
    let h : t ≡ u = cc in
    let k : ts ≡ us = places_same bs ts us (let g : inputs bs ts ≡ inputs bs us = cc in g) f in cc

pub judgement_same : (j k : Judgement) → j.form ≡ k.form → j.places ≡ k.places → j ≡ k
judgement_same j k e f = λ i. record { form = e i; places = f i }

pub goal_same : (g h : Goal) → g.form ≡ h.form → g.terms ≡ h.terms → g ≡ h
goal_same g h e f = λ i. record { form = e i; terms = f i }

-- a judgement is known by its goal and its outputs
pub judgement_known : (modes : Modes) (j k : Judgement) → goal_of modes j ≡ goal_of modes k → outputs_of modes j ≡ outputs_of modes k → j ≡ k
judgement_known modes j k e f =
    let form : j.form ≡ k.form = ap (λ (g : Goal). g.form) e in
    let ins : inputs (modes j.form) j.places ≡ inputs (modes k.form) k.places = ap (λ (g : Goal). g.terms) e in
    judgement_same j k form
    (places_same (modes j.form) j.places k.places
    (ins ∙ sym (ap (λ (n : ℕ). inputs (modes n) k.places) form))
    (f ∙ sym (ap (λ (n : ℕ). outputs (modes n) k.places) form)))

-- each rule of a moded list is moded
pub moded-at : (modes : Modes) (rules : List Rule) (r : ℕ) (rule : Rule) → AllModed modes rules → slice_get rules r ≡ Some rule → IsModed modes rule
moded-at modes [] r rule h e = cc
moded-at modes (x ∷ rules) zero rule h e = let q : x ≡ rule = cc in rw q at h.0
moded-at modes (x ∷ rules) (suc r) rule h e = moded-at modes rules r rule h.1 e
