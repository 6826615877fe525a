-- A rule without an unbound variable is moded, and the other way round.
use Rattle.std.proofs.Common.{◌≡◌, ℕ, zero, suc, ◌+◌, ◌<◌, ◌≤◌, ◌↔◌, length, map, Bool, true, false, List, [], ◌∷◌, ◌++◌, ◌⊎◌, inl, inr, refl, ap, ◌∙◌, sym, subst, arith, Option, Some, None, if◌then◌else◌, nat_eq}
use Rattle.std.specs.Prelude.{slice_get}
use Rattle.std.proofs.lemmas.Option.{slice_get_within}
use Rattle.sx_term.specs.Tree.{Tree, Trees, node, lexeme, hole, none, ◌▹◌}
use Rattle.sx_term.specs.declared.sort.Sort.{Sort}
use Rattle.sx_rules.specs.declared.rule.Place.{Place}
use Rattle.sx_rules.specs.declared.chosen.Part.TheVariants.{Inputs, Subjects, Outputs}
use Rattle.sx_rules.specs.Instances.{Stands, StandsInKids, StandsAmong}
use Rattle.sx_rules.specs.Rules.{Judgement, Premise, holds, apart, Rule}
use Rattle.sx_rules.specs.Modes.{inputs, outputs, inputs_of, outputs_of, AreModed, IsModed}
use Rattle.sx_term.specs.Sorts.{Shape, HasSort, KidsHaveSorts, HaveSorts}
use Rattle.sx_rules.specs.Views.{FormData, places_at, is_out, is_sub, modes_of}
use Rattle.sx_rules.specs.Fits.{PremisesFit, RuleFits}
use Rattle.sx_rules.specs.Chosen.{negation, pick, chosen, holes_of, holes_in, holes_among}
use Rattle.sx_rules.specs.Unmoded.{has_number, put_new, united, first_unbound, first_missing}
use Rattle.sx_rules.specs.Unmoded.{or_else, binds_of, unbound_from, bound_first, unbound}

abbrev pub Has : ℕ → List ℕ → Type 0
Has v xs = has_number v xs ≡ true

pub same_number : (v w : ℕ) → nat_eq v w ≡ true → v ≡ w
same_number v w e = grind (arith, e)

pub number_same : (v w : ℕ) → v ≡ w → nat_eq v w ≡ true
number_same v w e = grind (arith, e)

-- the parts of a judgement
out_step : {X : Type 0} (b : Bool) (bs : List Bool) (x : X) (xs rest : List X) → rest ≡ outputs bs xs → pick b x rest ≡ outputs (b ∷ bs) (x ∷ xs)
out_step true bs x xs rest e = ap (λ r. x ∷ r) e
out_step false bs x xs rest e = e

in_step : {X : Type 0} (b : Bool) (bs : List Bool) (x : X) (xs rest : List X) → rest ≡ inputs bs xs → pick (negation b) x rest ≡ inputs (b ∷ bs) (x ∷ xs)
in_step true bs x xs rest e = e
in_step false bs x xs rest e = ap (λ r. x ∷ r) e

pub chosen_outputs : (ps : List Place) (xs : List Tree) → chosen Outputs ps xs ≡ outputs (map (λ p. is_out p.role) ps) xs
chosen_outputs [] [] = refl
chosen_outputs (p ∷ ps) [] = refl
chosen_outputs [] (x ∷ xs) = chosen_outputs [] xs
chosen_outputs (p ∷ ps) (x ∷ xs) = out_step (is_out p.role) (map (λ q. is_out q.role) ps) x xs (chosen Outputs ps xs) (chosen_outputs ps xs)

pub chosen_subjects : (ps : List Place) (xs : List Tree) → chosen Subjects ps xs ≡ outputs (map (λ p. is_sub p.role) ps) xs
chosen_subjects [] [] = refl
chosen_subjects (p ∷ ps) [] = refl
chosen_subjects [] (x ∷ xs) = chosen_subjects [] xs
chosen_subjects (p ∷ ps) (x ∷ xs) = out_step (is_sub p.role) (map (λ q. is_sub q.role) ps) x xs (chosen Subjects ps xs) (chosen_subjects ps xs)

pub chosen_inputs : (ps : List Place) (xs : List Tree) → chosen Inputs ps xs ≡ inputs (map (λ p. is_out p.role) ps) xs
chosen_inputs [] [] = refl
chosen_inputs (p ∷ ps) [] = refl
chosen_inputs [] (x ∷ xs) = ap (λ r. x ∷ r) (chosen_inputs [] xs)
chosen_inputs (p ∷ ps) (x ∷ xs) = in_step (is_out p.role) (map (λ q. is_out q.role) ps) x xs (chosen Inputs ps xs) (chosen_inputs ps xs)

-- membership
pub has-first : (v w : ℕ) (ws : List ℕ) → v ≡ w → Has v (w ∷ ws)
has-first v w ws e = ap (λ b. if b then true else has_number v ws) (number_same v w e)

has-later-if : (b : Bool) (v : ℕ) (ws : List ℕ) → Has v ws → (if b then true else has_number v ws) ≡ true
has-later-if true v ws h = refl
has-later-if false v ws h = h

pub has-later : (v w : ℕ) (ws : List ℕ) → Has v ws → Has v (w ∷ ws)
has-later v w ws h = has-later-if (nat_eq v w) v ws h

has-which-if : (b : Bool) (v : ℕ) (ws : List ℕ) → (if b then true else has_number v ws) ≡ true → (b ≡ true) ⊎ Has v ws
has-which-if true v ws h = inl refl
has-which-if false v ws h = inr h

pub has-which : (v w : ℕ) (ws : List ℕ) → Has v (w ∷ ws) → (v ≡ w) ⊎ Has v ws
has-which v w ws h = elim (has-which-if (nat_eq v w) v ws h) [ inl e ↦ inl (same_number v w e) | inr k ↦ inr k ]

pub has-left : (v : ℕ) (xs ys : List ℕ) → Has v xs → Has v (xs ++ ys)
has-left v [] ys h = absurd (let q : false ≡ true = h in cc)
has-left v (x ∷ xs) ys h = elim (has-which v x xs h) [ inl e ↦ has-first v x (xs ++ ys) e | inr k ↦ has-later v x (xs ++ ys) (has-left v xs ys k) ]

pub has-right : (v : ℕ) (xs ys : List ℕ) → Has v ys → Has v (xs ++ ys)
has-right v [] ys h = h
has-right v (x ∷ xs) ys h = has-later v x (xs ++ ys) (has-right v xs ys h)

pub has-parts : (v : ℕ) (xs ys : List ℕ) → Has v (xs ++ ys) → Has v xs ⊎ Has v ys
has-parts v [] ys h = inr h
has-parts v (x ∷ xs) ys h = elim (has-which v x (xs ++ ys) h) [
  | inl e ↦ inl (has-first v x xs e)
  | inr k ↦ elim (has-parts v xs ys k) [ inl a ↦ inl (has-later v x xs a) | inr b ↦ inr b ]
]

-- a variable stands where its number does
mutual
  pub stands_to : (v : ℕ) (t : Tree) → Stands v t → Has v (holes_of t)
  stands_to v (node l ts) h = stands_in_to v ts h
  stands_to v (lexeme k x) h = absurd h
  stands_to v (hole w) h = has-first v w [] h

  pub stands_in_to : (v : ℕ) (ts : Trees) → StandsInKids v ts → Has v (holes_in ts)
  stands_in_to v none h = absurd h
  stands_in_to v (t ▹ ts) (inl h) = has-left v (holes_of t) (holes_in ts) (stands_to v t h)
  stands_in_to v (t ▹ ts) (inr h) = has-right v (holes_of t) (holes_in ts) (stands_in_to v ts h)

pub nothing_has : {A : Type 0} (v : ℕ) → Has v [] → A
nothing_has v h = absurd (let q : false ≡ true = h in cc)

mutual
  pub to_stands : (v : ℕ) (t : Tree) → Has v (holes_of t) → Stands v t
  to_stands v (node l ts) h = to_stands_in v ts h
  to_stands v (lexeme k x) h = nothing_has v h
  to_stands v (hole w) h = elim (has-which v w [] h) [ inl e ↦ e | inr k ↦ nothing_has v k ]

  pub to_stands_in : (v : ℕ) (ts : Trees) → Has v (holes_in ts) → StandsInKids v ts
  to_stands_in v none h = nothing_has v h
  to_stands_in v (t ▹ ts) h = elim (has-parts v (holes_of t) (holes_in ts) h) [ inl a ↦ inl (to_stands v t a) | inr b ↦ inr (to_stands_in v ts b) ]

pub among_to : (v : ℕ) (ts : List Tree) → StandsAmong v ts → Has v (holes_among ts)
among_to v [] h = absurd h
among_to v (t ∷ ts) (inl h) = has-left v (holes_of t) (holes_among ts) (stands_to v t h)
among_to v (t ∷ ts) (inr h) = has-right v (holes_of t) (holes_among ts) (among_to v ts h)

pub to_among : (v : ℕ) (ts : List Tree) → Has v (holes_among ts) → StandsAmong v ts
to_among v [] h = nothing_has v h
to_among v (t ∷ ts) h = elim (has-parts v (holes_of t) (holes_among ts) h) [ inl a ↦ inl (to_stands v t a) | inr b ↦ inr (to_among v ts b) ]

-- what is joined
new-keeps : (b : Bool) (v w : ℕ) (bound : List ℕ) → Has v bound → Has v (if b then bound else (bound ++ w ∷ []))
new-keeps true v w bound h = h
new-keeps false v w bound h = has-left v bound (w ∷ []) h

new-has : (b : Bool) (v : ℕ) (bound : List ℕ) → has_number v bound ≡ b → Has v (if b then bound else (bound ++ v ∷ []))
new-has true v bound e = e
new-has false v bound e = has-right v bound (v ∷ []) (has-first v v [] refl)

new-only : (b : Bool) (v w : ℕ) (bound : List ℕ) → Has v (if b then bound else (bound ++ w ∷ [])) → Has v bound ⊎ (v ≡ w)
new-only true v w bound h = inl h
new-only false v w bound h = elim (has-parts v bound (w ∷ []) h) [
  | inl a ↦ inl a
  | inr b ↦ elim (has-which v w [] b) [ inl e ↦ inr e | inr k ↦ nothing_has v k ]
]

pub united-keeps : (v : ℕ) (vs bound : List ℕ) → Has v bound → Has v (united bound vs)
united-keeps v [] bound h = h
united-keeps v (w ∷ vs) bound h = united-keeps v vs (put_new w bound) (new-keeps (has_number w bound) v w bound h)

pub united-has : (v : ℕ) (vs bound : List ℕ) → Has v vs → Has v (united bound vs)
united-has v [] bound h = nothing_has v h
united-has v (w ∷ vs) bound h = elim (has-which v w vs h) [
  | inl e ↦ united-keeps v vs (put_new w bound) (subst (λ (x : ℕ). Has x (put_new w bound)) (sym e) (new-has (has_number w bound) w bound refl))
  | inr k ↦ united-has v vs (put_new w bound) k
]

pub united-only : (v : ℕ) (vs bound : List ℕ) → Has v (united bound vs) → Has v bound ⊎ Has v vs
united-only v [] bound h = inl h
united-only v (w ∷ vs) bound h = elim (united-only v vs (put_new w bound) h) [
  | inl a ↦ elim (new-only (has_number w bound) v w bound a) [ inl b ↦ inl b | inr e ↦ inr (has-first v w vs e) ]
  | inr k ↦ inr (has-later v w vs k)
]

-- what is not bound
pub unbound-if : (b : Bool) (v : ℕ) (rest : Option ℕ) → (if b then rest else Some v) ≡ None → (b ≡ true) × (rest ≡ None)
unbound-if true v rest h = (refl, h)
unbound-if false v rest h = absurd (let q : Some v ≡ None = h in cc)

pub unbound-none : (bound uses : List ℕ) → first_unbound bound uses ≡ None → (v : ℕ) → Has v uses → Has v bound
unbound-none bound [] e v h = nothing_has v h
unbound-none bound (w ∷ ws) e v h =
    let k = unbound-if (has_number w bound) w (first_unbound bound ws) e in
    elim (has-which v w ws h) [ inl s ↦ subst (λ (x : ℕ). Has x bound) (sym s) k.0 | inr r ↦ unbound-none bound ws k.1 v r ]

pub none-unbound : (bound uses : List ℕ) → ((v : ℕ) → Has v uses → Has v bound) → first_unbound bound uses ≡ None
none-unbound bound [] h = refl
none-unbound bound (w ∷ ws) h =
    ap (λ b. if b then first_unbound bound ws else Some w) (h w (has-first w w ws refl)) ∙ none-unbound bound ws (λ v k. h v (has-later v w ws k))

pub missing-none : (bound : List ℕ) (left n : ℕ) → first_missing bound n left ≡ None → (v : ℕ) → n ≤ v → v < n + left → Has v bound
missing-none bound zero n e v a b = absurd (omega arith)
missing-none bound (suc left) n e v a b =
    let k = unbound-if (has_number n bound) n (first_missing bound (n + 1) left) e in
    elim (first_or_later n v a) [ inl s ↦ subst (λ (x : ℕ). Has x bound) s k.0 | inr r ↦ missing-none bound left (n + 1) k.1 v r (omega arith) ]
  where
    first_or_later : (n v : ℕ) → n ≤ v → (n ≡ v) ⊎ (n + 1 ≤ v)
    first_or_later n v a = grind arith

pub none-missing : (bound : List ℕ) (left n : ℕ) → ((v : ℕ) → n ≤ v → v < n + left → Has v bound) → first_missing bound n left ≡ None
none-missing bound zero n h = refl
none-missing bound (suc left) n h =
    ap (λ b. if b then first_missing bound (n + 1) left else Some n) (h n (omega arith) (omega arith))
    ∙ none-missing bound left (n + 1) (λ v a b. h v (omega arith) (omega arith))

or_else-none : (a b : Option ℕ) → or_else a b ≡ None → (a ≡ None) × (b ≡ None)
or_else-none None b e = (refl, e)
or_else-none (Some v) b e = absurd (let q : Some v ≡ None = e in cc)

both-none : (a b : Option ℕ) → a ≡ None → b ≡ None → or_else a b ≡ None
both-none a b p q = ap (λ x. or_else x b) p ∙ q

-- the variables of a term that has a sort are those of the rule
module _ (S : List Shape) (V : List Sort) where
  mutual
    pub inside : (t : Tree) (sort : Sort) → HasSort S V t sort → (v : ℕ) → Stands v t → v < length V
    inside (node l ts) sort h v k = inside_kids ts h.0.kids h.3 v k
    inside (lexeme x y) sort h v k = absurd k
    inside (hole w) sort h v k = slice_get_within V v sort (ap (slice_get V) k ∙ h)

    pub inside_kids : (ts : Trees) (sorts : List Sort) → KidsHaveSorts S V ts sorts → (v : ℕ) → StandsInKids v ts → v < length V
    inside_kids none sorts h v k = absurd k
    inside_kids (t ▹ ts) [] h v k = absurd h
    inside_kids (t ▹ ts) (s ∷ sorts) h v (inl k) = inside t s h.0 v k
    inside_kids (t ▹ ts) (s ∷ sorts) h v (inr k) = inside_kids ts sorts h.1 v k

  pub inside_row : (ts : List Tree) (sorts : List Sort) → HaveSorts S V ts sorts → (v : ℕ) → StandsAmong v ts → v < length V
  inside_row [] sorts h v k = absurd k
  inside_row (t ∷ ts) [] h v k = absurd h
  inside_row (t ∷ ts) (s ∷ sorts) h v (inl k) = inside t s h.0 v k
  inside_row (t ∷ ts) (s ∷ sorts) h v (inr k) = inside_row ts sorts h.1 v k

among_outputs : (bs : List Bool) (ts : List Tree) (v : ℕ) → StandsAmong v (outputs bs ts) → StandsAmong v ts
among_outputs [] ts v h = absurd h
among_outputs (b ∷ bs) [] v h = h
among_outputs (true ∷ bs) (t ∷ ts) v (inl h) = inl h
among_outputs (true ∷ bs) (t ∷ ts) v (inr h) = inr (among_outputs bs ts v h)
among_outputs (false ∷ bs) (t ∷ ts) v h = inr (among_outputs bs ts v h)

among_inputs : (bs : List Bool) (ts : List Tree) (v : ℕ) → StandsAmong v (inputs bs ts) → StandsAmong v ts
among_inputs [] ts v h = h
among_inputs (b ∷ bs) [] v h = h
among_inputs (true ∷ bs) (t ∷ ts) v h = inr (among_inputs bs ts v h)
among_inputs (false ∷ bs) (t ∷ ts) v (inl h) = inl h
among_inputs (false ∷ bs) (t ∷ ts) v (inr h) = inr (among_inputs bs ts v h)

module _ (F : List FormData) where
  pub out_to : (j : Judgement) (v : ℕ) → StandsAmong v (outputs_of (modes_of F) j) → Has v (holes_among (chosen Outputs (places_at F j.form) j.places))
  out_to j v h = subst (λ (x : List Tree). Has v (holes_among x)) (sym (chosen_outputs (places_at F j.form) j.places)) (among_to v _ h)

  pub to_out : (j : Judgement) (v : ℕ) → Has v (holes_among (chosen Outputs (places_at F j.form) j.places)) → StandsAmong v (outputs_of (modes_of F) j)
  to_out j v h = to_among v _ (subst (λ (x : List Tree). Has v (holes_among x)) (chosen_outputs (places_at F j.form) j.places) h)

  pub in_to : (j : Judgement) (v : ℕ) → StandsAmong v (inputs_of (modes_of F) j) → Has v (holes_among (chosen Inputs (places_at F j.form) j.places))
  in_to j v h = subst (λ (x : List Tree). Has v (holes_among x)) (sym (chosen_inputs (places_at F j.form) j.places)) (among_to v _ h)

  pub to_in : (j : Judgement) (v : ℕ) → Has v (holes_among (chosen Inputs (places_at F j.form) j.places)) → StandsAmong v (inputs_of (modes_of F) j)
  to_in j v h = to_among v _ (subst (λ (x : List Tree). Has v (holes_among x)) (chosen_inputs (places_at F j.form) j.places) h)

  module _ (S : List Shape) (rule : Rule) where
    -- what is bound is known both ways, and is of the rule
    pub moded_from : (Bound : ℕ → Type 0) (bound : List ℕ) (ps : List Premise) → ((v : ℕ) → Bound v ↔ Has v bound) → ((v : ℕ) → Has v bound → v < length rule.sorts) → PremisesFit S F rule.sorts ps
        → unbound_from F bound ps rule.conclusion (length rule.sorts) ≡ None → AreModed (modes_of F) Bound ps rule
    moded_from Bound bound [] agree within fits e =
        let k = or_else-none _ _ e in (
          λ v h. (agree v).1 (unbound-none bound _ k.0 v (out_to rule.conclusion v h)),
          λ v. (λ b. within v ((agree v).0 b), λ l. (agree v).1 (missing-none bound (length rule.sorts) 0 k.1 v (omega arith) (omega arith))),
        )
    moded_from Bound bound (apart t u ∷ ps) agree within fits e =
        let k = or_else-none _ _ e in (
          λ v h. (agree v).1 (unbound-none bound _ k.0 v (elim h [ inl a ↦ has-left v (holes_of t) (holes_of u) (stands_to v t a) | inr b ↦ has-right v (holes_of t) (holes_of u) (stands_to v u b) ])),
          moded_from Bound bound ps agree within fits.1 k.1,
        )
    moded_from Bound bound (holds j ∷ ps) agree within fits e =
        let k = or_else-none _ _ e in (
          λ v h. (agree v).1 (unbound-none bound _ k.0 v (in_to j v h)),
          moded_from (λ v. Bound v ⊎ StandsAmong v (outputs_of (modes_of F) j)) (united bound (binds_of F (holds j))) ps
              (λ v. (
                λ h. elim h [ inl b ↦ united-keeps v (binds_of F (holds j)) bound ((agree v).0 b) | inr s ↦ united-has v (binds_of F (holds j)) bound (out_to j v s) ],
                λ h. elim (united-only v (binds_of F (holds j)) bound h) [ inl b ↦ inl ((agree v).1 b) | inr s ↦ inr (to_out j v s) ],
              ))
              (λ v h. elim (united-only v (binds_of F (holds j)) bound h) [ inl b ↦ within v b | inr s ↦ inside_row S rule.sorts j.places _ fits.0.2 v (among_outputs (modes_of F j.form) j.places v (to_out j v s)) ])
              fits.1 k.1,
        )

    pub from_moded : (Bound : ℕ → Type 0) (bound : List ℕ) (ps : List Premise) → ((v : ℕ) → Bound v ↔ Has v bound)
        → AreModed (modes_of F) Bound ps rule → unbound_from F bound ps rule.conclusion (length rule.sorts) ≡ None
    from_moded Bound bound [] agree m =
        both-none _ _ (none-unbound bound _ (λ v h. (agree v).0 (m.0 v (to_out rule.conclusion v h)))) (none-missing bound (length rule.sorts) 0 (λ v a b. (agree v).0 ((m.1 v).1 (omega arith))))
    from_moded Bound bound (apart t u ∷ ps) agree m =
        both-none _ _ (none-unbound bound _ (λ v h. (agree v).0 (m.0 v (elim (has-parts v (holes_of t) (holes_of u) h) [ inl a ↦ inl (to_stands v t a) | inr b ↦ inr (to_stands v u b) ])))) (from_moded Bound bound ps agree m.1)
    from_moded Bound bound (holds j ∷ ps) agree m =
        both-none _ _ (none-unbound bound _ (λ v h. (agree v).0 (m.0 v (to_in j v h))))
        (from_moded (λ v. Bound v ⊎ StandsAmong v (outputs_of (modes_of F) j)) (united bound (binds_of F (holds j))) ps
        (λ v. (
          λ h. elim h [ inl b ↦ united-keeps v (binds_of F (holds j)) bound ((agree v).0 b) | inr s ↦ united-has v (binds_of F (holds j)) bound (out_to j v s) ],
          λ h. elim (united-only v (binds_of F (holds j)) bound h) [ inl b ↦ inl ((agree v).1 b) | inr s ↦ inr (to_out j v s) ],
        ))
        m.1)

    pub first_agrees : (v : ℕ) → StandsAmong v (inputs_of (modes_of F) rule.conclusion) ↔ Has v (bound_first F rule.conclusion)
    first_agrees v = (
      λ h. united-has v _ [] (in_to rule.conclusion v h),
      λ h. elim (united-only v _ [] h) [ inl b ↦ nothing_has v b | inr s ↦ to_in rule.conclusion v s ],
    )

    pub moded_of_none : RuleFits S F rule → unbound F rule ≡ None → IsModed (modes_of F) rule
    moded_of_none fits e =
        moded_from (λ v. StandsAmong v (inputs_of (modes_of F) rule.conclusion)) (bound_first F rule.conclusion) rule.premises first_agrees
        (λ v h. inside_row S rule.sorts rule.conclusion.places _ fits.0.2 v (among_inputs (modes_of F rule.conclusion.form) rule.conclusion.places v ((first_agrees v).1 h)))
        fits.1 e

    pub none_of_moded : IsModed (modes_of F) rule → unbound F rule ≡ None
    none_of_moded m = from_moded (λ v. StandsAmong v (inputs_of (modes_of F) rule.conclusion)) (bound_first F rule.conclusion) rule.premises first_agrees m
