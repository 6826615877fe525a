-- Paths to the subjects of goals.
use Rattle.std.proofs.Common.{◌≡◌, ℕ, zero, suc, ◌+◌, ◌<◌, Bool, true, false, List, [], ◌∷◌, ◌++◌}
use Rattle.std.proofs.Common.{◌⊎◌, inl, inr, map, Option, Some, None, refl, sym, ap, ◌∙◌, subst}
use Rattle.std.proofs.Common.{arith}
use Rattle.std.specs.Prelude.{slice_get, option_map, option_and_then, nat_eq}
use Rattle.std.proofs.lemmas.Option.{slice_get-map}
use Rattle.sx_term.specs.Tree.{Tree, Trees, node, lexeme, hole, none, ◌▹◌, listed, kids_of, part_at}
use Rattle.sx_term.specs.declared.role.Role.{Role}
use Rattle.sx_term.specs.declared.role.Role.TheVariants.{In, Sub, Out}
use Rattle.sx_rules.specs.declared.rule.Place.{Place}
use Rattle.sx_rules.specs.Instances.{instance, instances}
use Rattle.sx_rules.specs.Rules.{Judgement, Rule, judgement_instance}
use Rattle.sx_rules.specs.Modes.{inputs, outputs, inputs_of, outputs_of, Goal, goal_of}
use Rattle.sx_rules.specs.Discipline.{times_in, times_in_kids, times_among, one_when, IsBareSubject}
use Rattle.sx_rules.specs.Views.{FormData, modes_of, subjects_in, places_at, is_out, is_sub}
use Rattle.sx_rules.proofs.Moded.{inputs-map, outputs-map}
use Rattle.sx_arena.proofs.Sameness.{nat_same}
use Rattle.sx_derive.specs.Stuck.{here_when, first_place, stuck_place_in, place_in_kids, longer_path}
use Rattle.sx_derive.specs.Stuck.{path_on, path_of}
use Rattle.sx_typing.specs.Outcomes.{goal_subjects, LeadsToPart}

-- ---- parts of terms

and_then_parts : {A B : Type 0} (o : Option A) (f : A → Option B) (b : B) →
    option_and_then f o ≡ Some b → (a : A) × (o ≡ Some a) × (f a ≡ Some b)
and_then_parts None f b e = cc
and_then_parts (Some a) f b e = (a, refl, e)

-- a part of a part is a part
part_at-append : (t part : Tree) (path more : List ℕ) → part_at t path ≡ Some part →
    part_at t (path ++ more) ≡ part_at part more
part_at-append t part [] more e = let q : t ≡ part = cc in ap (λ x. part_at x more) q
part_at-append t part (i ∷ path) more e =
    let k = and_then_parts (slice_get (kids_of t) i) (λ kid. part_at kid path) part e in
    ap (option_and_then (λ kid. part_at kid (path ++ more))) k.1 ∙ part_at-append k.0 part path more
    k.2

listed-instances : (s : ℕ → Tree) (ts : Trees) →
    listed (instances s ts) ≡ map (instance s) (listed ts)
listed-instances s none = refl
listed-instances s (t ▹ ts) = ap (λ (us : List Tree). instance s t ∷ us) (listed-instances s ts)

kid_of-instance : (s : ℕ → Tree) (t kid : Tree) (i : ℕ) → slice_get (kids_of t) i ≡ Some kid →
    slice_get (kids_of (instance s t)) i ≡ Some (instance s kid)
kid_of-instance s (node label ts) kid i e =
    ap (λ (us : List Tree). slice_get us i) (listed-instances s ts) ∙ slice_get-map (instance s)
    (listed ts) i ∙ ap (option_map (instance s)) e
kid_of-instance s (lexeme kind text) kid i e = cc
kid_of-instance s (hole v) kid i e = cc

-- the part of an instance is the instance of the part
part_at-instance : (s : ℕ → Tree) (t part : Tree) (path : List ℕ) → part_at t path ≡ Some part →
    part_at (instance s t) path ≡ Some (instance s part)
part_at-instance s t part [] e = let q : t ≡ part = cc in ap (λ x. Some (instance s x)) q
part_at-instance s t part (i ∷ path) e =
    let k = and_then_parts (slice_get (kids_of t) i) (λ kid. part_at kid path) part e in
    ap (option_and_then (λ kid. part_at kid path)) (kid_of-instance s t k.0 i k.1)
    ∙ part_at-instance s k.0 part path k.2

-- ---- places of variables

-- at the place of a variable it stands
abbrev IsAmongAt : ℕ → ℕ → Trees → List ℕ → Type 0
IsAmongAt v i ts place = (n : ℕ) × (rest : List ℕ) × (place ≡ (i + n) ∷ rest)
    × (option_and_then (λ kid. part_at kid rest) (slice_get (listed ts) n) ≡ Some (hole v))

at_first : (v i : ℕ) (t : Tree) (ts : Trees) (place : List ℕ) (o : Option (List ℕ)) →
    ((rest : List ℕ) → o ≡ Some rest → part_at t rest ≡ Some (hole v)) →
    (place_in_kids v (suc i) ts ≡ Some place → IsAmongAt v (suc i) ts place) →
    first_place i o (place_in_kids v (suc i) ts) ≡ Some place → IsAmongAt v i (t ▹ ts) place
at_first v i t ts place None here later e = let x = later e in
    (suc x.0, x.1, x.2 ∙ ap (λ n. n ∷ x.1) (omega arith), x.3)
at_first v i t ts place (Some rest) here later e =
    let q : i ∷ rest ≡ place = cc in
    (zero, rest, sym q ∙ ap (λ n. n ∷ rest) (omega arith), here rest refl)

at_hole : (v w : ℕ) (place : List ℕ) (b : Bool) → nat_eq v w ≡ b → here_when b ≡ Some place →
    part_at (hole w) place ≡ Some (hole v)
at_hole v w place true same e =
    let q : [] ≡ place = cc in
    subst (λ (p : List ℕ). part_at (hole w) p ≡ Some (hole v)) q
    (ap (λ n. Some (hole n)) (sym (nat_same v w same)))
at_hole v w place false same e = cc

mutual
  at_place : (v : ℕ) (t : Tree) (place : List ℕ) → stuck_place_in v t ≡ Some place →
      part_at t place ≡ Some (hole v)
  at_place v (node label ts) place e =
      let x = at_place_among v 0 ts place e in
      subst (λ (p : List ℕ). part_at (node label ts) p ≡ Some (hole v))
      (sym (x.2 ∙ ap (λ n. n ∷ x.1) (omega arith))) x.3
  at_place v (lexeme kind text) place e = cc
  at_place v (hole w) place e = at_hole v w place (nat_eq v w) refl e

  at_place_among : (v i : ℕ) (ts : Trees) (place : List ℕ) → place_in_kids v i ts ≡ Some place →
      IsAmongAt v i ts place
  at_place_among v i none place e = cc
  at_place_among v i (t ▹ ts) place e =
      at_first v i t ts place (stuck_place_in v t) (at_place v t) (at_place_among v (suc i) ts place) e

-- a variable without a place stands nowhere
no_first : (i : ℕ) (o later : Option (List ℕ)) → first_place i o later ≡ None →
    (o ≡ None) × (later ≡ None)
no_first i None later e = (refl, e)
no_first i (Some rest) later e = cc

no_hole : (b : Bool) → here_when b ≡ None → one_when b ≡ 0
no_hole true e = cc
no_hole false e = refl

mutual
  no_place : (v : ℕ) (t : Tree) → stuck_place_in v t ≡ None → times_in v t ≡ 0
  no_place v (node label ts) e = no_place_among v 0 ts e
  no_place v (lexeme kind text) e = refl
  no_place v (hole w) e = no_hole (nat_eq v w) e

  no_place_among : (v i : ℕ) (ts : Trees) → place_in_kids v i ts ≡ None → times_in_kids v ts ≡ 0
  no_place_among v i none e = refl
  no_place_among v i (t ▹ ts) e =
      let x = no_first i (stuck_place_in v t) (place_in_kids v (suc i) ts) e in
      let a = no_place v t x.0 in
      let b = no_place_among v (suc i) ts x.1 in omega arith

-- a variable that stands in a term has a place there
some_place : (v : ℕ) (t : Tree) → 0 < times_in v t →
    (place : List ℕ) × (stuck_place_in v t ≡ Some place) × (part_at t place ≡ Some (hole v))
some_place v t h = go (stuck_place_in v t) refl
  where
    go : (o : Option (List ℕ)) → stuck_place_in v t ≡ o →
        (place : List ℕ) × (stuck_place_in v t ≡ Some place) × (part_at t place ≡ Some (hole v))
    go None e = let x = no_place v t e in absurd (omega arith)
    go (Some place) e = (place, e, at_place v t place e)

-- ---- subjects of goals

outputs-none : {X : Type 0} (bs : List Bool) → outputs {X = X} bs [] ≡ []
outputs-none [] = refl
outputs-none (b ∷ bs) = refl

-- at one more place
one_subject : (role : Role) (outs subs : List Bool) (t : Tree) (ts : List Tree) →
    outputs (inputs outs subs) (inputs outs ts) ≡ outputs subs ts →
    outputs (inputs (is_out role ∷ outs) (is_sub role ∷ subs))
    (inputs (is_out role ∷ outs) (t ∷ ts)) ≡ outputs (is_sub role ∷ subs) (t ∷ ts)
one_subject In outs subs t ts e = e
one_subject Sub outs subs t ts e = ap (λ (us : List Tree). t ∷ us) e
one_subject Out outs subs t ts e = e

-- what stands at the subjects among the inputs is what stands at the subjects
subjects_of_inputs : (ps : List Place) (ts : List Tree) →
    outputs (inputs (map (λ p. is_out p.role) ps) (map (λ p. is_sub p.role) ps))
    (inputs (map (λ p. is_out p.role) ps) ts) ≡ outputs (map (λ p. is_sub p.role) ps) ts
subjects_of_inputs [] ts = refl
subjects_of_inputs (p ∷ ps) [] =
    outputs-none (inputs (map (λ q. is_out q.role) (p ∷ ps)) (map (λ q. is_sub q.role) (p ∷ ps)))
subjects_of_inputs (p ∷ ps) (t ∷ ts) =
    one_subject p.role (map (λ q. is_out q.role) ps) (map (λ q. is_sub q.role) ps) t ts
    (subjects_of_inputs ps ts)

module _ (forms : List FormData) (s : ℕ → Tree) where
  -- the subjects of a judgement's instance as a goal
  instance_subjects : (j : Judgement) →
      goal_subjects forms (goal_of (modes_of forms) (judgement_instance s j)) ≡ map (instance s)
      (outputs_of (subjects_in forms) j)
  instance_subjects j =
      subjects_of_inputs (places_at forms j.form) (map (instance s) j.places) ∙ outputs-map s
      (subjects_in forms j.form) j.places

  -- those of a goal whose terms are the instance of a conclusion's inputs
  matched_subjects : (conclusion : Judgement) (goal : Goal) → conclusion.form ≡ goal.form →
      map (instance s) (inputs_of (modes_of forms) conclusion) ≡ goal.terms →
      goal_subjects forms goal ≡ map (instance s) (outputs_of (subjects_in forms) conclusion)
  matched_subjects conclusion goal of_form terms =
      let same : goal_of (modes_of forms) (judgement_instance s conclusion) ≡ goal =
      λ i. record {
        form = of_form i;
        terms =
            (inputs-map s (modes_of forms conclusion.form) conclusion.places ∙ terms) i;
      } in
      sym (ap (goal_subjects forms) same) ∙ instance_subjects conclusion

  module _ (top : Tree) (rule : Rule) (goal : Goal) (path : List ℕ) (j : Judgement) where
    -- the path of a premise's goal leads to its subject
    bare_leads : (v : ℕ) (cs : List Tree) → outputs_of (subjects_in forms) rule.conclusion ≡ cs →
        goal_subjects forms goal ≡ map (instance s) cs → times_among v cs ≡ 1 →
        outputs_of (subjects_in forms) j ≡ hole v ∷ [] → (part : Tree) →
        part_at top path ≡ Some part →
        (goal_subjects forms goal ≡ []) ⊎ (goal_subjects forms goal ≡ part ∷ []) →
        LeadsToPart forms top (path_of (subjects_in forms) path rule j)
        (goal_of (modes_of forms) (judgement_instance s j))
    bare_leads v [] is same once var part at some = absurd (omega arith)
    bare_leads v (t ∷ u ∷ us) is same once var part at (inl e) =
        let q : instance s t ∷ map (instance s) (u ∷ us) ≡ [] = sym same ∙ e in cc
    bare_leads v (t ∷ u ∷ us) is same once var part at (inr e) =
        let q : instance s t ∷ instance s u ∷ map (instance s) us ≡ part ∷ [] = sym same ∙ e in cc
    bare_leads v (t ∷ []) is same once var part at (inl e) = let q : instance s t ∷ [] ≡ [] =
        sym same ∙ e in cc
    bare_leads v (t ∷ []) is same once var part at (inr e) =
        let q : instance s t ∷ [] ≡ part ∷ [] = sym same ∙ e in
        let whole : instance s t ≡ part = cc in
        let way = some_place v t (omega arith) in
        let longer : path_of (subjects_in forms) path rule j ≡ path ++ way.0 =
        ap (λ (us : List Tree). path_on path us (outputs_of (subjects_in forms) rule.conclusion))
        var ∙ ap (path_on path (hole v ∷ [])) is ∙ ap (longer_path path) way.1 in (
          s v,
          ap (part_at top) longer ∙ part_at-append top part path way.0 at ∙ ap
              (λ x. part_at x way.0) (sym whole) ∙ part_at-instance s t (hole v) way.0 way.2,
          inr (instance_subjects j ∙ ap (map (instance s)) var),
        )

    pub premise_leads : (before : List Judgement) → rule.conclusion.form ≡ goal.form →
        map (instance s) (inputs_of (modes_of forms) rule.conclusion) ≡ goal.terms →
        IsBareSubject (subjects_in forms) rule.conclusion before j → LeadsToPart forms top path goal →
        LeadsToPart forms top (path_of (subjects_in forms) path rule j)
        (goal_of (modes_of forms) (judgement_instance s j))
    premise_leads before of_form terms (inl no_subject) (part, at, some) = (
      part,
      ap (λ (us : List Tree). part_at top
          (path_on path us (outputs_of (subjects_in forms) rule.conclusion))) no_subject ∙ at,
      inl (instance_subjects j ∙ ap (map (instance s)) no_subject),
    )
    premise_leads before of_form terms (inr (v, var, once, fresh)) (part, at, some) =
        bare_leads v (outputs_of (subjects_in forms) rule.conclusion) refl
        (matched_subjects rule.conclusion goal of_form terms) once var part at some
