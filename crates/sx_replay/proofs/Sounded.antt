-- What is read is the list of a derivation of the first goal, begun or whole.
use Rattle.std.proofs.Common.{◌≡◌, ℕ, ◌+◌, ◌&&◌, Bool, true, false, List, [], ◌∷◌, ◌++◌, length, Option, Some, None, refl, sym, ap, ◌∙◌, subst, arith, append_assoc}
use Rattle.std.specs.Prelude.{slice_get, nat_eq, max}
use Rattle.std.proofs.lemmas.List.{append-nil}
use Rattle.sx_term.specs.Tree.{Tree}
use Rattle.sx_rules.specs.Instances.{instance}
use Rattle.sx_rules.specs.Rules.{Judgement, Premise, holds, apart, Rule, Hypotheses}
use Rattle.sx_rules.specs.Rules.{judgement_instance}
use Rattle.sx_rules.specs.Modes.{Modes, inputs_of, outputs_of, Goal, goal_of, AllModed}
use Rattle.sx_rules.specs.Derivations.{Proof, Proofs, by, given, no_more, ◌⊳◌, height_of}
use Rattle.sx_rules.specs.Derivations.{most_height}
use Rattle.sx_rules.specs.Orders.{Entry, of_given, of_rule, order_of, order_of_all}
use Rattle.sx_rules.specs.First.{DerivesGoal}
use Rattle.sx_rules.proofs.Moded.{goal_same}
use Rattle.sx_arena.specs.Matching.{Assignment, nothing_bound, same_all, match_all, match_when}
use Rattle.sx_arena.specs.Matching.{filled}
use Rattle.sx_arena.specs.Limits.{are_apart}
use Rattle.sx_arena.proofs.Sameness.{and_left, and_right, nat_same, same_all_true}
use Rattle.sx_arena.proofs.Filled.{apart-true}
use Rattle.sx_replay.specs.declared.noted.Noted.{Noted}
use Rattle.sx_replay.specs.Limits.{note, nothing_noted}
use Rattle.sx_replay.specs.Fronts.{Partial, begun, partial_order, partial_height, entry_match, DerivationStage}
use Rattle.sx_replay.specs.Fronts.{open_one, whole, made_in, ArePassed, IsBegun, IsFront}
use Rattle.sx_replay.specs.Machine.{ReplayFrame, Move, clash, ends, asks, move_when, move_matched}
use Rattle.sx_replay.specs.Machine.{premises_move, hand_on, given_named, rule_named, entry_move}
use Rattle.sx_replay.proofs.Noting.{note-append}
use Rattle.sx_replay.proofs.Passed.{passes_derive}

-- the proofs of the one list and then those of the other
abbrev pub joined : Proofs → Proofs → Proofs
joined no_more qs = qs
joined (p ⊳ ps) qs = p ⊳ joined ps qs

joined-none : (ps : Proofs) → joined ps no_more ≡ ps
joined-none no_more = refl
joined-none (p ⊳ ps) = ap (λ (qs : Proofs). p ⊳ qs) (joined-none ps)

joined-assoc : (ps qs rs : Proofs) → joined (joined ps qs) rs ≡ joined ps (joined qs rs)
joined-assoc no_more qs rs = refl
joined-assoc (p ⊳ ps) qs rs = ap (λ (ts : Proofs). p ⊳ ts) (joined-assoc ps qs rs)

order-joined : (ps : Proofs) (q : Proof) → order_of_all (joined ps (q ⊳ no_more)) ≡ order_of_all ps ++ order_of q
order-joined no_more q = append-nil (order_of q)
order-joined (p ⊳ ps) q = ap (λ (xs : List Entry). order_of p ++ xs) (order-joined ps q) ∙ sym (append_assoc (order_of p) (order_of_all ps) (order_of q))

height-joined : (ps : Proofs) (q : Proof) → most_height (joined ps (q ⊳ no_more)) ≡ max (most_height ps) (height_of q)
height-joined no_more q = omega arith
height-joined (p ⊳ ps) q = let h = height-joined ps q in omega arith

module _ (modes : Modes) (rules : List Rule) (hyps : Hypotheses) where
  -- premises that are passed from here on are passed from the first on
  abbrev pub Leads : List Premise → Assignment → Proofs → List Tree → List Premise → Assignment → Type 0
  Leads all first kids made ps env =
      (more : Proofs) (later : List Tree) (rest : List Premise) (last : Assignment) → ArePassed modes rules hyps ps env more later rest last →
      ArePassed modes rules hyps all first (joined kids more) (made ++ later) rest last

  -- a rule in work at a goal, with the premises that are left
  pub record InWork (Waits : Goal → List Entry → List Tree → ℕ → Type 0) (level : ℕ) (rule : Rule) (ps : List Premise) (env : Assignment) (list : List Entry) (terms : List Tree) (d : ℕ) : Type 0 where
    pub above : Goal
    pub r : ℕ
    pub at_r : slice_get rules r ≡ Some rule
    pub first : Assignment
    pub matches : entry_match modes rule above ≡ Some first
    pub kids : Proofs
    pub made : List Tree
    pub leads : Leads rule.premises first kids made ps env
    pub list_before : List Entry
    pub terms_before : List Tree
    pub d_before : ℕ
    pub waits : Waits above list_before terms_before d_before
    pub list_is : list ≡ list_before ++ (of_rule r ∷ order_of_all kids)
    pub terms_is : terms ≡ terms_before ++ made
    pub d_is : d ≡ max d_before (level + 1 + most_height kids)

  module _ (root : Goal) where
    -- the goal is in work below the frames, and the list, the terms and the depth are those before its entry
    abbrev pub IsStack : List ReplayFrame → Goal → List Entry → List Tree → ℕ → Type 0
    IsStack [] goal list terms d = (goal ≡ root) × (list ≡ []) × (terms ≡ []) × (d ≡ 0)
    IsStack (f ∷ fs) goal list terms d =
        (j : Judgement) × (before : List Tree) × InWork (IsStack fs) (length fs) f.rule (holds j ∷ f.rest) f.env list before d
        × (f.patterns ≡ outputs_of modes j) × (goal ≡ goal_of modes (judgement_instance (filled f.env) j)) × (terms ≡ before ++ inputs_of modes (judgement_instance (filled f.env) j))

    pub front_as : (stage : DerivationStage) (list xs : List Entry) (terms ts : List Tree) (d e : ℕ) → list ≡ xs → terms ≡ ts → d ≡ e → IsFront modes rules hyps root stage list terms d → IsFront modes rules hyps root stage xs ts e
    front_as stage list xs terms ts d e p q r h =
        subst (λ (k : ℕ). IsFront modes rules hyps root stage xs ts k) r
        (subst (λ (us : List Tree). IsFront modes rules hyps root stage xs us d) q (subst (λ (ys : List Entry). IsFront modes rules hyps root stage ys terms d) p h))

    -- a partial derivation of the goal in work makes one of the first goal
    pub open_front : (frames : List ReplayFrame) (goal : Goal) (list : List Entry) (terms : List Tree) (d : ℕ) → IsStack frames goal list terms d → (f : Partial) (more : List Tree) → IsBegun modes rules hyps f goal more →
        IsFront modes rules hyps root open_one (list ++ partial_order f) (terms ++ more) (max d (length frames + partial_height f))
    open_front [] goal list terms d (eg, el, et, ed) f more h = (
      f,
      subst (λ (ts : List Tree). IsBegun modes rules hyps f root (ts ++ more)) (sym et) (subst (λ (g : Goal). IsBegun modes rules hyps f g more) eg h),
      ap (λ (xs : List Entry). xs ++ partial_order f) (sym el),
      (omega arith),
    )
    open_front (x ∷ fs) goal list terms d (j, before, w, ep, eg, et) f more h =
        let ins = inputs_of modes (judgement_instance (filled x.env) j) in
        let a = w.leads no_more [] (holds j ∷ x.rest) x.env (refl, refl, refl) in
        let b = subst (λ (ks : Proofs). ArePassed modes rules hyps x.rule.premises w.first ks (w.made ++ []) (holds j ∷ x.rest) x.env) (joined-none w.kids) a in
        let c = subst (λ (ts : List Tree). ArePassed modes rules hyps x.rule.premises w.first w.kids ts (holds j ∷ x.rest) x.env) (append-nil w.made) b in
        let below = subst (λ (g : Goal). IsBegun modes rules hyps f g more) eg h in
        let whole_one : IsBegun modes rules hyps (begun w.r w.kids f) w.above (w.made ++ (ins ++ more)) =
        (x.rule, w.at_r, (w.first, w.matches, (j, x.rest, x.env, w.made, more, c, below, refl))) in
        let up = open_front fs w.above w.list_before w.terms_before w.d_before w.waits (begun w.r w.kids f) (w.made ++ (ins ++ more)) whole_one in
        let dw = w.d_is in
        front_as open_one (w.list_before ++ partial_order (begun w.r w.kids f)) (list ++ partial_order f) (w.terms_before ++ (w.made ++ (ins ++ more))) (terms ++ more)
        (max w.d_before (length fs + partial_height (begun w.r w.kids f))) (max d (length (x ∷ fs) + partial_height f))
        (sym (append_assoc w.list_before (of_rule w.r ∷ order_of_all w.kids) (partial_order f)) ∙ ap (λ (xs : List Entry). xs ++ partial_order f) (sym w.list_is))
        (sym (append_assoc w.terms_before w.made (ins ++ more)) ∙ ap (λ (ts : List Tree). ts ++ (ins ++ more)) (sym w.terms_is) ∙ sym (append_assoc before ins more) ∙ ap (λ (ts : List Tree). ts ++ more) (sym et))
        (omega arith) up

    -- what a move stands for: a whole derivation with the list, or one that is begun
    abbrev pub IsSound : Move → List Entry → ℕ → Type 0
    IsSound clash list d = Unit {0}
    IsSound (ends outs n) list d = (terms : List Tree) × IsFront modes rules hyps root (whole outs) list terms d × (n ≡ note nothing_noted terms)
    IsSound (asks goal frames n) list d = (terms : List Tree) × IsStack frames goal list terms d × (n ≡ note nothing_noted terms)

    sound_as : (f : Noted → Move) (n m : Noted) (list xs : List Entry) (d e : ℕ) → n ≡ m → list ≡ xs → d ≡ e → IsSound (f n) list d → IsSound (f m) xs e
    sound_as f n m list xs d e p q r h = subst (λ (k : ℕ). IsSound (f m) xs k) r (subst (λ (ys : List Entry). IsSound (f m) ys d) q (subst (λ (k : Noted). IsSound (f k) list d) p h))

    -- outputs handed on are sound
    abbrev HandsOn : List ReplayFrame → Type 0
    HandsOn frames =
        (goal : Goal) (list : List Entry) (terms : List Tree) (d : ℕ) → IsStack frames goal list terms d → (p : Proof) (outs : List Tree) → DerivesGoal modes rules hyps goal (p, outs) →
        IsSound (hand_on modes hyps frames outs (note nothing_noted (terms ++ made_in modes rules p))) (list ++ order_of p) (max d (length frames + height_of p))

    module _ (moded : AllModed modes rules) where
      premises_sound : (fs : List ReplayFrame) → HandsOn fs → (rule : Rule) (ps : List Premise) (env : Assignment) (list : List Entry) (terms : List Tree) (d : ℕ) → InWork (IsStack fs) (length fs) rule ps env list terms d →
          IsSound (premises_move modes hyps (hand_on modes hyps fs) fs rule ps env (note nothing_noted terms)) list d
      premises_sound fs hand rule [] env list terms d w =
          let outs = outputs_of modes (judgement_instance (filled env) rule.conclusion) in
          let a = w.leads no_more [] [] env (refl, refl, refl) in
          let b = subst (λ (ks : Proofs). ArePassed modes rules hyps rule.premises w.first ks (w.made ++ []) [] env) (joined-none w.kids) a in
          let c = subst (λ (ts : List Tree). ArePassed modes rules hyps rule.premises w.first w.kids ts [] env) (append-nil w.made) b in
          let k = passes_derive modes rules hyps moded w.above w.r rule w.kids w.first env w.made w.at_r w.matches c in
          let up = hand w.above w.list_before w.terms_before w.d_before w.waits (by w.r k.binds w.kids) outs k.derives in
          let dw = w.d_is in
          let en : note nothing_noted (w.terms_before ++ made_in modes rules (by w.r k.binds w.kids)) ≡ note (note nothing_noted terms) outs =
          ap (λ (ts : List Tree). note nothing_noted (w.terms_before ++ ts)) k.made
          ∙ ap (note nothing_noted) (sym (append_assoc w.terms_before w.made outs) ∙ ap (λ (ts : List Tree). ts ++ outs) (sym w.terms_is))
          ∙ sym (note-append nothing_noted terms outs) in
          sound_as (hand_on modes hyps fs outs) (note nothing_noted (w.terms_before ++ made_in modes rules (by w.r k.binds w.kids))) (note (note nothing_noted terms) outs)
          (w.list_before ++ order_of (by w.r k.binds w.kids)) list (max w.d_before (length fs + height_of (by w.r k.binds w.kids))) d
          en (sym w.list_is) (omega arith) up
      premises_sound fs hand rule (apart t u ∷ ps) env list terms d w = go (are_apart hyps (instance (filled env) t) (instance (filled env) u)) refl (premises_sound fs hand rule ps env list terms d)
        where
          go : (b : Bool) → are_apart hyps (instance (filled env) t) (instance (filled env) u) ≡ b →
              (InWork (IsStack fs) (length fs) rule ps env list terms d → IsSound (premises_move modes hyps (hand_on modes hyps fs) fs rule ps env (note nothing_noted terms)) list d) →
              IsSound (move_when b (premises_move modes hyps (hand_on modes hyps fs) fs rule ps env (note nothing_noted terms))) list d
          go true e rec = rec (record {
            above = w.above;
            r = w.r;
            at_r = w.at_r;
            first = w.first;
            matches = w.matches;
            kids = w.kids;
            made = w.made;
            leads = λ more later rest last h. w.leads more later rest last (apart-true hyps (instance (filled env) t) (instance (filled env) u) e, h);
            list_before = w.list_before;
            terms_before = w.terms_before;
            d_before = w.d_before;
            waits = w.waits;
            list_is = w.list_is;
            terms_is = w.terms_is;
            d_is = w.d_is;
          })
          go false e rec = tt
      premises_sound fs hand rule (holds j ∷ ps) env list terms d w =
          let ins = inputs_of modes (judgement_instance (filled env) j) in
          (terms ++ ins, (j, terms, w, refl, refl, refl), note-append nothing_noted terms ins)

      -- a kid more
      kid_more : (fs : List ReplayFrame) (x : ReplayFrame) (goal : Goal) (list : List Entry) (terms : List Tree) (d : ℕ) → IsStack (x ∷ fs) goal list terms d → (p : Proof) (outs : List Tree) → DerivesGoal modes rules hyps goal (p, outs) →
          (more : Assignment) → match_all x.patterns outs x.env ≡ Some more →
          InWork (IsStack fs) (length fs) x.rule x.rest more (list ++ order_of p) (terms ++ made_in modes rules p) (max d (length (x ∷ fs) + height_of p))
      kid_more fs x goal list terms d (j, before, w, ep, eg, et) p outs derives more found =
          let ins = inputs_of modes (judgement_instance (filled x.env) j) in
          let made = made_in modes rules p in
          let derives' = subst (λ (g : Goal). DerivesGoal modes rules hyps g (p, outs)) eg derives in
          let found' : match_all (outputs_of modes j) outs x.env ≡ Some more = ap (λ (ts : List Tree). match_all ts outs x.env) (sym ep) ∙ found in
          let dw = w.d_is in
          let hj = height-joined w.kids p in
          record {
            above = w.above;
            r = w.r;
            at_r = w.at_r;
            first = w.first;
            matches = w.matches;
            kids = joined w.kids (p ⊳ no_more);
            made = w.made ++ (ins ++ made);
            leads = λ ks later rest last h.
                let a = w.leads (p ⊳ ks) (ins ++ (made ++ later)) rest last (outs, derives', (more, found', (later, refl, h))) in
                let b = subst (λ (qs : Proofs). ArePassed modes rules hyps x.rule.premises w.first qs (w.made ++ (ins ++ (made ++ later))) rest last) (sym (joined-assoc w.kids (p ⊳ no_more) ks)) a in
                subst (λ (ts : List Tree). ArePassed modes rules hyps x.rule.premises w.first (joined (joined w.kids (p ⊳ no_more)) ks) ts rest last)
                (ap (λ (ts : List Tree). w.made ++ ts) (sym (append_assoc ins made later)) ∙ sym (append_assoc w.made (ins ++ made) later)) b;
            list_before = w.list_before;
            terms_before = w.terms_before;
            d_before = w.d_before;
            waits = w.waits;
            list_is = ap (λ (xs : List Entry). xs ++ order_of p) w.list_is ∙ append_assoc w.list_before (of_rule w.r ∷ order_of_all w.kids) (order_of p)
                ∙ ap (λ (xs : List Entry). w.list_before ++ (of_rule w.r ∷ xs)) (sym (order-joined w.kids p));
            terms_is = ap (λ (ts : List Tree). ts ++ made) et ∙ append_assoc before ins made ∙ ap (λ (ts : List Tree). ts ++ (ins ++ made)) w.terms_is ∙ append_assoc w.terms_before w.made (ins ++ made);
            d_is = (omega arith);
          }

      hand_sound : (frames : List ReplayFrame) → HandsOn frames
      hand_sound [] goal list terms d (eg, el, et, ed) p outs derives = (
        terms ++ made_in modes rules p,
        (p, subst (λ (g : Goal). DerivesGoal modes rules hyps g (p, outs)) eg derives, ap (λ (xs : List Entry). xs ++ order_of p) (sym el), ap (λ (ts : List Tree). ts ++ made_in modes rules p) (sym et), (omega arith)),
        refl,
      )
      hand_sound (x ∷ fs) goal list terms d stack p outs derives = go (match_all x.patterns outs x.env) (hand_sound fs) refl
        where
          go : (o : Option Assignment) → HandsOn fs → match_all x.patterns outs x.env ≡ o →
              IsSound (move_matched o (λ env. premises_move modes hyps (hand_on modes hyps fs) fs x.rule x.rest env (note nothing_noted (terms ++ made_in modes rules p)))) (list ++ order_of p) (max d (length (x ∷ fs) + height_of p))
          go None hand e = tt
          go (Some more) hand e =
              premises_sound fs hand x.rule x.rest more (list ++ order_of p) (terms ++ made_in modes rules p) (max d (length (x ∷ fs) + height_of p)) (kid_more fs x goal list terms d stack p outs derives more e)

      given_sound : (i : ℕ) (frames : List ReplayFrame) (goal : Goal) (list : List Entry) (terms : List Tree) (d : ℕ) → IsStack frames goal list terms d → (o : Option Judgement) → slice_get hyps.judgements i ≡ o →
          IsSound (given_named modes hyps o goal frames (note nothing_noted terms)) (list ++ (of_given i ∷ [])) (max d (length frames + 1))
      given_sound i frames goal list terms d stack None e = tt
      given_sound i frames goal list terms d stack (Some j) e = go (nat_eq j.form goal.form && same_all (inputs_of modes j) goal.terms) refl
        where
          go : (b : Bool) → (nat_eq j.form goal.form && same_all (inputs_of modes j) goal.terms) ≡ b → IsSound (move_when b (hand_on modes hyps frames (outputs_of modes j) (note nothing_noted terms))) (list ++ (of_given i ∷ [])) (max d (length frames + 1))
          go false t = tt
          go true t =
              let form = nat_same j.form goal.form (and_left (nat_eq j.form goal.form) (same_all (inputs_of modes j) goal.terms) t) in
              let ins = same_all_true (inputs_of modes j) goal.terms (and_right (nat_eq j.form goal.form) (same_all (inputs_of modes j) goal.terms) t) in
              let h = hand_sound frames goal list terms d stack (given i) (outputs_of modes j) (j, goal_same (goal_of modes j) goal form ins, refl, e) in
              sound_as (hand_on modes hyps frames (outputs_of modes j)) (note nothing_noted (terms ++ [])) (note nothing_noted terms) (list ++ (of_given i ∷ [])) (list ++ (of_given i ∷ []))
              (max d (length frames + 1)) (max d (length frames + 1)) (ap (note nothing_noted) (append-nil terms)) refl refl h

      rule_sound : (r : ℕ) (frames : List ReplayFrame) (goal : Goal) (list : List Entry) (terms : List Tree) (d : ℕ) → IsStack frames goal list terms d → (o : Option Rule) → slice_get rules r ≡ o →
          IsSound (rule_named modes hyps o goal frames (note nothing_noted terms)) (list ++ (of_rule r ∷ [])) (max d (length frames + 1))
      rule_sound r frames goal list terms d stack None e = tt
      rule_sound r frames goal list terms d stack (Some rule) e = go (nat_eq rule.conclusion.form goal.form) (match_all (inputs_of modes rule.conclusion) goal.terms nothing_bound) refl refl
        where
          go : (b : Bool) (o : Option Assignment) → nat_eq rule.conclusion.form goal.form ≡ b → match_all (inputs_of modes rule.conclusion) goal.terms nothing_bound ≡ o →
              IsSound (move_when b (move_matched o (λ env. premises_move modes hyps (hand_on modes hyps frames) frames rule rule.premises env (note nothing_noted terms)))) (list ++ (of_rule r ∷ [])) (max d (length frames + 1))
          go false o t m = tt
          go true None t m = tt
          go true (Some env) t m =
              premises_sound frames (hand_sound frames) rule rule.premises env (list ++ (of_rule r ∷ [])) terms (max d (length frames + 1)) (record {
                above = goal;
                r = r;
                at_r = e;
                first = env;
                matches = ap (λ (x : Bool). match_when x (match_all (inputs_of modes rule.conclusion) goal.terms nothing_bound)) t ∙ m;
                kids = no_more;
                made = [];
                leads = λ more later rest last h. h;
                list_before = list;
                terms_before = terms;
                d_before = d;
                waits = stack;
                list_is = refl;
                terms_is = sym (append-nil terms);
                d_is = (omega arith);
              })

      pub entry_sound : (e : Entry) (frames : List ReplayFrame) (goal : Goal) (list : List Entry) (terms : List Tree) (d : ℕ) → IsStack frames goal list terms d →
          IsSound (entry_move modes hyps rules e goal frames (note nothing_noted terms)) (list ++ (e ∷ [])) (max d (length frames + 1))
      entry_sound (of_given i) frames goal list terms d stack = given_sound i frames goal list terms d stack (slice_get hyps.judgements i) refl
      entry_sound (of_rule r) frames goal list terms d stack = rule_sound r frames goal list terms d stack (slice_get rules r) refl
