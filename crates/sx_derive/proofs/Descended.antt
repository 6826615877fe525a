-- The premises of a goal's first candidate, gone through with first answers.
use Rattle.std.proofs.Common.{◌≡◌, ℕ, suc, ◌+◌, ◌≤◌, Bool, true, false, List, [], ◌∷◌, map, length, reverse, Option, Some, None, Vec, refl, sym, ap, ◌∙◌, arith, subst}
use Rattle.std.specs.Prelude.{slice_get}
use Rattle.std.specs.declared.alloc.Global.{Global}
use Rattle.sx_term.specs.Tree.{Tree}
use Rattle.sx_rules.specs.Deep.{AreShallow}
use Rattle.sx_rules.specs.Instances.{instance}
use Rattle.sx_rules.specs.Rules.{Judgement, Premise, holds, apart, Rule, Hypotheses}
use Rattle.sx_rules.specs.Rules.{judgement_instance}
use Rattle.sx_rules.specs.Modes.{Modes, Goal, inputs_of, outputs_of, AllModed}
use Rattle.sx_arena.specs.Arena.{tree_at, AreBelow}
use Rattle.sx_arena.specs.Binds.{env_at}
use Rattle.sx_arena.specs.Limits.{are_apart}
use Rattle.sx_arena.specs.Matching.{Assignment, match_all, filled}
use Rattle.sx_arena.specs.Pairs.{pairs_of, IsTruthTold}
use Rattle.sx_arena.specs.Places.{AreHeld}
use Rattle.sx_arena.specs.declared.fact.Fact.{Fact}
use Rattle.sx_arena.specs.declared.pairs.Pair.{Pair}
use Rattle.sx_arena.proofs.Arenas.{maps_same, below_more}
use Rattle.sx_arena.proofs.Facts.{facts_stay}
use Rattle.sx_arena.proofs.Growing.{extends-length}
use Rattle.sx_arena.proofs.Parted.{pairs_more_terms, pairs_stay}
use Rattle.sx_derive.specs.Asking.{asked_goal, asked_events, AskedFails, AreTermsOf, IsAnswered}
use Rattle.sx_derive.specs.Binding.{binds_terms}
use Rattle.sx_derive.specs.Candidates.{AreFacts}
use Rattle.sx_derive.specs.Descents.{AreHyps, spot_goal, reason_in, ReasonBelow, PremisesLead}
use Rattle.sx_derive.specs.Descents.{IsDescent, IsPremiseSpot}
use Rattle.sx_derive.specs.Handing.{hyps_in}
use Rattle.sx_derive.specs.Failing.{FailsAlong, PremisesFail}
use Rattle.sx_derive.specs.Quiet.{IsQuiet, first_given}
use Rattle.sx_derive.specs.Store.{IsStore, StoreGrows, store_trees, store_envs}
use Rattle.sx_derive.specs.Stuck.{unequal, mismatch, Blame, path_of, IsStuck}
use Rattle.sx_derive.specs.Walk.{Event, Answer, goal_events, premise_events}
use Rattle.sx_derive.specs.declared.ask.Asked.{Asked}
use Rattle.sx_derive.specs.declared.ask.Asked.TheVariants.{Unanswered, Differs, Matched}
use Rattle.sx_derive.specs.declared.descent.Descent.TheVariants.{Stuck, Below}
use Rattle.sx_derive.specs.declared.descent.Reason.{Reason}
use Rattle.sx_derive.specs.declared.descent.Reason.TheVariants.{Equal, Mismatch}
use Rattle.sx_derive.specs.declared.descent.Spot.{Spot}
use Rattle.sx_derive.specs.declared.store.Store.{Store}
use Rattle.sx_derive.proofs.Asked.{facts_unique}
use Rattle.sx_arena.proofs.Kept.{limit_shallow}
use Rattle.sx_derive.proofs.Descending.{descend_apart, descend_unequal, descend_below, descend_mismatch, descend_more}
use Rattle.sx_derive.proofs.Premised.{stays}
use Rattle.sx_derive.proofs.Unanswered.{here_fails, rest_fails, fails_bound}
use Rattle.sx_derive.proofs.Quiet.{quiet_apart, quiet_goal, quiet_rest}
use Rattle.sx_derive.proofs.Stored.{grows_same, grows_then, grows_terms}

-- what holds before the premise number k
pub record Descending (modes subjects : Modes) (rules : List Rule) (hyps : Hypotheses) (noted : Option ℕ) (notes : List ℕ) (budget levels number : ℕ) (rule : Rule) (old : Store) (facts : List Fact) (pairs : List Pair) (first : ℕ) (spot : Spot) (now : Store) (k : ℕ) (rest : List Premise) (env : ℕ) : Type 0 where
  pub are : AreHyps modes old facts pairs hyps
  pub grows : StoreGrows modes rules old now
  pub within : env ≤ length now.binds.cells.items
  pub quiet : IsQuiet budget (premise_events modes hyps (goal_events modes rules hyps levels) rest (env_at (store_envs now) env))
  pub fails : (n : ℕ) → noted ≡ Some n → PremisesFail modes rules hyps (FailsAlong modes rules hyps levels) (goal_events modes rules hyps levels) k n (reverse notes) rest (env_at (store_envs now) env)
  pub leads : (blame : Blame) → PremisesLead modes subjects rules hyps budget levels number rule (spot_goal old spot) spot.path.items k rest (env_at (store_envs now) env) blame →
      PremisesLead modes subjects rules hyps budget levels number rule (spot_goal old spot) spot.path.items 0 rule.premises (env_at (store_envs old) first) blame

-- the hypotheses are those of the facts and the pairs
pub hyps_unique : (modes : Modes) (s : Store) (facts : List Fact) (pairs : List Pair) (a b : Hypotheses) → AreHyps modes s facts pairs a → AreHyps modes s facts pairs b → a ≡ b
hyps_unique modes s facts pairs a b p q =
    let x = facts_unique modes (store_trees s) a.judgements b.judgements facts p.facts_are q.facts_are in
    let y : a.pairs ≡ b.pairs = sym p.pairs_are ∙ q.pairs_are in
    λ i. record { judgements = x i; pairs = y i }

-- what holds of the hypotheses holds of all that are those of the facts and the pairs
pub for_hyps : (modes : Modes) (s : Store) (facts : List Fact) (pairs : List Pair) (a b : Hypotheses) → AreHyps modes s facts pairs a → AreHyps modes s facts pairs b → (P : Hypotheses → Type 0) → P a → P b
for_hyps modes s facts pairs a b p q P x = subst P (hyps_unique modes s facts pairs a b p q) x

pub hyps_stay : (modes : Modes) (rules : List Rule) (s t : Store) (facts : List Fact) (pairs : List Pair) (hyps : Hypotheses) → StoreGrows modes rules s t → AreHyps modes s facts pairs hyps → AreHyps modes t facts pairs hyps
hyps_stay modes rules s t facts pairs hyps g h = record {
  facts_are = facts_stay modes (store_trees s) (store_trees t) g.trees hyps.judgements facts h.facts_are;
  pairs_below = pairs_more_terms (length (store_trees s)) (length (store_trees t)) (extends-length (store_trees s) (store_trees t) g.trees) pairs h.pairs_below;
  pairs_are = pairs_stay (store_trees s) (store_trees t) g.trees pairs h.pairs_below ∙ h.pairs_are;
}

-- the terms of a goal by its numbers stay
pub spot_stays : (modes : Modes) (rules : List Rule) (s t : Store) (spot : Spot) → StoreGrows modes rules s t → AreBelow (length (store_trees s)) spot.terms.items → AreBelow (length (store_trees t)) spot.terms.items × (spot_goal t spot ≡ spot_goal s spot)
spot_stays modes rules s t spot g b = (
  below_more (length (store_trees s)) (length (store_trees t)) (extends-length (store_trees s) (store_trees t) g.trees) spot.terms.items b,
  λ i. record { form = spot.form; terms = maps_same (store_trees s) (store_trees t) g.trees spot.terms.items b i },
)

plus_one : (k : ℕ) → suc k ≡ k + 1
plus_one k = omega arith

module _ (modes subjects : Modes) (rules : List Rule) (hyps : Hypotheses) (moded : AllModed modes rules) (noted : Option ℕ) (notes : List ℕ) (budget levels number : ℕ) (rule : Rule) (old : Store) (facts : List Fact) (pairs : List Pair) (first : ℕ) (spot : Spot)
    (below : AreBelow (length (store_trees old)) spot.terms.items) where
  abbrev D : Store → ℕ → List Premise → ℕ → Type 0
  D now k rest env = Descending modes subjects rules hyps noted notes budget levels number rule old facts pairs first spot now k rest env

  abbrev From : ℕ → List Premise → Assignment → Blame → Type 0
  From k rest env blame = PremisesLead modes subjects rules hyps budget levels number rule (spot_goal old spot) spot.path.items k rest env blame

  abbrev FailFrom : ℕ → ℕ → List Premise → Assignment → Type 0
  FailFrom k n rest env = PremisesFail modes rules hyps (FailsAlong modes rules hyps levels) (goal_events modes rules hyps levels) k n (reverse notes) rest env

  abbrev Leads : Blame → Type 0
  Leads blame = From 0 rule.premises (env_at (store_envs old) first) blame

  pub descending_first : IsStore modes rules old → AreHyps modes old facts pairs hyps → first ≤ length old.binds.cells.items →
      IsQuiet budget (premise_events modes hyps (goal_events modes rules hyps levels) rule.premises (env_at (store_envs old) first)) →
      ((n : ℕ) → noted ≡ Some n → FailFrom 0 n rule.premises (env_at (store_envs old) first)) → D old 0 rule.premises first
  descending_first h a l q f = record {
    are = a;
    grows = grows_same modes rules old h;
    within = l;
    quiet = q;
    fails = f;
    leads = λ blame x. x;
  }

  pub descending_as : (now : Store) (k env : ℕ) (rest other : List Premise) → rest ≡ other → D now k rest env → D now k other env
  descending_as now k env rest other e d = subst (λ (ps : List Premise). D now k ps env) e d

  pub descending_at : (now then : Store) (k env next : ℕ) (rest : List Premise) → now ≡ then → env ≡ next → D then k rest next → D now k rest env
  descending_at now then k env next rest a b d = subst (λ (s : Store). D s k rest env) (sym a) (subst (λ (e : ℕ). D then k rest e) (sym b) d)

  module _ (mid new : Store) (k env : ℕ) (rest : List Premise) where
    -- the goal itself is stuck
    stuck_here : StoreGrows modes rules old new → (reason : Reason) → ReasonBelow (length (store_trees new)) reason → Leads (record { goal = spot_goal old spot; path = spot.path.items; reason = reason_in new reason }) →
        IsDescent modes subjects rules hyps budget levels new notes Leads (Stuck spot reason)
    stuck_here g reason b x =
        let s = spot_stays modes rules old new spot g below in
        (s.0, b, subst (λ (q : Goal). Leads (record { goal = q; path = spot.path.items; reason = reason_in new reason })) (sym s.1) x)

    module _ (t u : Tree) (d : D mid k (apart t u ∷ rest) env) (b : Bool)
        (told : IsTruthTold mid.arena new.arena b (are_apart (record { judgements = []; pairs = pairs_of (store_trees mid) pairs }) (instance (filled (env_at (store_envs mid) env)) t) (instance (filled (env_at (store_envs mid) env)) u)))
        (eb : new.binds ≡ mid.binds) (ek : new.kids.items ≡ mid.kids.items) (ef : new.frames.items ≡ mid.frames.items) (eu : new.until ≡ mid.until) where
      apart_is : are_apart hyps (instance (filled (env_at (store_envs mid) env)) t) (instance (filled (env_at (store_envs mid) env)) u) ≡ b
      apart_is =
          let a = hyps_stay modes rules old mid facts pairs hyps d.grows d.are in
          sym (told.is ∙ (λ i. are_apart (record { judgements = hyps.judgements; pairs = a.pairs_are i }) (instance (filled (env_at (store_envs mid) env)) t) (instance (filled (env_at (store_envs mid) env)) u)))

      apart_grows : StoreGrows modes rules mid new
      apart_grows = grows_terms modes rules mid new d.grows.store told.arena told.extends eb ek ef eu

      pub apart_grown : StoreGrows modes rules old new
      apart_grown = grows_then modes rules old mid new d.grows apart_grows

      pub apart_fails : b ≡ false → IsDescent modes subjects rules hyps budget levels new notes Leads (Stuck spot (Equal number k))
      apart_fails f = stuck_here apart_grown (Equal number k) tt
          (d.leads (record { goal = spot_goal old spot; path = spot.path.items; reason = unequal number k })
          (descend_unequal modes subjects rules hyps moded levels budget number rule (spot_goal old spot) spot.path.items k rest (env_at (store_envs mid) env) t u (apart_is ∙ f)))

      pub apart_holds : b ≡ true → D new (k + 1) rest env
      apart_holds f =
          let s = stays modes rules mid new env 0 0 apart_grows d.within (omega arith) (omega arith) in
          record {
            are = d.are;
            grows = apart_grown;
            within = s.env_within;
            quiet = subst (λ (e : Assignment). IsQuiet budget (premise_events modes hyps (goal_events modes rules hyps levels) rest e)) (sym s.envs)
                (quiet_apart modes hyps (goal_events modes rules hyps levels) budget t u rest (env_at (store_envs mid) env) (apart_is ∙ f) d.quiet);
            fails = λ n x. subst (λ (m : ℕ). FailFrom m n rest (env_at (store_envs new) env)) (plus_one k)
                (subst (λ (e : Assignment). FailFrom (suc k) n rest e) (sym s.envs) (d.fails n x).1);
            leads = λ blame x. d.leads blame (descend_apart modes subjects rules hyps moded levels budget number rule (spot_goal old spot) spot.path.items k rest (env_at (store_envs mid) env) t u (apart_is ∙ f) blame
                (subst (λ (e : Assignment). From (suc k) rest e blame) s.envs (subst (λ (n : ℕ). From n rest (env_at (store_envs new) env) blame) (sym (plus_one k)) x)));
          }

    module _ (j : Judgement) (d : D mid k (holds j ∷ rest) env) where
      asked_same : asked_events modes rules pairs hyps.judgements mid env levels j ≡ goal_events modes rules hyps levels (asked_goal modes mid env j)
      asked_same =
          let a = hyps_stay modes rules old mid facts pairs hyps d.grows d.are in
          λ i. goal_events modes rules (record { judgements = hyps.judgements; pairs = a.pairs_are i }) levels (asked_goal modes mid env j)

      asked_quiet : IsQuiet budget (goal_events modes rules hyps levels (asked_goal modes mid env j))
      asked_quiet = (quiet_goal modes hyps (goal_events modes rules hyps levels) budget j rest (env_at (store_envs mid) env) d.quiet).1

      asked_shallow : AreShallow (asked_goal modes mid env j).terms
      asked_shallow =
          limit_shallow (asked_goal modes mid env j).terms (quiet_goal modes hyps (goal_events modes rules hyps levels) budget j rest (env_at (store_envs mid) env) d.quiet).0

      pub ask_facts : (js : List Judgement) × AreFacts modes (store_trees mid) js facts
      ask_facts = (hyps.judgements, (hyps_stay modes rules old mid facts pairs hyps d.grows d.are).facts_are)

      pub ask_quiet : (js : List Judgement) → AreFacts modes (store_trees mid) js facts → IsQuiet budget (asked_events modes rules pairs js mid env levels j)
      ask_quiet js f =
          subst (λ (ks : List Judgement). IsQuiet budget (asked_events modes rules pairs ks mid env levels j)) (facts_unique modes (store_trees mid) hyps.judgements js facts (hyps_stay modes rules old mid facts pairs hyps d.grows d.are).facts_are f)
          (subst (λ (es : List (Event Answer)). IsQuiet budget es) (sym asked_same) asked_quiet)

      asked_fails : (ks : List ℕ) → AskedFails modes rules pairs hyps.judgements mid env levels j ks → FailsAlong modes rules hyps levels (asked_goal modes mid env j) ks
      asked_fails ks f =
          let a = hyps_stay modes rules old mid facts pairs hyps d.grows d.are in
          let same_hyps : hyps_in pairs mid hyps.judgements ≡ hyps = (λ i. record { judgements = hyps.judgements; pairs = a.pairs_are i }) in
          subst (λ (h : Hypotheses). FailsAlong modes rules h levels (asked_goal modes mid env j) ks) same_hyps f

      module _ (g : StoreGrows modes rules mid new) where
        kid_goal : (kid : Spot) (terms : List ℕ) → IsPremiseSpot subjects rule j terms spot.path.items kid → AreTermsOf new (asked_goal modes mid env j) terms →
            AreBelow (length (store_trees new)) kid.terms.items × (spot_goal new kid ≡ asked_goal modes mid env j)
        kid_goal kid terms p t =
            let e : map (tree_at (store_trees new)) kid.terms.items ≡ (asked_goal modes mid env j).terms = ap (map (tree_at (store_trees new))) p.terms_are ∙ t.are in (
              subst (λ is. AreBelow (length (store_trees new)) is) (sym p.terms_are) t.below,
              λ i. record { form = p.form i; terms = e i },
            )

        abbrev IsAsked : Asked → Type 0
        IsAsked asked = IsAnswered modes mid new env j (first_given (asked_events modes rules pairs hyps.judgements mid env levels j)) (AskedFails modes rules pairs hyps.judgements mid env levels j) asked

        -- the premise's goal has no answer, and fails as the notes that are left say
        leads_below : (left terms : List ℕ) (kid : Spot) → AreTermsOf new (asked_goal modes mid env j) terms → first_given (goal_events modes rules hyps levels (asked_goal modes mid env j)) ≡ None →
            FailsAlong modes rules hyps levels (asked_goal modes mid env j) (reverse left) → IsPremiseSpot subjects rule j terms spot.path.items kid → IsDescent modes subjects rules hyps budget levels new left Leads (Below kid)
        leads_below left terms kid a none_first f p =
            let q = kid_goal kid terms p a in (
              q.0,
              subst (λ (x : Goal). AreShallow x.terms) (sym q.1) asked_shallow,
              subst (λ (x : Goal). IsQuiet budget (goal_events modes rules hyps levels x)) (sym q.1) asked_quiet,
              subst (λ (x : Goal). FailsAlong modes rules hyps levels x (reverse left)) (sym q.1) f,
              λ blame h. d.leads blame (descend_below modes subjects rules hyps moded levels budget number rule (spot_goal old spot) spot.path.items k rest (env_at (store_envs mid) env) j asked_quiet none_first blame
                  (subst (λ (x : Goal). IsStuck modes subjects rules hyps levels x (path_of subjects spot.path.items rule j) blame) q.1 (subst (λ (way : List ℕ). IsStuck modes subjects rules hyps levels (spot_goal new kid) way blame) p.path_is h))),
            )

        pub answered_below : (terms found : Vec ℕ Global) (kid : Spot) → IsAsked (Unanswered terms found) → IsPremiseSpot subjects rule j terms.items spot.path.items kid →
            IsDescent modes subjects rules hyps budget levels new found.items Leads (Below kid)
        answered_below terms found kid a p =
            leads_below found.items terms.items kid a.0 (ap first_given (sym asked_same) ∙ a.1) (asked_fails (reverse found.items) a.2) p

        pub answered_differs : (terms got : Vec ℕ Global) (kid : Spot) → IsAsked (Differs terms got) →
            IsPremiseSpot subjects rule j terms.items spot.path.items kid → IsDescent modes subjects rules hyps budget levels new notes Leads (Stuck kid (Mismatch (Some (number, k)) got))
        answered_differs terms got kid a p =
            let q = kid_goal kid terms.items p a.0 in
            let x = a.2 in
            let first_is = ap first_given (sym asked_same) ∙ x.1 in
            let m : match_all (outputs_of modes j) x.0.1 (env_at (store_envs mid) env) ≡ None = x.3 in (
              q.0,
              a.1,
              subst (λ (got_terms : List Tree). Leads (record { goal = spot_goal new kid; path = kid.path.items; reason = mismatch (Some (number, k)) got_terms })) x.2
                  (subst (λ (way : List ℕ). Leads (record { goal = spot_goal new kid; path = way; reason = mismatch (Some (number, k)) x.0.1 })) (sym p.path_is)
                  (subst (λ (y : Goal). Leads (record { goal = y; path = path_of subjects spot.path.items rule j; reason = mismatch (Some (number, k)) x.0.1 })) (sym q.1)
                  (d.leads (record { goal = asked_goal modes mid env j; path = path_of subjects spot.path.items rule j; reason = mismatch (Some (number, k)) x.0.1 })
                  (descend_mismatch modes subjects rules hyps moded levels budget number rule (spot_goal old spot) spot.path.items k rest (env_at (store_envs mid) env) j x.0 first_is m)))),
            )

        pub answered_matched : (noted ≡ Some k → ⊥) → (next : ℕ) → IsAsked (Matched next) → D new (k + 1) rest next
        answered_matched other next a =
            let x = a.1 in
            let first_is = ap first_given (sym asked_same) ∙ x.1 in
            record {
              are = d.are;
              grows = grows_then modes rules old mid new d.grows g;
              within = a.0;
              quiet = quiet_rest modes hyps (goal_events modes rules hyps levels) budget j rest (env_at (store_envs mid) env) (env_at (store_envs new) next) x.0 first_is x.2 d.quiet;
              fails = λ n y. subst (λ (m : ℕ). FailFrom m n rest (env_at (store_envs new) next)) (plus_one k)
                  (rest_fails modes rules hyps levels k n (reverse notes) j rest (env_at (store_envs mid) env) (env_at (store_envs new) next) x.0 (λ same. other (y ∙ ap Some (sym same))) first_is x.2 (d.fails n y));
              leads = λ blame h. d.leads blame (descend_more modes subjects rules hyps moded levels budget number rule (spot_goal old spot) spot.path.items k rest (env_at (store_envs mid) env) j x.0 first_is (env_at (store_envs new) next) x.2 blame
                  (subst (λ (n : ℕ). From n rest (env_at (store_envs new) next) blame) (sym (plus_one k)) h));
            }

      -- the premise that is noted
      module _ (n : noted ≡ Some k) (terms : List ℕ) (held : AreHeld mid.arena new.arena terms (inputs_of modes (judgement_instance (filled (env_at (store_envs mid) env)) j)))
          (eb : new.binds ≡ mid.binds) (ek : new.kids.items ≡ mid.kids.items) (ef : new.frames.items ≡ mid.frames.items) (eu : new.until ≡ mid.until) where
        noted_made : StoreGrows modes rules mid new
        noted_made = grows_terms modes rules mid new d.grows.store held.arena held.extends eb ek ef eu

        pub noted_grown : StoreGrows modes rules old new
        noted_grown = grows_then modes rules old mid new d.grows noted_made

        pub noted_below : (kid : Spot) → IsPremiseSpot subjects rule j terms spot.path.items kid → IsDescent modes subjects rules hyps budget levels new notes Leads (Below kid)
        noted_below kid p =
            let f = here_fails modes rules hyps levels k (reverse notes) j rest (env_at (store_envs mid) env) (d.fails k n) in
            leads_below noted_made notes terms kid (record { below = held.within; are = held.are }) f.0 f.1 p

    -- all premises pass
    module _ (d : D mid k [] env) (got : Vec ℕ Global) (held : AreHeld mid.arena new.arena got.items (outputs_of modes (judgement_instance (filled (env_at (store_envs mid) env)) rule.conclusion)))
        (eb : new.binds ≡ mid.binds) (ek : new.kids.items ≡ mid.kids.items) (ef : new.frames.items ≡ mid.frames.items) (eu : new.until ≡ mid.until) where
      pub end_grown : StoreGrows modes rules old new
      end_grown = grows_then modes rules old mid new d.grows (grows_terms modes rules mid new d.grows.store held.arena held.extends eb ek ef eu)

      pub end_stuck : IsDescent modes subjects rules hyps budget levels new notes Leads (Stuck spot (Mismatch None got))
      end_stuck = stuck_here end_grown (Mismatch None got) held.within
          (subst (λ (outs : List Tree). Leads (record { goal = spot_goal old spot; path = spot.path.items; reason = mismatch None outs })) (sym held.are) (d.leads _ refl))

  -- the premise that is noted, of whose inputs the candidate binds all variables
  module _ (h : IsStore modes rules old) (k : ℕ) (j : Judgement) (n : noted ≡ Some k) (there : slice_get rule.premises k ≡ Some (holds j)) (bound : binds_terms (env_at (store_envs old) first) (inputs_of modes j) ≡ true)
      (q : IsQuiet budget (premise_events modes hyps (goal_events modes rules hyps levels) rule.premises (env_at (store_envs old) first)))
      (f : (m : ℕ) → noted ≡ Some m → FailFrom 0 m rule.premises (env_at (store_envs old) first))
      (new : Store) (terms : List ℕ) (held : AreHeld old.arena new.arena terms (inputs_of modes (judgement_instance (filled (env_at (store_envs old) first)) j)))
      (eb : new.binds ≡ old.binds) (ek : new.kids.items ≡ old.kids.items) (ef : new.frames.items ≡ old.frames.items) (eu : new.until ≡ old.until) where
    pub bound_grown : StoreGrows modes rules old new
    bound_grown = grows_terms modes rules old new h held.arena held.extends eb ek ef eu

    pub bound_below : (kid : Spot) → IsPremiseSpot subjects rule j terms spot.path.items kid → IsDescent modes subjects rules hyps budget levels new notes Leads (Below kid)
    bound_below kid p =
        let x = fails_bound modes subjects rules hyps moded budget levels number rule (spot_goal old spot) spot.path.items k (reverse notes) j rule.premises (env_at (store_envs old) first) there bound q (f k n) in
        let e : map (tree_at (store_trees new)) kid.terms.items ≡ (asked_goal modes old first j).terms = ap (map (tree_at (store_trees new))) p.terms_are ∙ held.are in
        let same : spot_goal new kid ≡ asked_goal modes old first j = (λ i. record { form = p.form i; terms = e i }) in (
          subst (λ is. AreBelow (length (store_trees new)) is) (sym p.terms_are) held.within,
          subst (λ (g : Goal). AreShallow g.terms) (sym same) (limit_shallow (asked_goal modes old first j).terms x.0),
          subst (λ (g : Goal). IsQuiet budget (goal_events modes rules hyps levels g)) (sym same) x.1,
          subst (λ (g : Goal). FailsAlong modes rules hyps levels g (reverse notes)) (sym same) x.2,
          λ blame l. x.3 blame
              (subst (λ (g : Goal). IsStuck modes subjects rules hyps levels g (path_of subjects spot.path.items rule j) blame) same (subst (λ (way : List ℕ). IsStuck modes subjects rules hyps levels (spot_goal new kid) way blame) p.path_is l)),
        )
