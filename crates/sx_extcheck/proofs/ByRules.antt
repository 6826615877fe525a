-- Searches by the base rules, and by these and the plain rules.
use Rattle.std.proofs.Common.{◌≡◌, ℕ, ◌≤◌, true, false, List, [], ◌∷◌, length, Option, Some, None, refl, sym, ap, ◌∙◌, subst, if◌then◌else◌}
use Rattle.std.specs.Prelude.{Result, Ok}
use Rattle.sx_term.specs.declared.sort.Sort.{Sort}
use Rattle.sx_term.specs.Sorts.{Shape, HaveSorts}
use Rattle.sx_term.specs.Tree.{Tree}
use Rattle.sx_rules.specs.Deep.{AreShallow}
use Rattle.sx_rules.specs.declared.rule.Hyps.{Hyps}
use Rattle.sx_rules.specs.Derivations.{Proof, Derives, height_of, HasShallowBinds}
use Rattle.sx_rules.specs.Discipline.{subjects_of}
use Rattle.sx_rules.specs.First.{DerivesGoal, IsFirst}
use Rattle.sx_rules.specs.Modes.{Goal, outputs}
use Rattle.sx_rules.specs.Orders.{Entry, order_of}
use Rattle.sx_rules.specs.Rules.{Rule, Judgement, Hypotheses}
use Rattle.sx_rules.specs.Sets.{forms_in, shapes_in, bare_rules_in}
use Rattle.sx_rules.specs.Views.{modes_of, subjects_in, hypotheses, goal as goal_view}
use Rattle.sx_rules.proofs.Moded.{judgement_known}
use Rattle.sx_rules.proofs.Sorted.{inputs-sorted, outputs-sorted}
use Rattle.sx_plain.specs.Plain.{Table}
use Rattle.sx_plain.specs.Views.{table_of}
use Rattle.sx_derive.specs.Search.{found}
use Rattle.sx_derive.proofs.Walked.{found_is_first}
use Rattle.sx_rewrite.specs.declared.ext_rule.ExtRule.{ExtRule as ExtRuleOf}
use Rattle.sx_rewrite.specs.declared.lowered.Lowered.{Lowered}
use Rattle.sx_rewrite.specs.declared.rewrite_error.RewriteError.{RewriteError}
use Rattle.sx_rewrite.specs.Accepted.{ExtRule, Accepted, extended_rules, Signature, IsAccepted}
use Rattle.sx_rewrite.specs.AcceptedView.{accepted, signature}
use Rattle.sx_rewrite.specs.Extensions.{with_table, BodyFits}
use Rattle.sx_rewrite.specs.ExtensionView.{ext_rule}
use Rattle.sx_rewrite.specs.PlainRules.{plain_of}
use Rattle.sx_rewrite.specs.Rewrites.{CanRewrite, AreGood}
use Rattle.sx_rewrite.specs.Rewriting.{Rewritten, IsRewritten}
use Rattle.sx_rewrite.specs.RewrittenView.{IsRewriting}
use Rattle.sx_rewrite.specs.RewritingLaws.{IsGoodRewriting}
use Rattle.sx_rewrite.specs.Sound.{flat_given, flat_goal}
use Rattle.sx_rewrite.proofs.FlatSorted.{flat_forms_are_sorted}
use Rattle.sx_rewrite.proofs.Growing.{longer}
use Rattle.sx_rewrite.proofs.Rewriting.{rewriting_is_good}
use Rattle.sx_rewrite.proofs.Checks.{flat_premises_are_base, flat_goals_stay, found_checks_can_be_rewritten, checks_are_rewritten_alike}
use Rattle.sx_rewrite.proofs.LongerTables.{plain_rules_stay}
use Rattle.sx_rewrite.proofs.PlainSets.{plain_rules_are_accepted}
use Rattle.sx_expand.specs.Boxes.{HasList}
use Rattle.sx_expand.specs.Expansions.{IsListedFrom}
use Rattle.sx_extcheck.specs.declared.checking.Checking.{Checking}
use Rattle.sx_extcheck.specs.declared.flat_goal.FlatGoal.{FlatGoal}
use Rattle.sx_extcheck.specs.Checks.{has_base_syntax, by_base, search_for}
use Rattle.sx_extcheck.specs.CheckView.{check_of, IsFlatRule}
use Rattle.sx_extcheck.specs.Searches.{Search, search_of, ending_of}
use Rattle.sx_extcheck.proofs.Ready.{search-shallow}

module _ (k : Checking) (e : ExtRuleOf) (given : Hyps) (goal : FlatGoal) (flat : IsFlatRule k e given goal) where
  abbrev search : Search
  search = search_for (check_of k) (ext_rule e)

  abbrev a : Accepted
  a = accepted k.set.now

  abbrev table : Table
  table = table_of k.plain.now

  -- the search by other rules
  abbrev by_rules : List Rule → Search
  by_rules rules = record { modes = search.modes; subjects = search.subjects; rules = rules; hyps = search.hyps; goal = search.goal; wanted = search.wanted }

  pub base-search : by_base (check_of k) (ext_rule e) ≡ true → search_of k.set.now.base given goal ≡ search
  base-search b = λ i. record {
    modes = search.modes;
    subjects = search.subjects;
    rules = if (sym b i) then a.base else extended_rules (plain_of (with_table a table));
    hyps = flat.premises i;
    goal = flat.conclusion i;
    wanted = flat.wanted i;
  }

  stays : plain_of (with_table a table) ≡ with_table (plain_of a) table
  stays = plain_rules_stay (signature k.set.now) (shapes_in k.set.now.base) (shapes_in k.set.now.rules) a flat.can.after.accepted table flat.can.after.goes_on.keeps

  module _ (forms_are : forms_in k.set.now.plain_rules ≡ forms_in k.set.now.base) (rules_are : bare_rules_in k.set.now.plain_rules ≡ extended_rules (plain_of a)) where
    pub plain-first : search_of k.set.now.plain_rules given goal ≡ by_rules (extended_rules (plain_of a))
    plain-first = λ i. record {
      modes = modes_of (forms_are i);
      subjects = subjects_in (forms_are i);
      rules = rules_are i;
      hyps = flat.premises i;
      goal = flat.conclusion i;
      wanted = flat.wanted i;
    }

    pub plain-search : by_base (check_of k) (ext_rule e) ≡ false → search_of k.set.now.plain_rules given goal ≡ search
    plain-search b =
        plain-first ∙ ap (λ (x : Accepted). by_rules (extended_rules x)) (sym stays)
        ∙ (λ i. by_rules (if (sym b i) then a.base else extended_rules (plain_of (with_table a table))))

    -- the first derivation by base and plain rules
    module _ (tries : ℕ) (p : Proof) (outs : List Tree) (ends : ending_of (search_of k.set.now.plain_rules given goal) tries ≡ found (p, outs)) where
      first : IsFirst search.modes (extended_rules (plain_of a)) search.hyps search.goal (Some search.wanted) (p, outs)
      first =
          found_is_first search.modes (extended_rules (plain_of a)) search.hyps
          (plain_rules_are_accepted (signature k.set.now) (shapes_in k.set.now.base) (shapes_in k.set.now.rules) a flat.can.after.accepted).moded
          search.goal (Some search.wanted) tries 1 (p, outs) (subst (λ (s : Search). ending_of s tries ≡ found (p, outs)) plain-first ends)

      pub plain-derives : Derives (extended_rules (plain_of a)) search.hyps (flat_goal table (signature k.set.now).subjects (ext_rule e)) p
      plain-derives =
          let d = first.derives in
          let same = judgement_known search.modes d.0 (flat_goal table (signature k.set.now).subjects (ext_rule e)) d.1 (d.2 ∙ first.is_wanted) in
          subst (λ (j : Judgement). Derives (extended_rules (plain_of a)) search.hyps j p) same d.3

      pub plain-rewrites : height_of p ≤ 3000 → HasShallowBinds p → CanRewrite (plain_of a) (hypotheses given) p
      plain-rewrites h b =
          subst (λ (x : Hypotheses). CanRewrite (plain_of a) x p) (sym flat.premises)
          (found_checks_can_be_rewritten (signature k.set.now) (shapes_in k.set.now.base) (shapes_in k.set.now.rules) flat.can.all a table (ext_rule e) flat.can.after (p, outs) first h b)

      -- its list
      pub plain-listed : (list : List Entry) → list ≡ order_of p → height_of p ≤ 3000 → HasShallowBinds p → AreShallow outs →
          IsListedFrom (signature k.set.now).modes (plain_of a) (hypotheses given) (goal_view goal.goal) list (p, outs)
      plain-listed list e low binds near = record {
        derives =
            subst (λ (x : Hypotheses). DerivesGoal search.modes (extended_rules (plain_of a)) x (goal_view goal.goal) (p, outs)) (sym flat.premises)
            (subst (λ (g : Goal). DerivesGoal search.modes (extended_rules (plain_of a)) search.hyps g (p, outs)) (sym flat.conclusion) first.derives);
        list_is = e;
        rewritable = plain-rewrites low binds;
        near = near;
      }

      pub plain-alike : (budget : ℕ) (result : Result Lowered RewriteError) →
          IsRewriting (plain_of a) (signature k.set.now).subjects (hypotheses given) p budget result →
          IsRewriting (plain_of (with_table a table)) (signature k.set.now).subjects search.hyps p budget result
      plain-alike budget result h =
          (checks_are_rewritten_alike (signature k.set.now) (shapes_in k.set.now.base) (shapes_in k.set.now.rules) flat.can.all a table (ext_rule e) flat.can.after p plain-derives budget result).0
          (subst (λ (x : Hypotheses). IsRewriting (plain_of a) (signature k.set.now).subjects x p budget result) flat.premises h)

  pub given-good : AreGood (length (shapes_in k.set.now.base)) (hypotheses given)
  given-good =
      subst (λ (x : Hypotheses). AreGood (length (shapes_in k.set.now.base)) x) (sym flat.premises)
      (record {
        below = flat_premises_are_base (signature k.set.now) (shapes_in k.set.now.base) (shapes_in k.set.now.rules) flat.can.all a table (ext_rule e) flat.can.after;
        near = (search-shallow k e flat.can flat.within).holds;
      })

-- what it is lowered to has one subject, and shallow places
one-subject : (shapes others : List Shape) (vars more : List Sort) (t : Tree) (us : List Tree) (sorts : List Sort) → HaveSorts shapes vars (t ∷ []) sorts → HaveSorts others more us sorts →
    (u : Tree) × (us ≡ u ∷ [])
one-subject shapes others vars more t us [] h k = absurd h
one-subject shapes others vars more t [] (x ∷ xs) h k = absurd k
one-subject shapes others vars more t (u ∷ []) (x ∷ xs) h k = (u, refl)
one-subject shapes others vars more t (u ∷ (v ∷ us)) (x ∷ []) h k = absurd k.1
one-subject shapes others vars more t (u ∷ (v ∷ us)) (x ∷ (y ∷ xs)) h k = absurd h.1

module _ (k : Checking) (e : ExtRuleOf) (given : Hyps) (goal : FlatGoal) (flat : IsFlatRule k e given goal)
    (forms_are : forms_in k.set.now.plain_rules ≡ forms_in k.set.now.base) (rules_are : bare_rules_in k.set.now.plain_rules ≡ extended_rules (plain_of (accepted k.set.now)))
    (tries : ℕ) (p : Proof) (outs : List Tree) (ends : ending_of (search_of k.set.now.plain_rules given goal) tries ≡ found (p, outs)) where
  abbrev sig : Signature
  sig = signature k.set.now

  abbrev base : List Shape
  base = shapes_in k.set.now.base

  abbrev shapes : List Shape
  shapes = shapes_in k.set.now.rules

  abbrev own : Accepted
  own = accepted k.set.now

  abbrev plain_table : Table
  plain_table = table_of k.plain.now

  abbrev ext : ExtRule
  ext = ext_rule e

  longer_set : IsAccepted sig base flat.can.all (with_table own plain_table)
  longer_set = longer sig base shapes flat.can.all own plain_table flat.can.after.accepted flat.can.after.goes_on

  module _ (budget : ℕ) (x : Rewritten) (h : IsRewritten (plain_of own) sig.subjects (hypotheses given) p budget (Ok x)) where
    good : IsGoodRewriting sig base (plain_of own) (flat_given plain_table sig.subjects ext) ext.rule.sorts budget (flat_goal plain_table sig.subjects ext) x
    good =
        rewriting_is_good sig base shapes (plain_of own) (plain_rules_are_accepted sig base shapes own flat.can.after.accepted)
        (flat_given plain_table sig.subjects ext) ext.rule.sorts
        (flat_forms_are_sorted sig base flat.can.all plain_table longer_set.begins longer_set.no_typed longer_set.fits longer_set.desugars (length shapes) ext flat.can.after.sorted flat.can.after.disciplined flat.can.after.body).0
        (flat_premises_are_base sig base shapes flat.can.all own plain_table ext flat.can.after)
        (search-shallow k e flat.can flat.within).holds
        p (flat_goal plain_table sig.subjects ext) (plain-derives k e given goal flat forms_are rules_are tries p outs ends)
        (inputs-sorted shapes ext.rule.sorts (sig.modes ext.rule.conclusion.form) (flat_goal plain_table sig.subjects ext).places (sig.forms ext.rule.conclusion.form)
        (flat_goals_stay sig base shapes flat.can.all own plain_table ext flat.can.after))
        budget x (subst (λ (y : Hypotheses). IsRewritten (plain_of own) sig.subjects y p budget (Ok x)) flat.premises h)

    pub lowered-shallow : AreShallow x.judgement.places
    lowered-shallow = good.places

    pub lowered-limits : (height_of x.proof ≤ 3000) × HasShallowBinds x.proof
    lowered-limits = (good.height, good.binds)

    -- its list, by the base rules
    pub lowered-listed : (list : List Entry) → list ≡ order_of x.proof → HasList (bare_rules_in k.set.now.base) (hypotheses given) x.judgement list x.proof
    lowered-listed list e = record {
      derives = subst (λ (y : Hypotheses). Derives own.base y x.judgement x.proof) (sym flat.premises) good.derives;
      list_is = e;
      low = good.height;
    }

    pub lowered-subject : by_base (check_of k) ext ≡ false → (t : Tree) × (subjects_of sig.subjects x.judgement ≡ t ∷ [])
    lowered-subject b = go ext.body refl flat.can.after.body
      where
        sorted : HaveSorts base ext.rule.sorts (outputs (sig.subjects x.judgement.form) x.judgement.places) (outputs (sig.subjects ext.rule.conclusion.form) (sig.forms ext.rule.conclusion.form))
        sorted =
            subst (λ (n : ℕ). HaveSorts base ext.rule.sorts (outputs (sig.subjects x.judgement.form) x.judgement.places) (outputs (sig.subjects n) (sig.forms n))) good.images.same_form
            (outputs-sorted base ext.rule.sorts (sig.subjects x.judgement.form) x.judgement.places (sig.forms x.judgement.form) good.judgement_sorted)

        go : (body : Option Tree) → ext.body ≡ body → BodyFits sig flat.can.all (length shapes) plain_table ext.rule body → (t : Tree) × (subjects_of sig.subjects x.judgement ≡ t ∷ [])
        go None q f =
            let r : true ≡ false = ap (has_base_syntax (length base) plain_table) (sym q) ∙ b in cc
        go (Some t) q f = one-subject flat.can.all base ext.rule.sorts ext.rule.sorts t (subjects_of sig.subjects x.judgement) (outputs (sig.subjects ext.rule.conclusion.form) (sig.forms ext.rule.conclusion.form)) f.0 sorted
