-- What is stored of a rule whose derivation is found as a list.
use Rattle.std.proofs.Common.{◌≡◌, ℕ, false, List, [], ◌∷◌, Vec, refl, sym, subst}
use Rattle.std.specs.Prelude.{Ok, Err, MatchOption}
use Rattle.std.specs.declared.alloc.Global.{Global}
use Rattle.sx_term.specs.Term.{tree}
use Rattle.sx_term.specs.Tree.{Tree}
use Rattle.sx_rules.specs.declared.entry.Entry.{Entry as EntryOf}
use Rattle.sx_rules.specs.declared.rule.Hyps.{Hyps}
use Rattle.sx_rules.specs.declared.rule_set.RuleSet.{RuleSet}
use Rattle.sx_rules.specs.Deep.{AreShallow}
use Rattle.sx_rules.specs.Derivations.{Proof, ShallowJudgements}
use Rattle.sx_rules.specs.Discipline.{subjects_of}
use Rattle.sx_rules.specs.EntryView.{entries}
use Rattle.sx_rules.specs.Modes.{Goal}
use Rattle.sx_rules.specs.Orders.{Entry}
use Rattle.sx_rules.specs.ProofView.{proof}
use Rattle.sx_rules.specs.Rules.{Judgement, Hypotheses}
use Rattle.sx_rules.specs.Sets.{forms_in, bare_rules_in}
use Rattle.sx_rules.specs.Views.{hypotheses, goal as goal_view, judgement, subjects_in}
use Rattle.sx_rewrite.specs.declared.ext_rule.ExtRule.{ExtRule as ExtRuleOf}
use Rattle.sx_rewrite.specs.declared.flat.Flat.{Flat}
use Rattle.sx_rewrite.specs.declared.lowered.Lowered.{Lowered}
use Rattle.sx_rewrite.specs.declared.rewrite_error.RewriteError.{RewriteError}
use Rattle.sx_rewrite.specs.Accepted.{Accepted, extended_rules}
use Rattle.sx_rewrite.specs.AcceptedView.{accepted, signature}
use Rattle.sx_rewrite.specs.ExtensionView.{ext_rule}
use Rattle.sx_rewrite.specs.PlainRules.{plain_of}
use Rattle.sx_rewrite.specs.Rewriting.{Rewritten, IsRewritten}
use Rattle.sx_rewrite.specs.RewrittenView.{IsRewriting}
use Rattle.sx_expand.specs.declared.expanded.Expanded.{Expanded}
use Rattle.sx_expand.specs.Boxes.{HasList}
use Rattle.sx_expand.specs.Expansions.{HasOneSubject, IsListedFrom, IsExpanding}
use Rattle.sx_expand.specs.Readings.{AreGiven}
use Rattle.sx_extcheck.specs.declared.checking.Checking.{Checking}
use Rattle.sx_extcheck.specs.declared.flat_goal.FlatGoal.{FlatGoal}
use Rattle.sx_extcheck.specs.Checks.{by_base, search_for}
use Rattle.sx_extcheck.specs.CheckView.{check_of, IsFlatRule, IsFoundRule, IsRuleChecked}
use Rattle.sx_extcheck.specs.Limits.{limit_defect}
use Rattle.sx_extcheck.specs.Searches.{Search, search_of, ending_of, IsListSearched}
use Rattle.sx_derive.specs.Search.{found}
use Rattle.sx_extcheck.proofs.ByRules.{given-good, plain-search, plain-listed, plain-alike, lowered-shallow, lowered-limits, lowered-listed, lowered-subject}
use Rattle.sx_extcheck.proofs.Checked.{refused-checked, lowered-checked, subject-shallow, same-limits}
use Rattle.sx_extcheck.proofs.GivenFits.{one-subject-at, flat-given}
use Rattle.sx_extcheck.proofs.Ready.{search-shallow}

-- a search by base and plain rules finds a list
pub found-rule : (k : Checking) (e : ExtRuleOf) (given : Hyps) (goal : FlatGoal) → IsFlatRule k e given goal → by_base (check_of k) (ext_rule e) ≡ false → {rules : RuleSet} → rules ≡ k.set.now.plain_rules → (list : Vec EntryOf Global) →
    IsListSearched (search_of rules given goal) k.budgets.tries (Ok list) → {items : List EntryOf} → items ≡ list.items → IsFoundRule k e given goal (entries items)
found-rule k e given goal flat plain {rules} same list h {items} is =
    let own = subst (λ (r : RuleSet). IsListSearched (search_of r given goal) k.budgets.tries (Ok list)) same h in
    subst (λ (es : List EntryOf). IsFoundRule k e given goal (entries es)) (sym is) (record { flat = flat; plain = plain; answer = own.0; finds = own.1 })

-- by equal rules, and with an equal list
pub list-as : {a b : RuleSet} {xs ys : List EntryOf} → a ≡ b → xs ≡ ys → (hyps : Hypotheses) (j : Judgement) (p : Proof) → HasList (bare_rules_in b) hyps j (entries ys) p → HasList (bare_rules_in a) hyps j (entries xs) p
list-as {a} {b} {xs} {ys} same is hyps j p h =
    subst (λ (r : RuleSet). HasList (bare_rules_in r) hyps j (entries xs) p) (sym same)
    (subst (λ (es : List EntryOf). HasList (bare_rules_in b) hyps j (entries es) p) (sym is) h)

module _ (k : Checking) (e : ExtRuleOf) (given : Hyps) (goal : FlatGoal) (list : List Entry) (f : IsFoundRule k e given goal list) where
  abbrev search : Search
  search = search_for (check_of k) (ext_rule e)

  abbrev own : Accepted
  own = accepted k.set.now

  -- what expanding asks of the goal and of the hypotheses
  pub asked-shallow : AreShallow (goal_view goal.goal).terms
  asked-shallow = subst (λ (g : Goal). AreShallow g.terms) (sym f.flat.conclusion) (search-shallow k e f.flat.can f.flat.within).goal

  pub asked-one : HasOneSubject (forms_in k.set.now.base) (goal_view goal.goal).form
  asked-one =
      subst (λ (g : Goal). HasOneSubject (forms_in k.set.now.base) g.form) (sym f.flat.conclusion)
      (one-subject-at k e f.flat.can)

  pub asked-given : AreGiven k.set.now (hypotheses given)
  asked-given = subst (AreGiven k.set.now) (sym f.flat.premises) (flat-given k e f.flat.can f.flat.within)

  pub asked-shallow_given : ShallowJudgements (hypotheses given).judgements
  asked-shallow_given = (given-good k e given goal f.flat).near

  module _ (forms_are : forms_in k.set.now.plain_rules ≡ forms_in k.set.now.base) (rules_are : bare_rules_in k.set.now.plain_rules ≡ extended_rules (plain_of own)) where
    abbrev tries : ℕ
    tries = k.budgets.tries

    abbrev p : Proof
    p = f.answer.0

    abbrev outs : List Tree
    outs = f.answer.1

    pub asked-listed : IsListedFrom (signature k.set.now).modes (plain_of own) (hypotheses given) (goal_view goal.goal) list f.answer
    asked-listed = plain-listed k e given goal f.flat forms_are rules_are tries p outs f.finds.ends list f.finds.list_is f.finds.low f.finds.binds f.finds.near

    full : ending_of search tries ≡ found (p, outs)
    full = subst (λ (s : Search). ending_of s tries ≡ found (p, outs)) (plain-search k e given goal f.flat forms_are rules_are f.plain) f.finds.ends

    -- it is refused
    pub found-refused : (r : RewriteError) → IsExpanding (plain_of own) (signature k.set.now).subjects (hypotheses given) p k.budgets.nodes (Err r) → IsRuleChecked (check_of k) e (Err (limit_defect r))
    found-refused r h =
        refused-checked (check_of k) e f.flat.within f.plain p (outs, full) r
        (plain-alike k e given goal f.flat forms_are rules_are tries p outs f.finds.ends k.budgets.nodes (Err r) (same r h))
      where
        same : (r : RewriteError) → IsExpanding (plain_of own) (signature k.set.now).subjects (hypotheses given) p k.budgets.nodes (Err r) →
            IsRewriting (plain_of own) (signature k.set.now).subjects (hypotheses given) p k.budgets.nodes (Err r)
        same r h = h

    -- it is lowered to this
    module _ (x : Expanded) (h : IsExpanding (plain_of own) (signature k.set.now).subjects (hypotheses given) p k.budgets.nodes (Ok x)) where
      abbrev certificate : Proof
      certificate = h.0

      abbrev told : Rewritten
      told = record { proof = certificate; judgement = judgement x.judgement; copied = x.copied }

      is : IsRewritten (plain_of own) (signature k.set.now).subjects (hypotheses given) p k.budgets.nodes (Ok told)
      is = h.1

      pub told-shallow : AreShallow (judgement x.judgement).places
      told-shallow = lowered-shallow k e given goal f.flat forms_are rules_are tries p outs f.finds.ends k.budgets.nodes told is

      pub told-subject : (t : Tree) × (subjects_of (subjects_in (forms_in k.set.now.base)) (judgement x.judgement) ≡ t ∷ [])
      told-subject = lowered-subject k e given goal f.flat forms_are rules_are tries p outs f.finds.ends k.budgets.nodes told is f.plain

      pub told-listed : HasList (bare_rules_in k.set.now.base) (hypotheses given) (judgement x.judgement) (entries x.entries.items) certificate
      told-listed = lowered-listed k e given goal f.flat forms_are rules_are tries p outs f.finds.ends k.budgets.nodes told is (entries x.entries.items) h.2

      -- and stored so
      module _ (flat : Flat) (s : MatchOption flat.subject ⊥ (λ t. subjects_of (subjects_in (forms_in k.set.now.base)) (judgement x.judgement) ≡ tree t ∷ [])) (same : proof flat.proof.value ≡ certificate) where
        abbrev made : Lowered
        made = record { proof = flat.proof; judgement = x.judgement; copied = x.copied }

        own-rewritten : IsRewriting (plain_of own) (signature k.set.now).subjects (hypotheses given) p k.budgets.nodes (Ok made)
        own-rewritten =
            subst (λ (q : Proof). IsRewritten (plain_of own) (signature k.set.now).subjects (hypotheses given) p k.budgets.nodes (Ok (record { proof = q; judgement = judgement x.judgement; copied = x.copied })))
            (sym same) is

        pub found-checked : IsRuleChecked (check_of k) e (Ok flat)
        found-checked =
            let alike = plain-alike k e given goal f.flat forms_are rules_are tries p outs f.finds.ends k.budgets.nodes (Ok made) own-rewritten in
            let limits = lowered-limits k e given goal f.flat forms_are rules_are tries p outs f.finds.ends k.budgets.nodes told is in
            let own_limits = same-limits certificate (proof flat.proof.value) same limits.0 limits.1 in (
              lowered-checked (check_of k) e f.flat.within f.plain p (outs, full) made alike flat s refl,
              (
                subject-shallow (subjects_in (forms_in k.set.now.base) x.judgement.form) (judgement x.judgement).places flat.subject told-shallow s,
                own_limits.0,
                own_limits.1,
              ),
            )
