-- Why an extension that was read is not accepted can be told.
use Rattle.std.proofs.Common.{◌≡◌, ℕ, ◌^◌, ◌<◌, ◌≤◌, List, [], ◌∷◌, ◌++◌, inl, inr, map, length}
use Rattle.std.proofs.Common.{refl, sym, ap, ◌∙◌, subst, arith}
use Rattle.std.specs.Prelude.{Err, Option, Some, option_map, slice_get}
use Rattle.std.specs.List.{AllByRecursion}
use Rattle.std.proofs.lemmas.List.{length-map}
use Rattle.sx_term.specs.Sorts.{Shape}
use Rattle.sx_term.specs.Term.{tree}
use Rattle.sx_term.specs.declared.sort.Sort.{Sort}
use Rattle.sx_grammar.specs.Grammar.{Text}
use Rattle.sx_grammar.specs.Made.{IsGrammar}
use Rattle.sx_grammar.specs.Parts.{Parts}
use Rattle.sx_grammar.specs.Told.{shapes_of}
use Rattle.sx_grammar.specs.Stems.{without_digits}
use Rattle.sx_earley.specs.Tokens.{Stems, stem_sort}
use Rattle.sx_rules.specs.Deep.{AreShallow, RulesAreShallow}
use Rattle.sx_rules.specs.Good.{IsAmong, AllGood}
use Rattle.sx_rules.specs.Sets.{shapes_in, forms_in, rules_in}
use Rattle.sx_rules.specs.Sorts.{RulesAreSorted}
use Rattle.sx_rules.specs.Views.{FormData, NamedRule, named, rule}
use Rattle.sx_plain.specs.Views.{table_of}
use Rattle.sx_plain.specs.declared.table.PlainTable.{PlainTable}
use Rattle.sx_derive.specs.Blames.{blame_of}
use Rattle.sx_derive.specs.declared.blame.Blame.{Blame as BlameOf}
use Rattle.sx_notation.specs.RuleLaws.{form_of, HaveSortsOf}
use Rattle.sx_rewrite.specs.declared.accepted.Accepted.{Accepted as AcceptedOf}
use Rattle.sx_rewrite.specs.declared.ext_rule.ExtRule.{ExtRule as ExtRuleOf}
use Rattle.sx_rewrite.specs.Accepted.{AllDisciplined}
use Rattle.sx_rewrite.specs.AcceptedView.{signature}
use Rattle.sx_rewrite.specs.Extensions.{ShapesGoOn, BodiesFit}
use Rattle.sx_rewrite.specs.ExtensionView.{ext_rule, named_rules}
use Rattle.sx_language.specs.RuleLine.{Reader}
use Rattle.sx_language.specs.RuleTexts.{HaveStemSorts, AreRules}
use Rattle.sx_outline.specs.Stages.{RuleData}
use Rattle.sx_term.specs.Tree.{Tree}
use Rattle.sx_extcheck.specs.declared.accept_error.AcceptError.TheVariants.{Memory, Rule}
use Rattle.sx_extcheck.specs.declared.budgets.Budgets.{Budgets}
use Rattle.sx_extcheck.specs.declared.rule_refusal.RuleRefusal.{RuleRefusal}
use Rattle.sx_extcheck.specs.declared.rule_refusal.RuleRefusal.TheVariants.{Rejected, BudgetSpent}
use Rattle.sx_extcheck.specs.declared.rule_refusal.RuleRefusal.TheVariants.{DepthSpent, TooDeep}
use Rattle.sx_extcheck.specs.declared.rule_refusal.RuleRefusal.TheVariants.{TooBig, RewriteSpent}
use Rattle.sx_extcheck.specs.declared.rule_refusal.RuleRefusal.TheVariants.{RewriteDeep}
use Rattle.sx_extcheck.specs.Accepts.{AreRulesChecked}
use Rattle.sx_extcheck.specs.Checks.{Check, IsRefusedFor}
use Rattle.sx_extcheck.specs.CheckView.{check_with, CanCheck}
use Rattle.sx_extcheck.specs.FlatTerms.{listed_term}
use Rattle.sx_extension.specs.declared.extension.ReadExtension.{ReadExtension}
use Rattle.sx_extension.specs.Grounds.{Ground, IsGroundBefore}
use Rattle.sx_extension.specs.Readings.{with_own}
use Rattle.sx_extension.specs.States.{IsExtensionIn}
use Rattle.sx_extension.proofs.Grounding.{same_sorts, sorts_kept, forms_kept}
use Rattle.sx_stuck.specs.StuckGoals.{IsSortedBlame}
use Rattle.sx_stuck.specs.StuckText.{CanTell}
use Rattle.sx_stuck.specs.ToldGoals.{IsReadBy}
use Rattle.sx_stuck.proofs.CanTell.{sorted_blames_can_be_told}
use Rattle.sx_accepting.specs.AcceptanceStops.{Refusing, vars_named, telling_with}
use Rattle.sx_accepting.specs.Refusals.{IsAcceptedSet, AreRulesNamed, refusing_in}
use Rattle.sx_accepting.specs.Refusals.{RefusedExtensionsCanBeTold}
use Rattle.sx_accepting.proofs.NamedVars.{vars-here, vars-later}
use Rattle.sx_accepting.proofs.Rejected.{rejected_goals_are_sorted}

-- ---- what was read

-- a rule that was read has a name for each variable
as-many : (stems : Stems) (names : List Text) (sorts : List Sort) →
    HaveStemSorts stems names sorts → length sorts ≤ length names
as-many stems names sorts h =
    let a = ap length h in
    let b = length-map names (λ name. stem_sort stems (without_digits name)) in
    let c = length-map sorts (λ (sort : Sort). Some sort) in omega (arith, a, b, c)

rules-named : (r : Reader) (ls : List RuleData) (ns : List (List Text)) (qs : List NamedRule)
    (bs : List (Option Tree)) → AreRules r ls ns qs bs → AreRulesNamed qs ns
rules-named r [] [] [] [] h = tt
rules-named r [] [] [] (b ∷ bs) h = absurd h
rules-named r [] [] (q ∷ qs) bs h = absurd h
rules-named r [] (n ∷ ns) qs bs h = absurd h
rules-named r (l ∷ ls) [] qs bs h = absurd h
rules-named r (l ∷ ls) (n ∷ ns) [] bs h = absurd h
rules-named r (l ∷ ls) (n ∷ ns) (q ∷ qs) [] h = absurd h
rules-named r (l ∷ ls) (n ∷ ns) (q ∷ qs) (b ∷ bs) h =
    (as-many r.stems n q.rule.sorts h.0.sorts, rules-named r ls ns qs bs h.1)

module _ (g : Ground) (bytes : Text) (x : ReadExtension) (before : IsGroundBefore g)
    (st : IsExtensionIn g bytes x) where
  read-named : AreRulesNamed (named_rules x.extension) x.names.items
  read-named =
      subst (λ (qs : List NamedRule). AreRulesNamed qs x.names.items) (sym st.rules)
      (subst (λ (ns : List (List Text)). AreRulesNamed st.texts.rules ns) (sym st.names)
      (rules-named st.read.reader st.outline.rules st.texts.names st.texts.rules st.texts.bodies
      st.read.read.rules))

  read-grammar : IsGrammar x.grammar.parts
  read-grammar = subst IsGrammar (sym st.read.readable.grammars.parts)
      st.read.readable.grammars.is_grammar

  read-by : (set : AcceptedOf) (vars : List Text) →
      IsReadBy x.grammar.parts (telling_with (refusing_in g set x) vars)
  read-by set vars =
      let a = st.read.readable.grammars in
      let own = st.outline.productions in
      let p = with_own g own in
      let known : HaveSortsOf p a.lines =
      sorts_kept g.language p (sym (same_sorts g before own)) a.lines a.has_forms.known in
      let formed : g.forms ≡ map (form_of p) a.lines =
      a.has_forms.forms ∙ forms_kept g.language p (sym (same_sorts g before own)) a.lines in
      subst (λ (q : Parts). IsReadBy q (telling_with (refusing_in g set x) vars)) (sym a.parts)
      (record { lines = a.lines; known = known; read_by = a.read_by; forms = formed })

-- ---- rules and their names

among-left : (names : List Text) (x y : Text) → IsAmong x names → IsAmong x (names ++ y ∷ [])
among-left [] x y h = absurd h
among-left (n ∷ names) x y (inl e) = inl e
among-left (n ∷ names) x y (inr h) = inr (among-left names x y h)

among-last : (names : List Text) (y : Text) → IsAmong y (names ++ y ∷ [])
among-last [] y = inl refl
among-last (n ∷ names) y = inr (among-last names y)

module _ (shapes : List Shape) (forms : List FormData) where
  good-after : (names : List Text) (qs rs : List NamedRule) →
      AllGood shapes forms names (qs ++ rs) → (more : List Text) × AllGood shapes forms more rs
  good-after names [] rs h = (names, h)
  good-after names (q ∷ qs) rs h = good-after (names ++ q.name ∷ []) qs rs h.1

  -- the rule that is refused has none of the names before
  refused-fresh : (c : Check) (names : List Text) (es : List ExtRuleOf) (count : ℕ) (name : Text)
      (defect : RuleRefusal) → AllGood shapes forms names (map (λ e. named e.rule) es) →
      IsAmong name names →
      AreRulesChecked c es count (Err (Rule name defect)) → ⊥
  refused-fresh c names [] count name defect good k h = h
  refused-fresh c names (e ∷ es) count name defect good k (inl (same, refused, n)) =
      good.0.fresh (subst (λ (y : Text). IsAmong y names) same k)
  refused-fresh c names (e ∷ es) count name defect good k (inr (s, st, rest, n, more)) =
      refused-fresh c (names ++ e.rule.name ∷ []) es rest name defect good.1
      (among-left names name e.rule.name k) more

module _ (set : AcceptedOf) (k : IsAcceptedSet set) (plain : PlainTable) (budgets : Budgets) (p : Parts)
    (r : Refusing) (grammar : IsGrammar p)
    (by : (vars : List Text) → IsReadBy p (telling_with r vars))
    (forms : r.forms ≡ forms_in set.base)
    (goes_on : ShapesGoOn (shapes_in set.base) (shapes_in set.rules) (shapes_of p) (table_of set.plain)
    (table_of plain)) (labels : plain.base ≡ length (shapes_in set.base)) where
  abbrev c : Check
  c = check_with set plain budgets

  tell-one : (e : ExtRuleOf) (can : CanCheck set plain e) → can.all ≡ shapes_of p →
      (form : FormData) → slice_get (forms_in set.base) e.rule.conclusion.form ≡ Some form →
      (v : List Text) → length e.rule.vars.items ≤ length v → (b : BlameOf) →
      IsRefusedFor c (ext_rule e) (Rejected b) →
      CanTell (telling_with r v) (blame_of b)
  tell-one e can all form is v many b h =
      let x = rejected_goals_are_sorted set k plain budgets e can form is b h in
      sorted_blames_can_be_told p (telling_with r v) e.rule.vars.items (blame_of b) grammar (by v)
      many
      (subst (λ (fs : List FormData). IsSortedBlame (shapes_of p) fs e.rule.vars.items
      (blame_of b)) (sym forms)
      (subst (λ (ss : List Shape). IsSortedBlame ss (forms_in set.base) e.rule.vars.items
      (blame_of b)) all x.0)) x.1

  tell-rule : (es : List ExtRuleOf) (vs : List (List Text)) (names : List Text) (count : ℕ)
      (name : Text) (b : BlameOf) → AreRulesNamed (map (λ e. named e.rule) es) vs →
      AllGood (shapes_of p) (forms_in set.base) names (map (λ e. named e.rule) es) →
      RulesAreSorted (shapes_of p) (signature set).forms (map (λ e. e.rule) (map ext_rule es))
      →
      AllDisciplined (signature set).subjects (map (λ e. e.rule) (map ext_rule es)) →
      BodiesFit (signature set) (shapes_of p) (length (shapes_in set.rules)) (table_of plain)
      (map ext_rule es) →
      RulesAreShallow (map (λ e. rule e.rule) es) →
      AllByRecursion (λ e. AreShallow (listed_term (option_map tree e.body))) es →
      AllByRecursion (λ e. length e.rule.premises.items < 2 ^ 32) es →
      AreRulesChecked c es count (Err (Rule name (Rejected b))) →
      CanTell (telling_with r (vars_named (map (λ q. q.name) (map (λ e. named e.rule) es)) vs
      name)) (blame_of b)
  tell-rule [] vs names count name b n good s d f h u w x = absurd x
  tell-rule (e ∷ es) [] names count name b n good s d f h u w x = absurd n
  tell-rule (e ∷ es) (v ∷ vs) names count name b n good s d f h u w (inl (same, refused, many)) =
      let can : CanCheck set plain e = record {
        all = shapes_of p;
        after = record {
          accepted = k.held;
          goes_on = goes_on;
          sorted = s.0;
          disciplined =
              d.0;
          body = f.0;
        };
        labels = labels;
        shallow = h.0;
        body = u.0;
        few = w.0;
      } in
      subst (λ (ns : List Text). CanTell (telling_with r ns) (blame_of b))
      (sym (vars-here e.rule.name (map (λ q. q.name) (map (λ e. named e.rule) es)) v vs name
      (sym same)))
      (tell-one e can refl good.0.fits.0.0 good.0.fits.0.1 v n.0 b refused)
  tell-rule (e ∷ es) (v ∷ vs) names count name b n good s d f h u w
      (inr (q, stored, rest, many, more)) =
      subst (λ (ns : List Text). CanTell (telling_with r ns) (blame_of b))
      (sym (vars-later e.rule.name (map (λ q. q.name) (map (λ e. named e.rule) es)) v vs name
      (λ same. refused-fresh (shapes_of p) (forms_in set.base) c (names ++ e.rule.name ∷ []) es
      rest name (Rejected b) good.1 (subst (λ (y : Text). IsAmong y (names ++ e.rule.name ∷
      [])) same (among-last names e.rule.name)) more)))
      (tell-rule es vs (names ++ e.rule.name ∷ []) rest name b n.1 good.1 s.1 d.1 f.1 h.1 u.1 w.1
      more)

pub refused_extensions_can_be_told : RefusedExtensionsCanBeTold
refused_extensions_can_be_told set k g bytes x before st forms can budgets count Memory h = tt
refused_extensions_can_be_told set k g bytes x before st forms can budgets count
    (Rule name (Rejected b)) h =
    let good = subst (λ (fs : List FormData). AllGood (shapes_of x.grammar.parts) fs []
    (rules_in set.rules ++ named_rules x.extension)) k.forms can.good.1 in
    let own = good-after (shapes_of x.grammar.parts) (forms_in set.base) [] (rules_in set.rules)
    (named_rules x.extension) good in
    tell-rule set k x.extension.plain budgets x.grammar.parts (refusing_in g set x)
    (read-grammar g bytes x before st) (read-by g bytes x before st set) forms can.fits.goes_on
    (can.labels ∙ k.labels)
    x.extension.rules.items x.names.items own.0 count name b (read-named g bytes x before st) own.1
    can.fits.sorted can.fits.disciplined can.fits.bodies can.shallow can.bodies can.few h
refused_extensions_can_be_told set k g bytes x before st forms can budgets count
    (Rule name (BudgetSpent n)) h = tt
refused_extensions_can_be_told set k g bytes x before st forms can budgets count
    (Rule name (DepthSpent n)) h = tt
refused_extensions_can_be_told set k g bytes x before st forms can budgets count
    (Rule name (TooDeep n)) h = tt
refused_extensions_can_be_told set k g bytes x before st forms can budgets count
    (Rule name (TooBig n)) h = tt
refused_extensions_can_be_told set k g bytes x before st forms can budgets count
    (Rule name (RewriteSpent n)) h = tt
refused_extensions_can_be_told set k g bytes x before st forms can budgets count
    (Rule name RewriteDeep) h = tt
