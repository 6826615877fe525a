-- Lines of rules state one list of rules, or have one refusal, but for the two readings that it may show where a line has more.
use Rattle.std.proofs.Common.{◌≡◌, ◌≢◌, ℕ, List, [], ◌∷◌, inl, inr, Option, Some, None, Contains, map, refl, ap, ◌∙◌, sym, subst}
use Rattle.sx_term.specs.declared.sort.Sort.{Sort}
use Rattle.sx_term.specs.Tree.{Tree}
use Rattle.sx_grammar.specs.Grammar.{Text}
use Rattle.sx_grammar.proofs.Finding.{is_head, past_head}
use Rattle.sx_grammar.specs.Stems.{without_digits}
use Rattle.sx_earley.specs.Tokens.{stem_sort}
use Rattle.sx_rules.specs.Rules.{Premise, Judgement, holds, apart}
use Rattle.sx_rules.specs.Views.{NamedRule}
use Rattle.sx_outline.specs.Stages.{Numbered, RuleData}
use Rattle.sx_notation.specs.declared.notation_error.NotationError.{NotationError}
use Rattle.sx_notation.specs.declared.notation_error.NotationError.TheVariants.{Memory, NotUtf8}
use Rattle.sx_notation.specs.declared.notation_error.NotationError.TheVariants.{Notation, Token}
use Rattle.sx_notation.specs.declared.notation_error.NotationError.TheVariants.{Grammar, Read}
use Rattle.sx_notation.specs.declared.notation_error.NotationError.TheVariants.{Rules}
use Rattle.sx_language.specs.Alike.{LineHasThree, IsSubjectSort, RuleHasThree, RulesHaveThree}
use Rattle.sx_language.specs.Laws.{OneRules}
use Rattle.sx_language.specs.RuleLine.{Reader, judgements, subject_sort, IsLine}
use Rattle.sx_language.specs.RuleTexts.{ArePremises, IsRuleBody, AreStated, IsRule, AreRules}
use Rattle.sx_language.specs.RuleTexts.{IsBadPremise, IsBadConclusion, IsBadBody, IsBadEnd}
use Rattle.sx_language.specs.RuleTexts.{IsBadRule, IsFirstBadRule}
use Rattle.sx_language.proofs.OneLine.{Alike, alike_so, read_one, refused_or_read, refused_one, line_one, bad_or_line, bad_line_one}

judgement_same : (j k : Judgement) → holds j ≡ holds k → j ≡ k
judgement_same j k e = cc

judgement_apart : (j : Judgement) (t u : Tree) → holds j ≡ apart t u → ⊥
judgement_apart j t u e = cc

sort_same : (a b : Sort) (xs ys : List Sort) → Some a ∷ map Some xs ≡ Some b ∷ map Some ys → a ≡ b
sort_same a b xs ys e = cc

sorts_left : (a b : Sort) (xs ys : List Sort) → Some a ∷ map Some xs ≡ Some b ∷ map Some ys → map Some xs ≡ map Some ys
sorts_left a b xs ys e = cc

sorts_one : (xs ys : List Sort) → map Some xs ≡ map Some ys → xs ≡ ys
sorts_one [] [] e = refl
sorts_one [] (y ∷ ys) e = absurd (cc)
sorts_one (x ∷ xs) [] e = absurd (cc)
sorts_one (x ∷ xs) (y ∷ ys) e =
    let here = sort_same x y xs ys e in
    let rest = sorts_one xs ys (sorts_left x y xs ys e) in
    λ i. here i ∷ rest i

module _ (r : Reader) where
  -- ---- what is stated

  pub premises_one : (ls : List Numbered) (old a b : List Text) (qs ws : List Premise) → ArePremises r ls old a qs → ArePremises r ls old b ws → (a ≡ b) × (qs ≡ ws)
  premises_one [] old a b [] [] h k = (h ∙ sym k, refl)
  premises_one [] old a b [] (w ∷ ws) h k = absurd k
  premises_one [] old a b (q ∷ qs) ws h k = absurd h
  premises_one (l ∷ ls) old a b [] ws h k = absurd h
  premises_one (l ∷ ls) old a b (q ∷ qs) [] h k = absurd k
  premises_one (l ∷ ls) old a b (q ∷ qs) (w ∷ ws) h k =
      let line = line_one r l.text old h.0 k.0 q w h.1 k.1 in
      let rest = premises_one ls k.0 a b qs ws (subst (λ (middle : List Text). ArePremises r ls middle a qs) line.0 h.2) k.2 in
      (rest.0, λ i. line.1 i ∷ rest.1 i)

  body_one : (line : Option Numbered) (subject : Option Sort) (old a b : List Text) (t u : Option Tree) → IsRuleBody r line subject old a t → IsRuleBody r line subject old b u → (a ≡ b) × (t ≡ u)
  body_one None subject old a b t u h k = (h.0 ∙ sym k.0, h.1 ∙ sym k.1)
  body_one (Some l) None old a b t u h k = (h.0 ∙ sym k.0, h.1 ∙ sym k.1)
  body_one (Some l) (Some sort) old a b None u h k = absurd h
  body_one (Some l) (Some sort) old a b (Some t) None h k = absurd k
  body_one (Some l) (Some sort) old a b (Some t) (Some u) h k =
      let same = read_one r.parts r.stems sort l.text old a b t u h k in (same.0, ap Some same.1)

  -- one conclusion after the premises
  conclusion_one : (l : Numbered) (old a b : List Text) (j k : Judgement) → IsLine r l.text old a (holds j) → IsLine r l.text old b (holds k) → (a ≡ b) × (j ≡ k)
  conclusion_one l old a b j k h g = let last = line_one r l.text old a b (holds j) (holds k) h g in (last.0, judgement_same j k last.1)

  pub stated_one : (l : RuleData) (names others : List Text) (qs ws : List Premise) (j i : Judgement) (t u : Option Tree) → AreStated r l names qs j t → AreStated r l others ws i u →
      (names ≡ others) × (qs ≡ ws) × (j ≡ i) × (t ≡ u)
  stated_one l names others qs ws j i t u h k =
      let premises = premises_one l.premises [] h.middle k.middle qs ws h.premises k.premises in
      let here = subst (λ (middle : List Text). IsLine r l.conclusion.text middle h.last (holds j)) premises.0 h.conclusion in
      let last = conclusion_one l.conclusion k.middle h.last k.last j i here k.conclusion in
      let placed = subst (λ (old : List Text). IsRuleBody r l.body (subject_sort r.forms j.form) old names t) last.0 h.bodied in
      let there = subst (λ (c : Judgement). IsRuleBody r l.body (subject_sort r.forms c.form) k.last names t) last.1 placed in
      let body = body_one l.body (subject_sort r.forms i.form) k.last names others t u there k.bodied in
      (body.0, premises.1, last.1, body.1)

  rule_one : (l : RuleData) (names others : List Text) (q w : NamedRule) (t u : Option Tree) → IsRule r l names q t → IsRule r l others w u → (names ≡ others) × (q ≡ w) × (t ≡ u)
  rule_one l names others q w t u h k =
      let same = stated_one l names others q.rule.premises w.rule.premises q.rule.conclusion w.rule.conclusion t u h.stated k.stated in
      let sorts = sorts_one q.rule.sorts w.rule.sorts (sym h.sorts ∙ ap (map (λ name. stem_sort r.stems (without_digits name))) same.0 ∙ k.sorts) in
      (same.0, λ i. record { name = (h.name ∙ sym k.name) i; rule = record { sorts = sorts i; premises = same.1 i; conclusion = same.2 i } }, same.3)

  pub rules_one : (ls : List RuleData) (ns ms : List (List Text)) (qs ws : List NamedRule) (ts us : List (Option Tree)) → AreRules r ls ns qs ts → AreRules r ls ms ws us →
      (ns ≡ ms) × (qs ≡ ws) × (ts ≡ us)
  rules_one [] [] [] [] [] [] [] h k = (refl, refl, refl)
  rules_one [] [] [] [] [] [] (u ∷ us) h k = absurd k
  rules_one [] [] [] [] [] (t ∷ ts) us h k = absurd h
  rules_one [] [] [] [] (w ∷ ws) ts us h k = absurd k
  rules_one [] [] (m ∷ ms) [] ws ts us h k = absurd k
  rules_one [] [] ms (q ∷ qs) ws ts us h k = absurd h
  rules_one [] (n ∷ ns) ms qs ws ts us h k = absurd h
  rules_one (l ∷ ls) [] ms qs ws ts us h k = absurd h
  rules_one (l ∷ ls) (n ∷ ns) ms [] ws ts us h k = absurd h
  rules_one (l ∷ ls) (n ∷ ns) ms (q ∷ qs) ws [] us h k = absurd h
  rules_one (l ∷ ls) (n ∷ ns) [] (q ∷ qs) ws (t ∷ ts) us h k = absurd k
  rules_one (l ∷ ls) (n ∷ ns) (m ∷ ms) (q ∷ qs) [] (t ∷ ts) us h k = absurd k
  rules_one (l ∷ ls) (n ∷ ns) (m ∷ ms) (q ∷ qs) (w ∷ ws) (t ∷ ts) [] h k = absurd k
  rules_one (l ∷ ls) (n ∷ ns) (m ∷ ms) (q ∷ qs) (w ∷ ws) (t ∷ ts) (u ∷ us) h k =
      let here = rule_one l n m q w t u h.0 k.0 in
      let rest = rules_one ls ns ms qs ws ts us h.1 k.1 in
      (λ i. here.0 i ∷ rest.0 i, λ i. here.1 i ∷ rest.1 i, λ i. here.2 i ∷ rest.2 i)

  -- ---- what is refused

  -- the line has more than two readings as a judgement
  abbrev JudgementHasThree : Numbered → Type 0
  JudgementHasThree l = LineHasThree r.parts r.stems (judgements r.parts) l.text

  -- the first bad lines, of a rule of which it is known what follows of each line with more than two readings
  module _ (HasMore : ℕ → Type 0) where
    bad_premise_one : (ls : List Numbered) → ((l : Numbered) → Contains ls l → JudgementHasThree l → HasMore l.number) → (old : List Text) (e d : NotationError) → e ≢ Memory → d ≢ Memory →
        IsBadPremise r ls old e → IsBadPremise r ls old d → Alike HasMore e d
    bad_premise_one [] so old e d n m h k = absurd h
    bad_premise_one (l ∷ ls) so old e d n m (inl h) (inl k) = bad_line_one r l HasMore (so l (is_head l ls)) e d n m h k
    bad_premise_one (l ∷ ls) so old e d n m (inl h) (inr k) = absurd (bad_or_line r l old k.0 k.1 e n h k.2)
    bad_premise_one (l ∷ ls) so old e d n m (inr h) (inl k) = absurd (bad_or_line r l old h.0 h.1 d m k h.2)
    bad_premise_one (l ∷ ls) so old e d n m (inr h) (inr k) =
        let line = line_one r l.text old h.0 k.0 h.1 k.1 h.2 k.2 in
        bad_premise_one ls (λ p among. so p (past_head l ls p among)) k.0 e d n m (subst (λ (middle : List Text). IsBadPremise r ls middle e) line.0 h.3) k.3

    bad_conclusion_one : (l : Numbered) → (JudgementHasThree l → HasMore l.number) → (old : List Text) (e d : NotationError) → e ≢ Memory → d ≢ Memory → IsBadConclusion r l old e → IsBadConclusion r l old d →
        Alike HasMore e d
    bad_conclusion_one l so old e d n m (inl h) (inl k) = bad_line_one r l HasMore so e d n m h k
    bad_conclusion_one l so old e d n m (inl h) (inr k) = absurd (bad_or_line r l old k.0 (apart k.1 k.2) e n h k.3)
    bad_conclusion_one l so old e d n m (inr h) (inl k) = absurd (bad_or_line r l old h.0 (apart h.1 h.2) d m k h.3)
    bad_conclusion_one l so old e d n m (inr h) (inr k) = inl (h.4 ∙ sym k.4)

    bad_body_one : (line : Option Numbered) (subject : Option Sort) → ((l : Numbered) (sort : Sort) → line ≡ Some l → subject ≡ Some sort → LineHasThree r.parts r.stems sort l.text → HasMore l.number) →
        (e d : NotationError) → e ≢ Memory → d ≢ Memory → IsBadBody r line subject e → IsBadBody r line subject d → Alike HasMore e d
    bad_body_one None subject so e d n m h k = absurd h
    bad_body_one (Some l) None so e d n m h k = absurd h
    bad_body_one (Some l) (Some sort) so e d n m h k = refused_one r.parts r.stems sort l.text l.number HasMore (so l sort refl refl) e d n m h k

  premises_or_bad : (ls : List Numbered) (old new : List Text) (qs : List Premise) (e : NotationError) → e ≢ Memory → ArePremises r ls old new qs → IsBadPremise r ls old e → ⊥
  premises_or_bad [] old new qs e n h k = k
  premises_or_bad (l ∷ ls) old new [] e n h k = h
  premises_or_bad (l ∷ ls) old new (q ∷ qs) e n h (inl k) = bad_or_line r l old h.0 q e n k h.1
  premises_or_bad (l ∷ ls) old new (q ∷ qs) e n h (inr k) =
      let line = line_one r l.text old k.0 h.0 k.1 q k.2 h.1 in
      premises_or_bad ls h.0 new qs e n h.2 (subst (λ (middle : List Text). IsBadPremise r ls middle e) line.0 k.3)

  conclusion_or_bad : (l : Numbered) (old new : List Text) (j : Judgement) (e : NotationError) → e ≢ Memory → IsLine r l.text old new (holds j) → IsBadConclusion r l old e → ⊥
  conclusion_or_bad l old new j e n h (inl k) = bad_or_line r l old new (holds j) e n k h
  conclusion_or_bad l old new j e n h (inr k) = judgement_apart j k.1 k.2 (line_one r l.text old new k.0 (holds j) (apart k.1 k.2) h k.3).1

  body_or_bad : (line : Option Numbered) (subject : Option Sort) (old new : List Text) (body : Option Tree) (e : NotationError) → e ≢ Memory → IsRuleBody r line subject old new body →
      IsBadBody r line subject e → ⊥
  body_or_bad None subject old new body e n h k = k
  body_or_bad (Some l) None old new body e n h k = k
  body_or_bad (Some l) (Some sort) old new None e n h k = h
  body_or_bad (Some l) (Some sort) old new (Some t) e n h k = refused_or_read r.parts r.stems sort l.text l.number old new t e n k h

  -- the lines of one rule
  module _ (l : RuleData) where
    of_premise : (line : Numbered) → Contains l.premises line → JudgementHasThree line → RuleHasThree r l line.number
    of_premise line among three = record { line = line; sort = judgements r.parts; read_as = inl (among, refl); is = refl; three = three }

    of_conclusion : JudgementHasThree l.conclusion → RuleHasThree r l l.conclusion.number
    of_conclusion three = record { line = l.conclusion; sort = judgements r.parts; read_as = inr (inl (refl, refl)); is = refl; three = three }

    of_body : (old new : List Text) (j : Judgement) → IsLine r l.conclusion.text old new (holds j) → (line : Numbered) (sort : Sort) → l.body ≡ Some line → subject_sort r.forms j.form ≡ Some sort →
        LineHasThree r.parts r.stems sort line.text → RuleHasThree r l line.number
    of_body old new j read line sort has subject three =
        let sorted : IsSubjectSort r l sort = record { old = old; new = new; conclusion = j; read = read; is = subject } in
        record { line = line; sort = sort; read_as = inr (inr (has, sorted)); is = refl; three = three }

  bad_end_one : (l : RuleData) (old : List Text) (e d : NotationError) → e ≢ Memory → d ≢ Memory → IsBadEnd r l old e → IsBadEnd r l old d → Alike (RuleHasThree r l) e d
  bad_end_one l old e d n m (inl h) (inl k) = bad_conclusion_one (RuleHasThree r l) l.conclusion (of_conclusion l) old e d n m h k
  bad_end_one l old e d n m (inl h) (inr k) = absurd (conclusion_or_bad l.conclusion old k.0 k.1 e n k.2 h)
  bad_end_one l old e d n m (inr h) (inl k) = absurd (conclusion_or_bad l.conclusion old h.0 h.1 d m h.2 k)
  bad_end_one l old e d n m (inr h) (inr k) =
      let same = conclusion_one l.conclusion old h.0 k.0 h.1 k.1 h.2 k.2 in
      bad_body_one (RuleHasThree r l) l.body (subject_sort r.forms k.1.form) (of_body l old k.0 k.1 k.2) e d n m
      (subst (λ (j : Judgement). IsBadBody r l.body (subject_sort r.forms j.form) e) same.1 h.3) k.3

  end_or_bad : (l : RuleData) (old last names : List Text) (j : Judgement) (body : Option Tree) (e : NotationError) → e ≢ Memory → IsLine r l.conclusion.text old last (holds j) →
      IsRuleBody r l.body (subject_sort r.forms j.form) last names body → IsBadEnd r l old e → ⊥
  end_or_bad l old last names j body e n h b (inl k) = conclusion_or_bad l.conclusion old last j e n h k
  end_or_bad l old last names j body e n h b (inr k) =
      let same = conclusion_one l.conclusion old k.0 last k.1 j k.2 h in
      body_or_bad l.body (subject_sort r.forms j.form) last names body e n b (subst (λ (c : Judgement). IsBadBody r l.body (subject_sort r.forms c.form) e) same.1 k.3)

  bad_rule_one : (l : RuleData) (e d : NotationError) → e ≢ Memory → d ≢ Memory → IsBadRule r l e → IsBadRule r l d → Alike (RuleHasThree r l) e d
  bad_rule_one l e d n m (inl h) (inl k) = bad_premise_one (RuleHasThree r l) l.premises (of_premise l) [] e d n m h k
  bad_rule_one l e d n m (inl h) (inr k) = absurd (premises_or_bad l.premises [] k.0 k.1 e n k.2 h)
  bad_rule_one l e d n m (inr h) (inl k) = absurd (premises_or_bad l.premises [] h.0 h.1 d m h.2 k)
  bad_rule_one l e d n m (inr h) (inr k) =
      let premises = premises_one l.premises [] h.0 k.0 h.1 k.1 h.2 k.2 in
      bad_end_one l k.0 e d n m (subst (λ (middle : List Text). IsBadEnd r l middle e) premises.0 h.3) k.3

  rule_or_bad : (l : RuleData) (names : List Text) (q : NamedRule) (body : Option Tree) (e : NotationError) → e ≢ Memory → IsRule r l names q body → IsBadRule r l e → ⊥
  rule_or_bad l names q body e n h (inl k) = premises_or_bad l.premises [] h.stated.middle q.rule.premises e n h.stated.premises k
  rule_or_bad l names q body e n h (inr k) =
      let premises = premises_one l.premises [] k.0 h.stated.middle k.1 q.rule.premises k.2 h.stated.premises in
      end_or_bad l h.stated.middle h.stated.last names q.rule.conclusion body e n h.stated.conclusion h.stated.bodied (subst (λ (middle : List Text). IsBadEnd r l middle e) premises.0 k.3)

  pub first_bad_one : (ls : List RuleData) (e d : NotationError) → e ≢ Memory → d ≢ Memory → IsFirstBadRule r ls e → IsFirstBadRule r ls d → Alike (RulesHaveThree r ls) e d
  first_bad_one [] e d n m h k = absurd h
  first_bad_one (l ∷ ls) e d n m (inl h) (inl k) = alike_so (RuleHasThree r l) (RulesHaveThree r (l ∷ ls)) (λ number three. (l, is_head l ls, three)) e d (bad_rule_one l e d n m h k)
  first_bad_one (l ∷ ls) e d n m (inl h) (inr k) = absurd (rule_or_bad l k.0 k.1 k.2 e n k.3 h)
  first_bad_one (l ∷ ls) e d n m (inr h) (inl k) = absurd (rule_or_bad l h.0 h.1 h.2 d m h.3 k)
  first_bad_one (l ∷ ls) e d n m (inr h) (inr k) =
      alike_so (RulesHaveThree r ls) (RulesHaveThree r (l ∷ ls)) (λ number more. (more.0, past_head l ls more.0 more.1, more.2)) e d (first_bad_one ls e d n m h.4 k.4)

  pub rules_or_bad : (ls : List RuleData) (ns : List (List Text)) (qs : List NamedRule) (bs : List (Option Tree)) (e : NotationError) → e ≢ Memory → AreRules r ls ns qs bs → IsFirstBadRule r ls e → ⊥
  rules_or_bad [] ns qs bs e n h k = k
  rules_or_bad (l ∷ ls) [] qs bs e n h k = h
  rules_or_bad (l ∷ ls) (names ∷ ns) [] bs e n h k = h
  rules_or_bad (l ∷ ls) (names ∷ ns) (q ∷ qs) [] e n h k = h
  rules_or_bad (l ∷ ls) (names ∷ ns) (q ∷ qs) (b ∷ bs) e n h (inl k) = rule_or_bad l names q b e n h.0 k
  rules_or_bad (l ∷ ls) (names ∷ ns) (q ∷ qs) (b ∷ bs) e n h (inr k) = rules_or_bad ls ns qs bs e n h.1 k.4

-- memory is lacking, where rules are stated
memory_left : (r : Reader) (ls : List RuleData) (ns : List (List Text)) (qs : List NamedRule) (ts : List (Option Tree)) (e : NotationError) → AreRules r ls ns qs ts → IsFirstBadRule r ls e → e ≡ Memory
memory_left r ls ns qs ts Memory h k = refl
memory_left r ls ns qs ts (NotUtf8 place) h k = absurd (rules_or_bad r ls ns qs ts (NotUtf8 place) (λ e. cc) h k)
memory_left r ls ns qs ts (Notation l n) h k = absurd (rules_or_bad r ls ns qs ts (Notation l n) (λ e. cc) h k)
memory_left r ls ns qs ts (Token l x) h k = absurd (rules_or_bad r ls ns qs ts (Token l x) (λ e. cc) h k)
memory_left r ls ns qs ts (Grammar x) h k = absurd (rules_or_bad r ls ns qs ts (Grammar x) (λ e. cc) h k)
memory_left r ls ns qs ts (Read l x) h k = absurd (rules_or_bad r ls ns qs ts (Read l x) (λ e. cc) h k)
memory_left r ls ns qs ts (Rules x v) h k = absurd (rules_or_bad r ls ns qs ts (Rules x v) (λ e. cc) h k)

pub one_rules : OneRules
one_rules = record {
  found = rules_one;
  either = memory_left;
  refused = λ r ls e d h k n m. first_bad_one r ls e d n m h k;
}
