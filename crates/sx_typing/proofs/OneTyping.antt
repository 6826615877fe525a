-- A source has one typing or one refusal, but for the readings that a refusal may show of a text
-- with more than two.
use Rattle.std.proofs.Common.{◌≡◌, ◌≢◌, ℕ, ◌-◌, ◌^◌, List, [], ◌∷◌, ◌⊎◌, inl, inr, length, min}
use Rattle.std.proofs.Common.{refl, sym, ap, ◌∙◌, subst}
use Rattle.std.specs.Prelude.{Some, None}
use Rattle.sx_term.specs.declared.role.Role.TheVariants.{Sub}
use Rattle.sx_term.specs.Tree.{Tree}
use Rattle.sx_token.specs.declared.token.Token.{Token}
use Rattle.sx_token.specs.declared.token_error.TokenError.{TokenError}
use Rattle.sx_grammar.specs.Reading.{Reading}
use Rattle.sx_rules.specs.First.{Answer}
use Rattle.sx_rules.specs.Modes.{AllModed}
use Rattle.sx_rules.specs.Views.{modes_of, subjects_in}
use Rattle.sx_derive.specs.Search.{Ending, found, stopped, spent, exhausted, walk, tries_of}
use Rattle.sx_derive.specs.Stuck.{Blame}
use Rattle.sx_derive.specs.Walk.{depth_spent, too_deep, too_big}
use Rattle.sx_derive.proofs.BlamedOnce.{stuck_goal_is_unique}
use Rattle.sx_notation.specs.declared.unread.Unread.{Unread}
use Rattle.sx_notation.specs.OneReason.{ShowTwo}
use Rattle.sx_notation.specs.WhyUnread.{IsUnreadAs, place_in}
use Rattle.sx_notation.proofs.OneReasons.{unread_or_read}
use Rattle.sx_words.specs.declared.goal_defect.GoalDefect.{GoalDefect}
use Rattle.sx_typing.specs.declared.module_error.ModuleError.{ModuleError}
use Rattle.sx_typing.specs.declared.module_error.ModuleError.TheVariants.{Memory}
use Rattle.sx_typing.specs.declared.module_error.ModuleError.TheVariants.{Token as BadTokens, Read}
use Rattle.sx_typing.specs.declared.module_error.ModuleError.TheVariants.{TypeError, BudgetSpent}
use Rattle.sx_typing.specs.declared.module_error.ModuleError.TheVariants.{DepthSpent, TooDeep}
use Rattle.sx_typing.specs.declared.module_error.ModuleError.TheVariants.{TooBig, RewriteSpent}
use Rattle.sx_typing.specs.declared.module_error.ModuleError.TheVariants.{RewriteDeep, Print}
use Rattle.sx_typing.specs.declared.module_error.ModuleError.TheVariants.{Captured}
use Rattle.sx_typing.specs.Alike.{HasThree, AreTypingsAlike, SameBody, SameTyping, OneTyping}
use Rattle.sx_typing.specs.Body.{IsCut, HasDefect}
use Rattle.sx_typing.specs.Goals.{dialect_rules, goal_with, source_events, IsSubjectTyped}
use Rattle.sx_rules.specs.Rules.{no_hypotheses}
use Rattle.sx_typing.specs.Refused.{IsSpot, defect_place, unread_place, told_goal, IsStuckGoal}
use Rattle.sx_typing.specs.Refused.{IsStuckAt, HasReadBody, HasTyping, IsBadSource, HasWalked}
use Rattle.sx_typing.specs.BodySource.{BodySource, main_sort}
use Rattle.sx_typing.proofs.OneAnswer.{body_one, defect_one, unread_one}
use Rattle.sx_typing.proofs.OneBody.{one_cut, defect_or_cut}

some_same : {A : Type 0} (x y : A) → Some x ≡ Some y → x ≡ y
some_same x y e = cc

answer_same : (a b : Answer) → found a ≡ found b → a ≡ b
answer_same a b e = cc

same_head : {A : Type 0} (x y : A) → x ∷ [] ≡ y ∷ [] → x ≡ y
same_head x y e = cc

module _ (s : BodySource) where
  -- ---- the body

  -- the body has no tokens, or these have not one reading
  record IsUncut (e : ModuleError) : Type 0 where
    line : ℕ
    column : ℕ
    defect : TokenError
    is : e ≡ BadTokens line column defect
    has : HasDefect s.dialect.parts s.header.body defect
    at : IsSpot s (defect_place defect) line column

  record IsUnread (e : ModuleError) : Type 0 where
    line : ℕ
    column : ℕ
    why : Unread
    is : e ≡ Read line column why
    tokens : List Token
    cut : IsCut s.dialect.parts s.header.body tokens
    unread : IsUnreadAs s.dialect.parts [] (main_sort s.dialect.language Sub) tokens
        (length s.header.body) why
    at : IsSpot s (unread_place why) line column

  uncut_one : (e d : ModuleError) → IsUncut e → IsUncut d → AreTypingsAlike s e d
  uncut_one e d h k =
      let same = defect_one s.dialect.parts s.header.body h.defect k.defect h.has k.has in
      let there = subst (λ (x : TokenError). IsSpot s (defect_place x) h.line h.column) same h.at in
      inl (h.is ∙ (λ i. BadTokens ((there.0 ∙ sym k.at.0) i) ((there.1 ∙ sym k.at.1) i) (same i))
      ∙ sym k.is)

  uncut_unread : (e d : ModuleError) → IsUncut e → IsUnread d → ⊥
  uncut_unread e d h k = defect_or_cut s.dialect.parts s.header.body h.defect k.tokens h.has k.cut

  reads_alike : (u v : Unread) (e d : ModuleError) (line column row place : ℕ) →
      e ≡ Read line column u → d ≡ Read row place v →
      IsSpot s (unread_place u) line column → IsSpot s (unread_place v) row place →
      (u ≡ v) ⊎ (ShowTwo u v × HasThree s.dialect.parts (main_sort s.dialect.language Sub)
      s.header.body) → AreTypingsAlike s e d
  reads_alike u v e d line column row place h k at other (inl same) =
      let there = subst (λ (x : Unread). IsSpot s (unread_place x) line column) same at in
      inl (h ∙ (λ i. Read ((there.0 ∙ sym other.0) i) ((there.1 ∙ sym other.1) i) (same i)) ∙ sym k)
  reads_alike u v e d line column row place h k at other (inr (two, three)) =
      let here = subst (λ (x : Unread). IsSpot s (unread_place x) line column) two.first at in
      let there = subst (λ (x : Unread). IsSpot s (unread_place x) row place) two.second other in
      inr (record {
        line = line;
        column = column;
        one = two.one;
        other = two.other;
        some = two.some;
        more = two.more;
        first = h ∙ ap (Read line column) two.first;
        second = k ∙ (λ i. Read ((there.0 ∙ sym here.0) i) ((there.1 ∙ sym here.1) i)
            (two.second i));
        three = three;
      })

  unreads_one : (e d : ModuleError) → IsUnread e → IsUnread d → AreTypingsAlike s e d
  unreads_one e d h k =
      reads_alike h.why k.why e d h.line h.column k.line k.column h.is k.is h.at k.at
      (unread_one s.dialect.parts (main_sort s.dialect.language Sub) s.header.body
      (length s.header.body) h.tokens k.tokens h.why k.why h.cut k.cut h.unread k.unread)

  pub same_body : (b c : HasReadBody s) → SameBody s b c
  same_body b c =
      let same =
      body_one s.dialect.parts (main_sort s.dialect.language Sub) s.header.body b.tokens c.tokens
      b.reading c.reading b.subject c.subject b.read c.read in
      record { tokens = same.tokens_same; reading = same.reading_same; subject = same.term_same }

  abbrev IsUnbodied : ModuleError → Type 0
  IsUnbodied e = IsUncut e ⊎ IsUnread e

  unbodied_one : (e d : ModuleError) → IsUnbodied e → IsUnbodied d → AreTypingsAlike s e d
  unbodied_one e d (inl h) (inl k) = uncut_one e d h k
  unbodied_one e d (inl h) (inr k) = absurd (uncut_unread e d h k)
  unbodied_one e d (inr h) (inl k) = absurd (uncut_unread d e k h)
  unbodied_one e d (inr h) (inr k) = unreads_one e d h k

  unbodied_none : (e : ModuleError) → IsUnbodied e → HasReadBody s → ⊥
  unbodied_none e (inl h) b = defect_or_cut s.dialect.parts s.header.body h.defect b.tokens h.has
      b.read.cut
  unbodied_none e (inr h) b =
      let there = subst (λ (ts : List Token). IsUnreadAs s.dialect.parts []
      (main_sort s.dialect.language Sub) ts (length s.header.body) h.why)
      (one_cut s.dialect.parts s.header.body h.tokens b.tokens h.cut b.read.cut) h.unread in
      unread_or_read s.dialect.parts [] (main_sort s.dialect.language Sub) b.tokens
      (length s.header.body) h.why b.reading there b.read.answer

  -- ---- the walk

  -- the stuck goal, and its text
  record IsMistyped (ts : List Token) (r : Reading) (subject : Tree) (e : ModuleError) : Type 0
    where
      line : ℕ
      column : ℕ
      text : GoalDefect
      is : e ≡ TypeError line column text
      blame : Blame
      stuck : IsStuckGoal s subject blame
      at : IsStuckAt ts r blame s line column
      told : text ≡ told_goal s.dialect blame.goal blame.reason

  module _ (tries : ℕ) where
    -- the refusal where the walk ends so
    abbrev Tells : List Token → Reading → Tree → Ending → ModuleError → Type 0
    Tells ts r subject (found answer) e = ⊥
    Tells ts r subject (stopped depth_spent) e = e ≡ DepthSpent
    Tells ts r subject (stopped (too_deep depth)) e = e ≡ TooDeep (min depth (2 ^ 64 - 1))
    Tells ts r subject (stopped (too_big size)) e = e ≡ TooBig (min size (2 ^ 64 - 1))
    Tells ts r subject spent e = e ≡ BudgetSpent tries
    Tells ts r subject exhausted e = IsMistyped ts r subject e

    module _ (moded : AllModed (modes_of s.dialect.language.forms) (dialect_rules s.dialect)) where
      mistyped_one : (ts : List Token) (r : Reading) (subject : Tree) (e d : ModuleError) →
          IsMistyped ts r subject e → IsMistyped ts r subject d → e ≡ d
      mistyped_one ts r subject e d h k =
          let forms = s.dialect.language.forms in
          let same =
          stuck_goal_is_unique (modes_of forms) (subjects_in forms) (dialect_rules s.dialect)
          no_hypotheses moded (goal_with s subject) [] 3000 3000 h.blame k.blame h.stuck k.stuck in
          let there = subst (λ (b : Blame). IsStuckAt ts r b s h.line h.column) same h.at in
          let number = some_same there.0 k.at.0 (sym there.1 ∙ k.at.1) in
          let spot = subst (λ (n : ℕ). IsSpot s (place_in ts (length s.header.body) n) h.line
          h.column) number there.2 in
          let text = h.told ∙ (λ i. told_goal s.dialect (same i).goal (same i).reason) ∙ sym
          k.told in
          h.is ∙ (λ i. TypeError ((spot.0 ∙ sym k.at.2.0) i) ((spot.1 ∙ sym k.at.2.1) i) (text i))
          ∙ sym k.is

      tells_one : (ts : List Token) (r : Reading) (subject : Tree) (x : Ending)
          (e d : ModuleError) → Tells ts r subject x e → Tells ts r subject x d → e ≡ d
      tells_one ts r subject (found answer) e d h k = absurd h
      tells_one ts r subject (stopped depth_spent) e d h k = h ∙ sym k
      tells_one ts r subject (stopped (too_deep depth)) e d h k = h ∙ sym k
      tells_one ts r subject (stopped (too_big size)) e d h k = h ∙ sym k
      tells_one ts r subject spent e d h k = h ∙ sym k
      tells_one ts r subject exhausted e d h k = mistyped_one ts r subject e d h k

    -- ---- all of it

    -- the body is read, and the walk of its goal tells the refusal
    record IsRefused (e : ModuleError) : Type 0 where
      body : HasReadBody s
      tells : Tells body.tokens body.reading body.subject
          (walk None tries (source_events s body.subject)) e

    told_by : (e : ModuleError) (b : HasReadBody s) (x : Ending) →
        walk None tries (source_events s b.subject) ≡ x → Tells b.tokens b.reading b.subject x e →
        (e ≡ Memory) ⊎ IsUnbodied e ⊎ IsRefused e
    told_by e b x ends h =
        inr (inr (record {
          body = b;
          tells =
              subst (λ (y : Ending). Tells b.tokens b.reading b.subject y e) (sym ends) h;
        }))

    refusals : (e : ModuleError) → IsBadSource s tries e → (e ≡ Memory) ⊎ IsUnbodied e ⊎ IsRefused e
    refusals Memory h = inl refl
    refusals (BadTokens line column defect) h =
        inr (inl (inl (record {
          line = line;
          column = column;
          defect = defect;
          is = refl;
          has =
              h.0;
          at = h.1;
        })))
    refusals (Read line column why) h =
        inr (inl (inr (record {
          line = line;
          column = column;
          why = why;
          is = refl;
          tokens =
              h.0.0;
          cut = h.0.1;
          unread = h.0.2;
          at = h.1;
        })))
    refusals (TypeError line column text) (b, ends, why) =
        told_by (TypeError line column text) b exhausted ends
        (record {
          line = line;
          column = column;
          text = text;
          is = refl;
          blame = why.0;
          stuck =
              why.1;
          at = why.2;
          told = why.3;
        })
    refusals (BudgetSpent n) (b, ends, is) =
        told_by (BudgetSpent n) b spent ends (ap BudgetSpent is)
    refusals DepthSpent (b, ends) = told_by DepthSpent b (stopped depth_spent) ends refl
    refusals (TooDeep n) (b, depth, ends, is) =
        told_by (TooDeep n) b (stopped (too_deep depth)) ends (ap TooDeep is)
    refusals (TooBig n) (b, size, ends, is) =
        told_by (TooBig n) b (stopped (too_big size)) ends (ap TooBig is)
    refusals (RewriteSpent n) h = absurd h
    refusals RewriteDeep h = absurd h
    refusals (Print part defect) h = absurd h
    refusals (Captured word) h = absurd h

    abbrev TellsOf : List Token → Reading → Tree → ModuleError → Type 0
    TellsOf ts r subject e = Tells ts r subject (walk None tries (source_events s subject)) e

    tells_there : (e : ModuleError) (b c : HasReadBody s) → TellsOf b.tokens b.reading b.subject e →
        TellsOf c.tokens c.reading c.subject e
    tells_there e b c h =
        let same = same_body b c in
        subst (λ (t : Tree). TellsOf c.tokens c.reading t e) same.subject
        (subst (λ (r : Reading). TellsOf c.tokens r b.subject e) same.reading
        (subst (λ (ts : List Token). TellsOf ts b.reading b.subject e) same.tokens h))

    refused_one : AllModed (modes_of s.dialect.language.forms) (dialect_rules s.dialect) →
        (e d : ModuleError) → (e ≡ Memory) ⊎ IsUnbodied e ⊎ IsRefused e →
        (d ≡ Memory) ⊎ IsUnbodied d ⊎ IsRefused d →
        e ≢ Memory → d ≢ Memory → AreTypingsAlike s e d
    refused_one moded e d (inl h) k n m = absurd (n h)
    refused_one moded e d (inr h) (inl k) n m = absurd (m k)
    refused_one moded e d (inr (inl h)) (inr (inl k)) n m = unbodied_one e d h k
    refused_one moded e d (inr (inl h)) (inr (inr k)) n m = absurd (unbodied_none e h k.body)
    refused_one moded e d (inr (inr h)) (inr (inl k)) n m = absurd (unbodied_none d k h.body)
    refused_one moded e d (inr (inr h)) (inr (inr k)) n m =
        inl (tells_one moded k.body.tokens k.body.reading k.body.subject
        (walk None tries (source_events s k.body.subject)) e d
        (tells_there e h.body k.body h.tells) k.tells)

    either_one : (t : HasTyping s tries) (e : ModuleError) →
        (e ≡ Memory) ⊎ IsUnbodied e ⊎ IsRefused e → e ≡ Memory
    either_one t e (inl h) = h
    either_one t e (inr (inl h)) = absurd (unbodied_none e h t.body)
    either_one t e (inr (inr h)) =
        let tells = tells_there e h.body t.body h.tells in
        absurd (subst (λ (x : Ending). Tells t.body.tokens t.body.reading t.body.subject x e)
        t.typed.finds tells)

    found_one : (t u : HasTyping s tries) → SameTyping s tries t u
    found_one t u =
        let same = same_body t.body u.body in
        let here = subst (λ (x : Tree). IsSubjectTyped s tries x t.output t.answer) same.subject t.typed in
        let answers = answer_same t.answer u.answer (sym here.finds ∙ u.typed.finds) in
        record {
          body = same;
          output = same_head t.output u.output
              (sym t.typed.gives ∙ ap (λ (a : Answer). a.1) answers ∙ u.typed.gives);
          answer = answers;
        }

    counted_one : (made other : ℕ) → HasWalked s tries made → HasWalked s tries other → made ≡ other
    counted_one made other (inl h) (inl k) =
        h.1 ∙ ap (λ (t : Tree). tries_of None tries (source_events s t)) (same_body h.0 k.0).subject
        ∙ sym k.1
    counted_one made other (inl h) (inr k) = absurd (k.0 h.0)
    counted_one made other (inr h) (inl k) = absurd (h.0 k.0)
    counted_one made other (inr h) (inr k) = h.1 ∙ sym k.1

pub one_typing : OneTyping
one_typing = record {
  read = same_body;
  found = found_one;
  either = λ s tries t e h. either_one s tries t e (refusals s tries e h);
  refused = λ s tries e d moded h k. refused_one s tries moded e d (refusals s tries e h)
      (refusals s tries d k);
  counted = counted_one;
}
