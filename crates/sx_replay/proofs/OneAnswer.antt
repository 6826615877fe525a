-- A list has one answer: at the first entry at which something is wrong, one thing is.
use Rattle.std.proofs.Common.{◌≡◌, ℕ, zero, suc, ◌-◌, ◌<◌, ◌≤◌, ◌⊎◌, inl, inr, Bool, true, false, List, [], ◌∷◌, ◌++◌, take, length, Option, Some, None, refl, sym, ap, ◌∙◌, subst, arith}
use Rattle.std.specs.Prelude.{◌≢◌, nat_lt, Result, Ok, Err}
use Rattle.std.proofs.lemmas.Bool.{lt-ltb, le-ltb}
use Rattle.sx_term.specs.Tree.{Tree}
use Rattle.sx_rules.specs.Rules.{Rule, Hypotheses}
use Rattle.sx_rules.specs.Modes.{Modes, Goal, AllModed}
use Rattle.sx_rules.specs.Orders.{Entry}
use Rattle.sx_replay.specs.declared.replay_error.ReplayError.{ReplayError}
use Rattle.sx_replay.specs.declared.replay_error.ReplayError.TheVariants.{Memory, WrongAt, EndsEarly, LongList, TooDeep, TooBig, DeepList}
use Rattle.sx_replay.specs.Limits.{first_deep, first_big}
use Rattle.sx_replay.specs.Fronts.{DerivationStage, open_one, whole, IsFront}
use Rattle.sx_replay.specs.Replay.{IsWithin, IsReached, IsFitting, IsReplayAnswer}
use Rattle.sx_replay.specs.Laws.{OneAnswerIsDue}
use Rattle.sx_replay.proofs.Alone.{fronts_alone}
use Rattle.sx_replay.proofs.Beginnings.{beginnings_within}
use Rattle.sx_replay.proofs.Replayed.{all_taken}

-- what is found of a list: goals are left, it is whole, it fits nothing, or a limit is passed
data Verdict : Type 0 where
  goes_on : Verdict
  ends : List Tree → Verdict
  fits_nothing : Verdict
  stands_deep : Verdict
  term_deep : ℕ → Verdict
  term_big : ℕ → Verdict

abbrev of_stage : DerivationStage → Verdict
of_stage open_one = goes_on
of_stage (whole outs) = ends outs

abbrev of_size : Option ℕ → Verdict → Verdict
of_size None v = v
of_size (Some n) v = term_big n

abbrev of_depth : Option ℕ → Verdict → Verdict
of_depth None v = v
of_depth (Some n) v = term_deep n

abbrev of_level : Bool → Verdict → Verdict
of_level true v = stands_deep
of_level false v = v

-- the verdict of a front
abbrev verdict_of : DerivationStage → Option ℕ → Option ℕ → ℕ → Verdict
verdict_of stage deep big level = of_level (nat_lt 3000 level) (of_depth deep (of_size big (of_stage stage)))

-- the answer for the verdict of the first entries, so many of so many
abbrev answer_when : Bool → List Tree → ℕ → Result (List Tree) ReplayError
answer_when true outs k = Err (LongList (suc k))
answer_when false outs k = Ok outs

abbrev answer_of : ℕ → ℕ → Verdict → Result (List Tree) ReplayError
answer_of n k goes_on = Err EndsEarly
answer_of n k (ends outs) = answer_when (nat_lt k n) outs k
answer_of n k fits_nothing = Err (WrongAt k)
answer_of n k stands_deep = Err (DeepList k)
answer_of n k (term_deep m) = Err (TooDeep m)
answer_of n k (term_big m) = Err (TooBig m)

three_ways : (m n : ℕ) → (m < n) ⊎ ((m ≡ n) ⊎ (n < m))
three_ways zero zero = inr (inl refl)
three_ways zero (suc n) = inl (omega arith)
three_ways (suc m) zero = inr (inr (omega arith))
three_ways (suc m) (suc n) = elim (three_ways m n) [ inl h ↦ inl (omega arith) | inr h ↦ elim h [ inl e ↦ inr (inl (ap suc e)) | inr l ↦ inr (inr (omega arith)) ] ]

-- more entries taken, cut after fewer
cut_short : (xs : List Entry) (i k : ℕ) → i < k → k ≤ length xs → (x : Entry) × (rest : List Entry) × (take k xs ≡ take i xs ++ (x ∷ rest))
cut_short [] i zero l m = absurd (omega arith)
cut_short [] i (suc k) l m = absurd (omega arith)
cut_short (x ∷ xs) i zero l m = absurd (omega arith)
cut_short (x ∷ xs) zero (suc k) l m = (x, take k xs, refl)
cut_short (x ∷ xs) (suc i) (suc k) l m =
    let r = cut_short xs i k (omega arith) (omega arith) in
    (r.0, r.1, ap (λ (ys : List Entry). x ∷ ys) r.2)

module _ (modes : Modes) (rules : List Rule) (hyps : Hypotheses) (moded : AllModed modes rules) (goal : Goal) where
  -- the list has a front with this verdict
  record IsJudged (list : List Entry) (v : Verdict) : Type 0 where
    pub stage : DerivationStage
    pub terms : List Tree
    pub depth : ℕ
    pub front : IsFront modes rules hyps goal stage list terms depth
    pub is : v ≡ verdict_of stage (first_deep terms) (first_big terms) depth

  abbrev FitsNothing : List Entry → Type 0
  FitsNothing list = (stage : DerivationStage) (terms : List Tree) (depth : ℕ) → IsFront modes rules hyps goal stage list terms depth → ⊥

  abbrev HasVerdict : List Entry → Verdict → Type 0
  HasVerdict list v = IsJudged list v ⊎ (FitsNothing list × (v ≡ fits_nothing))

  one_verdict : (list : List Entry) (v w : Verdict) → HasVerdict list v → HasVerdict list w → v ≡ w
  one_verdict list v w (inl a) (inl b) =
      let f = fronts_alone modes rules hyps moded goal list a.stage b.stage a.terms b.terms a.depth b.depth a.front b.front in
      let e : verdict_of a.stage (first_deep a.terms) (first_big a.terms) a.depth ≡ verdict_of b.stage (first_deep b.terms) (first_big b.terms) b.depth =
      (λ i. verdict_of (f.0 i) (f.1 i) (f.2 i) (f.3 i)) in
      a.is ∙ e ∙ sym b.is
  one_verdict list v w (inl a) (inr b) = absurd (b.0 a.stage a.terms a.depth a.front)
  one_verdict list v w (inr a) (inl b) = absurd (a.0 b.stage b.terms b.depth b.front)
  one_verdict list v w (inr a) (inr b) = a.1 ∙ sym b.1

  within_verdict : (stage : DerivationStage) (list : List Entry) → IsWithin modes rules hyps goal stage list → HasVerdict list (of_stage stage)
  within_verdict stage list w = inl (record {
    stage = stage;
    terms = w.terms;
    depth = w.depth;
    front = w.front;
    is = sym (λ i. of_level (le-ltb 3000 w.depth w.level i) (of_depth (w.shallow i) (of_size (w.small i) (of_stage stage))));
  })

  -- the first entries, so many, are the first that have another verdict than that goals are left, or are all
  record IsVerdictAt (list : List Entry) (k : ℕ) (v : Verdict) : Type 0 where
    pub last : k ≤ length list
    pub before : (i : ℕ) → i < k → IsWithin modes rules hyps goal open_one (take i list)
    pub verdict : HasVerdict (take k list) v
    pub ends_here : v ≡ goes_on → k ≡ length list

  module _ (list : List Entry) where
    no_sooner : (i k : ℕ) (v w : Verdict) → IsVerdictAt list i v → IsVerdictAt list k w → i < k → ⊥
    no_sooner i k v w a b l =
        let e = one_verdict (take i list) v goes_on a.verdict (within_verdict open_one (take i list) (b.before i l)) in
        let n = a.ends_here e in
        let m = b.last in
        let x : ⊥ = omega arith in x

    one_place : (i k : ℕ) (v w : Verdict) → IsVerdictAt list i v → IsVerdictAt list k w → (i ≡ k) × (v ≡ w)
    one_place i k v w a b =
        elim (three_ways i k) [
          | inl l ↦ absurd (no_sooner i k v w a b l)
          | inr h ↦ elim h [ inl e ↦ (e, one_verdict (take k list) v w (subst (λ (n : ℕ). HasVerdict (take n list) v) e a.verdict) b.verdict) | inr l ↦ absurd (no_sooner k i w v b a l) ]
        ]

    -- within the limits up to an entry, so before
    within_before : (stage : DerivationStage) (k : ℕ) → k ≤ length list → IsWithin modes rules hyps goal stage (take k list) → (i : ℕ) → i < k → IsWithin modes rules hyps goal open_one (take i list)
    within_before stage k last w i l =
        let c = cut_short list i k l last in
        beginnings_within modes rules hyps moded goal stage (take i list) c.0 c.1 (subst (λ (xs : List Entry). IsWithin modes rules hyps goal stage xs) c.2 w)

    reached_before : (k : ℕ) → IsReached modes rules hyps goal list k → (i : ℕ) → i < k → IsWithin modes rules hyps goal open_one (take i list)
    reached_before k r i l =
        let f = r.first in
        let e = r.last in
        elim (three_ways i (k - 1)) [
          | inl m ↦ within_before open_one (k - 1) (omega arith) r.before i m
          | inr h ↦ elim h [ inl e ↦ subst (λ (n : ℕ). IsWithin modes rules hyps goal open_one (take n list)) (sym e) r.before | inr m ↦ absurd (omega arith) ]
        ]

    -- the verdict where all entries are taken
    at_end : (stage : DerivationStage) → IsWithin modes rules hyps goal stage list → IsVerdictAt list (length list) (of_stage stage)
    at_end stage w =
        let all = sym (all_taken list (length list) (omega arith)) in
        let v = subst (λ (xs : List Entry). IsWithin modes rules hyps goal stage xs) all w in
        record { last = omega arith; before = within_before stage (length list) (omega arith) v; verdict = within_verdict stage (take (length list) list) v; ends_here = λ e. refl }

    judged_at : (k : ℕ) (terms : List Tree) (d : ℕ) (f : IsFitting modes rules hyps goal list k terms d) (v : Verdict) → (v ≡ goes_on → ⊥) →
        v ≡ verdict_of f.stage (first_deep terms) (first_big terms) d → IsVerdictAt list k v
    judged_at k terms d f v n e = record {
      last = f.reached.last;
      before = reached_before k f.reached;
      verdict = inl (record { stage = f.stage; terms = terms; depth = d; front = f.front; is = e });
      ends_here = λ q. absurd (n q);
    }

    abbrev IsPlaced : Result (List Tree) ReplayError → Type 0
    IsPlaced a = (k : ℕ) × (v : Verdict) × IsVerdictAt list k v × (a ≡ answer_of (length list) k v)

    placed : (a : Result (List Tree) ReplayError) → IsReplayAnswer modes rules hyps goal list a → (a ≢ Err Memory) → IsPlaced a
    placed (Ok outs) h n =
        (length list, ends outs, at_end (whole outs) h, sym (ap (λ b. answer_when b outs (length list)) (le-ltb (length list) (length list) (omega arith))))
    placed (Err Memory) h n = absurd (n refl)
    placed (Err (WrongAt k)) (r, f) n =
        (k, fits_nothing, record { last = r.last; before = reached_before k r; verdict = inr (f, refl); ends_here = λ q. absurd (nothing_goes_on q) }, refl)
      where
        nothing_goes_on : fits_nothing ≡ goes_on → ⊥
        nothing_goes_on q = cc
    placed (Err EndsEarly) h n = (length list, goes_on, at_end open_one h, refl)
    placed (Err (LongList k)) (a, b, (outs, w)) n = (
      k - 1,
      ends outs,
      record { last = omega arith; before = within_before (whole outs) (k - 1) (omega arith) w; verdict = within_verdict (whole outs) (take (k - 1) list) w; ends_here = λ q. absurd (ended_goes_on outs q) },
      (let e : k ≡ suc (k - 1) = omega arith in ap (λ (m : ℕ). Err (LongList m)) e)
          ∙ sym (ap (λ b. answer_when b outs (k - 1)) (lt-ltb (k - 1) (length list) (omega arith))),
    )
      where
        ended_goes_on : (os : List Tree) → ends os ≡ goes_on → ⊥
        ended_goes_on os q = cc
    placed (Err (DeepList k)) (terms, d, f, l) n = (
      k,
      stands_deep,
      judged_at k terms d f stands_deep deep_goes_on
          (sym (ap (λ b. of_level b (of_depth (first_deep terms) (of_size (first_big terms) (of_stage f.stage)))) (lt-ltb 3000 d l))),
      refl,
    )
      where
        deep_goes_on : stands_deep ≡ goes_on → ⊥
        deep_goes_on q = cc
    placed (Err (TooDeep m)) (k, terms, d, f, l, e) n = (
      k,
      term_deep m,
      judged_at k terms d f (term_deep m) (deep_goes_on m)
          (sym (λ i. of_level (le-ltb 3000 d l i) (of_depth (e i) (of_size (first_big terms) (of_stage f.stage))))),
      refl,
    )
      where
        deep_goes_on : (x : ℕ) → term_deep x ≡ goes_on → ⊥
        deep_goes_on x q = cc
    placed (Err (TooBig m)) (k, terms, d, f, l, e, g) n = (
      k,
      term_big m,
      judged_at k terms d f (term_big m) (big_goes_on m)
          (sym (λ i. of_level (le-ltb 3000 d l i) (of_depth (e i) (of_size (g i) (of_stage f.stage))))),
      refl,
    )
      where
        big_goes_on : (x : ℕ) → term_big x ≡ goes_on → ⊥
        big_goes_on x q = cc

pub one_answer : OneAnswerIsDue
one_answer modes rules hyps moded goal list a b h g n m =
    let p = placed modes rules hyps moded goal list a h n in
    let q = placed modes rules hyps moded goal list b g m in
    let o = one_place modes rules hyps moded goal list p.0 q.0 p.1 q.1 p.2 q.2 in
    p.3 ∙ (λ i. answer_of (length list) (o.0 i) (o.1 i)) ∙ sym q.3
