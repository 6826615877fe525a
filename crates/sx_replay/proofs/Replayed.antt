-- The list of a derivation within the limits has one answer.
use Rattle.std.proofs.Common.{◌≡◌, ℕ, zero, suc, ◌-◌, ◌<◌, ◌≤◌, ◌⊎◌, inl, inr, List, [], ◌∷◌, ◌++◌, map, take, length, Option, Some, None, refl, sym, ap, ◌∙◌, subst, arith}
use Rattle.std.specs.Prelude.{Ok, Err}
use Rattle.sx_term.specs.Tree.{Tree}
use Rattle.sx_term.specs.Term.{tree}
use Rattle.sx_rules.specs.Rules.{Rule, Hypotheses}
use Rattle.sx_rules.specs.Modes.{Modes, Goal, AllModed}
use Rattle.sx_rules.specs.Derivations.{height_of}
use Rattle.sx_rules.specs.Orders.{Entry, order_of}
use Rattle.sx_replay.specs.declared.replay_error.ReplayError.{ReplayError}
use Rattle.sx_replay.specs.declared.replay_error.ReplayError.TheVariants.{Memory, WrongAt, EndsEarly, LongList, TooDeep, TooBig, DeepList}
use Rattle.sx_replay.specs.Limits.{first_deep, first_big}
use Rattle.sx_replay.specs.Fronts.{DerivationStage, open_one, whole, made_in}
use Rattle.sx_replay.specs.Replay.{IsWithin, IsFitting, IsReplayed}
use Rattle.sx_replay.specs.Laws.{DerivationsAreReplayed}
use Rattle.sx_replay.proofs.Alone.{fronts_alone}
use Rattle.sx_replay.proofs.Beginnings.{beginnings_within}

-- a list cut before an entry
cut : (xs : List Entry) (k : ℕ) → k < length xs → (x : Entry) × (rest : List Entry) × (xs ≡ take k xs ++ (x ∷ rest))
cut [] k l = absurd (omega arith)
cut (x ∷ xs) zero l = (x, xs, refl)
cut (x ∷ xs) (suc k) l =
    let r = cut xs k (omega arith) in
    (r.0, r.1, ap (λ (ys : List Entry). x ∷ ys) r.2)

pub all_taken : (xs : List Entry) (k : ℕ) → length xs ≤ k → take k xs ≡ xs
all_taken [] zero l = refl
all_taken [] (suc k) l = refl
all_taken (x ∷ xs) zero l = absurd (omega arith)
all_taken (x ∷ xs) (suc k) l = ap (λ (ys : List Entry). x ∷ ys) (all_taken xs k (omega arith))

past_or_not : (k n : ℕ) → (k < n) ⊎ (n ≤ k)
past_or_not zero zero = inr (omega arith)
past_or_not zero (suc n) = inl (omega arith)
past_or_not (suc k) zero = inr (omega arith)
past_or_not (suc k) (suc n) = elim (past_or_not k n) [ inl h ↦ inl (omega arith) | inr h ↦ inr (omega arith) ]

open_is_not_whole : (outs : List Tree) → open_one ≡ whole outs → ⊥
open_is_not_whole outs e = cc

none_is_not_some : (o : Option ℕ) (n : ℕ) → o ≡ None → o ≡ Some n → ⊥
none_is_not_some o n e f = cc

module _ (modes : Modes) (rules : List Rule) (hyps : Hypotheses) (moded : AllModed modes rules) (goal : Goal) (list : List Entry) (outs : List Tree) (w : IsWithin modes rules hyps goal (whole outs) list) where
  open_before : (k : ℕ) → k < length list → IsWithin modes rules hyps goal open_one (take k list)
  open_before k l =
      let c = cut list k l in
      beginnings_within modes rules hyps moded goal (whole outs) (take k list) c.0 c.1 (subst (λ (xs : List Entry). IsWithin modes rules hyps goal (whole outs) xs) c.2 w)

  within_upto : (k : ℕ) → (stage : DerivationStage) × IsWithin modes rules hyps goal stage (take k list)
  within_upto k = go (past_or_not k (length list))
    where
      go : (k < length list) ⊎ (length list ≤ k) → (stage : DerivationStage) × IsWithin modes rules hyps goal stage (take k list)
      go (inl l) = (open_one, open_before k l)
      go (inr l) = (whole outs, subst (λ (xs : List Entry). IsWithin modes rules hyps goal (whole outs) xs) (sym (all_taken list k l)) w)

  pub whole_answer : (others : List Tree) → IsWithin modes rules hyps goal (whole others) list → others ≡ outs
  whole_answer others v =
      let a = fronts_alone modes rules hyps moded goal list (whole others) (whole outs) v.terms w.terms v.depth w.depth v.front w.front in
      let e : whole others ≡ whole outs = a.0 in cc

  not_fitting : (k : ℕ) (terms : List Tree) (d : ℕ) → IsFitting modes rules hyps goal list k terms d → (d ≤ 3000) × (first_deep terms ≡ None) × (first_big terms ≡ None)
  not_fitting k terms d f =
      let v = within_upto k in
      let u = v.1 in
      let a = fronts_alone modes rules hyps moded goal (take k list) f.stage v.0 terms u.terms d u.depth f.front u.front in
      let l = u.level in
      let e = a.3 in
      ((omega arith), a.1 ∙ u.shallow, a.2 ∙ u.small)

  pub no_refusal : (err : ReplayError) → IsReplayed modes rules hyps goal list (Err err) → err ≡ Memory
  no_refusal Memory h = refl
  no_refusal (WrongAt k) h =
      let v = within_upto k in
      let u = v.1 in
      absurd (h.1 v.0 u.terms u.depth u.front)
  no_refusal EndsEarly h =
      let a = fronts_alone modes rules hyps moded goal list open_one (whole outs) h.terms w.terms h.depth w.depth h.front w.front in
      absurd (open_is_not_whole outs a.0)
  no_refusal (LongList k) h =
      let v = h.2.1 in
      let one = h.0 in
      let last = h.1 in
      let u = open_before (k - 1) (omega arith) in
      let a = fronts_alone modes rules hyps moded goal (take (k - 1) list) open_one (whole h.2.0) u.terms v.terms u.depth v.depth u.front v.front in
      absurd (open_is_not_whole h.2.0 a.0)
  no_refusal (DeepList k) (terms, d, f, l) =
      let n = (not_fitting k terms d f).0 in
      absurd (omega arith)
  no_refusal (TooDeep m) (k, terms, d, f, l, e) = absurd (none_is_not_some (first_deep terms) m (not_fitting k terms d f).1 e)
  no_refusal (TooBig m) (k, terms, d, f, l, e, g) = absurd (none_is_not_some (first_big terms) m (not_fitting k terms d f).2 g)

pub derivations_replayed : DerivationsAreReplayed
derivations_replayed modes rules hyps moded goal p outs derives shallow small level (Ok made) h =
    whole_answer modes rules hyps moded goal (order_of p) outs
    (record { terms = made_in modes rules p; depth = height_of p; front = (p, derives, refl, refl, refl); shallow = shallow; small = small; level = level })
    (map tree made.items) h
derivations_replayed modes rules hyps moded goal p outs derives shallow small level (Err e) h =
    no_refusal modes rules hyps moded goal (order_of p) outs
    (record { terms = made_in modes rules p; depth = height_of p; front = (p, derives, refl, refl, refl); shallow = shallow; small = small; level = level }) e h
