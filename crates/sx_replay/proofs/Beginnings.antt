-- What is read within the limits was read within the limits before.
use Rattle.std.proofs.Common.{◌≡◌, ℕ, ◌+◌, ◌≤◌, ◌&&◌, Bool, true, false, List, [], ◌∷◌, ◌++◌, length, Option, Some, None, refl, ap, ◌∙◌, subst, arith}
use Rattle.std.specs.Prelude.{slice_get, nat_eq, max}
use Rattle.sx_term.specs.Tree.{Tree}
use Rattle.sx_rules.specs.Instances.{instance}
use Rattle.sx_rules.specs.Rules.{Judgement, Premise, holds, apart, Rule, Hypotheses}
use Rattle.sx_rules.specs.Rules.{judgement_instance}
use Rattle.sx_rules.specs.Modes.{Modes, inputs_of, outputs_of, Goal}
use Rattle.sx_rules.specs.Orders.{Entry, of_given, of_rule}
use Rattle.sx_arena.specs.Matching.{Assignment, nothing_bound, same_all, match_all, filled}
use Rattle.sx_arena.specs.Limits.{are_apart}
use Rattle.sx_replay.specs.declared.noted.Noted.{Noted}
use Rattle.sx_replay.specs.Limits.{first_deep, first_big, earlier, note, nothing_noted}
use Rattle.sx_replay.specs.Fronts.{DerivationStage, open_one, whole}
use Rattle.sx_replay.specs.Laws.{BeginningsAreWithin}
use Rattle.sx_replay.specs.Machine.{ReplayFrame, Move, clash, ends, asks, move_when, move_matched}
use Rattle.sx_replay.specs.Machine.{premises_move, hand_on, given_named, rule_named, entry_move}
use Rattle.sx_replay.specs.Machine.{wrong, open_at, ended, read}
use Rattle.sx_replay.proofs.Answered.{IsReadingOf, front_reads, open_within}

-- nothing is noted
abbrev IsQuiet : Noted → Type 0
IsQuiet n = (n.deep ≡ None) × (n.big ≡ None)

earlier_none : (a b : Option ℕ) → earlier a b ≡ None → a ≡ None
earlier_none None b e = refl
earlier_none (Some n) b e = cc

note_quiet : (n : Noted) (ts : List Tree) → IsQuiet (note n ts) → IsQuiet n
note_quiet n ts q = (earlier_none n.deep (first_deep ts) q.0, earlier_none n.big (first_big ts) q.1)

abbrev MoveQuiet : Move → Type 0
MoveQuiet clash = ⊥
MoveQuiet (ends outs n) = IsQuiet n
MoveQuiet (asks g fs n) = IsQuiet n

when_quiet : (b : Bool) (m : Move) → MoveQuiet (move_when b m) → MoveQuiet m
when_quiet true m h = h
when_quiet false m h = absurd h

not_wrong : (stage : DerivationStage) (n : Noted) (d : ℕ) → IsReadingOf stage n d wrong → ⊥
not_wrong open_one n d h = h
not_wrong (whole outs) n d h = h

not_left : (stage : DerivationStage) (n m : Noted) (d k : ℕ) (outs : List Tree) (e : Entry) (xs : List Entry) → IsReadingOf stage n d (ended outs m k (e ∷ xs)) → ⊥
not_left open_one n m d k outs e xs h = h
not_left (whole os) n m d k outs e xs h = let q = h.3 in cc

module _ (modes : Modes) (hyps : Hypotheses) where
  premises_quiet : (fs : List ReplayFrame) → ((outs : List Tree) (n : Noted) → MoveQuiet (hand_on modes hyps fs outs n) → IsQuiet n) → (rule : Rule) (ps : List Premise) (env : Assignment) (n : Noted) →
      MoveQuiet (premises_move modes hyps (hand_on modes hyps fs) fs rule ps env n) → IsQuiet n
  premises_quiet fs hand rule [] env n h =
      let outs = outputs_of modes (judgement_instance (filled env) rule.conclusion) in
      note_quiet n outs (hand outs (note n outs) h)
  premises_quiet fs hand rule (apart t u ∷ ps) env n h =
      premises_quiet fs hand rule ps env n (when_quiet (are_apart hyps (instance (filled env) t) (instance (filled env) u)) (premises_move modes hyps (hand_on modes hyps fs) fs rule ps env n) h)
  premises_quiet fs hand rule (holds j ∷ ps) env n h = note_quiet n (inputs_of modes (judgement_instance (filled env) j)) h

  matched_quiet : (o : Option Assignment) (f : Assignment → Move) (n : Noted) → ((env : Assignment) → MoveQuiet (f env) → IsQuiet n) → MoveQuiet (move_matched o f) → IsQuiet n
  matched_quiet None f n k h = absurd h
  matched_quiet (Some env) f n k h = k env h

  hand_quiet : (fs : List ReplayFrame) (outs : List Tree) (n : Noted) → MoveQuiet (hand_on modes hyps fs outs n) → IsQuiet n
  hand_quiet [] outs n h = h
  hand_quiet (f ∷ fs) outs n h =
      matched_quiet (match_all f.patterns outs f.env) (λ env. premises_move modes hyps (hand_on modes hyps fs) fs f.rule f.rest env n) n
      (λ env. premises_quiet fs (hand_quiet fs) f.rule f.rest env n) h

  given_quiet : (o : Option Judgement) (g : Goal) (fs : List ReplayFrame) (n : Noted) → MoveQuiet (given_named modes hyps o g fs n) → IsQuiet n
  given_quiet None g fs n h = absurd h
  given_quiet (Some j) g fs n h =
      hand_quiet fs (outputs_of modes j) n (when_quiet (nat_eq j.form g.form && same_all (inputs_of modes j) g.terms) (hand_on modes hyps fs (outputs_of modes j) n) h)

  rule_quiet : (o : Option Rule) (g : Goal) (fs : List ReplayFrame) (n : Noted) → MoveQuiet (rule_named modes hyps o g fs n) → IsQuiet n
  rule_quiet None g fs n h = absurd h
  rule_quiet (Some rule) g fs n h =
      matched_quiet (match_all (inputs_of modes rule.conclusion) g.terms nothing_bound) (λ env. premises_move modes hyps (hand_on modes hyps fs) fs rule rule.premises env n) n
      (λ env. premises_quiet fs (hand_quiet fs) rule rule.premises env n)
      (when_quiet (nat_eq rule.conclusion.form g.form) (move_matched (match_all (inputs_of modes rule.conclusion) g.terms nothing_bound) (λ env. premises_move modes hyps (hand_on modes hyps fs) fs rule rule.premises env n)) h)

  entry_quiet : (rules : List Rule) (e : Entry) (g : Goal) (fs : List ReplayFrame) (n : Noted) → MoveQuiet (entry_move modes hyps rules e g fs n) → IsQuiet n
  entry_quiet rules (of_given i) g fs n h = given_quiet (slice_get hyps.judgements i) g fs n h
  entry_quiet rules (of_rule r) g fs n h = rule_quiet (slice_get rules r) g fs n h

  -- where a reading is quiet at its end it was from the start, and no deeper
  kept : (rules : List Rule) (stage : DerivationStage) (n : Noted) (d : ℕ) → IsQuiet n → (xs : List Entry) (k : ℕ) (m : Move) → IsReadingOf stage n d (read modes rules hyps xs k m) → MoveQuiet m × (k ≤ d)
  kept rules stage n d q [] k clash h = absurd (not_wrong stage n d h)
  kept rules stage n d q (e ∷ xs) k clash h = absurd (not_wrong stage n d h)
  kept rules open_one n d q [] k (ends outs m) h = absurd h
  kept rules (whole os) n d q [] k (ends outs m) h = (subst IsQuiet h.1 q, (let z = h.2 in omega arith))
  kept rules stage n d q (e ∷ xs) k (ends outs m) h = absurd (not_left stage n m d k outs e xs h)
  kept rules open_one n d q [] k (asks g fs m) h = (subst IsQuiet h.0 q, (let z = h.1 in omega arith))
  kept rules (whole os) n d q [] k (asks g fs m) h = absurd h
  kept rules stage n d q (e ∷ xs) k (asks g fs m) h =
      let r = kept rules stage n d q xs (max k (length fs + 1)) (entry_move modes hyps rules e g fs m) h in
      let l = r.1 in
      (entry_quiet rules e g fs m r.0, (omega arith))

  record Begins (rules : List Rule) (stage : DerivationStage) (n : Noted) (d : ℕ) (xs : List Entry) (e : Entry) (ys : List Entry) (k : ℕ) (m : Move) : Type 0 where
    goal : Goal
    frames : List ReplayFrame
    noted : Noted
    depth : ℕ
    before : read modes rules hyps xs k m ≡ open_at goal frames noted depth
    after : IsReadingOf stage n d (read modes rules hyps (e ∷ ys) depth (asks goal frames noted))

  begins : (rules : List Rule) (stage : DerivationStage) (n : Noted) (d : ℕ) (xs : List Entry) (e : Entry) (ys : List Entry) (k : ℕ) (m : Move) → IsReadingOf stage n d (read modes rules hyps (xs ++ (e ∷ ys)) k m) → Begins rules stage n d xs e ys k m
  begins rules stage n d [] e ys k clash h = absurd (not_wrong stage n d h)
  begins rules stage n d [] e ys k (ends outs m) h = absurd (not_left stage n m d k outs e ys h)
  begins rules stage n d [] e ys k (asks g fs m) h = record { goal = g; frames = fs; noted = m; depth = k; before = refl; after = h }
  begins rules stage n d (x ∷ xs) e ys k clash h = absurd (not_wrong stage n d h)
  begins rules stage n d (x ∷ xs) e ys k (ends outs m) h = absurd (not_left stage n m d k outs x (xs ++ (e ∷ ys)) h)
  begins rules stage n d (x ∷ xs) e ys k (asks g fs m) h =
      let r = begins rules stage n d xs e ys (max k (length fs + 1)) (entry_move modes hyps rules x g fs m) h in
      record { goal = r.goal; frames = r.frames; noted = r.noted; depth = r.depth; before = r.before; after = r.after }

pub beginnings_within : BeginningsAreWithin
beginnings_within modes rules hyps moded goal stage xs e ys w =
    let n = note nothing_noted w.terms in
    let h = front_reads modes rules hyps moded goal stage (xs ++ (e ∷ ys)) w.terms w.depth w.front in
    let b = begins modes hyps rules stage n w.depth xs e ys 0 (asks goal [] nothing_noted) h in
    let q = kept modes hyps rules stage n w.depth (w.shallow, w.small) (e ∷ ys) b.depth (asks b.goal b.frames b.noted) b.after in
    let l = q.1 in
    let m = w.level in
    let z : b.noted ≡ nothing_noted = λ i. record { deep = q.0.0 i; big = q.0.1 i } in
    open_within modes rules hyps moded goal xs (b.goal, b.frames, b.depth, b.before ∙ ap (λ (x : Noted). open_at b.goal b.frames x b.depth) z, omega arith)
