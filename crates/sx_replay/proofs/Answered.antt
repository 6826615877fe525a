-- What reading a list says of derivations.
use Rattle.std.proofs.Common.{◌≡◌, ℕ, ◌+◌, ◌-◌, ◌≤◌, inl, inr, List, [], ◌∷◌, ◌++◌, take, length, refl, sym, ap, ◌∙◌, subst, arith, append_assoc}
use Rattle.std.specs.Prelude.{max, Err}
use Rattle.std.proofs.lemmas.List.{append-nil}
use Rattle.sx_term.specs.Tree.{Tree}
use Rattle.sx_rules.specs.Rules.{Rule, Hypotheses}
use Rattle.sx_rules.specs.Modes.{Modes, Goal, AllModed}
use Rattle.sx_rules.specs.Orders.{Entry, order_of}
use Rattle.sx_replay.specs.declared.noted.Noted.{Noted}
use Rattle.sx_replay.specs.declared.replay_error.ReplayError.{ReplayError}
use Rattle.sx_replay.specs.declared.replay_error.ReplayError.TheVariants.{Memory, WrongAt, EndsEarly, LongList, TooDeep, TooBig, DeepList}
use Rattle.sx_replay.specs.Limits.{note, nothing_noted}
use Rattle.sx_replay.specs.Fronts.{unbegun, partial_height, DerivationStage, open_one, whole, IsFront}
use Rattle.sx_replay.specs.Replay.{IsWithin, IsReached, IsFitting, IsReplayed}
use Rattle.sx_replay.specs.Machine.{ReplayFrame, Move, clash, ends, asks, entry_move, ReplayReading, wrong, open_at, ended, read}
use Rattle.sx_replay.specs.Following.{reading, StandsOpen, StandsWhole, StandsAt, StandsBefore, IsRefused}
use Rattle.sx_replay.proofs.Completed.{reads, begun_read}
use Rattle.sx_replay.proofs.Sounded.{IsStack, open_front, front_as, IsSound, entry_sound}

-- the reading that a front has
abbrev pub IsReadingOf : DerivationStage → Noted → ℕ → ReplayReading → Type 0
IsReadingOf open_one n d wrong = ⊥
IsReadingOf open_one n d (open_at g fs m e) = (n ≡ m) × (d ≡ e)
IsReadingOf open_one n d (ended outs m e rest) = ⊥
IsReadingOf (whole outs) n d wrong = ⊥
IsReadingOf (whole outs) n d (open_at g fs m e) = ⊥
IsReadingOf (whole outs) n d (ended others m e rest) = (outs ≡ others) × (n ≡ m) × (d ≡ e) × (rest ≡ [])

module _ (modes : Modes) (rules : List Rule) (hyps : Hypotheses) (moded : AllModed modes rules) (goal : Goal) where
  pub front_reads : (stage : DerivationStage) (list : List Entry) (terms : List Tree) (d : ℕ) → IsFront modes rules hyps goal stage list terms d →
      IsReadingOf stage (note nothing_noted terms) d (reading modes rules hyps goal list)
  front_reads open_one list terms d (f, begun_one, order, height) =
      let r = begun_read modes rules hyps moded f goal terms begun_one [] nothing_noted 0 (omega arith) in
      let e : reading modes rules hyps goal list ≡ open_at r.0 r.1 (note nothing_noted terms) (max 0 (0 + partial_height f)) = ap (reading modes rules hyps goal) (sym order) ∙ r.2 in
      subst (λ (x : ReplayReading). IsReadingOf open_one (note nothing_noted terms) d x) (sym e) (refl, (omega arith))
  front_reads (whole outs) list terms d (p, derives, order, made, height) =
      let r = reads modes rules hyps moded p goal outs derives [] nothing_noted 0 [] (omega arith) in
      let e = ap (reading modes rules hyps goal) (sym order ∙ sym (append-nil (order_of p))) ∙ r in
      subst (λ (x : ReplayReading). IsReadingOf (whole outs) (note nothing_noted terms) d x) (sym e) (refl, ap (note nothing_noted) (sym made), (omega arith), refl)

  -- what a reading stands for
  abbrev IsSoundReading : ReplayReading → List Entry → Type 0
  IsSoundReading wrong list = Unit {0}
  IsSoundReading (open_at g fs n d) list = (terms : List Tree) × IsStack modes rules hyps goal fs g list terms d × (n ≡ note nothing_noted terms)
  IsSoundReading (ended outs n d rest) list = rest ≡ [] → (terms : List Tree) × IsFront modes rules hyps goal (whole outs) list terms d × (n ≡ note nothing_noted terms)

  read_sound : (xs : List Entry) (d : ℕ) (m : Move) (list : List Entry) → IsSound modes rules hyps goal m list d → IsSoundReading (read modes rules hyps xs d m) (list ++ xs)
  read_sound [] d clash list s = tt
  read_sound (e ∷ xs) d clash list s = tt
  read_sound [] d (ends outs n) list s = λ q.
      subst (λ (ys : List Entry). (terms : List Tree) × IsFront modes rules hyps goal (whole outs) ys terms d × (n ≡ note nothing_noted terms)) (sym (append-nil list)) s
  read_sound (e ∷ xs) d (ends outs n) list s = λ q. cc
  read_sound [] d (asks g fs n) list s =
      subst (λ (ys : List Entry). (terms : List Tree) × IsStack modes rules hyps goal fs g ys terms d × (n ≡ note nothing_noted terms)) (sym (append-nil list)) s
  read_sound (e ∷ xs) d (asks g fs n) list (terms, stack, en) =
      let s = entry_sound modes rules hyps goal moded e fs g list terms d stack in
      let t = subst (λ (m : Noted). IsSound modes rules hyps goal (entry_move modes hyps rules e g fs m) (list ++ (e ∷ [])) (max d (length fs + 1))) (sym en) s in
      subst (λ (ys : List Entry). IsSoundReading (read modes rules hyps xs (max d (length fs + 1)) (entry_move modes hyps rules e g fs n)) ys) (append_assoc list (e ∷ []) xs)
      (read_sound xs (max d (length fs + 1)) (entry_move modes hyps rules e g fs n) (list ++ (e ∷ [])) t)

  stack_level : (fs : List ReplayFrame) (g : Goal) (list : List Entry) (terms : List Tree) (d : ℕ) → IsStack modes rules hyps goal fs g list terms d → length fs ≤ d
  stack_level [] g list terms d s = omega arith
  stack_level (f ∷ fs) g list terms d (j, before, w, ep, eg, et) = let dw = w.d_is in omega arith

  reading_sound : (list : List Entry) → IsSoundReading (reading modes rules hyps goal list) list
  reading_sound list = read_sound list 0 (asks goal [] nothing_noted) [] ([], (refl, refl, refl, refl), refl)

  pub open_is_front : (list : List Entry) (g : Goal) (fs : List ReplayFrame) (n : Noted) (d : ℕ) → reading modes rules hyps goal list ≡ open_at g fs n d →
      (terms : List Tree) × IsFront modes rules hyps goal open_one list terms d × (n ≡ note nothing_noted terms)
  open_is_front list g fs n d e =
      let s = subst (λ (r : ReplayReading). IsSoundReading r list) e (reading_sound list) in
      let l = stack_level fs g list s.0 d s.1 in
      let f = open_front modes rules hyps goal fs g list s.0 d s.1 unbegun [] refl in
      (s.0, front_as modes rules hyps goal open_one (list ++ []) list (s.0 ++ []) s.0 (max d (length fs + 0)) d (append-nil list) (append-nil s.0) (omega arith) f, s.2)

  pub whole_is_front : (list : List Entry) (outs : List Tree) (n : Noted) (d : ℕ) → reading modes rules hyps goal list ≡ ended outs n d [] →
      (terms : List Tree) × IsFront modes rules hyps goal (whole outs) list terms d × (n ≡ note nothing_noted terms)
  whole_is_front list outs n d e = subst (λ (r : ReplayReading). IsSoundReading r list) e (reading_sound list) refl

  pub open_within : (list : List Entry) → StandsOpen modes rules hyps goal list → IsWithin modes rules hyps goal open_one list
  open_within list (g, fs, d, e, l) =
      let f = open_is_front list g fs nothing_noted d e in
      record { terms = f.0; depth = d; front = f.1; shallow = sym (ap (λ (n : Noted). n.deep) f.2); small = sym (ap (λ (n : Noted). n.big) f.2); level = l }

  pub whole_within : (list : List Entry) (outs : List Tree) → StandsWhole modes rules hyps goal list outs → IsWithin modes rules hyps goal (whole outs) list
  whole_within list outs (d, e, l) =
      let f = whole_is_front list outs nothing_noted d e in
      record { terms = f.0; depth = d; front = f.1; shallow = sym (ap (λ (n : Noted). n.deep) f.2); small = sym (ap (λ (n : Noted). n.big) f.2); level = l }

  reached : (list : List Entry) (k : ℕ) → StandsBefore modes rules hyps goal list k → IsReached modes rules hyps goal list k
  reached list k (a, b, o) = record { first = a; last = b; before = open_within (take (k - 1) list) o }

  fitting : (list : List Entry) (k : ℕ) (n : Noted) (d : ℕ) → StandsBefore modes rules hyps goal list k → StandsAt modes rules hyps goal (take k list) n d →
      (terms : List Tree) × IsFitting modes rules hyps goal list k terms d × (n ≡ note nothing_noted terms)
  fitting list k n d b (inl (g, fs, e)) =
      let f = open_is_front (take k list) g fs n d e in
      (f.0, record { reached = reached list k b; stage = open_one; front = f.1 }, f.2)
  fitting list k n d b (inr (outs, e)) =
      let f = whole_is_front (take k list) outs n d e in
      (f.0, record { reached = reached list k b; stage = whole outs; front = f.1 }, f.2)

  no_reading : (stage : DerivationStage) (n : Noted) (d : ℕ) → IsReadingOf stage n d wrong → ⊥
  no_reading open_one n d h = h
  no_reading (whole outs) n d h = h

  pub refusal_is : (list : List Entry) (err : ReplayError) → IsRefused modes rules hyps goal list err → IsReplayed modes rules hyps goal list (Err err)
  refusal_is list Memory h = tt
  refusal_is list (WrongAt k) (b, e) =
      (reached list k b, λ stage terms d f. no_reading stage (note nothing_noted terms) d (subst (λ (r : ReplayReading). IsReadingOf stage (note nothing_noted terms) d r) e (front_reads stage (take k list) terms d f)))
  refusal_is list EndsEarly h = open_within list h
  refusal_is list (LongList k) (a, b, (outs, w)) = (a, b, (outs, whole_within (take (k - 1) list) outs w))
  refusal_is list (DeepList k) (n, d, b, st, l) =
      let f = fitting list k n d b st in
      (f.0, d, f.1, l)
  refusal_is list (TooDeep m) (k, n, d, b, st, l, e) =
      let f = fitting list k n d b st in
      (k, f.0, d, f.1, l, sym (ap (λ (x : Noted). x.deep) f.2) ∙ e)
  refusal_is list (TooBig m) (k, n, d, b, st, l, e, g) =
      let f = fitting list k n d b st in
      (k, f.0, d, f.1, l, sym (ap (λ (x : Noted). x.deep) f.2) ∙ e, sym (ap (λ (x : Noted). x.big) f.2) ∙ g)
