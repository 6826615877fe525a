-- The checker as a machine over plain data: what an entry leads to.
use Rattle.std.specs.Prelude.{ℕ, ◌+◌, ◌&&◌, max, Bool, true, false, List, [], ◌∷◌, length, Option}
use Rattle.std.specs.Prelude.{Some, None, slice_get, nat_eq}
use Rattle.sx_term.specs.Tree.{Tree}
use Rattle.sx_rules.specs.Instances.{instance}
use Rattle.sx_rules.specs.Rules.{Judgement, Premise, holds, apart, Rule, Hypotheses}
use Rattle.sx_rules.specs.Rules.{judgement_instance}
use Rattle.sx_rules.specs.Modes.{Modes, inputs_of, outputs_of, Goal, goal_of}
use Rattle.sx_rules.specs.Orders.{Entry, of_given, of_rule}
use Rattle.sx_arena.specs.Matching.{Assignment, nothing_bound, same_all, match_all, filled}
use Rattle.sx_arena.specs.Limits.{are_apart}
use Rattle.sx_replay.specs.declared.noted.Noted.{Noted}
use Rattle.sx_replay.specs.Limits.{note}

-- a rule whose premise is in work: the premises after it, the premise's outputs and the bindings
pub record ReplayFrame : Type 0 where
  pub rule : Rule
  pub rest : List Premise
  pub patterns : List Tree
  pub env : Assignment

-- what an entry leads to: nothing, the outputs of a whole derivation, or a goal with the frames
-- that wait for it
pub data Move : Type 0 where
  clash : Move
  ends : List Tree → Noted → Move
  asks : Goal → List ReplayFrame → Noted → Move

abbrev pub move_when : Bool → Move → Move
move_when true m = m
move_when false m = clash

abbrev pub move_matched : Option Assignment → (Assignment → Move) → Move
move_matched None f = clash
move_matched (Some env) f = f env

module _ (modes : Modes) (hyps : Hypotheses) where
  -- the premises from here on
  abbrev pub premises_move : (List Tree → Noted → Move) → List ReplayFrame → Rule → List Premise →
      Assignment → Noted → Move
  premises_move next frames rule [] env n =
      next (outputs_of modes (judgement_instance (filled env) rule.conclusion))
      (note n (outputs_of modes (judgement_instance (filled env) rule.conclusion)))
  premises_move next frames rule (apart t u ∷ ps) env n =
      move_when (are_apart hyps (instance (filled env) t) (instance (filled env) u))
      (premises_move next frames rule ps env n)
  premises_move next frames rule (holds j ∷ ps) env n =
      asks (goal_of modes (judgement_instance (filled env) j))
      (record { rule = rule; rest = ps; patterns = outputs_of modes j; env = env } ∷ frames)
      (note n (inputs_of modes (judgement_instance (filled env) j)))

  -- outputs handed to the frames that wait for them
  abbrev pub hand_on : List ReplayFrame → List Tree → Noted → Move
  hand_on [] outs n = ends outs n
  hand_on (f ∷ fs) outs n = move_matched (match_all f.patterns outs f.env)
      (λ env. premises_move (hand_on fs) fs f.rule f.rest env n)

  -- a hypothesis and a rule against a goal
  abbrev pub given_move : Judgement → Goal → List ReplayFrame → Noted → Move
  given_move j goal frames n = move_when (nat_eq j.form goal.form && same_all
      (inputs_of modes j) goal.terms) (hand_on frames (outputs_of modes j) n)

  abbrev pub rule_move : Rule → Goal → List ReplayFrame → Noted → Move
  rule_move rule goal frames n =
      move_when (nat_eq rule.conclusion.form goal.form)
      (move_matched (match_all (inputs_of modes rule.conclusion) goal.terms nothing_bound)
      (λ env. premises_move (hand_on frames) frames rule rule.premises env n))

  abbrev pub given_named : Option Judgement → Goal → List ReplayFrame → Noted → Move
  given_named None goal frames n = clash
  given_named (Some j) goal frames n = given_move j goal frames n

  abbrev pub rule_named : Option Rule → Goal → List ReplayFrame → Noted → Move
  rule_named None goal frames n = clash
  rule_named (Some rule) goal frames n = rule_move rule goal frames n

  -- an entry at a goal
  abbrev pub entry_move : List Rule → Entry → Goal → List ReplayFrame → Noted → Move
  entry_move rules (of_given i) goal frames n =
      given_named (slice_get hyps.judgements i) goal frames n
  entry_move rules (of_rule r) goal frames n = rule_named (slice_get rules r) goal frames n

-- where reading stands: at an entry that fits nothing, at a goal, or at the end of a derivation,
-- with the entries that are left over; the number is the greatest depth of an entry
pub data ReplayReading : Type 0 where
  wrong : ReplayReading
  open_at : Goal → List ReplayFrame → Noted → ℕ → ReplayReading
  ended : List Tree → Noted → ℕ → List Entry → ReplayReading

-- the entries read, from what the one before them led to
abbrev pub read : Modes → List Rule → Hypotheses → List Entry → ℕ → Move → ReplayReading
read modes rules hyps [] d clash = wrong
read modes rules hyps (e ∷ xs) d clash = wrong
read modes rules hyps [] d (ends outs n) = ended outs n d []
read modes rules hyps (e ∷ xs) d (ends outs n) = ended outs n d (e ∷ xs)
read modes rules hyps [] d (asks goal frames n) = open_at goal frames n d
read modes rules hyps (e ∷ xs) d (asks goal frames n) =
    read modes rules hyps xs (max d (length frames + 1))
    (entry_move modes hyps rules e goal frames n)
