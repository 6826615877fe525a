-- Proofs and frames as chains of cells that share what they have in common.
use Rattle.std.specs.Prelude.{
  ◌≡◌,
  ℕ,
  zero,
  suc,
  ◌+◌,
  ◌≤◌,
  List,
  [],
  ◌∷◌,
  drop,
  length,
  get_or,
  slice_get,
  nat_eq,
  Bool,
  true,
  false,
  Option,
  Some,
  None,
}
use Rattle.sx_term.specs.Tree.{Tree}
use Rattle.sx_arena.specs.Matching.{Assignment, filled}
use Rattle.sx_rules.specs.Rules.{Judgement, Premise, holds, apart, Rule}
use Rattle.sx_rules.specs.Modes.{Modes, outputs_of}
use Rattle.sx_rules.specs.Derivations.{Proof, Proofs, by, given, no_more, ◌⊳◌}
use Rattle.sx_derive.specs.Walk.{first_values}
use Rattle.sx_derive.specs.Machine.{Frame, joined_proofs}
use Rattle.sx_derive.specs.declared.chains.Head.{Head}
use Rattle.sx_derive.specs.declared.chains.Head.TheVariants.{Given, By}
use Rattle.sx_derive.specs.declared.chains.Kid.{Kid}
use Rattle.sx_derive.specs.declared.chains.Waiting.{Waiting}
use Rattle.sx_arena.specs.Grown.{grown_from, CellsFit}
use Rattle.sx_arena.specs.Binds.{env_at}

-- a chain of proofs: 0 has none, and n + 1 is the one that ends with cell n
abbrev pub kids_at : List Proofs → ℕ → Proofs
kids_at ks zero = no_more
kids_at ks (suc i) = get_or ks i no_more

-- the proof that a head stands for: a hypothesis, or a rule with the values of its variables and
-- the proofs of its premises
abbrev pub head_proof : List Assignment → List Proofs → Head → Proof
head_proof es ks (Given number) = given number
head_proof es ks (By number variables env kids) =
    by number (first_values variables (filled (env_at es env))) (kids_at ks kids)

-- the chain of a cell: the one before it, with the proof of its head behind
abbrev pub kid_step : List Assignment → List Proofs → Kid → Proofs
kid_step es ks c = joined_proofs (kids_at ks c.before) (head_proof es ks c.head ⊳ no_more)

-- the head names only bindings and proofs that are there
abbrev pub HeadFits : ℕ → ℕ → Head → Type 0
HeadFits envs kids (Given number) = Unit {0}
HeadFits envs kids (By number variables env of_kids) = (env ≤ envs) × (of_kids ≤ kids)

-- the cell names only what stands before it
pub record KidFits (es : List Assignment) (ks : List Proofs) (c : Kid) : Type 0 where
  pub head : HeadFits (length es) (length ks) c.head
  pub before : c.before ≤ length ks

-- the chains that cells make, in order
abbrev pub kid_chains : List Assignment → List Kid → List Proofs
kid_chains es cs = grown_from (kid_step es) [] cs

-- each cell names only what stands before it
abbrev pub AreKids : List Assignment → List Kid → Type 0
AreKids es cs = CellsFit (kid_step es) (KidFits es) [] cs

-- the frame of a cell: the rule is in work at a judgement premise
abbrev pub awaited_patterns : Modes → Option Premise → List Tree
awaited_patterns modes None = []
awaited_patterns modes (Some (holds j)) = outputs_of modes j
awaited_patterns modes (Some (apart t u)) = []

-- the rule of a number that has none
abbrev pub no_rule : Rule
no_rule = record { sorts = []; premises = []; conclusion = record { form = 0; places = [] } }

-- the frame of a cell whose rule is known
abbrev pub frame_at_rule : Modes → List Assignment → List Proofs → Rule → Waiting → Frame
frame_at_rule modes es ks rule c = record {
  number = c.rule;
  rule = rule;
  rest = drop (c.premise + 1) rule.premises;
  patterns = awaited_patterns modes (slice_get rule.premises c.premise);
  env = env_at es c.env;
  kids = kids_at ks c.kids;
  levels = c.levels;
}

-- the frame of a cell
abbrev pub frame_of : Modes → List Rule → List Assignment → List Proofs → Waiting → Frame
frame_of modes rules es ks c = frame_at_rule modes es ks (get_or rules c.rule no_rule) c

-- a chain of frames: 0 has none, and n + 1 is the one that begins with cell n
abbrev pub frames_at : List (List Frame) → ℕ → List Frame
frames_at fs zero = []
frames_at fs (suc i) = get_or fs i []

-- the frame of a cell before the chain that it goes on from
abbrev pub waiting_chain : Modes → List Rule → List Assignment → List Proofs → List (List Frame) →
    Waiting → List Frame
waiting_chain modes rules es ks fs c = frame_of modes rules es ks c ∷ frames_at fs c.before

-- the chain, or none where the number is that at which answers are handed out
abbrev pub chain_unless : Bool → List Frame → List Frame
chain_unless true fs = []
chain_unless false fs = fs

-- the chain of a cell, whose number is one more than there are cells before it: that of the number
-- at which answers are handed out is empty
abbrev pub waiting_step : Modes → List Rule → ℕ → List Assignment → List Proofs →
    List (List Frame) →
    Waiting → List Frame
waiting_step modes rules until es ks fs c =
    chain_unless (nat_eq (suc (length fs)) until) (waiting_chain modes rules es ks fs c)

-- the rule of a frame is there, and waits at a judgement premise
abbrev pub WaitsAt : List Rule → Waiting → Type 0
WaitsAt rules c =
    (rule : Rule) × (j : Judgement) × (slice_get rules c.rule ≡ Some rule)
    × (slice_get rule.premises c.premise ≡ Some (holds j))

-- the cell waits at a judgement premise of its rule, and names only what stands before it; where it
-- is past the number at which answers are handed out, it does not go on from before that
pub record WaitingFits (rules : List Rule) (until : ℕ) (es : List Assignment) (ks : List Proofs)
    (fs : List (List Frame)) (c : Waiting) : Type 0 where
  pub waits : WaitsAt rules c
  pub env : c.env ≤ length es
  pub kids : c.kids ≤ length ks
  pub before : c.before ≤ length fs
  pub above : until ≤ length fs → until ≤ c.before

-- the chains that cells make, in order
abbrev pub frames_of : Modes → List Rule → ℕ → List Assignment → List Proofs → List Waiting →
    List (List Frame)
frames_of modes rules until es ks cs = grown_from (waiting_step modes rules until es ks) [] cs

-- each cell fits those before it
abbrev pub AreFrames : Modes → List Rule → ℕ → List Assignment → List Proofs → List Waiting →
    Type 0
AreFrames modes rules until es ks cs =
    CellsFit (waiting_step modes rules until es ks) (WaitingFits rules until es ks) [] cs
