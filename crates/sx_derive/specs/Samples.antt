-- The first example: rules, hypotheses and goals that are worked out by hand.
use Rattle.std.specs.Prelude.{◌≡◌, true, false, List, [], ◌∷◌, Some, None}
use Rattle.sx_term.specs.declared.lex_kind.LexKind.TheVariants.{Id}
use Rattle.sx_term.specs.Tree.{Tree, node, lexeme, hole, none, ◌▹◌}
use Rattle.sx_term.specs.declared.sort.Sort.TheVariants.{Plain, Lex}
use Rattle.sx_rules.specs.Rules.{Judgement, holds, apart, Rule, no_hypotheses}
use Rattle.sx_rules.specs.Modes.{Modes, Goal, AllModed}
use Rattle.sx_rules.specs.Derivations.{by, no_more, ◌⊳◌}
use Rattle.sx_derive.specs.Walk.{events}
use Rattle.sx_derive.specs.Search.{found, exhausted, walk}

-- form 0 is typing with the environment, the subject and the type as an output; form 1 is lookup
abbrev pub sample_modes : Modes
sample_modes form = false ∷ false ∷ true ∷ []

-- the judgement that the term e has the type t in the environment c
abbrev pub has_type : Tree → Tree → Tree → Judgement
has_type c e t = record { form = 0; places = c ∷ e ∷ t ∷ [] }

-- the judgement that the environment c says of the name x that it has the type t
abbrev pub looks_up : Tree → Tree → Tree → Judgement
looks_up c x t = record { form = 1; places = c ∷ x ∷ t ∷ [] }

-- the environment with one more binding
abbrev pub bind_in : Tree → Tree → Tree → Tree
bind_in c x t = node 1 (c ▹ x ▹ t ▹ none)

-- the name as a term
abbrev pub var_of : Tree → Tree
var_of x = node 2 (x ▹ none)

-- the variable of the nearest binding, a variable further out, and a variable as a term
abbrev pub here_rule : Rule
here_rule = record {
  sorts = Plain 0 ∷ Lex Id ∷ Plain 1
      ∷ [];
  premises = [];
  conclusion = looks_up (bind_in (hole 0) (hole 1) (hole 2)) (hole 1) (hole 2);
}

-- a binding further out, past one of another name
abbrev pub there_rule : Rule
there_rule = record {
  sorts = Plain 0 ∷ Lex Id ∷ Plain 1 ∷ Lex Id ∷ Plain 1 ∷ [];
  premises = apart (hole 1) (hole 3) ∷ holds (looks_up (hole 0) (hole 1) (hole 2)) ∷ [];
  conclusion = looks_up (bind_in (hole 0) (hole 3) (hole 4)) (hole 1) (hole 2);
}

-- a name as a term has the type that the environment says
abbrev pub var_rule : Rule
var_rule = record {
  sorts = Plain 0 ∷ Lex Id ∷ Plain 1
      ∷ [];
  premises = holds (looks_up (hole 0) (hole 1) (hole 2)) ∷ [];
  conclusion = has_type (hole 0) (var_of (hole 1)) (hole 2);
}

-- the three rules
abbrev pub sample_rules : List Rule
sample_rules = here_rule ∷ there_rule ∷ var_rule ∷ []

-- the name x
abbrev pub x_name : Tree
x_name = lexeme Id (120 ∷ [])

-- the name y
abbrev pub y_name : Tree
y_name = lexeme Id (121 ∷ [])

-- the type Int
abbrev pub int_type : Tree
int_type = node 3 none

-- the type Str
abbrev pub str_type : Tree
str_type = node 4 none

-- the environment x : Int
abbrev pub outer : Tree
outer = bind_in (node 0 none) x_name int_type

-- the type of x in the environment x : Int , y : Str
abbrev pub sample_goal : Goal
sample_goal = record { form = 0; terms = bind_in outer y_name str_type ∷ var_of x_name ∷ [] }

-- the walk finds that x has the type Int, by the rules var, there and here
abbrev pub SampleIsFound : Type 0
SampleIsFound =
    AllModed sample_modes sample_rules
    × (walk None 100 (events sample_modes sample_rules no_hypotheses sample_goal 1)
    ≡ found (
      by 2 (bind_in outer y_name str_type ∷ x_name ∷ int_type ∷ [])
          (by 1 (outer ∷ x_name ∷ int_type ∷ y_name ∷ str_type ∷ [])
          (by 0 (node 0 none ∷ x_name ∷ int_type ∷ []) no_more ⊳ no_more) ⊳ no_more),
      int_type ∷ [],
    ))
    × (walk (Some (str_type ∷ [])) 100
    (events sample_modes sample_rules no_hypotheses sample_goal 1) ≡ exhausted)
