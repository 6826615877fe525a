-- What lowering a node answers, by the numbers of its terms.
use Rattle.std.specs.Prelude.{◌≡◌, ℕ, ◌<◌, List, [], ◌∷◌, ◌⊎◌, length, Option, Some, None, Result}
use Rattle.std.specs.Prelude.{Ok, Err}
use Rattle.sx_term.specs.Tree.{Tree}
use Rattle.sx_term.specs.Instances.{instance, bound_by}
use Rattle.sx_rules.specs.Derivations.{Proofs}
use Rattle.sx_rules.specs.Discipline.{subjects_of}
use Rattle.sx_rules.specs.Modes.{Modes}
use Rattle.sx_rules.specs.Rules.{Hypotheses, judgements_of}
use Rattle.sx_arena.specs.Arena.{tree_at}
use Rattle.sx_rewrite.specs.declared.rewrite_error.RewriteError.{RewriteError}
use Rattle.sx_rewrite.specs.declared.rewrite_error.RewriteError.TheVariants.{Memory}
use Rattle.sx_rewrite.specs.Accepted.{Accepted, Known, rule_in}
use Rattle.sx_rewrite.specs.Lowering.{own_terms}
use Rattle.sx_rewrite.specs.Needed.{needed}
use Rattle.sx_rewrite.specs.PutImages.{images_for}
use Rattle.sx_rewrite.specs.PutSubjects.{ArePutBelow}
use Rattle.sx_rewrite.specs.Puts.{AreMadeOf, Tells}
use Rattle.sx_rewrite.specs.Rewriting.{first_over}
use Rattle.sx_rewrite.specs.Stored.{certificate_at}
use Rattle.sx_expand.specs.OwnSubjects.{own_judgement}

-- the first of the subjects, with these terms for its variables, stands at the number,
-- or there is none
abbrev pub IsInstanceAt : List Tree → List Tree → List Tree → Option ℕ → Type 0
IsInstanceAt terms made subjects None = subjects ≡ []
IsInstanceAt terms made subjects (Some i) =
    (t : Tree) × (rest : List Tree) × (subjects ≡ t ∷ rest)
    × (i < length terms) × (tree_at terms i ≡ instance (bound_by made) t)

-- a node by a rule of an accepted set over lowered kids, with the terms that are bound at it
pub record NodeOver : Type 0 where
  pub rule : ℕ
  pub known : Known
  pub binds : List Tree
  pub kids : Proofs
  pub count : ℕ

-- this is put for the variables of the node's rule
abbrev pub ArePutFor : Accepted → Modes → Hypotheses → NodeOver → List Tree → Type 0
ArePutFor a subjects hyps n more =
    ArePutBelow subjects a.base hyps (needed (certificate_at a n.rule))
    (judgements_of (rule_in n.known).premises) n.kids n.count
    (images_for a.table (rule_in n.known).sorts n.binds) more

-- No term of the node's own passes a limit, under what is put; and with the terms of these
-- that pass none the node's subject stands at the number.
pub record IsOwnSubject (a : Accepted) (subjects : Modes) (hyps : Hypotheses)
    (terms : List Tree) (n : NodeOver) (number : Option ℕ) : Type 0 where
  pub more : List Tree
  pub made : List Tree
  pub put : ArePutFor a subjects hyps n more
  pub made_are : AreMadeOf more made
  pub small : first_over (own_terms a.base (certificate_at a n.rule) n.rule more) ≡ None
  pub subject : IsInstanceAt terms made
      (subjects_of subjects (own_judgement a.table subjects n.known)) number

-- the error tells the first of the node's own terms that passes a limit, or out of memory
abbrev pub IsNodeRefused : Accepted → Modes → Hypotheses → NodeOver → RewriteError → Type 0
IsNodeRefused a subjects hyps n e =
    (e ≡ Memory) ⊎ (more : List Tree) × ArePutFor a subjects hyps n more
    × Tells (first_over (own_terms a.base (certificate_at a n.rule) n.rule more)) e

-- the node is lowered, or refused
abbrev pub IsNodeLowered : Accepted → Modes → Hypotheses → List Tree → NodeOver →
    Result (Option ℕ) RewriteError → Type 0
IsNodeLowered a subjects hyps terms n (Ok number) = IsOwnSubject a subjects hyps terms n number
IsNodeLowered a subjects hyps terms n (Err e) = IsNodeRefused a subjects hyps n e
