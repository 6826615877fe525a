-- How one extension rule is checked. The variables of the rule are constants.
use Rattle.std.specs.Prelude.{
  ◌≡◌,
  ℕ,
  ◌-◌,
  ◌^◌,
  ◌⊎◌,
  min,
  Bool,
  true,
  false,
  List,
  [],
  ◌∷◌,
  Option,
  Some,
  None,
  option_map,
  Result,
  Ok,
  Err,
  is_none,
  if◌then◌else◌,
}
use Rattle.sx_term.specs.Tree.{Tree}
use Rattle.sx_rules.specs.Modes.{goal_of, outputs_of}
use Rattle.sx_rules.specs.Discipline.{subjects_of}
use Rattle.sx_rules.specs.Derivations.{Proof}
use Rattle.sx_plain.specs.Plain.{Table, image}
use Rattle.sx_plain.specs.Adds.{first_uncovered}
use Rattle.sx_derive.specs.Blames.{blame_of}
use Rattle.sx_derive.specs.Search.{Ending, found, stopped, spent as no_tries, exhausted}
use Rattle.sx_derive.specs.Walk.{depth_spent, too_deep as deep_term, too_big as big_term}
use Rattle.sx_rewrite.specs.Accepted.{ExtRule, Checked, Accepted, extended_rules, Signature}
use Rattle.sx_rewrite.specs.PlainRules.{plain_of}
use Rattle.sx_rewrite.specs.Rewriting.{
  RewriteRefusal,
  Rewritten,
  IsRewritten,
  spent,
  deep,
  too_deep,
  too_big,
  first_over,
}
use Rattle.sx_rewrite.specs.Sound.{flat_given, flat_goal}
use Rattle.sx_extcheck.specs.declared.rule_refusal.RuleRefusal.{RuleRefusal}
use Rattle.sx_extcheck.specs.declared.rule_refusal.RuleRefusal.TheVariants.{
  Rejected,
  BudgetSpent,
  DepthSpent,
  TooDeep,
  TooBig,
  RewriteSpent,
  RewriteDeep,
}
use Rattle.sx_extcheck.specs.FlatTerms.{flat_terms}
use Rattle.sx_extcheck.specs.Searches.{Search, ending_of, tries_in, StuckIn}
use Rattle.sx_rules.specs.Limits.{most_levels}

-- What a rule is checked against: the set before its extension, with the plain table of the
-- extension; labels below the number are base. A walk makes at most so many tries, and a lowered
-- derivation has at most so many nodes.
pub record Check : Type 0 where
  pub sig : Signature
  pub labels : ℕ
  pub set : Accepted
  pub tries : ℕ
  pub nodes : ℕ

-- whether there is no body, or its typed syntax is base
abbrev pub has_base_syntax : ℕ → Table → Option Tree → Bool
has_base_syntax n table None = true
has_base_syntax n table (Some body) = is_none (first_uncovered n table body)

module _ (c : Check) (ext : ExtRule) where
  -- whether the base rules alone are taken
  abbrev pub by_base : Bool
  by_base = has_base_syntax c.labels c.set.table ext.body

  -- what is searched for: the flat conclusion's outputs, from the flat premises, by the base
  -- rules, or by these and the plain rules of the set
  abbrev pub search_for : Search
  search_for =
      let j = flat_goal c.set.table c.sig.subjects ext in
      record {
        modes = c.sig.modes;
        subjects = c.sig.subjects;
        rules = if by_base then c.set.base else extended_rules (plain_of c.set);
        hyps = flat_given c.set.table c.sig.subjects ext;
        goal = goal_of c.sig.modes j;
        wanted = outputs_of c.sig.modes j;
      }

  -- the first measured term that passes a limit
  abbrev pub over_for : Option RewriteRefusal
  over_for = first_over (flat_terms c.set.table c.sig.subjects ext)

  -- how many tries the rule takes: those of its walk, or none where a measured term passes a limit
  abbrev pub tries_for : ℕ
  tries_for = if is_none over_for then tries_in search_for c.tries else 0

  -- no measured term passes a limit, and the walk ends so
  abbrev pub EndsSo : Ending → Type 0
  EndsSo ending = (over_for ≡ None) × (ending_of search_for c.tries ≡ ending)

  -- the derivation by base and plain rules that the walk finds is rewritten to this
  abbrev pub IsLowered : Result Rewritten RewriteRefusal → Type 0
  IsLowered answer =
      (by_base ≡ false) × (p : Proof) × (outs : List Tree) × EndsSo (found (p, outs))
      × IsRewritten (plain_of c.set) c.sig.subjects search_for.hyps p c.nodes answer

  -- the first derivation by the base rules is stored with the plain image of the body
  abbrev pub IsStoredByBase : Checked → Type 0
  IsStoredByBase s =
      (by_base ≡ true) × (p : Proof) × (outs : List Tree) × EndsSo (found (p, outs))
      × (s ≡ record { rule = ext.rule; body = option_map (image c.set.table) ext.body; proof = p })

  -- what the first derivation by base and plain rules is lowered to is stored, with the subject
  -- of what that derives
  abbrev pub IsStoredLowered : Checked → Type 0
  IsStoredLowered s =
      (x : Rewritten) × IsLowered (Ok x)
      × (t : Tree) × (subjects_of c.sig.subjects x.judgement ≡ t ∷ [])
      × (s ≡ record { rule = ext.rule; body = Some t; proof = x.proof })

  -- what is stored of the rule
  abbrev pub IsStoredFor : Checked → Type 0
  IsStoredFor s = IsStoredByBase s ⊎ IsStoredLowered s

  -- why the rule is refused
  abbrev pub IsRefusedFor : RuleRefusal → Type 0
  IsRefusedFor (Rejected b) = EndsSo exhausted × StuckIn search_for (blame_of b)
  IsRefusedFor (BudgetSpent n) = EndsSo no_tries × (n ≡ c.tries)
  IsRefusedFor (DepthSpent n) = EndsSo (stopped depth_spent) × (n ≡ most_levels)
  IsRefusedFor (TooDeep n) =
      (over_for ≡ Some (too_deep n))
      ⊎ ((depth : ℕ) × EndsSo (stopped (deep_term depth)) × (n ≡ min depth (2 ^ 64 - 1)))
      ⊎ IsLowered (Err (too_deep n))
  IsRefusedFor (TooBig n) =
      (over_for ≡ Some (too_big n))
      ⊎ ((size : ℕ) × EndsSo (stopped (big_term size)) × (n ≡ min size (2 ^ 64 - 1)))
      ⊎ IsLowered (Err (too_big n))
  IsRefusedFor (RewriteSpent n) = IsLowered (Err spent) × (n ≡ c.nodes)
  IsRefusedFor RewriteDeep = IsLowered (Err deep)
