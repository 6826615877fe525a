-- Where no line of a file is left.
use Rattle.std.proofs.Common.{◌≡◌, ℕ, List, [], ◌∷◌, ◌++◌, refl, sym, ap, subst, ◌∙◌, append-nil}
use Rattle.sx_directives.specs.declared.file_kind.FileKind.{FileKind}
use Rattle.sx_outline.specs.Declarations.{Declared}
use Rattle.sx_outline.specs.Stages.{Numbered, PlainData, RuleData, Begun, Stage, at_start, at_declarations, at_body, at_plains, at_rules, at_premises, at_conclusion, at_end, IsWhole}
use Rattle.sx_outline.specs.Structure.{AreDeclarations, ArePlainPairs, AreRuleRows}
use Rattle.sx_outline.proofs.LinesDeclared.{none_first}
use Rattle.sx_outline.proofs.LeftLines.{Whole, LeftPremises, IsRestOfPairs, IsLeft}

-- no rule has no lines
no_rules : (kind : FileKind) (rules : List RuleData) → AreRuleRows kind [] rules → rules ≡ []
no_rules kind [] h = refl
no_rules kind (r ∷ rules) (front, back, e, lines, more) =
    absurd (none_first lines.first ((r.premises ++ lines.bar ∷ r.conclusion ∷ lines.bodies ++ lines.last ∷ []) ++ back) (e ∙ ap (λ (x : List Numbered). x ++ back) lines.lines_are))

no_plains : (kind : FileKind) (known : Declared) (pairs rule_lines : List Numbered) (plains : List PlainData) → [] ≡ pairs ++ rule_lines → ArePlainPairs kind known pairs plains → plains ≡ []
no_plains kind known [] rule_lines [] e h = refl
no_plains kind known [] rule_lines (p ∷ plains) e h = absurd h
no_plains kind known (l ∷ pairs) rule_lines plains e h = absurd (none_first l (pairs ++ rule_lines) e)

end_declared : (kind : FileKind) (known d : Declared) (declarations others : List Numbered) → [] ≡ declarations ++ others → AreDeclarations kind known d declarations known → d ≡ known
end_declared kind known d [] others e h = h
end_declared kind known d (l ∷ declarations) others e h = absurd (none_first l (declarations ++ others) e)

end_lines : (front back : List Numbered) → [] ≡ front ++ back → back ≡ []
end_lines [] back e = sym e
end_lines (l ∷ front) back e = absurd (none_first l (front ++ back) e)

all_rules : (rules more : List RuleData) (o : Whole) → o.rules ≡ rules ++ more → more ≡ [] → rules ≡ o.rules
all_rules rules more o e n = sym (e ∙ ap (λ (x : List RuleData). rules ++ x) n ∙ append-nil rules)

all_plains : (plains more : List PlainData) (o : Whole) → o.plains ≡ plains ++ more → more ≡ [] → plains ≡ o.plains
all_plains plains more o e n = sym (e ∙ ap (λ (x : List PlainData). plains ++ x) n ∙ append-nil plains)

-- the state has all that the file states
pub record IsAll (known : Declared) (o : Whole) (at : Stage) (d : Declared) (plains : List PlainData) (rules : List RuleData) : Type 0 where
  pub whole : IsWhole at
  pub declared : d ≡ known
  pub plains_are : plains ≡ o.plains
  pub rules_are : rules ≡ o.rules

pairs_whole : (kind : FileKind) (known : Declared) (at : Stage) (d : Declared) (plains : List PlainData) (rules : List RuleData) (o : Whole) (lines : List Numbered) → [] ≡ lines → IsWhole at
    → IsRestOfPairs kind known d plains rules o lines → IsAll known o at d plains rules
pairs_whole kind known at d plains rules o lines e whole h =
    let none : [] ≡ h.pairs ++ h.rule_lines = e ∙ h.lines_are in
    record {
      whole = whole;
      declared = h.declared;
      plains_are = all_plains plains h.more_plains o h.plains_are (no_plains kind known h.pairs h.rule_lines h.more_plains none h.pairs_are);
      rules_are = all_rules rules h.more o h.rules_are (no_rules kind h.more (subst (λ x. AreRuleRows kind x h.more) (end_lines h.pairs h.rule_lines none) h.are));
    }

-- what is left of a rule has a line
premises_left : (kind : FileKind) (b : Begun) (front back : List Numbered) (r : RuleData) → LeftPremises kind b front r → [] ≡ front ++ back → ⊥
premises_left kind b front back r h e = first_of h.premises (e ∙ ap (λ (x : List Numbered). x ++ back) h.front_is)
  where
    first_of : (premises : List Numbered) → [] ≡ (premises ++ h.bar ∷ r.conclusion ∷ h.bodies ++ h.last ∷ []) ++ back → ⊥
    first_of [] e = none_first h.bar (r.conclusion ∷ (h.bodies ++ h.last ∷ []) ++ back) e
    first_of (p ∷ premises) e = none_first p ((premises ++ h.bar ∷ r.conclusion ∷ h.bodies ++ h.last ∷ []) ++ back) e

bodies_left : (bodies : List Numbered) (last : Numbered) (back : List Numbered) → [] ≡ (bodies ++ last ∷ []) ++ back → ⊥
bodies_left [] last back e = none_first last back e
bodies_left (b ∷ bodies) last back e = none_first b ((bodies ++ last ∷ []) ++ back) e

pub ends_whole : (kind : FileKind) (known : Declared) (name : List ℕ) (at : Stage) (d : Declared) (plains : List PlainData) (rules : List RuleData) (o : Whole) → IsLeft kind known name at d plains rules o []
    → IsAll known o at d plains rules
ends_whole kind known name at_start d plains rules o h = absurd (none_first h.first h.others h.lines_are)
ends_whole kind known name at_declarations d plains rules o h =
    let same : d ≡ known = end_declared kind known d h.declarations h.others h.lines_are h.declared in
    let rest : IsAll known o at_declarations known plains rules =
    pairs_whole kind known at_declarations known plains rules o h.others (sym (end_lines h.declarations h.others h.lines_are)) tt h.rest in
    record { whole = tt; declared = same; plains_are = rest.plains_are; rules_are = rest.rules_are }
ends_whole kind known name (at_body b) d plains rules o h = absurd (none_first h.body h.others h.lines_are)
ends_whole kind known name at_plains d plains rules o h = pairs_whole kind known at_plains d plains rules o [] refl tt h
ends_whole kind known name at_rules d plains rules o h =
    record { whole = tt; declared = h.declared; plains_are = h.plains_are; rules_are = all_rules rules h.more o h.rules_are (no_rules kind h.more h.are) }
ends_whole kind known name (at_premises b) d plains rules o h = absurd (premises_left kind b h.front h.back h.rule h.left h.lines_are)
ends_whole kind known name (at_conclusion b) d plains rules o h =
    absurd (none_first h.rule.conclusion ((h.left.bodies ++ h.left.last ∷ []) ++ h.back) (h.lines_are ∙ ap (λ (x : List Numbered). x ++ h.back) h.left.front_is))
ends_whole kind known name (at_end r) d plains rules o h =
    absurd (bodies_left h.left.bodies h.left.last h.back (h.lines_are ∙ ap (λ (x : List Numbered). x ++ h.back) h.left.front_is))
