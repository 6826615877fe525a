-- Lines that are those of a file lead to its end.
use Rattle.std.proofs.Common.{◌≡◌, ℕ, List, [], ◌∷◌, ◌++◌, Option, Some, None, refl, sym, ap, subst, ◌∙◌, inl, inr, append_assoc, append-nil}
use Rattle.std.specs.List.{AllByRecursion}
use Rattle.sx_directives.specs.declared.file_kind.FileKind.{FileKind}
use Rattle.sx_directives.specs.Rows.{IsRow}
use Rattle.sx_directives.specs.declared.rows.PlainLine.{PlainLine}
use Rattle.sx_directives.specs.declared.row.Row.{Row}
use Rattle.sx_directives.specs.declared.row.Row.TheVariants.{Sort, Prod, Var, Form, Main, Plain}
use Rattle.sx_directives.specs.declared.row.Row.TheVariants.{Rule, End, To}
use Rattle.sx_outline.specs.Declarations.{Declared, declare}
use Rattle.sx_outline.specs.Fitting.{ArePartNames, RowFits}
use Rattle.sx_outline.specs.Stages.{Numbered, PlainData, RuleData, Begun, BegunPlain, begun_plain}
use Rattle.sx_outline.specs.Stages.{Stage, at_start, at_declarations, at_body, at_plains, at_rules}
use Rattle.sx_outline.specs.Stages.{at_premises, at_conclusion, at_end, State, StepsAt, IsGoodRow}
use Rattle.sx_outline.specs.Stages.{IsBar, MayStandAt, state_after_row, at_stage as to, with_premise, with_body}
use Rattle.sx_outline.specs.Stages.{with_plain, concluded, paired, head_row}
use Rattle.sx_outline.specs.Structure.{IsDeclaring, AreBodies, AreDeclarations, ArePlainPairs, AreRuleRows}
use Rattle.sx_outline.specs.BadLines.{AreMains}
use Rattle.sx_outline.proofs.MainLines.{first_main, mains_stay}
use Rattle.sx_outline.proofs.LinesDeclared.{none_first, head_same, tail_same}
use Rattle.sx_outline.proofs.LeftLines.{Whole, IsRest, IsInRule, LeftPremises, LeftConclusion, IsBodyLeft, IsInPair, IsRestOfPairs, IsRestOfFile, IsLeft, LeftAt}

-- ---- one line

-- a line leads to a state whose lines are left
pub record LeadsOn (kind : FileKind) (known : Declared) (name : List ℕ) (at : Stage) (d : Declared) (plains : List PlainData) (rules : List RuleData) (o : Whole) (n : ℕ) (text : List ℕ) (lines : List Numbered) : Type 0 where
  pub next : State
  pub steps : StepsAt at kind known name (record { stage = at; declared = d; plains = plains; rules = rules }) n text next
  pub left : LeftAt kind known name o lines next

-- the first line of a rule
begin_rule : (kind : FileKind) (known d : Declared) (plains : List PlainData) (rules : List RuleData) (o : Whole) (n : ℕ) (text : List ℕ) (lines : List Numbered) (more : List RuleData) → d ≡ known
    → plains ≡ o.plains → o.rules ≡ rules ++ more → AreRuleRows kind (record { number = n; text = text } ∷ lines) more
    → (given : List ℕ) × IsRow kind text (Rule given) × IsInRule (LeftPremises kind (record { number = n; name = given; premises = [] })) kind known d plains rules o lines
begin_rule kind known d plains rules o n text lines [] e p are h = absurd (none_first (record { number = n; text = text }) lines (sym h))
begin_rule kind known d plains rules o n text lines (r ∷ more) e p are (front, back, parts, rule, others) =
    let l : Numbered = record { number = n; text = text } in
    let whole : l ∷ lines ≡ rule.first ∷ (r.premises ++ rule.bar ∷ r.conclusion ∷ rule.bodies ++ rule.last ∷ []) ++ back = parts ∙ ap (λ (x : List Numbered). x ++ back) rule.lines_are in
    let first : l ≡ rule.first = head_same l rule.first lines ((r.premises ++ rule.bar ∷ r.conclusion ∷ rule.bodies ++ rule.last ∷ []) ++ back) whole in (
      r.name,
      subst (λ (x : Numbered). IsRow kind x.text (Rule r.name)) (sym first) rule.begins,
      record {
        rule = r;
        front = r.premises ++ rule.bar ∷ r.conclusion ∷ rule.bodies ++ rule.last ∷ [];
        back = back;
        lines_are = tail_same l rule.first lines ((r.premises ++ rule.bar ∷ r.conclusion ∷ rule.bodies ++ rule.last ∷ []) ++ back) whole;
        left = record {
          premises = r.premises;
          bar = rule.bar;
          bodies = rule.bodies;
          last = rule.last;
          front_is = refl;
          plain = rule.premises;
          divides = rule.divides;
          body = rule.body;
          ends = rule.ends;
          number = ap (λ (x : Numbered). x.number) first ∙ rule.number;
          name = refl;
          premises_are = refl;
        };
        declared = e;
        plains_are = p;
        more = more;
        rules_are = are;
        are = others;
      },
    )

good_rule : (kind : FileKind) (known : Declared) (at : Stage) (d : Declared) (plains : List PlainData) (rules : List RuleData) (text given : List ℕ) → IsRow kind text (Rule given)
    → MayStandAt at d.mains (Rule given) → IsGoodRow kind known (record { stage = at; declared = d; plains = plains; rules = rules }) text (Rule given)
good_rule kind known at d plains rules text given spelled stands = record { spelled = spelled; fits = tt; stands = stands; main = tt }

rules_lead : (kind : FileKind) (known : Declared) (name : List ℕ) (d : Declared) (plains : List PlainData) (rules : List RuleData) (o : Whole) (n : ℕ) (text : List ℕ) (lines : List Numbered)
    → IsRest kind known d plains rules o (record { number = n; text = text } ∷ lines) → LeadsOn kind known name at_rules d plains rules o n text lines
rules_lead kind known name d plains rules o n text lines h =
    let rule = begin_rule kind known d plains rules o n text lines h.more h.declared h.plains_are h.rules_are h.are in
    record {
      next = state_after_row (record { stage = at_rules; declared = d; plains = plains; rules = rules }) n (Rule rule.0);
      steps = (Rule rule.0, good_rule kind known at_rules d plains rules text rule.0 rule.1 tt, refl);
      left = rule.2;
    }

-- ---- plain pairs

-- the next plain pair begins, or the first rule
data PairsOn (kind : FileKind) (known d : Declared) (plains : List PlainData) (rules : List RuleData) (o : Whole) (n : ℕ) (text : List ℕ) (lines : List Numbered) : Type 0 where
  by_plain : (row : PlainLine) → IsRow kind text (Plain row) → ArePartNames known row.label row.names.items → IsInPair kind known d (begun_plain n row) plains rules o lines
      → PairsOn kind known d plains rules o n text lines
  by_rule : (given : List ℕ) → IsRow kind text (Rule given) → IsInRule (LeftPremises kind (record { number = n; name = given; premises = [] })) kind known d plains rules o lines
      → PairsOn kind known d plains rules o n text lines

pair_on : (kind : FileKind) (known d : Declared) (plains : List PlainData) (rules : List RuleData) (o : Whole) (n : ℕ) (text : List ℕ) (lines pairs rule_lines : List Numbered)
    (more_plains : List PlainData) (more : List RuleData) → record { number = n; text = text } ∷ lines ≡ pairs ++ rule_lines → d ≡ known → o.plains ≡ plains ++ more_plains
    → ArePlainPairs kind known pairs more_plains → o.rules ≡ rules ++ more → AreRuleRows kind rule_lines more → PairsOn kind known d plains rules o n text lines
pair_on kind known d plains rules o n text lines [] rule_lines [] more e declared plains_are pairs_are rules_are are =
    let rule = begin_rule kind known d plains rules o n text lines more declared (sym (plains_are ∙ append-nil plains)) rules_are (subst (λ x. AreRuleRows kind x more) (sym e) are) in
    by_rule rule.0 rule.1 rule.2
pair_on kind known d plains rules o n text lines [] rule_lines (p ∷ more_plains) more e declared plains_are pairs_are rules_are are = absurd pairs_are
pair_on kind known d plains rules o n text lines (first ∷ []) rule_lines more_plains more e declared plains_are pairs_are rules_are are = absurd pairs_are
pair_on kind known d plains rules o n text lines (first ∷ body ∷ pairs) rule_lines [] more e declared plains_are pairs_are rules_are are = absurd pairs_are
pair_on kind known d plains rules o n text lines (first ∷ body ∷ pairs) rule_lines (p ∷ more_plains) more e declared plains_are pairs_are rules_are are =
    let here : Numbered = record { number = n; text = text } in
    let same : here ≡ first = head_same here first lines (body ∷ pairs ++ rule_lines) e in
    let pair = pairs_are.0 in
    let is : p ≡ paired (begun_plain n pair.row) body = pair.is ∙ ap (λ (x : Numbered). paired (begun_plain x.number pair.row) body) (sym same) in
    by_plain pair.row (subst (λ (x : Numbered). IsRow kind x.text (Plain pair.row)) (sym same) pair.spelled) pair.fits
    (record {
      body = body;
      others = pairs ++ rule_lines;
      lines_are = tail_same here first lines (body ∷ pairs ++ rule_lines) e;
      rest = record {
        pairs = pairs;
        rule_lines = rule_lines;
        lines_are = refl;
        declared = declared;
        more_plains = more_plains;
        plains_are = plains_are ∙ ap (λ (x : PlainData). plains ++ x ∷ more_plains) is ∙ sym (append_assoc plains (paired (begun_plain n pair.row) body ∷ []) more_plains);
        pairs_are = pairs_are.1;
        more = more;
        rules_are = rules_are;
        are = are;
      };
    })

pairs_on : (kind : FileKind) (known d : Declared) (plains : List PlainData) (rules : List RuleData) (o : Whole) (n : ℕ) (text : List ℕ) (lines others : List Numbered)
    → record { number = n; text = text } ∷ lines ≡ others → IsRestOfPairs kind known d plains rules o others → PairsOn kind known d plains rules o n text lines
pairs_on kind known d plains rules o n text lines others e h =
    pair_on kind known d plains rules o n text lines h.pairs h.rule_lines h.more_plains h.more (e ∙ h.lines_are) h.declared h.plains_are h.pairs_are h.rules_are h.are

plains_lead : (kind : FileKind) (known : Declared) (name : List ℕ) (d : Declared) (plains : List PlainData) (rules : List RuleData) (o : Whole) (n : ℕ) (text : List ℕ) (lines : List Numbered)
    → PairsOn kind known d plains rules o n text lines → LeadsOn kind known name at_plains d plains rules o n text lines
plains_lead kind known name d plains rules o n text lines (by_plain row spelled fits h) = record {
  next = state_after_row (record { stage = at_plains; declared = d; plains = plains; rules = rules }) n (Plain row);
  steps = (Plain row, record { spelled = spelled; fits = fits; stands = tt; main = tt }, refl);
  left = h;
}
plains_lead kind known name d plains rules o n text lines (by_rule given spelled h) = record {
  next = state_after_row (record { stage = at_plains; declared = d; plains = plains; rules = rules }) n (Rule given);
  steps = (Rule given, good_rule kind known at_plains d plains rules text given spelled tt, refl);
  left = h;
}

undeclared_lead : (kind : FileKind) (known : Declared) (name : List ℕ) (d : Declared) (plains : List PlainData) (rules : List RuleData) (o : Whole) (n : ℕ) (text : List ℕ) (lines : List Numbered)
    → PairsOn kind known d plains rules o n text lines → LeadsOn kind known name at_declarations d plains rules o n text lines
undeclared_lead kind known name d plains rules o n text lines (by_plain row spelled fits h) = record {
  next = state_after_row (record { stage = at_declarations; declared = d; plains = plains; rules = rules }) n (Plain row);
  steps = (Plain row, record { spelled = spelled; fits = fits; stands = tt; main = tt }, refl);
  left = h;
}
undeclared_lead kind known name d plains rules o n text lines (by_rule given spelled h) = record {
  next = state_after_row (record { stage = at_declarations; declared = d; plains = plains; rules = rules }) n (Rule given);
  steps = (Rule given, good_rule kind known at_declarations d plains rules text given spelled tt, refl);
  left = h;
}

-- ---- declarations

-- a declaration other than a main line
declared_leads : (kind : FileKind) (known : Declared) (name : List ℕ) (d : Declared) (plains : List PlainData) (rules : List RuleData) (o : Whole) → AreMains known known.mains
    → (n : ℕ) (text : List ℕ) (row : Row) (declarations others lines : List Numbered) → lines ≡ declarations ++ others → IsRow kind text row → IsDeclaring row
    → RowFits known d row → AreDeclarations kind known (declare d row) declarations known → IsRestOfPairs kind known known plains rules o others
    → LeadsOn kind known name at_declarations d plains rules o n text lines
declared_leads kind known name d plains rules o mains n text (Sort s) declarations others lines e spelled declaring fits h rest = record {
  next = state_after_row (record { stage = at_declarations; declared = d; plains = plains; rules = rules }) n (Sort s);
  steps = (Sort s, record { spelled = spelled; fits = fits; stands = tt; main = tt }, refl);
  left = record { declarations = declarations; others = others; lines_are = e; declared = h; rest = rest };
}
declared_leads kind known name d plains rules o mains n text (Prod p) declarations others lines e spelled declaring fits h rest = record {
  next = state_after_row (record { stage = at_declarations; declared = d; plains = plains; rules = rules }) n (Prod p);
  steps = (Prod p, record { spelled = spelled; fits = fits; stands = tt; main = tt }, refl);
  left = record { declarations = declarations; others = others; lines_are = e; declared = h; rest = rest };
}
declared_leads kind known name d plains rules o mains n text (Var v) declarations others lines e spelled declaring fits h rest = record {
  next = state_after_row (record { stage = at_declarations; declared = d; plains = plains; rules = rules }) n (Var v);
  steps = (Var v, record { spelled = spelled; fits = fits; stands = tt; main = tt }, refl);
  left = record { declarations = declarations; others = others; lines_are = e; declared = h; rest = rest };
}
declared_leads kind known name d plains rules o mains n text (Form f) declarations others lines e spelled declaring fits h rest = record {
  next = state_after_row (record { stage = at_declarations; declared = d; plains = plains; rules = rules }) n (Form f);
  steps = (Form f, record { spelled = spelled; fits = fits; stands = tt; main = tt }, refl);
  left = record { declarations = declarations; others = others; lines_are = e; declared = h; rest = rest };
}
declared_leads kind known name d plains rules o mains n text (Main m) declarations others lines e spelled declaring fits h rest =
    let stay = mains_stay kind known (declare d (Main m)) known declarations h in
    let first = first_main known known.mains d.mains stay.0 m (stay.1 ∙ append_assoc d.mains (m ∷ []) stay.0) mains in
    record {
      next = state_after_row (record { stage = at_declarations; declared = d; plains = plains; rules = rules }) n (Main m);
      steps = (Main m, record { spelled = spelled; fits = fits; stands = first.0; main = first.1 }, refl);
      left = record { declarations = declarations; others = others; lines_are = e; declared = h; rest = rest };
    }
declared_leads kind known name d plains rules o mains n text _ declarations others lines e spelled declaring fits h rest = absurd declaring

declarations_lead : (kind : FileKind) (known : Declared) (name : List ℕ) (d : Declared) (plains : List PlainData) (rules : List RuleData) (o : Whole) → AreMains known known.mains
    → (n : ℕ) (text : List ℕ) (declarations others lines : List Numbered) → record { number = n; text = text } ∷ lines ≡ declarations ++ others → AreDeclarations kind known d declarations known
    → IsRestOfPairs kind known known plains rules o others → LeadsOn kind known name at_declarations d plains rules o n text lines
declarations_lead kind known name d plains rules o mains n text [] others lines e h rest =
    undeclared_lead kind known name d plains rules o n text lines
    (pairs_on kind known d plains rules o n text lines others e (subst (λ x. IsRestOfPairs kind known x plains rules o others) (sym h) rest))
declarations_lead kind known name d plains rules o mains n text (first ∷ declarations) others lines e (row, spelled, declaring, fits, h) rest =
    let here : Numbered = record { number = n; text = text } in
    let same : here ≡ first = head_same here first lines (declarations ++ others) e in
    declared_leads kind known name d plains rules o mains n text row declarations others lines (tail_same here first lines (declarations ++ others) e)
    (subst (λ (x : Numbered). IsRow kind x.text row) (sym same) spelled) declaring fits h rest

body_leads : (kind : FileKind) (known : Declared) (name : List ℕ) (b : BegunPlain) (d : Declared) (plains : List PlainData) (rules : List RuleData) (o : Whole) (n : ℕ) (text : List ℕ) (lines : List Numbered)
    → IsInPair kind known d b plains rules o (record { number = n; text = text } ∷ lines) → LeadsOn kind known name (at_body b) d plains rules o n text lines
body_leads kind known name b d plains rules o n text lines h =
    let here : Numbered = record { number = n; text = text } in
    let same : h.body ≡ here = sym (head_same here h.body lines h.others h.lines_are) in
    record {
      next = with_plain (record { stage = at_body b; declared = d; plains = plains; rules = rules }) (paired b here);
      steps = refl;
      left = subst (λ (x : Numbered). IsRestOfPairs kind known d (plains ++ paired b x ∷ []) rules o lines) same
          (subst (IsRestOfPairs kind known d (plains ++ paired b h.body ∷ []) rules o) (sym (tail_same here h.body lines h.others h.lines_are)) h.rest);
    }

-- ---- the lines of a rule

premises_lead : (kind : FileKind) (known : Declared) (name : List ℕ) (b : Begun) (d : Declared) (plains : List PlainData) (rules : List RuleData) (o : Whole) (n : ℕ) (text : List ℕ) (lines : List Numbered)
    (r : RuleData) (bar : Numbered) (bodies : List Numbered) (last : Numbered) (premises back : List Numbered) (more : List RuleData)
    → record { number = n; text = text } ∷ lines ≡ (premises ++ bar ∷ r.conclusion ∷ bodies ++ last ∷ []) ++ back
    → AllByRecursion (λ l. IsBar l.text → ⊥) premises → IsBar bar.text → AreBodies kind bodies r.body → IsRow kind last.text End → b.number ≡ r.number → b.name ≡ r.name → r.premises ≡ b.premises ++ premises
    → d ≡ known → plains ≡ o.plains → o.rules ≡ rules ++ r ∷ more → AreRuleRows kind back more → LeadsOn kind known name (at_premises b) d plains rules o n text lines
premises_lead kind known name b d plains rules o n text lines r bar bodies last [] back more e plain divides body ends number named premises_are declared plains_are are rest =
    let here : Numbered = record { number = n; text = text } in
    let same : here ≡ bar = head_same here bar lines (r.conclusion ∷ (bodies ++ last ∷ []) ++ back) e in
    record {
      next = to (record { stage = at_premises b; declared = d; plains = plains; rules = rules }) (at_conclusion b);
      steps = inl (subst (λ (x : Numbered). IsBar x.text) (sym same) divides, refl);
      left = record {
        rule = r;
        front = r.conclusion ∷ bodies ++ last ∷ [];
        back = back;
        lines_are = tail_same here bar lines (r.conclusion ∷ (bodies ++ last ∷ []) ++ back) e;
        left = record { bodies = bodies; last = last; front_is = refl; body = body; ends = ends; number = number; name = named; premises_are = premises_are ∙ append-nil b.premises };
        declared = declared;
        plains_are = plains_are;
        more = more;
        rules_are = are;
        are = rest;
      };
    }
premises_lead kind known name b d plains rules o n text lines r bar bodies last (p ∷ premises) back more e plain divides body ends number named premises_are declared plains_are are rest =
    let here : Numbered = record { number = n; text = text } in
    let same : here ≡ p = head_same here p lines ((premises ++ bar ∷ r.conclusion ∷ bodies ++ last ∷ []) ++ back) e in
    record {
      next = to (record { stage = at_premises b; declared = d; plains = plains; rules = rules }) (at_premises (with_premise b here));
      steps = inr (subst (λ (x : Numbered). IsBar x.text → ⊥) (sym same) plain.0, refl);
      left = record {
        rule = r;
        front = premises ++ bar ∷ r.conclusion ∷ bodies ++ last ∷ [];
        back = back;
        lines_are = tail_same here p lines ((premises ++ bar ∷ r.conclusion ∷ bodies ++ last ∷ []) ++ back) e;
        left = record {
          premises = premises;
          bar = bar;
          bodies = bodies;
          last = last;
          front_is = refl;
          plain = plain.1;
          divides = divides;
          body = body;
          ends = ends;
          number = number;
          name = named;
          premises_are = premises_are ∙ sym (append_assoc b.premises (p ∷ []) premises) ∙ ap (λ (x : Numbered). (b.premises ++ x ∷ []) ++ premises) (sym same);
        };
        declared = declared;
        plains_are = plains_are;
        more = more;
        rules_are = are;
        are = rest;
      };
    }

same_rule : (b : Begun) (l : Numbered) (r : RuleData) (body : Option Numbered) → b.number ≡ r.number → b.name ≡ r.name → r.premises ≡ b.premises → l ≡ r.conclusion → r.body ≡ body
    → r ≡ record { number = b.number; name = b.name; premises = b.premises; conclusion = l; body = body }
same_rule b l r body number named premises conclusion given =
    λ i. record { number = sym number i; name = sym named i; premises = premises i; conclusion = sym conclusion i; body = given i }

-- a rule with its conclusion has what is left as its body
body_left : (kind : FileKind) (b : Begun) (l : Numbered) (bodies : List Numbered) (r : RuleData) (body : Option Numbered) → r.body ≡ body → AreBodies kind bodies body → b.number ≡ r.number → b.name ≡ r.name
    → r.premises ≡ b.premises → l ≡ r.conclusion → IsBodyLeft kind (concluded b l) bodies r
body_left kind b l [] r None e h number named premises conclusion = sym (same_rule b l r None number named premises conclusion e)
body_left kind b l [] r (Some body) e h number named premises conclusion = absurd h
body_left kind b l (first ∷ bodies) r None e h number named premises conclusion = absurd (bodies_none kind first bodies h)
  where
    bodies_none : (kind : FileKind) (first : Numbered) (bodies : List Numbered) → AreBodies kind (first ∷ bodies) None → ⊥
    bodies_none kind first [] h = h
    bodies_none kind first (other ∷ bodies) h = h
body_left kind b l (first ∷ bodies) r (Some body) e h number named premises conclusion =
    (refl, body, sym (same_rule b l r (Some body) number named premises conclusion e), h)

conclusion_leads : (kind : FileKind) (known : Declared) (name : List ℕ) (b : Begun) (d : Declared) (plains : List PlainData) (rules : List RuleData) (o : Whole) (n : ℕ) (text : List ℕ) (lines : List Numbered)
    → IsInRule (LeftConclusion kind b) kind known d plains rules o (record { number = n; text = text } ∷ lines) → LeadsOn kind known name (at_conclusion b) d plains rules o n text lines
conclusion_leads kind known name b d plains rules o n text lines h =
    let here : Numbered = record { number = n; text = text } in
    let after : List Numbered = (h.left.bodies ++ h.left.last ∷ []) ++ h.back in
    let e : here ∷ lines ≡ h.rule.conclusion ∷ after = h.lines_are ∙ ap (λ (x : List Numbered). x ++ h.back) h.left.front_is in
    record {
      next = to (record { stage = at_conclusion b; declared = d; plains = plains; rules = rules }) (at_end (concluded b here));
      steps = refl;
      left = record {
        rule = h.rule;
        front = h.left.bodies ++ h.left.last ∷ [];
        back = h.back;
        lines_are = tail_same here h.rule.conclusion lines after e;
        left = record {
          bodies = h.left.bodies;
          last = h.left.last;
          front_is = refl;
          body = body_left kind b here h.left.bodies h.rule h.rule.body refl h.left.body h.left.number h.left.name h.left.premises_are (head_same here h.rule.conclusion lines after e);
          ends = h.left.ends;
        };
        declared = h.declared;
        plains_are = h.plains_are;
        more = h.more;
        rules_are = h.rules_are;
        are = h.are;
      };
    }

one_body : (kind : FileKind) (first : Numbered) (bodies : List Numbered) (b : Numbered) → AreBodies kind (first ∷ bodies) (Some b) → (bodies ≡ []) × IsRow kind first.text (To b.text) × (first.number ≡ b.number)
one_body kind first [] b h = (refl, h.0, h.1)
one_body kind first (other ∷ bodies) b h = absurd h

end_leads : (kind : FileKind) (known : Declared) (name : List ℕ) (given : RuleData) (d : Declared) (plains : List PlainData) (rules : List RuleData) (o : Whole) (n : ℕ) (text : List ℕ) (lines : List Numbered)
    (r : RuleData) (bodies : List Numbered) (last : Numbered) (back : List Numbered) (more : List RuleData) → record { number = n; text = text } ∷ lines ≡ (bodies ++ last ∷ []) ++ back
    → IsBodyLeft kind given bodies r → IsRow kind last.text End → d ≡ known → plains ≡ o.plains → o.rules ≡ rules ++ r ∷ more → AreRuleRows kind back more
    → LeadsOn kind known name (at_end given) d plains rules o n text lines
end_leads kind known name given d plains rules o n text lines r [] last back more e is ends declared plains_are are rest =
    let here : Numbered = record { number = n; text = text } in
    let same : here ≡ last = head_same here last lines back e in
    record {
      next = state_after_row (record { stage = at_end given; declared = d; plains = plains; rules = rules }) n End;
      steps = (End, record { spelled = subst (λ (x : Numbered). IsRow kind x.text End) (sym same) ends; fits = tt; stands = tt; main = tt }, refl);
      left = record {
        declared = declared;
        plains_are = plains_are;
        more = more;
        rules_are = are ∙ ap (λ (x : RuleData). rules ++ x ∷ more) (sym is) ∙ sym (append_assoc rules (given ∷ []) more);
        are = subst (λ x. AreRuleRows kind x more) (sym (tail_same here last lines back e)) rest;
      };
    }
end_leads kind known name given d plains rules o n text lines r (first ∷ bodies) last back more e (none, b, is, body) ends declared plains_are are rest =
    let here : Numbered = record { number = n; text = text } in
    let same : here ≡ first = head_same here first lines ((bodies ++ last ∷ []) ++ back) e in
    let one = one_body kind first bodies b body in
    let number : b.number ≡ n = sym one.2 ∙ ap (λ (x : Numbered). x.number) (sym same) in
    let line_is : record { number = n; text = b.text } ≡ b = λ i. record { number = sym number i; text = b.text } in
    record {
      next = state_after_row (record { stage = at_end given; declared = d; plains = plains; rules = rules }) n (To b.text);
      steps = (To b.text, record { spelled = subst (λ (x : Numbered). IsRow kind x.text (To b.text)) (sym same) one.1; fits = tt; stands = none; main = tt }, refl);
      left = record {
        rule = r;
        front = bodies ++ last ∷ [];
        back = back;
        lines_are = tail_same here first lines ((bodies ++ last ∷ []) ++ back) e;
        left = record {
          bodies = [];
          last = last;
          front_is = ap (λ (x : List Numbered). x ++ last ∷ []) one.0;
          body = ap (with_body given) line_is ∙ is;
          ends = ends;
        };
        declared = declared;
        plains_are = plains_are;
        more = more;
        rules_are = are;
        are = rest;
      };
    }

pub leads_on : (kind : FileKind) (known : Declared) (name : List ℕ) (at : Stage) (d : Declared) (plains : List PlainData) (rules : List RuleData) (o : Whole) → AreMains known known.mains
    → (n : ℕ) (text : List ℕ) (lines : List Numbered) → IsLeft kind known name at d plains rules o (record { number = n; text = text } ∷ lines) → LeadsOn kind known name at d plains rules o n text lines
leads_on kind known name at_start d plains rules o mains n text lines h =
    let here : Numbered = record { number = n; text = text } in
    record {
      next = to (record { stage = at_start; declared = d; plains = plains; rules = rules }) at_declarations;
      steps = (subst (λ (x : Numbered). IsRow kind x.text (head_row kind name)) (sym (head_same here h.first lines h.others h.lines_are)) h.named, refl);
      left = subst (IsRestOfFile kind known d plains rules o) (sym (tail_same here h.first lines h.others h.lines_are)) h.rest;
    }
leads_on kind known name at_declarations d plains rules o mains n text lines h =
    declarations_lead kind known name d plains rules o mains n text h.declarations h.others lines h.lines_are h.declared h.rest
leads_on kind known name (at_body b) d plains rules o mains n text lines h = body_leads kind known name b d plains rules o n text lines h
leads_on kind known name at_plains d plains rules o mains n text lines h =
    plains_lead kind known name d plains rules o n text lines (pairs_on kind known d plains rules o n text lines (record { number = n; text = text } ∷ lines) refl h)
leads_on kind known name at_rules d plains rules o mains n text lines h = rules_lead kind known name d plains rules o n text lines h
leads_on kind known name (at_premises b) d plains rules o mains n text lines h =
    premises_lead kind known name b d plains rules o n text lines h.rule h.left.bar h.left.bodies h.left.last h.left.premises h.back h.more (h.lines_are ∙ ap (λ (x : List Numbered). x ++ h.back) h.left.front_is)
    h.left.plain h.left.divides h.left.body h.left.ends h.left.number h.left.name h.left.premises_are h.declared h.plains_are h.rules_are h.are
leads_on kind known name (at_conclusion b) d plains rules o mains n text lines h = conclusion_leads kind known name b d plains rules o n text lines h
leads_on kind known name (at_end r) d plains rules o mains n text lines h =
    end_leads kind known name r d plains rules o n text lines h.rule h.left.bodies h.left.last h.back h.more (h.lines_are ∙ ap (λ (x : List Numbered). x ++ h.back) h.left.front_is)
    h.left.body h.left.ends h.declared h.plains_are h.rules_are h.are
