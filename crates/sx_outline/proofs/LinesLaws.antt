-- The lines of a file whose lines lead to an end.
use Rattle.std.proofs.Common.{◌≡◌, ℕ, List, [], ◌∷◌, ◌++◌, Some, None, refl, sym, ap, subst, ◌∙◌, inl, inr, append_assoc, append-nil}
use Rattle.std.specs.List.{AllByRecursion}
use Rattle.sx_lines.specs.Lines.{Lines, over, line}
use Rattle.sx_directives.specs.declared.file_kind.FileKind.{FileKind}
use Rattle.sx_directives.specs.Rows.{IsRow}
use Rattle.sx_directives.specs.declared.rows.PlainLine.{PlainLine}
use Rattle.sx_directives.specs.declared.row.Row.{Row}
use Rattle.sx_directives.specs.declared.row.Row.TheVariants.{Sort, Prod, Var, Form, Main, Plain}
use Rattle.sx_directives.specs.declared.row.Row.TheVariants.{Rule, End, To}
use Rattle.sx_outline.specs.Declarations.{Declared, declare}
use Rattle.sx_outline.specs.Fitting.{ArePartNames, RowFits}
use Rattle.sx_outline.specs.Stages.{Numbered, PlainData, RuleData, Begun, begun_plain, Stage}
use Rattle.sx_outline.specs.Stages.{at_start, at_declarations, at_body, at_plains, at_rules}
use Rattle.sx_outline.specs.Stages.{at_premises, at_conclusion, at_end, State, StepsAt, IsBar}
use Rattle.sx_outline.specs.Stages.{IsWhole, MayStandAt, state_after_row, with_premise, with_body, concluded}
use Rattle.sx_outline.specs.Stages.{paired}
use Rattle.sx_outline.specs.Structure.{numbered_lines, IsDeclaring, AreBodies}
use Rattle.sx_outline.specs.Reading.{IsDeclaredAhead}
use Rattle.sx_outline.proofs.AheadLaws.{ahead_next, whole_known}
use Rattle.sx_outline.proofs.OutcomeSteps.{Reaches}
use Rattle.sx_outline.proofs.LeftLines.{Whole, IsRest, IsInRule, LeftPremises, LeftConclusion, LeftEnd, IsBodyLeft, IsInPair, IsRestOfPairs, IsRestOfFile, IsLeft, LeftAt}

-- ---- the end

none_of_pairs : (kind : FileKind) (known d : Declared) (plains : List PlainData) (rules : List RuleData) (o : Whole) → d ≡ known → plains ≡ o.plains → rules ≡ o.rules
    → IsRestOfPairs kind known d plains rules o []
none_of_pairs kind known d plains rules o e p r = record {
  pairs = [];
  rule_lines = [];
  lines_are = refl;
  declared = e;
  more_plains = [];
  plains_are = sym p ∙ sym (append-nil plains);
  pairs_are = tt;
  more = [];
  rules_are = sym r ∙ sym (append-nil rules);
  are = refl;
}

none_left : (kind : FileKind) (known : Declared) (name : List ℕ) (at : Stage) (d : Declared) (plains : List PlainData) (rules : List RuleData) (o : Whole) (n : ℕ) → IsDeclaredAhead kind at d (over n) known
    → IsWhole at → plains ≡ o.plains → rules ≡ o.rules → IsLeft kind known name at d plains rules o []
none_left kind known name at_start d plains rules o n ahead whole p e = absurd whole
none_left kind known name at_declarations d plains rules o n ahead whole p e = record {
  declarations = [];
  others = [];
  lines_are = refl;
  declared = whole_known kind at_declarations d known n ahead whole;
  rest = none_of_pairs kind known known plains rules o refl p e;
}
none_left kind known name (at_body b) d plains rules o n ahead whole p e = absurd whole
none_left kind known name at_plains d plains rules o n ahead whole p e = none_of_pairs kind known d plains rules o (whole_known kind at_plains d known n ahead whole) p e
none_left kind known name at_rules d plains rules o n ahead whole p e = record {
  declared = whole_known kind at_rules d known n ahead whole;
  plains_are = p;
  more = [];
  rules_are = sym e ∙ sym (append-nil rules);
  are = refl;
}
none_left kind known name (at_premises b) d plains rules o n ahead whole p e = absurd whole
none_left kind known name (at_conclusion b) d plains rules o n ahead whole p e = absurd whole
none_left kind known name (at_end r) d plains rules o n ahead whole p e = absurd whole

-- ---- one more line in front

-- the first line of a rule
begun_rule : (kind : FileKind) (known d : Declared) (plains : List PlainData) (rules : List RuleData) (o : Whole) (n : ℕ) (text name : List ℕ) (lines : List Numbered) → IsRow kind text (Rule name)
    → IsInRule (LeftPremises kind (record { number = n; name = name; premises = [] })) kind known d plains rules o lines
    → IsRest kind known d plains rules o (record { number = n; text = text } ∷ lines)
begun_rule kind known d plains rules o n text name lines spelled h =
    let l : Numbered = record { number = n; text = text } in
    record {
      declared = h.declared;
      plains_are = h.plains_are;
      more = h.rule ∷ h.more;
      rules_are = h.rules_are;
      are = (
        l ∷ h.front,
        h.back,
        ap (λ (x : List Numbered). l ∷ x) h.lines_are,
        record {
          first = l;
          bar = h.left.bar;
          bodies = h.left.bodies;
          last = h.left.last;
          lines_are = ap (λ (x : List Numbered). l ∷ x)
              (h.left.front_is ∙ ap (λ (x : List Numbered). x ++ h.left.bar ∷ h.rule.conclusion ∷ h.left.bodies ++ h.left.last ∷ []) (sym h.left.premises_are));
          number = h.left.number;
          begins = subst (λ (x : List ℕ). IsRow kind text (Rule x)) h.left.name spelled;
          premises = subst (λ (x : List Numbered). AllByRecursion (λ l. IsBar l.text → ⊥) x) (sym h.left.premises_are) h.left.plain;
          divides = h.left.divides;
          body = h.left.body;
          ends = h.left.ends;
        },
        h.are,
      );
    }

-- rules alone are what comes after the plain pairs
rules_alone : (kind : FileKind) (known d : Declared) (plains : List PlainData) (rules : List RuleData) (o : Whole) (lines : List Numbered) → IsRest kind known d plains rules o lines
    → IsRestOfPairs kind known d plains rules o lines
rules_alone kind known d plains rules o lines h = record {
  pairs = [];
  rule_lines = lines;
  lines_are = refl;
  declared = h.declared;
  more_plains = [];
  plains_are = sym h.plains_are ∙ sym (append-nil plains);
  pairs_are = tt;
  more = h.more;
  rules_are = h.rules_are;
  are = h.are;
}

-- the first line of a plain pair
begun_pair : (kind : FileKind) (known d : Declared) (plains : List PlainData) (rules : List RuleData) (o : Whole) (n : ℕ) (text : List ℕ) (row : PlainLine) (lines : List Numbered)
    → IsRow kind text (Plain row) → ArePartNames known row.label row.names.items → IsInPair kind known d (begun_plain n row) plains rules o lines
    → IsRestOfPairs kind known d plains rules o (record { number = n; text = text } ∷ lines)
begun_pair kind known d plains rules o n text row lines spelled fits h =
    let l : Numbered = record { number = n; text = text } in
    record {
      pairs = l ∷ h.body ∷ h.rest.pairs;
      rule_lines = h.rest.rule_lines;
      lines_are = ap (λ (x : List Numbered). l ∷ x) (h.lines_are ∙ ap (λ (x : List Numbered). h.body ∷ x) h.rest.lines_are);
      declared = h.rest.declared;
      more_plains = paired (begun_plain n row) h.body ∷ h.rest.more_plains;
      plains_are = h.rest.plains_are ∙ append_assoc plains (paired (begun_plain n row) h.body ∷ []) h.rest.more_plains;
      pairs_are = (record { row = row; spelled = spelled; fits = fits; is = refl }, h.rest.pairs_are);
      more = h.rest.more;
      rules_are = h.rest.rules_are;
      are = h.rest.are;
    }

-- where all is declared no more declarations come
none_declared : (kind : FileKind) (known d : Declared) (plains : List PlainData) (rules : List RuleData) (o : Whole) (lines : List Numbered) → IsRestOfPairs kind known d plains rules o lines
    → IsRestOfFile kind known d plains rules o lines
none_declared kind known d plains rules o lines h =
    record { declarations = []; others = lines; lines_are = refl; declared = h.declared; rest = subst (λ x. IsRestOfPairs kind known x plains rules o lines) h.declared h }

-- a declaration
declared_more : (kind : FileKind) (known d : Declared) (plains : List PlainData) (rules : List RuleData) (o : Whole) (l : Numbered) (row : Row) (lines : List Numbered) → IsRow kind l.text row
    → IsDeclaring row → RowFits known d row → IsRestOfFile kind known (declare d row) plains rules o lines → IsRestOfFile kind known d plains rules o (l ∷ lines)
declared_more kind known d plains rules o l row lines spelled declaring fits h = record {
  declarations = l ∷ h.declarations;
  others = h.others;
  lines_are = ap (λ (x : List Numbered). l ∷ x) h.lines_are;
  declared = (row, spelled, declaring, fits, h.declared);
  rest = h.rest;
}

declarations_row : (kind : FileKind) (known : Declared) (name : List ℕ) (d : Declared) (plains : List PlainData) (rules : List RuleData) (o : Whole) (n : ℕ) (text : List ℕ) (row : Row) (lines : List Numbered)
    → IsRow kind text row → RowFits known d row → MayStandAt at_declarations d.mains row
    → LeftAt kind known name o lines (state_after_row (record { stage = at_declarations; declared = d; plains = plains; rules = rules }) n row)
    → IsRestOfFile kind known d plains rules o (record { number = n; text = text } ∷ lines)
declarations_row kind known name d plains rules o n text (Sort s) lines spelled fits stands h =
    declared_more kind known d plains rules o (record { number = n; text = text }) (Sort s) lines spelled tt fits h
declarations_row kind known name d plains rules o n text (Prod p) lines spelled fits stands h =
    declared_more kind known d plains rules o (record { number = n; text = text }) (Prod p) lines spelled tt fits h
declarations_row kind known name d plains rules o n text (Var v) lines spelled fits stands h =
    declared_more kind known d plains rules o (record { number = n; text = text }) (Var v) lines spelled tt fits h
declarations_row kind known name d plains rules o n text (Form f) lines spelled fits stands h =
    declared_more kind known d plains rules o (record { number = n; text = text }) (Form f) lines spelled tt fits h
declarations_row kind known name d plains rules o n text (Main m) lines spelled fits stands h =
    declared_more kind known d plains rules o (record { number = n; text = text }) (Main m) lines spelled tt fits h
declarations_row kind known name d plains rules o n text (Plain row) lines spelled fits stands h =
    none_declared kind known d plains rules o (record { number = n; text = text } ∷ lines) (begun_pair kind known d plains rules o n text row lines spelled fits h)
declarations_row kind known name d plains rules o n text (Rule given) lines spelled fits stands h =
    let all : List Numbered = record { number = n; text = text } ∷ lines in
    none_declared kind known d plains rules o all (rules_alone kind known d plains rules o all (begun_rule kind known d plains rules o n text given lines spelled h))
declarations_row kind known name d plains rules o n text _ lines spelled fits stands h = absurd stands

plains_row : (kind : FileKind) (known : Declared) (name : List ℕ) (d : Declared) (plains : List PlainData) (rules : List RuleData) (o : Whole) (n : ℕ) (text : List ℕ) (row : Row) (lines : List Numbered)
    → IsRow kind text row → RowFits known d row → MayStandAt at_plains d.mains row
    → LeftAt kind known name o lines (state_after_row (record { stage = at_plains; declared = d; plains = plains; rules = rules }) n row)
    → IsRestOfPairs kind known d plains rules o (record { number = n; text = text } ∷ lines)
plains_row kind known name d plains rules o n text (Plain row) lines spelled fits stands h = begun_pair kind known d plains rules o n text row lines spelled fits h
plains_row kind known name d plains rules o n text (Rule given) lines spelled fits stands h =
    rules_alone kind known d plains rules o (record { number = n; text = text } ∷ lines) (begun_rule kind known d plains rules o n text given lines spelled h)
plains_row kind known name d plains rules o n text _ lines spelled fits stands h = absurd stands

rules_row : (kind : FileKind) (known : Declared) (name : List ℕ) (d : Declared) (plains : List PlainData) (rules : List RuleData) (o : Whole) (n : ℕ) (text : List ℕ) (row : Row) (lines : List Numbered)
    → IsRow kind text row → MayStandAt at_rules d.mains row
    → LeftAt kind known name o lines (state_after_row (record { stage = at_rules; declared = d; plains = plains; rules = rules }) n row)
    → IsRest kind known d plains rules o (record { number = n; text = text } ∷ lines)
rules_row kind known name d plains rules o n text (Rule given) lines spelled stands h = begun_rule kind known d plains rules o n text given lines spelled h
rules_row kind known name d plains rules o n text _ lines spelled stands h = absurd stands

some_none : (b : Numbered) → Some b ≡ None → ⊥
some_none b e = cc

-- a rule that has its body has no more
bodies_done : (kind : FileKind) (r : RuleData) (l : Numbered) (bodies : List Numbered) (rule : RuleData) → IsBodyLeft kind (with_body r l) bodies rule → (bodies ≡ []) × (with_body r l ≡ rule)
bodies_done kind r l [] rule h = (refl, h)
bodies_done kind r l (b ∷ bodies) rule h = absurd (some_none l h.0)

end_row : (kind : FileKind) (known : Declared) (name : List ℕ) (r : RuleData) (d : Declared) (plains : List PlainData) (rules : List RuleData) (o : Whole) (n : ℕ) (text : List ℕ) (row : Row) (lines : List Numbered)
    → IsRow kind text row → MayStandAt (at_end r) d.mains row
    → LeftAt kind known name o lines (state_after_row (record { stage = at_end r; declared = d; plains = plains; rules = rules }) n row)
    → IsInRule (LeftEnd kind r) kind known d plains rules o (record { number = n; text = text } ∷ lines)
end_row kind known name r d plains rules o n text End lines spelled stands h =
    let l : Numbered = record { number = n; text = text } in
    record {
      rule = r;
      front = l ∷ [];
      back = lines;
      lines_are = refl;
      left = record { bodies = []; last = l; front_is = refl; body = refl; ends = spelled };
      declared = h.declared;
      plains_are = h.plains_are;
      more = h.more;
      rules_are = h.rules_are ∙ append_assoc rules (r ∷ []) h.more;
      are = h.are;
    }
end_row kind known name r d plains rules o n text (To body) lines spelled stands h =
    let l : Numbered = record { number = n; text = text } in
    let b : Numbered = record { number = n; text = body } in
    let done = bodies_done kind r b h.left.bodies h.rule h.left.body in
    record {
      rule = h.rule;
      front = l ∷ h.front;
      back = h.back;
      lines_are = ap (λ (x : List Numbered). l ∷ x) h.lines_are;
      left = record {
        bodies = l ∷ [];
        last = h.left.last;
        front_is = ap (λ (x : List Numbered). l ∷ x) (h.left.front_is ∙ ap (λ (x : List Numbered). x ++ h.left.last ∷ []) done.0);
        body = (stands, b, done.1, (spelled, refl));
        ends = h.left.ends;
      };
      declared = h.declared;
      plains_are = h.plains_are;
      more = h.more;
      rules_are = h.rules_are;
      are = h.are;
    }
end_row kind known name r d plains rules o n text _ lines spelled stands h = absurd stands

-- a line of a rule after its first
in_rule : (Old New : List Numbered → RuleData → Type 0) (kind : FileKind) (known d : Declared) (plains : List PlainData) (rules : List RuleData) (o : Whole) (l : Numbered) (lines : List Numbered)
    → ((front : List Numbered) (r : RuleData) → Old front r → New (l ∷ front) r) → IsInRule Old kind known d plains rules o lines → IsInRule New kind known d plains rules o (l ∷ lines)
in_rule Old New kind known d plains rules o l lines f h = record {
  rule = h.rule;
  front = l ∷ h.front;
  back = h.back;
  lines_are = ap (λ (x : List Numbered). l ∷ x) h.lines_are;
  left = f h.front h.rule h.left;
  declared = h.declared;
  plains_are = h.plains_are;
  more = h.more;
  rules_are = h.rules_are;
  are = h.are;
}

left_bar : (kind : FileKind) (b : Begun) (l : Numbered) → IsBar l.text → (front : List Numbered) (r : RuleData) → LeftConclusion kind b front r → LeftPremises kind b (l ∷ front) r
left_bar kind b l is front r h = record {
  premises = [];
  bar = l;
  bodies = h.bodies;
  last = h.last;
  front_is = ap (λ (x : List Numbered). l ∷ x) h.front_is;
  plain = tt;
  divides = is;
  body = h.body;
  ends = h.ends;
  number = h.number;
  name = h.name;
  premises_are = h.premises_are ∙ sym (append-nil b.premises);
}

left_premise : (kind : FileKind) (b : Begun) (l : Numbered) → (IsBar l.text → ⊥) → (front : List Numbered) (r : RuleData) → LeftPremises kind (with_premise b l) front r → LeftPremises kind b (l ∷ front) r
left_premise kind b l is front r h = record {
  premises = l ∷ h.premises;
  bar = h.bar;
  bodies = h.bodies;
  last = h.last;
  front_is = ap (λ (x : List Numbered). l ∷ x) h.front_is;
  plain = (is, h.plain);
  divides = h.divides;
  body = h.body;
  ends = h.ends;
  number = h.number;
  name = h.name;
  premises_are = h.premises_are ∙ append_assoc b.premises (l ∷ []) h.premises;
}

-- a rule with its conclusion, and what is left of it
record IsOf (kind : FileKind) (b : Begun) (l : Numbered) (bodies : List Numbered) (r : RuleData) : Type 0 where
  number : b.number ≡ r.number
  name : b.name ≡ r.name
  premises : r.premises ≡ b.premises
  conclusion : l ≡ r.conclusion
  body : AreBodies kind bodies r.body

of_conclusion : (kind : FileKind) (b : Begun) (l : Numbered) (bodies : List Numbered) (r : RuleData) → IsBodyLeft kind (concluded b l) bodies r → IsOf kind b l bodies r
of_conclusion kind b l [] r h = record {
  number = ap (λ (x : RuleData). x.number) h;
  name = ap (λ (x : RuleData). x.name) h;
  premises = sym (ap (λ (x : RuleData). x.premises) h);
  conclusion = ap (λ (x : RuleData). x.conclusion) h;
  body = subst (λ (x : RuleData). AreBodies kind [] x.body) h tt;
}
of_conclusion kind b l (first ∷ bodies) r h = record {
  number = ap (λ (x : RuleData). x.number) h.2;
  name = ap (λ (x : RuleData). x.name) h.2;
  premises = sym (ap (λ (x : RuleData). x.premises) h.2);
  conclusion = ap (λ (x : RuleData). x.conclusion) h.2;
  body = subst (λ (x : RuleData). AreBodies kind (first ∷ bodies) x.body) h.2 h.3;
}

left_conclusion : (kind : FileKind) (b : Begun) (l : Numbered) (front : List Numbered) (r : RuleData) → LeftEnd kind (concluded b l) front r → LeftConclusion kind b (l ∷ front) r
left_conclusion kind b l front r h =
    let of = of_conclusion kind b l h.bodies r h.body in
    record {
      bodies = h.bodies;
      last = h.last;
      front_is = ap (λ (x : List Numbered). l ∷ x) h.front_is ∙ ap (λ (x : Numbered). x ∷ h.bodies ++ h.last ∷ []) of.conclusion;
      body = of.body;
      ends = h.ends;
      number = of.number;
      name = of.name;
      premises_are = of.premises;
    }

left_before : (kind : FileKind) (known : Declared) (name : List ℕ) (at : Stage) (d : Declared) (plains : List PlainData) (rules : List RuleData) (o : Whole) (n : ℕ) (text : List ℕ) (lines : List Numbered) (t : State)
    → StepsAt at kind known name (record { stage = at; declared = d; plains = plains; rules = rules }) n text t → LeftAt kind known name o lines t
    → IsLeft kind known name at d plains rules o (record { number = n; text = text } ∷ lines)
left_before kind known name at_start d plains rules o n text lines t steps h =
    record { first = record { number = n; text = text }; others = lines; lines_are = refl; named = steps.0; rest = subst (LeftAt kind known name o lines) steps.1 h }
left_before kind known name at_declarations d plains rules o n text lines t (row, good, e) h =
    declarations_row kind known name d plains rules o n text row lines good.spelled good.fits good.stands (subst (LeftAt kind known name o lines) e h)
left_before kind known name (at_body b) d plains rules o n text lines t steps h =
    record { body = record { number = n; text = text }; others = lines; lines_are = refl; rest = subst (LeftAt kind known name o lines) steps h }
left_before kind known name at_plains d plains rules o n text lines t (row, good, e) h =
    plains_row kind known name d plains rules o n text row lines good.spelled good.fits good.stands (subst (LeftAt kind known name o lines) e h)
left_before kind known name at_rules d plains rules o n text lines t (row, good, e) h =
    rules_row kind known name d plains rules o n text row lines good.spelled good.stands (subst (LeftAt kind known name o lines) e h)
left_before kind known name (at_premises b) d plains rules o n text lines t (inl steps) h =
    in_rule (LeftConclusion kind b) (LeftPremises kind b) kind known d plains rules o (record { number = n; text = text }) lines (left_bar kind b (record { number = n; text = text }) steps.0)
    (subst (LeftAt kind known name o lines) steps.1 h)
left_before kind known name (at_premises b) d plains rules o n text lines t (inr steps) h =
    in_rule (LeftPremises kind (with_premise b (record { number = n; text = text }))) (LeftPremises kind b) kind known d plains rules o (record { number = n; text = text }) lines
    (left_premise kind b (record { number = n; text = text }) steps.0) (subst (LeftAt kind known name o lines) steps.1 h)
left_before kind known name (at_conclusion b) d plains rules o n text lines t steps h =
    in_rule (LeftEnd kind (concluded b (record { number = n; text = text }))) (LeftConclusion kind b) kind known d plains rules o (record { number = n; text = text }) lines
    (left_conclusion kind b (record { number = n; text = text })) (subst (LeftAt kind known name o lines) steps h)
left_before kind known name (at_end r) d plains rules o n text lines t (row, good, e) h =
    end_row kind known name r d plains rules o n text row lines good.spelled good.stands (subst (LeftAt kind known name o lines) e h)

-- what the lines are that lead to a state in which nothing is left open
pub left_of : (kind : FileKind) (known : Declared) (name : List ℕ) (s : State) (left : Lines) (t : State) (number : ℕ) (o : Whole) → IsDeclaredAhead kind s.stage s.declared left known
    → Reaches kind known name s left t number → IsWhole t.stage → t.plains ≡ o.plains → t.rules ≡ o.rules → LeftAt kind known name o (numbered_lines left) s
left_of kind known name s (over n) t number o ahead h whole p r =
    none_left kind known name s.stage s.declared s.plains s.rules o n ahead (subst (λ (x : State). IsWhole x.stage) (sym h.0) whole)
    (ap (λ (x : State). x.plains) h.0 ∙ p) (ap (λ (x : State). x.rules) h.0 ∙ r)
left_of kind known name s (line n text after more) t number o ahead (inl h) whole p r =
    left_before kind known name s.stage s.declared s.plains s.rules o n text (numbered_lines more) h.0 h.1
    (left_of kind known name h.0 more t number o (ahead_next kind name s n text after more known h.0 h.1 ahead) h.2 whole p r)
left_of kind known name s (line n text after more) t number o ahead (inr h) whole p r = absurd h.2
