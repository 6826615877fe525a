-- What lines that are those of a file declare.
use Rattle.std.proofs.Common.{◌≡◌, Bool, false, List, [], ◌∷◌, ◌++◌, sym, ap, subst, ◌∙◌, inl}
use Rattle.sx_lines.specs.Lines.{Lines, over, line}
use Rattle.sx_directives.specs.declared.file_kind.FileKind.{FileKind}
use Rattle.sx_directives.specs.Rows.{IsRow}
use Rattle.sx_directives.specs.declared.row.Row.{Row}
use Rattle.sx_directives.specs.declared.row.Row.TheVariants.{Sort, Prod, Var, Form, Main, Plain}
use Rattle.sx_directives.specs.declared.row.Row.TheVariants.{Rule}
use Rattle.sx_outline.specs.Declarations.{Declared, declare}
use Rattle.sx_outline.specs.Known.{Declares, RowGoesOn}
use Rattle.sx_outline.specs.Stages.{Numbered, PlainData, RuleData}
use Rattle.sx_outline.specs.Structure.{numbered_lines, IsDeclaring, AreDeclarations, ArePlainPairs}
use Rattle.sx_outline.specs.Structure.{AreRuleRows}

pub none_first : (l : Numbered) (lines : List Numbered) → [] ≡ l ∷ lines → ⊥
none_first l lines e = cc

pub head_same : (a b : Numbered) (x y : List Numbered) → a ∷ x ≡ b ∷ y → a ≡ b
head_same a b x y e = cc

pub tail_same : (a b : Numbered) (x y : List Numbered) → a ∷ x ≡ b ∷ y → x ≡ y
tail_same a b x y e = cc

declares_rules : (kind : FileKind) (known d : Declared) (left : Lines) (rules : List RuleData) → d ≡ known → AreRuleRows kind (numbered_lines left) rules → Declares kind false d left known
declares_rules kind known d (over n) rules e h = sym e
declares_rules kind known d (line n text after more) [] e h = absurd (none_first (record { number = n; text = text }) (numbered_lines more) (sym h))
declares_rules kind known d (line n text after more) (r ∷ rules) e (front, back, parts, rule, others) =
    let l : Numbered = record { number = n; text = text } in
    let same : l ≡ rule.first =
    head_same l rule.first (numbered_lines more) ((r.premises ++ rule.bar ∷ r.conclusion ∷ rule.bodies ++ rule.last ∷ []) ++ back) (parts ∙ ap (λ (x : List Numbered). x ++ back) rule.lines_are) in
    inl (Rule r.name, subst (λ (x : Numbered). IsRow kind x.text (Rule r.name)) (sym same) rule.begins, sym e)

-- a plain pair declares nothing
declares_pairs : (kind : FileKind) (known d : Declared) (left : Lines) (pairs rule_lines : List Numbered) (plains : List PlainData) (rules : List RuleData) → numbered_lines left ≡ pairs ++ rule_lines
    → d ≡ known → ArePlainPairs kind known pairs plains → AreRuleRows kind rule_lines rules → Declares kind false d left known
declares_pairs kind known d left [] rule_lines plains rules e is pairs rest = declares_rules kind known d left rules is (subst (λ x. AreRuleRows kind x rules) (sym e) rest)
declares_pairs kind known d left (first ∷ []) rule_lines plains rules e is pairs rest = absurd pairs
declares_pairs kind known d left (first ∷ body ∷ pairs) rule_lines [] rules e is h rest = absurd h
declares_pairs kind known d (over n) (first ∷ body ∷ pairs) rule_lines (p ∷ plains) rules e is h rest = absurd (none_first first (body ∷ pairs ++ rule_lines) e)
declares_pairs kind known d (line n text after (over m)) (first ∷ body ∷ pairs) rule_lines (p ∷ plains) rules e is h rest =
    absurd (none_first body (pairs ++ rule_lines) (tail_same (record { number = n; text = text }) first [] (body ∷ pairs ++ rule_lines) e))
declares_pairs kind known d (line n text after (line m other later more)) (first ∷ body ∷ pairs) rule_lines (p ∷ plains) rules e is h rest =
    let here : Numbered = record { number = n; text = text } in
    let there : Numbered = record { number = m; text = other } in
    let same : here ≡ first = head_same here first (there ∷ numbered_lines more) (body ∷ pairs ++ rule_lines) e in
    let off : there ∷ numbered_lines more ≡ body ∷ pairs ++ rule_lines = tail_same here first (there ∷ numbered_lines more) (body ∷ pairs ++ rule_lines) e in
    inl (
      Plain h.0.row,
      subst (λ (x : Numbered). IsRow kind x.text (Plain h.0.row)) (sym same) h.0.spelled,
      declares_pairs kind known d more pairs rule_lines plains rules (tail_same there body (numbered_lines more) (pairs ++ rule_lines) off) is h.1 rest,
    )

goes_on : (d : Declared) (row : Row) (all : Declared) (Next : Bool → Declared → Type 0) → IsDeclaring row → Next false (declare d row) → RowGoesOn d row all Next
goes_on d (Sort s) all Next declaring h = h
goes_on d (Prod p) all Next declaring h = h
goes_on d (Var v) all Next declaring h = h
goes_on d (Form f) all Next declaring h = h
goes_on d (Main m) all Next declaring h = h
goes_on d _ all Next declaring h = absurd declaring

pub declares_of : (kind : FileKind) (known d : Declared) (left : Lines) (declarations pairs rule_lines : List Numbered) (plains : List PlainData) (rules : List RuleData)
    → numbered_lines left ≡ declarations ++ (pairs ++ rule_lines) → AreDeclarations kind known d declarations known → ArePlainPairs kind known pairs plains → AreRuleRows kind rule_lines rules
    → Declares kind false d left known
declares_of kind known d left [] pairs rule_lines plains rules e h are rest = declares_pairs kind known d left pairs rule_lines plains rules e h are rest
declares_of kind known d (over n) (first ∷ declarations) pairs rule_lines plains rules e h are rest = absurd (none_first first (declarations ++ (pairs ++ rule_lines)) e)
declares_of kind known d (line n text after more) (first ∷ declarations) pairs rule_lines plains rules e (row, spelled, declaring, fits, h) are rest =
    let here : Numbered = record { number = n; text = text } in
    let same : here ≡ first = head_same here first (numbered_lines more) (declarations ++ (pairs ++ rule_lines)) e in
    inl (
      row,
      subst (λ (x : Numbered). IsRow kind x.text row) (sym same) spelled,
      goes_on d row known (λ is_body next. Declares kind is_body next more known) declaring
          (declares_of kind known (declare d row) more declarations pairs rule_lines plains rules (tail_same here first (numbered_lines more) (declarations ++ (pairs ++ rule_lines)) e) h are rest),
    )
