-- Lines that are as they should be lead on, to where nothing is left open.
use Rattle.std.proofs.Common.{◌≡◌, ℕ, List, [], ◌∷◌, ◌++◌, Option, Some, None, refl, sym, ap, subst, ◌∙◌, inl, inr, append_assoc}
use Rattle.std.specs.List.{AllByRecursion}
use Rattle.sx_directives.specs.declared.file_kind.FileKind.{FileKind}
use Rattle.sx_directives.specs.declared.file_kind.FileKind.TheVariants as files
use Rattle.sx_directives.specs.Rows.{IsRow}
use Rattle.sx_directives.specs.declared.rows.PlainLine.{PlainLine}
use Rattle.sx_directives.specs.declared.row.Row.TheVariants.{Sort, Prod, Var, Form, Main, Plain, Rule, End, To}
use Rattle.sx_outline.specs.Declarations.{Declared, nothing, declare}
use Rattle.sx_outline.specs.Fitting.{ArePartNames}
use Rattle.sx_outline.specs.Stages.{Numbered, PlainData, RuleData, Begun, Stage, at_declarations, at_plains, at_rules, at_premises, at_conclusion, at_end, State, start, start_after, StepsAt, IsBar, IsWhole, state_after_row, at_stage as to, begun_plain, paired, with_plain, with_premise, with_body, concluded, ended}
use Rattle.sx_outline.specs.Structure.{AreBodies, AreDeclarations, ArePlainPairs, AreRuleRows, AreRuleLines}
use Rattle.sx_outline.specs.BadLines.{AreMains, AreLinesAmong, AreLanguageLines}
use Rattle.sx_outline.proofs.Led.{Leads, leads_append}
use Rattle.sx_outline.proofs.MainLines.{first_main, mains_stay}

-- nothing is left open after these lines
pub record LeadsOut (kind : FileKind) (known : Declared) (name : List ℕ) (s : State) (lines : List Numbered) (Is : Stage → Type 0) : Type 0 where
  pub last : State
  pub leads : Leads kind known name s lines last
  pub is : Is last.stage
  pub keeps : last.declared ≡ s.declared

-- ---- declarations

abbrev declaring_at : Declared → List PlainData → List RuleData → State
declaring_at d plains rules = record { stage = at_declarations; declared = d; plains = plains; rules = rules }

pub declarations_lead : (kind : FileKind) (known : Declared) (name : List ℕ) (d all : Declared) (plains : List PlainData) (rules : List RuleData) (lines : List Numbered)
    → AreDeclarations kind known d lines all → AreMains known all.mains → Leads kind known name (declaring_at d plains rules) lines (declaring_at all plains rules)
declarations_lead kind known name d all plains rules [] h mains = ap (λ (x : Declared). declaring_at x plains rules) h
declarations_lead kind known name d all plains rules (l ∷ lines) (Sort s, spelled, declaring, fits, h) mains = (
  declaring_at (declare d (Sort s)) plains rules,
  (Sort s, record { spelled = spelled; fits = fits; stands = tt; main = tt }, refl),
  declarations_lead kind known name (declare d (Sort s)) all plains rules lines h mains,
)
declarations_lead kind known name d all plains rules (l ∷ lines) (Prod p, spelled, declaring, fits, h) mains = (
  declaring_at (declare d (Prod p)) plains rules,
  (Prod p, record { spelled = spelled; fits = fits; stands = tt; main = tt }, refl),
  declarations_lead kind known name (declare d (Prod p)) all plains rules lines h mains,
)
declarations_lead kind known name d all plains rules (l ∷ lines) (Var v, spelled, declaring, fits, h) mains = (
  declaring_at (declare d (Var v)) plains rules,
  (Var v, record { spelled = spelled; fits = fits; stands = tt; main = tt }, refl),
  declarations_lead kind known name (declare d (Var v)) all plains rules lines h mains,
)
declarations_lead kind known name d all plains rules (l ∷ lines) (Form f, spelled, declaring, fits, h) mains = (
  declaring_at (declare d (Form f)) plains rules,
  (Form f, record { spelled = spelled; fits = fits; stands = tt; main = tt }, refl),
  declarations_lead kind known name (declare d (Form f)) all plains rules lines h mains,
)
declarations_lead kind known name d all plains rules (l ∷ lines) (Main m, spelled, declaring, fits, h) mains =
    let stay = mains_stay kind known (declare d (Main m)) all lines h in
    let first = first_main known all.mains d.mains stay.0 m (stay.1 ∙ append_assoc d.mains (m ∷ []) stay.0) mains in (
      declaring_at (declare d (Main m)) plains rules,
      (Main m, record { spelled = spelled; fits = fits; stands = first.0; main = first.1 }, refl),
      declarations_lead kind known name (declare d (Main m)) all plains rules lines h mains,
    )
declarations_lead kind known name d all plains rules (l ∷ lines) (_, spelled, declaring, fits, h) mains = absurd declaring

-- ---- plain pairs

-- a plain pair may begin here
abbrev pub IsBeforePairs : Stage → Type 0
IsBeforePairs at_declarations = Unit {0}
IsBeforePairs at_plains = Unit {0}
IsBeforePairs _ = ⊥

plain_step : (at : Stage) (kind : FileKind) (known : Declared) (name : List ℕ) (d : Declared) (plains : List PlainData) (rules : List RuleData) (n : ℕ) (text : List ℕ) (row : PlainLine)
    → IsBeforePairs at → IsRow kind text (Plain row) → ArePartNames known row.label row.names.items
    → let s : State = record { stage = at; declared = d; plains = plains; rules = rules } in StepsAt at kind known name s n text (state_after_row s n (Plain row))
plain_step at_declarations kind known name d plains rules n text row is spelled fits = (Plain row, record { spelled = spelled; fits = fits; stands = tt; main = tt }, refl)
plain_step at_plains kind known name d plains rules n text row is spelled fits = (Plain row, record { spelled = spelled; fits = fits; stands = tt; main = tt }, refl)
plain_step _ kind known name d plains rules n text row is spelled fits = absurd is

pub pairs_lead : (kind : FileKind) (known : Declared) (name : List ℕ) (s : State) (pairs : List Numbered) (stated : List PlainData) → IsBeforePairs s.stage → ArePlainPairs kind known pairs stated
    → LeadsOut kind known name s pairs IsBeforePairs
pairs_lead kind known name s [] stated is h = record { last = s; leads = refl; is = is; keeps = refl }
pairs_lead kind known name s (first ∷ []) stated is h = absurd h
pairs_lead kind known name s (first ∷ body ∷ pairs) [] is h = absurd h
pairs_lead kind known name s (first ∷ body ∷ pairs) (p ∷ stated) is h =
    let pair = h.0 in
    let one : State = state_after_row s first.number (Plain pair.row) in
    let two : State = with_plain one (paired (begun_plain first.number pair.row) body) in
    let rest = pairs_lead kind known name two pairs stated tt h.1 in
    record {
      last = rest.last;
      leads = (one, plain_step s.stage kind known name s.declared s.plains s.rules first.number first.text pair.row is pair.spelled pair.fits, (two, refl, rest.leads));
      is = rest.is;
      keeps = rest.keeps;
    }

-- ---- rules

-- a rule may begin here
abbrev pub IsBeforeRules : Stage → Type 0
IsBeforeRules at_declarations = Unit {0}
IsBeforeRules at_plains = Unit {0}
IsBeforeRules at_rules = Unit {0}
IsBeforeRules _ = ⊥

pub pairs_before_rules : (at : Stage) → IsBeforePairs at → IsBeforeRules at
pairs_before_rules at_declarations h = tt
pairs_before_rules at_plains h = tt
pairs_before_rules _ h = absurd h

pub whole_before_rules : (at : Stage) → IsBeforeRules at → IsWhole at
whole_before_rules at_declarations h = tt
whole_before_rules at_plains h = tt
whole_before_rules at_rules h = tt
whole_before_rules _ h = absurd h

rule_step : (at : Stage) (kind : FileKind) (known : Declared) (name : List ℕ) (d : Declared) (plains : List PlainData) (rules : List RuleData) (n : ℕ) (text given : List ℕ)
    → IsBeforeRules at → IsRow kind text (Rule given)
    → let s : State = record { stage = at; declared = d; plains = plains; rules = rules } in StepsAt at kind known name s n text (state_after_row s n (Rule given))
rule_step at_declarations kind known name d plains rules n text given is spelled = (Rule given, record { spelled = spelled; fits = tt; stands = tt; main = tt }, refl)
rule_step at_plains kind known name d plains rules n text given is spelled = (Rule given, record { spelled = spelled; fits = tt; stands = tt; main = tt }, refl)
rule_step at_rules kind known name d plains rules n text given is spelled = (Rule given, record { spelled = spelled; fits = tt; stands = tt; main = tt }, refl)
rule_step _ kind known name d plains rules n text given is spelled = absurd is

-- premises of a rule
record PremisesLead (kind : FileKind) (known : Declared) (name : List ℕ) (s : State) (b : Begun) (lines : List Numbered) : Type 0 where
  last : Begun
  leads : Leads kind known name (to s (at_premises b)) lines (to s (at_premises last))

premises_lead : (kind : FileKind) (known : Declared) (name : List ℕ) (s : State) (b : Begun) (lines : List Numbered) → AllByRecursion (λ l. IsBar l.text → ⊥) lines
    → PremisesLead kind known name s b lines
premises_lead kind known name s b [] h = record { last = b; leads = refl }
premises_lead kind known name s b (l ∷ lines) h =
    let next : Begun = with_premise b l in
    let rest = premises_lead kind known name s next lines h.1 in
    record { last = rest.last; leads = (to s (at_premises next), inr (h.0, refl), rest.leads) }

-- the lines after the conclusion of a rule
bodies_lead : (kind : FileKind) (known : Declared) (name : List ℕ) (s : State) (r : RuleData) (bodies : List Numbered) (last : Numbered) (body : Option Numbered) → r.body ≡ None
    → AreBodies kind bodies body → IsRow kind last.text End → LeadsOut kind known name (to s (at_end r)) (bodies ++ last ∷ []) IsBeforeRules
bodies_lead kind known name s r [] last None e h ends =
    let t : State = to s (at_end r) in
    record { last = ended t (at_end r); leads = (ended t (at_end r), (End, record { spelled = ends; fits = tt; stands = tt; main = tt }, refl), refl); is = tt; keeps = refl }
bodies_lead kind known name s r [] last (Some b) e h ends = absurd h
bodies_lead kind known name s r (l ∷ []) last None e h ends = absurd h
bodies_lead kind known name s r (l ∷ []) last (Some b) e h ends =
    let with : RuleData = with_body r (record { number = l.number; text = b.text }) in
    let one : State = to s (at_end with) in
    let two : State = ended one (at_end with) in
    record {
      last = two;
      leads = (one, (To b.text, record { spelled = h.0; fits = tt; stands = e; main = tt }, refl), (two, (End, record { spelled = ends; fits = tt; stands = tt; main = tt }, refl), refl));
      is = tt;
      keeps = refl;
    }
bodies_lead kind known name s r (l ∷ m ∷ lines) last body e h ends = absurd h

-- the lines of a rule
rule_leads : (kind : FileKind) (known : Declared) (name : List ℕ) (s : State) (lines : List Numbered) (r : RuleData) → IsBeforeRules s.stage → AreRuleLines kind lines r
    → LeadsOut kind known name s lines IsBeforeRules
rule_leads kind known name s lines r is h =
    let first : Begun = record { number = h.first.number; name = r.name; premises = [] } in
    let begins : Leads kind known name s (h.first ∷ []) (to s (at_premises first)) =
    (to s (at_premises first), rule_step s.stage kind known name s.declared s.plains s.rules h.first.number h.first.text r.name is h.begins, refl) in
    let premises = premises_lead kind known name s first r.premises h.premises in
    let done : RuleData = concluded premises.last r.conclusion in
    let last = bodies_lead kind known name s done h.bodies h.last r.body refl h.body h.ends in
    let own : List Numbered = h.bar ∷ r.conclusion ∷ (h.bodies ++ h.last ∷ []) in
    let ends : Leads kind known name (to s (at_premises premises.last)) own last.last =
    (to s (at_conclusion premises.last), inl (h.divides, refl), (to s (at_end done), refl, last.leads)) in
    let after_first : Leads kind known name (to s (at_premises first)) (r.premises ++ own) last.last =
    leads_append kind known name (to s (at_premises first)) (to s (at_premises premises.last)) last.last r.premises own premises.leads ends in
    let parts : lines ≡ h.first ∷ (r.premises ++ own) = h.lines_are ∙ ap (λ (x : List Numbered). h.first ∷ x) (append_assoc r.premises (h.bar ∷ r.conclusion ∷ h.bodies) (h.last ∷ [])) in
    record {
      last = last.last;
      leads = subst (λ (x : List Numbered). Leads kind known name s x last.last) (sym parts)
          (leads_append kind known name s (to s (at_premises first)) last.last (h.first ∷ []) (r.premises ++ own) begins after_first);
      is = last.is;
      keeps = last.keeps;
    }

pub rules_lead : (kind : FileKind) (known : Declared) (name : List ℕ) (s : State) (lines : List Numbered) (rules : List RuleData) → IsBeforeRules s.stage → AreRuleRows kind lines rules
    → LeadsOut kind known name s lines IsBeforeRules
rules_lead kind known name s lines [] is h = record { last = s; leads = subst (λ (x : List Numbered). Leads kind known name s x s) (sym h) refl; is = is; keeps = refl }
rules_lead kind known name s lines (r ∷ rules) is (front, back, parts, h, others) =
    let one = rule_leads kind known name s front r is h in
    let rest = rules_lead kind known name one.last back rules one.is others in
    record {
      last = rest.last;
      leads = subst (λ (x : List Numbered). Leads kind known name s x rest.last) (sym parts) (leads_append kind known name s one.last rest.last front back one.leads rest.leads);
      is = rest.is;
      keeps = rest.keeps ∙ one.keeps;
    }

-- ---- all of them

-- after these lines so much is declared, and nothing is left open
pub record LeadsTo (kind : FileKind) (known : Declared) (name : List ℕ) (s : State) (lines : List Numbered) (all : Declared) : Type 0 where
  pub last : State
  pub leads : Leads kind known name s lines last
  pub whole : IsWhole last.stage
  pub declared : last.declared ≡ all

pub lines_lead : (kind : FileKind) (known before : Declared) (name : List ℕ) (lines : List Numbered) (h : AreLinesAmong kind known before lines)
    → LeadsTo kind known name (start_after before) lines h.all
lines_lead kind known before name lines h =
    let declared : State = start_after h.all in
    let declare : Leads kind known name (start_after before) h.declarations declared = declarations_lead kind known name before h.all [] [] h.declarations h.declared h.mains in
    let pair = pairs_lead kind known name declared h.pairs h.plains tt h.pairs_are in
    let rule = rules_lead kind known name pair.last h.rules h.stated (pairs_before_rules pair.last.stage pair.is) h.rules_are in
    record {
      last = rule.last;
      leads = subst (λ (x : List Numbered). Leads kind known name (start_after before) x rule.last) (sym h.lines_are)
          (leads_append kind known name (start_after before) declared rule.last h.declarations (h.pairs ++ h.rules) declare
          (leads_append kind known name declared pair.last rule.last h.pairs h.rules pair.leads rule.leads));
      whole = whole_before_rules rule.last.stage rule.is;
      declared = rule.keeps ∙ pair.keeps;
    }

pub language_leads : (known : Declared) (name : List ℕ) (lines : List Numbered) (h : AreLanguageLines name known lines) → LeadsTo files.Language known name start lines h.among.all
language_leads known name lines h =
    let rest = lines_lead files.Language known nothing name h.others h.among in
    let all : Leads files.Language known name start (h.first ∷ h.others) rest.last = (start_after nothing, (h.named, refl), rest.leads) in
    record {
      last = rest.last;
      leads = subst (λ (x : List Numbered). Leads files.Language known name start x rest.last) (sym h.lines_are) all;
      whole = rest.whole;
      declared = rest.declared;
    }
