-- What the lines of extension files declare only grows.
use Rattle.std.proofs.Common.{◌≡◌, ℕ, Bool, true, false, List, [], ◌∷◌, ◌++◌, Some, refl, sym, ap, subst, ◌∙◌, inl, inr, append_assoc, append-nil}
use Rattle.std.specs.Prelude.{Contains}
use Rattle.std.specs.List.{find}
use Rattle.std.specs.Str.{bytes_eq}
use Rattle.std.proofs.lemmas.Bool.{false≢true}
use Rattle.std.proofs.lemmas.List.Folds.{find-append}
use Rattle.sx_lines.specs.Lines.{Lines, over, line}
use Rattle.sx_grammar.specs.Parts.{Line, line as prod_line}
use Rattle.sx_grammar.specs.Stems.{without_digits}
use Rattle.sx_grammar.specs.declared.sort_line.SortLine.{SortLine}
use Rattle.sx_directives.specs.declared.file_kind.FileKind.TheVariants as files
use Rattle.sx_directives.specs.Rows.{IsRow}
use Rattle.sx_directives.specs.declared.rows.VarLine.{VarLine}
use Rattle.sx_directives.specs.declared.rows.PlainLine.{PlainLine}
use Rattle.sx_directives.specs.declared.row.Row.{Row}
use Rattle.sx_directives.specs.declared.row.Row.TheVariants.{Sort, Prod, Var, Form, Main, Rule, End}
use Rattle.sx_directives.specs.declared.row.Row.TheVariants.{Use, Plain, To}
use Rattle.sx_outline.specs.Declarations.{Declared, declare}
use Rattle.sx_outline.specs.Known.{Declares, RowGoesOn}
use Rattle.sx_outline.specs.Fitting.{Kid, kid_sort, parts_of_symbols, IsKnownSort, IsPlain, IsVariableOf}
use Rattle.sx_outline.specs.Fitting.{NamesFit, ArePartNames, RowFits}
use Rattle.sx_outline.specs.Stages.{Numbered, PlainData, RuleData, Stage, at_start, at_declarations}
use Rattle.sx_outline.specs.Stages.{at_body, at_plains, at_rules, at_premises, at_conclusion}
use Rattle.sx_outline.specs.Stages.{at_end, State, StepsAt, MayStandAt, state_after_row}
use Rattle.sx_outline.proofs.OutcomeLaws.{after_declared}
use Rattle.sx_outline.proofs.Led.{Leads}

-- more productions and stems, and the same sorts and uses
pub record Grows (d e : Declared) : Type 0 where
  pub sorts : e.sorts ≡ d.sorts
  pub uses : e.uses ≡ d.uses
  pub productions : List Line
  pub productions_are : e.productions ≡ d.productions ++ productions
  pub vars : List VarLine
  pub vars_are : e.vars ≡ d.vars ++ vars

pub grows_same : (d e : Declared) → e ≡ d → Grows d e
grows_same d e same = record {
  sorts = ap (λ (x : Declared). x.sorts) same;
  uses = ap (λ (x : Declared). x.uses) same;
  productions = [];
  productions_are = ap (λ (x : Declared). x.productions) same ∙ sym (append-nil d.productions);
  vars = [];
  vars_are = ap (λ (x : Declared). x.vars) same ∙ sym (append-nil d.vars);
}

grows_on : (d e f : Declared) → Grows d e → Grows e f → Grows d f
grows_on d e f h k = record {
  sorts = k.sorts ∙ h.sorts;
  uses = k.uses ∙ h.uses;
  productions = h.productions ++ k.productions;
  productions_are = k.productions_are ∙ ap (λ (x : List Line). x ++ k.productions) h.productions_are ∙ append_assoc d.productions h.productions k.productions;
  vars = h.vars ++ k.vars;
  vars_are = k.vars_are ∙ ap (λ (x : List VarLine). x ++ k.vars) h.vars_are ∙ append_assoc d.vars h.vars k.vars;
}

grows_row : (d : Declared) (text : List ℕ) (row : Row) → IsRow files.Extension text row → Grows d (declare d row)
grows_row d text (Sort s) spelled = absurd (false≢true spelled.word)
grows_row d text (Form f) spelled = absurd (false≢true spelled.word)
grows_row d text (Main m) spelled = absurd (false≢true spelled.word)
grows_row d text (Prod p) spelled = record {
  sorts = refl;
  uses = refl;
  productions = prod_line p ∷ [];
  productions_are = refl;
  vars = [];
  vars_are = sym (append-nil d.vars);
}
grows_row d text (Var v) spelled = record {
  sorts = refl;
  uses = refl;
  productions = [];
  productions_are = sym (append-nil d.productions);
  vars = v ∷ [];
  vars_are = refl;
}
grows_row d text _ spelled = grows_same d d refl

grows_goes : (d : Declared) (text : List ℕ) (row : Row) (all : Declared) (Next : Bool → Declared → Type 0) → IsRow files.Extension text row
    → ((is_body : Bool) (next : Declared) → Next is_body next → Grows next all) → RowGoesOn d row all Next → Grows d all
grows_goes d text (Rule name) all Next spelled f h = grows_same d all h
grows_goes d text (Plain p) all Next spelled f h = f true d h
grows_goes d text row all Next spelled f h = grows_on d (declare d row) all (grows_row d text row spelled) (f false (declare d row) h)

-- what the lines declare goes on from what was declared before them
pub grows_known : (is_body : Bool) (d : Declared) (lines : Lines) (all : Declared) → Declares files.Extension is_body d lines all → Grows d all
grows_known is_body d (over n) all h = grows_same d all h
grows_known true d (line n text after more) all h = grows_known false d more all h
grows_known false d (line n text after more) all (inl h) =
    grows_goes d text h.0 all (λ is_body next. Declares files.Extension is_body next more all) h.1 (λ is_body next k. grows_known is_body next more all k) h.2
grows_known false d (line n text after more) all (inr h) = grows_known false d more all h.1

grows_by_row : (s : State) (n : ℕ) (text : List ℕ) (row : Row) (t : State) → IsRow files.Extension text row → t ≡ state_after_row s n row → Grows s.declared t.declared
grows_by_row s n text row t spelled e =
    subst (λ (x : Declared). Grows s.declared x) (sym (ap (λ (x : State). x.declared) e ∙ after_declared s n row)) (grows_row s.declared text row spelled)

grows_step : (known : Declared) (name : List ℕ) (at : Stage) (s : State) (n : ℕ) (text : List ℕ) (t : State) → StepsAt at files.Extension known name s n text t → Grows s.declared t.declared
grows_step known name at_start s n text t h = grows_same s.declared t.declared (ap (λ (x : State). x.declared) h.1)
grows_step known name at_declarations s n text t (row, good, e) = grows_by_row s n text row t good.spelled e
grows_step known name (at_body b) s n text t h = grows_same s.declared t.declared (ap (λ (x : State). x.declared) h)
grows_step known name at_plains s n text t (row, good, e) = grows_by_row s n text row t good.spelled e
grows_step known name at_rules s n text t (row, good, e) = grows_by_row s n text row t good.spelled e
grows_step known name (at_premises b) s n text t (inl h) = grows_same s.declared t.declared (ap (λ (x : State). x.declared) h.1)
grows_step known name (at_premises b) s n text t (inr h) = grows_same s.declared t.declared (ap (λ (x : State). x.declared) h.1)
grows_step known name (at_conclusion b) s n text t h = grows_same s.declared t.declared (ap (λ (x : State). x.declared) h)
grows_step known name (at_end r) s n text t (row, good, e) = grows_by_row s n text row t good.spelled e

pub grows_leads : (known : Declared) (name : List ℕ) (s : State) (lines : List Numbered) (t : State) → Leads files.Extension known name s lines t → Grows s.declared t.declared
grows_leads known name s [] t h = grows_same s.declared t.declared (sym (ap (λ (x : State). x.declared) h))
grows_leads known name s (l ∷ lines) t h =
    grows_on s.declared h.0.declared t.declared (grows_step known name s.stage s l.number l.text h.0 h.1) (grows_leads known name h.0 lines t h.2)

-- ---- after the declarations

abbrev pub IsPast : Stage → Type 0
IsPast at_start = ⊥
IsPast at_declarations = ⊥
IsPast _ = Unit {0}

pub record Stays (s t : State) : Type 0 where
  pub past : IsPast t.stage
  pub same : t.declared ≡ s.declared

abbrev st : Stage → Declared → List PlainData → List RuleData → State
st at d plains rules = record { stage = at; declared = d; plains = plains; rules = rules }

row_stays : (at : Stage) (d : Declared) (plains : List PlainData) (rules : List RuleData) (n : ℕ) (row : Row) → IsPast at → MayStandAt at d.mains row
    → Stays (st at d plains rules) (state_after_row (st at d plains rules) n row)
row_stays at_plains d plains rules n (Plain p) past stands = record { past = tt; same = refl }
row_stays at_plains d plains rules n (Rule given) past stands = record { past = tt; same = refl }
row_stays at_rules d plains rules n (Rule given) past stands = record { past = tt; same = refl }
row_stays (at_end r) d plains rules n End past stands = record { past = tt; same = refl }
row_stays (at_end r) d plains rules n (To body) past stands = record { past = tt; same = refl }
row_stays at_start d plains rules n row past stands = absurd past
row_stays at_declarations d plains rules n row past stands = absurd past
row_stays _ d plains rules n row past stands = absurd stands

step_stays : (known : Declared) (name : List ℕ) (at : Stage) (d : Declared) (plains : List PlainData) (rules : List RuleData) (n : ℕ) (text : List ℕ) (t : State) → IsPast at
    → StepsAt at files.Extension known name (st at d plains rules) n text t → Stays (st at d plains rules) t
step_stays known name at_start d plains rules n text t past h = absurd past
step_stays known name at_declarations d plains rules n text t past h = absurd past
step_stays known name (at_body b) d plains rules n text t past h = subst (Stays (st (at_body b) d plains rules)) (sym h) (record { past = tt; same = refl })
step_stays known name at_plains d plains rules n text t past (row, good, e) = subst (Stays (st at_plains d plains rules)) (sym e) (row_stays at_plains d plains rules n row tt good.stands)
step_stays known name at_rules d plains rules n text t past (row, good, e) = subst (Stays (st at_rules d plains rules)) (sym e) (row_stays at_rules d plains rules n row tt good.stands)
step_stays known name (at_premises b) d plains rules n text t past (inl h) = subst (Stays (st (at_premises b) d plains rules)) (sym h.1) (record { past = tt; same = refl })
step_stays known name (at_premises b) d plains rules n text t past (inr h) = subst (Stays (st (at_premises b) d plains rules)) (sym h.1) (record { past = tt; same = refl })
step_stays known name (at_conclusion b) d plains rules n text t past h = subst (Stays (st (at_conclusion b) d plains rules)) (sym h) (record { past = tt; same = refl })
step_stays known name (at_end r) d plains rules n text t past (row, good, e) = subst (Stays (st (at_end r) d plains rules)) (sym e) (row_stays (at_end r) d plains rules n row tt good.stands)

pub leads_stay : (known : Declared) (name : List ℕ) (s : State) (lines : List Numbered) (t : State) → IsPast s.stage → Leads files.Extension known name s lines t → t.declared ≡ s.declared
leads_stay known name s [] t past h = sym (ap (λ (x : State). x.declared) h)
leads_stay known name s (l ∷ lines) t past h =
    let one = step_stays known name s.stage s.declared s.plains s.rules l.number l.text h.0 past h.1 in
    leads_stay known name h.0 lines t one.past h.2 ∙ one.same

-- ---- what fits

found_more : {X : Type 0} (p : X → Bool) (xs ys : List X) (x : X) → find p xs ≡ Some x → find p (xs ++ ys) ≡ Some x
found_more p xs ys x h = find-append p xs ys ∙ rw h refl

variable_more : (d e : Declared) (name sort : List ℕ) → Grows d e → IsVariableOf d name sort → IsVariableOf e name sort
variable_more d e name sort g h =
    (h.0, ap (λ (x : List VarLine). find (λ v. bytes_eq v.stem (without_digits name)) x) g.vars_are ∙ found_more (λ v. bytes_eq v.stem (without_digits name)) d.vars g.vars h.0 h.1, h.2)

names_more : (d e : Declared) (names : List (List ℕ)) (kids : List Kid) → Grows d e → NamesFit d names kids → NamesFit e names kids
names_more d e [] [] g h = tt
names_more d e (name ∷ names) (kid ∷ kids) g h = (variable_more d e name (kid_sort kid) g h.0, names_more d e names kids g h.1)
names_more d e [] (kid ∷ kids) g h = absurd h
names_more d e (name ∷ names) [] g h = absurd h

abbrev sorted : List SortLine → Declared
sorted x = record { sorts = x; productions = []; vars = []; forms = []; mains = []; uses = [] }

plain_same : (d e : Declared) (name : List ℕ) → e.sorts ≡ d.sorts → IsPlain d name → IsPlain e name
plain_same d e name same h = subst (λ (x : List SortLine). IsPlain (sorted x) name) (sym same) h

-- the names of the parts of a production fit where more is declared
pub part_names_more : (d e : Declared) (label : List ℕ) (names : List (List ℕ)) → Grows d e → ArePartNames d label names → ArePartNames e label names
part_names_more d e label names g h = record {
  line = h.line;
  line_is = ap (λ (x : List Line). find (λ p. bytes_eq p.label label) x) g.productions_are ∙ found_more (λ p. bytes_eq p.label label) d.productions g.productions h.line h.line_is;
  plain = plain_same d e h.line.sort g.sorts h.plain;
  once = h.once;
  fit = names_more d e names (parts_of_symbols h.line.symbols) g h.fit;
}

known_same : (d e : Declared) (name : List ℕ) → e.sorts ≡ d.sorts → IsKnownSort d name → IsKnownSort e name
known_same d e name same h = subst (λ (x : List SortLine). IsKnownSort (sorted x) name) (sym same) h

-- a row that fits by what another file declares fits
pub row_fits : (known other before : Declared) (text : List ℕ) (row : Row) → known.sorts ≡ other.sorts → known.uses ≡ other.uses
    → ((p : PlainLine) → row ≡ Plain p → ArePartNames other p.label p.names.items → ArePartNames known p.label p.names.items)
    → IsRow files.Extension text row → RowFits other before row → RowFits known before row
row_fits known other before text (Var v) sorts uses plains spelled h = (h.0, known_same other known v.sort sorts h.1)
row_fits known other before text (Form f) sorts uses plains spelled h = absurd (false≢true spelled.word)
row_fits known other before text (Use name) sorts uses plains spelled h = λ c. h (subst (λ (x : List (List ℕ)). Contains x name) uses c)
row_fits known other before text (Plain p) sorts uses plains spelled h = plains p refl h
row_fits known other before text _ sorts uses plains spelled h = tt
