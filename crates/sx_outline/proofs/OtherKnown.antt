-- Lines of language files that are bad whatever else a file declares.
use Rattle.std.proofs.Common.{◌≡◌, ℕ, List, [], refl, subst}
use Rattle.std.proofs.lemmas.Bool.{false≢true}
use Rattle.sx_lines.specs.declared.kind.Kind.{Kind}
use Rattle.sx_lines.specs.declared.kind.Kind.TheVariants.{Head, Directive, Shape, Order, Unfinished}
use Rattle.sx_lines.specs.declared.kind.Kind.TheVariants.{Main as NoMain, Variable}
use Rattle.sx_grammar.specs.Parts.{Line}
use Rattle.sx_grammar.specs.declared.sort_line.SortLine.{SortLine}
use Rattle.sx_directives.specs.declared.file_kind.FileKind.{FileKind}
use Rattle.sx_directives.specs.declared.file_kind.FileKind.TheVariants as files
use Rattle.sx_directives.specs.Rows.{IsRow}
use Rattle.sx_directives.specs.declared.spelled.SpelledSort.TheVariants.{Lex as Lexical, Named}
use Rattle.sx_directives.specs.declared.spelled.FormSymbol.{FormSymbol}
use Rattle.sx_directives.specs.declared.spelled.FormSymbol.TheVariants.{Lit as FormLit, Place}
use Rattle.sx_directives.specs.declared.rows.MainLine.{MainLine}
use Rattle.sx_directives.specs.declared.row.Row.{Row}
use Rattle.sx_directives.specs.declared.row.Row.TheVariants.{Var, Form, Main, Use, Plain}
use Rattle.sx_outline.specs.declared.main_form.MainForm.{MainForm}
use Rattle.sx_outline.specs.Declarations.{Declared, DeclaredForm}
use Rattle.sx_outline.specs.Fitting.{Kid, IsKnownSort, SymbolFits, RowFits, IsConstructor, IsMainOf}
use Rattle.sx_outline.specs.Stages.{StepsAt, State, Steps, IsBad, at_start, state_after_row}
use Rattle.sx_outline.specs.BadLines.{HasInCommon}
use Rattle.sx_outline.proofs.OneOutline.{due_row}
use Rattle.sx_outline.proofs.SameRows.{same_row}
use Rattle.sx_outline.proofs.SameLaws.{has_word, same_stands, same_main}
use Rattle.sx_outline.proofs.WeightLaws.{all_weaker}

-- these sorts, productions and forms alone
abbrev core : List SortLine → List Line → List DeclaredForm → Declared
core sorts productions forms = record { sorts = sorts; productions = productions; vars = []; forms = forms; mains = []; uses = [] }

-- ---- sorts

known_sort : (known other : Declared) (name : List ℕ) → other.sorts ≡ known.sorts → IsKnownSort other name → IsKnownSort known name
known_sort known other name e h = subst (λ (x : List SortLine). IsKnownSort (core x [] []) name) e h

place_fits : (known other : Declared) (e : other.sorts ≡ known.sorts) (x : FormSymbol) → SymbolFits other x → SymbolFits known x
place_fits known other e (FormLit text) h = tt
place_fits known other e (Place role (Lexical kind)) h = h
place_fits known other e (Place role (Named sort least)) h = subst (λ (x : List SortLine). SymbolFits (core x [] []) (Place role (Named sort least))) e h

row_fits : (known other before : Declared) (text : List ℕ) (row : Row) → other.sorts ≡ known.sorts → IsRow files.Language text row → RowFits other before row → RowFits known before row
row_fits known other before text (Var v) e spelled h = (h.0, known_sort known other v.sort e h.1)
row_fits known other before text (Form f) e spelled h = (h.0, all_weaker (SymbolFits other) (SymbolFits known) (place_fits known other e) f.symbols.items h.1, h.2)
row_fits known other before text (Use name) e spelled h = absurd (false≢true spelled.word)
row_fits known other before text (Plain p) e spelled h = absurd (false≢true spelled.word)
row_fits known other before text _ e spelled h = tt

-- ---- main forms

core_constructor : (d e : Declared) (label : List ℕ) (number : ℕ) (sort : List ℕ) (kids : List Kid) → d.productions ≡ e.productions → IsConstructor d label number sort kids
    → IsConstructor e label number sort kids
core_constructor d e label number sort kids same h =
    to_whole (subst (λ (x : List Line). IsConstructor (core [] x []) label number sort kids) same
    (record { line = h.line; is = h.is; first = h.first; sort_is = h.sort_is; kids_are = h.kids_are }))
  where
    to_whole : IsConstructor (core [] e.productions []) label number sort kids → IsConstructor e label number sort kids
    to_whole k = record { line = k.line; is = k.is; first = k.first; sort_is = k.sort_is; kids_are = k.kids_are }

-- a main form with other productions
with_productions : (d e : Declared) (m : MainLine) (main : MainForm) → d.sorts ≡ e.sorts → d.forms ≡ e.forms → d.productions ≡ e.productions → IsMainOf d m main → IsMainOf e m main
with_productions d e m main sorts forms productions h =
    let given : IsMainOf (core d.sorts e.productions d.forms) m main = record {
      form = h.form;
      form_is = h.form_is;
      form_first = h.form_first;
      environment = h.environment;
      input = h.input;
      subject_sort = h.subject_sort;
      subject = h.subject;
      signature = h.signature;
      output = h.output;
      signature_line = h.signature_line;
      signature_is = h.signature_is;
      signature_plain = h.signature_plain;
      empty = core_constructor d (core d.sorts e.productions d.forms) _ _ _ _ productions h.empty;
      add = core_constructor d (core d.sorts e.productions d.forms) _ _ _ _ productions h.add;
    } in
    let sorted : IsMainOf (core e.sorts e.productions d.forms) m main = subst (λ (x : List SortLine). IsMainOf (core x e.productions d.forms) m main) sorts given in
    let formed : IsMainOf (core e.sorts e.productions e.forms) m main = subst (λ (x : List DeclaredForm). IsMainOf (core e.sorts e.productions x) m main) forms sorted in
    record {
      form = formed.form;
      form_is = formed.form_is;
      form_first = formed.form_first;
      environment = formed.environment;
      input = formed.input;
      subject_sort = formed.subject_sort;
      subject = formed.subject;
      signature = formed.signature;
      output = formed.output;
      signature_line = formed.signature_line;
      signature_is = formed.signature_is;
      signature_plain = formed.signature_plain;
      empty = core_constructor (core e.sorts e.productions e.forms) e _ _ _ _ refl formed.empty;
      add = core_constructor (core e.sorts e.productions e.forms) e _ _ _ _ refl formed.add;
    }

-- ---- bad lines

-- a line that is bad is bad in another file, where a row that fits there fits here, and a main form
-- there is one here
pub bad_with : (kind : FileKind) (known other : Declared) (name : List ℕ) (s : State) (n : ℕ) (text : List ℕ) (t : State) (wrong : Kind)
    → (wrong ≡ Shape → (row : Row) → IsRow kind text row → RowFits other s.declared row → t ≡ state_after_row s n row → RowFits known s.declared row)
    → (wrong ≡ NoMain → (m : MainLine) (main : MainForm) → IsRow kind text (Main m) → IsMainOf other m main → IsMainOf known m main)
    → IsBad kind known name s text wrong → Steps kind other name s n text t → ⊥
bad_with kind known other name s n text t Head fits is_main bad steps =
    let h : StepsAt at_start kind other name s n text t = subst (λ x. StepsAt x kind other name s n text t) bad.0 steps in
    bad.1 h.0
bad_with kind known other name s n text t Directive fits is_main bad steps =
    let h = due_row s.stage kind other name s n text t bad.0 steps in
    bad.1 (has_word kind text h.0 h.1.spelled)
bad_with kind known other name s n text t Shape fits is_main bad steps =
    let h = due_row s.stage kind other name s n text t bad.0 steps in
    bad.2 h.0 h.1.spelled (fits refl h.0 h.1.spelled h.1.fits h.2)
bad_with kind known other name s n text t Order fits is_main bad steps =
    let h = due_row s.stage kind other name s n text t bad.0 steps in
    bad.4 (same_stands s.stage s.declared.mains h.0 bad.1 (same_row kind text h.0 bad.1 h.1.spelled bad.2) h.1.stands)
bad_with kind known other name s n text t NoMain fits is_main bad steps =
    let h = due_row s.stage kind other name s n text t bad.0 steps in
    let main = same_main other h.0 (Main bad.1) (same_row kind text h.0 (Main bad.1) h.1.spelled bad.2) h.1.main in
    bad.4 main.0 (is_main refl bad.1 main.0 bad.2 main.1)
bad_with kind known other name s n text t Unfinished fits is_main bad steps = absurd bad
bad_with kind known other name s n text t Variable fits is_main bad steps = absurd bad

agreed_sorts : (known other : Declared) (wrong : Kind) → HasInCommon wrong known other → wrong ≡ Shape → other.sorts ≡ known.sorts
agreed_sorts known other wrong same e = subst (λ (x : Kind). HasInCommon x known other) e same

agreed_main : (known other : Declared) (wrong : Kind) → HasInCommon wrong known other → wrong ≡ NoMain
    → (other.sorts ≡ known.sorts) × (other.productions ≡ known.productions) × (other.forms ≡ known.forms)
agreed_main known other wrong same e = subst (λ (x : Kind). HasInCommon x known other) e same

-- a line of a language file that is bad is bad in each file that agrees
pub bad_elsewhere : (known other : Declared) (name : List ℕ) (s : State) (n : ℕ) (text : List ℕ) (t : State) (wrong : Kind) → HasInCommon wrong known other
    → IsBad files.Language known name s text wrong → Steps files.Language other name s n text t → ⊥
bad_elsewhere known other name s n text t wrong same bad steps =
    bad_with files.Language known other name s n text t wrong
    (λ e row spelled fits is. row_fits known other s.declared text row (agreed_sorts known other wrong same e) spelled fits)
    (λ e m main spelled is. let all = agreed_main known other wrong same e in with_productions other known m main all.0 all.2 all.1 is) bad steps
