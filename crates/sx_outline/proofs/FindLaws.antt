-- What a file declares, found by names.
use Rattle.std.proofs.Common.{◌≡◌, ℕ, ◌<◌, Bool, true, false, inl, inr, Result, Ok, Err, List, [], ◌∷◌, length, get_or, take, map, Option, Some, None, refl, sym, ap, subst, ◌∙◌, arith, Contains, ◌↔◌, IsTrue}
use Rattle.std.specs.Prelude.{option_map, slice_get, unwrap_or, IfOk}
use Rattle.std.specs.Option.{is_some}
use Rattle.std.specs.List.{AllByRecursion}
use Rattle.std.proofs.lemmas.Option.{slice_get-map, slice_get-get_or, slice_get_within}
use Rattle.std.proofs.lemmas.List.{take-map, length-map}
use Rattle.std.proofs.lemmas.Bool.{false≢true}
use Rattle.sx_term.specs.declared.lex_kind.LexKind.{LexKind}
use Rattle.sx_term.specs.declared.role.Role.{Role}
use Rattle.sx_term.specs.declared.role.Role.TheVariants.{In, Sub, Out}
use Rattle.sx_grammar.specs.Parts.{Line, line, labels, number_of}
use Rattle.sx_grammar.specs.Stems.{without_digits}
use Rattle.sx_grammar.specs.declared.production.Production.{Production}
use Rattle.sx_grammar.specs.declared.sort_line.SortLine.{SortLine}
use Rattle.sx_directives.specs.Spelling.{lex_text}
use Rattle.sx_directives.specs.declared.spelled.SpelledSort.{SpelledSort}
use Rattle.sx_directives.specs.declared.spelled.SpelledSort.TheVariants.{Named}
use Rattle.sx_directives.specs.declared.spelled.FormSymbol.{FormSymbol}
use Rattle.sx_directives.specs.declared.rows.VarLine.{VarLine}
use Rattle.sx_directives.specs.declared.rows.FormLine.{FormLine}
use Rattle.sx_directives.specs.declared.rows.MainLine.{MainLine}
use Rattle.sx_directives.specs.declared.rows.PlainLine.{PlainLine}
use Rattle.sx_term.specs.declared.no_memory.NoMemory.{NoMemory}
use Rattle.sx_directives.specs.declared.row.Row.{Row}
use Rattle.sx_directives.specs.declared.row.Row.TheVariants.{Var, Form, Plain}
use Rattle.sx_outline.specs.declared.main_form.MainForm.{MainForm}
use Rattle.sx_outline.specs.Declarations.{Declared, DeclaredForm, declared_form, declared_parts}
use Rattle.sx_outline.specs.Fitting.{ArePartNames, RowFits, HasOneSubjectSymbol}
use Rattle.sx_lines.specs.Distinct.{AreTextsDistinct}
use Rattle.sx_outline.specs.Fitting.{IsConstructor, IsKnownSort, IsMainOf, IsPlain, IsVariableOf}
use Rattle.sx_outline.specs.Fitting.{Kid, NamesFit, SymbolFits, declared_form_names, parts_of_symbols}
use Rattle.sx_outline.specs.Fitting.{production_named, sort_named, declared_sort_names, sorts_at, stems}
use Rattle.sx_outline.specs.Fitting.{var_named}
use Rattle.sx_outline.specs.MainSorts.{AreConstructors, AreMainSorts, IsOneName}
use Rattle.sx_outline.proofs.PlaceLaws.{at, first_at, found_in, none_in, number_found, find_place, find_nothing, position_is}

-- ---- sorts

-- the first sort with the name of a place
pub typed_found : (sorts : List SortLine) (name : List ℕ) (i : ℕ) (s : SortLine) (d : Declared) → d.sorts ≡ sorts → first_at name (declared_sort_names d) ≡ Some i → s ≡ get_or sorts i s → Some s.typed ≡ option_map (λ x. x.typed) (sort_named d name)
typed_found sorts name i s d same e is =
    let there : sort_named d name ≡ Some (get_or d.sorts i s) = find_place (λ (x : SortLine). x.name) d.sorts name i s e in
    ap (λ (x : SortLine). Some x.typed) (is ∙ ap (λ xs. get_or xs i s) (sym same)) ∙ sym (ap (option_map (λ (x : SortLine). x.typed)) there)

pub typed_none : (name : List ℕ) (d : Declared) → first_at name (declared_sort_names d) ≡ None → None ≡ option_map (λ (x : SortLine). x.typed) (sort_named d name)
typed_none name d e = sym (ap (option_map (λ (x : SortLine). x.typed)) (find_nothing (λ (x : SortLine). x.name) d.sorts name e))

-- the name of a sort that is not lexical is found
pub known_sort : (d : Declared) (name : List ℕ) (r : Option ℕ) (b : Bool) → ((kind : LexKind) × (name ≡ lex_text kind) → ⊥) → first_at name (declared_sort_names d) ≡ r → b ≡ is_some r → IsTrue b ↔ IsKnownSort d name
known_sort d name None b n e f = ((λ t. absurd (false≢true (sym f ∙ t))), λ k. absurd (by k))
  where
    by : IsKnownSort d name → ⊥
    by (inl lexical) = n lexical
    by (inr there) = none_in (declared_sort_names d) name e there
known_sort d name (Some i) b n e f = ((λ t. inr (found_in (declared_sort_names d) name i e)), λ k. f)

-- ---- rows

pub fits_var : (known before : Declared) (vars : ℕ) (v : VarLine) (row : Row) (b : Bool) → row ≡ Var v → before.vars ≡ take vars known.vars
    → IsTrue b ↔ ((Contains (take vars (stems known)) v.stem → ⊥) × IsKnownSort known v.sort) → IsTrue b ↔ RowFits known before row
fits_var known before vars v row b e f h =
    let same : take vars (stems known) ≡ stems before = take-map (λ (x : VarLine). x.stem) vars known.vars ∙ ap (map (λ (x : VarLine). x.stem)) (sym f) in
    subst (λ r. IsTrue b ↔ RowFits known before r) (sym e) (subst (λ names. IsTrue b ↔ ((Contains names v.stem → ⊥) × IsKnownSort known v.sort)) same h)

pub fits_form : (known before : Declared) (forms : ℕ) (f : FormLine) (row : Row) (b : Bool) → row ≡ Form f → before.forms ≡ take forms known.forms
    → IsTrue b ↔ ((Contains (take forms (declared_form_names known)) f.name → ⊥) × AllByRecursion (SymbolFits known) f.symbols.items × HasOneSubjectSymbol f.symbols.items) → IsTrue b ↔ RowFits known before row
fits_form known before forms f row b e g h =
    let same : take forms (declared_form_names known) ≡ declared_form_names before = take-map (λ (x : DeclaredForm). x.name) forms known.forms ∙ ap (map (λ (x : DeclaredForm). x.name)) (sym g) in
    subst (λ r. IsTrue b ↔ RowFits known before r) (sym e) (subst (λ names. IsTrue b ↔ ((Contains names f.name → ⊥) × AllByRecursion (SymbolFits known) f.symbols.items × HasOneSubjectSymbol f.symbols.items)) same h)

-- ---- numbers

-- the number of a name that is found is its place
pub number_at : (names : List (List ℕ)) (name : List ℕ) (n : ℕ) → first_at name names ≡ Some n → n ≡ number_of names name
number_at names name n e = sym (ap (λ r. unwrap_or r (length names)) (position_is (at name) names ∙ e))

-- a number that is within the names is a place
pub number_place : (names : List (List ℕ)) (name : List ℕ) (n : ℕ) → n ≡ number_of names name → n < length names → first_at name names ≡ Some n
number_place names name n e lt = by (first_at name names) refl
  where
    by : (r : Option ℕ) → first_at name names ≡ r → first_at name names ≡ Some n
    by None f = absurd (let past : number_of names name ≡ length names = ap (λ x. unwrap_or x (length names)) (position_is (at name) names ∙ f) in omega (arith, e, past, lt))
    by (Some i) f = f ∙ ap Some (number_at names name i f ∙ sym e)

some_same : {X : Type 0} (x y : X) → Some x ≡ Some y → x ≡ y
some_same x y e = cc

-- an item that is got stands within the names
got_within : {X : Type 0} (f : X → List ℕ) (xs : List X) (n : ℕ) (x : X) → slice_get xs n ≡ Some x → n < length (map f xs)
got_within f xs n x e = let lt = slice_get_within xs n x e in omega (arith, lt, length-map xs f)

-- ---- constructors

pub constructor_is : (d : Declared) (label sort : List ℕ) (n : ℕ) (l : Line) → first_at label (labels (declared_parts d)) ≡ Some n → slice_get d.productions n ≡ Some l → l.sort ≡ sort → IsConstructor d label n sort (parts_of_symbols l.symbols)
constructor_is d label sort n l e is same = record { line = l; is = is; first = number_at (labels (declared_parts d)) label n e; sort_is = same; kids_are = refl }

-- a constructor stands at the first place of its label
pub constructor_place : (d : Declared) (label sort : List ℕ) (n : ℕ) (kids : List Kid) → IsConstructor d label n sort kids → first_at label (labels (declared_parts d)) ≡ Some n
constructor_place d label sort n kids h = number_place (labels (declared_parts d)) label n h.first (got_within (λ (l : Line). l.label) d.productions n h.line h.is)

pub constructor_none : (d : Declared) (label sort : List ℕ) → first_at label (labels (declared_parts d)) ≡ None → (n : ℕ) (kids : List Kid) → IsConstructor d label n sort kids → ⊥
constructor_none d label sort e n kids h = let clash : None ≡ Some n = sym e ∙ constructor_place d label sort n kids h in cc

-- the production at the place is that of the constructor
pub constructor_line : (d : Declared) (label sort : List ℕ) (place n : ℕ) (l : Line) (kids : List Kid) → first_at label (labels (declared_parts d)) ≡ Some place → slice_get d.productions place ≡ Some l → IsConstructor d label n sort kids
    → (n ≡ place) × (l.sort ≡ sort) × (parts_of_symbols l.symbols ≡ kids)
constructor_line d label sort place n l kids e is h =
    let same : n ≡ place = some_same n place (sym (constructor_place d label sort n kids h) ∙ e) in
    let line_same : l ≡ h.line = some_same l h.line (sym is ∙ ap (slice_get d.productions) (sym same) ∙ h.is) in
    (same, ap (λ (x : Line). x.sort) line_same ∙ h.sort_is, ap (λ (x : Line). parts_of_symbols x.symbols) line_same ∙ h.kids_are)

-- a constructor by the parts of its production
pub constructor_of : (d : Declared) (label sort : List ℕ) (n : ℕ) (l : Line) (kids more : List Kid) → IsConstructor d label n sort kids → slice_get d.productions n ≡ Some l → parts_of_symbols l.symbols ≡ more → IsConstructor d label n sort more
constructor_of d label sort n l kids more h is e =
    let w = constructor_line d label sort n n l kids (constructor_place d label sort n kids h) is h in
    record { line = l; is = is; first = h.first; sort_is = w.1; kids_are = e }

pub constructor_other : (d : Declared) (label sort : List ℕ) (n m : ℕ) (l : Line) (kids more : List Kid) → IsConstructor d label n sort kids → slice_get d.productions n ≡ Some l → (parts_of_symbols l.symbols ≡ more → ⊥)
    → IsConstructor d label m sort more → ⊥
constructor_other d label sort n m l kids more h is differ k =
    let w = constructor_line d label sort n m l more (constructor_place d label sort n kids h) is k in
    differ w.2

-- a production of a list by its place
pub line_at : (ps : List Production) (i : ℕ) (p : Production) → i < length ps → p ≡ get_or ps i p → slice_get (map line ps) i ≡ Some (line p)
line_at ps i p lt is = slice_get-map line ps i ∙ ap (option_map line) (slice_get-get_or ps i p lt) ∙ ap (λ x. Some (line x)) (sym is)

pub form_at : (fs : List FormLine) (i : ℕ) (f : FormLine) → i < length fs → f ≡ get_or fs i f → slice_get (map declared_form fs) i ≡ Some (declared_form f)
form_at fs i f lt is = slice_get-map declared_form fs i ∙ ap (option_map declared_form) (slice_get-get_or fs i f lt) ∙ ap (λ x. Some (declared_form x)) (sym is)

-- two constructors with one label have the same parts
pub one_constructor : (d : Declared) (label sort other : List ℕ) (n m : ℕ) (kids more : List Kid) → IsConstructor d label n sort kids → IsConstructor d label m other more → (n ≡ m) × (kids ≡ more)
one_constructor d label sort other n m kids more h k =
    let w = constructor_line d label other n m h.line more (constructor_place d label sort n kids h) h.is k in
    (sym w.0, sym h.kids_are ∙ w.2)

-- ---- main forms

named_same : (a b : List ℕ) (l m : ℕ) (xs ys : List SpelledSort) → Named a l ∷ xs ≡ Named b m ∷ ys → a ≡ b
named_same a b l m xs ys e = cc

pub one_name : (symbols : List FormSymbol) (role : Role) (a b : List ℕ) → IsOneName symbols role a → IsOneName symbols role b → a ≡ b
one_name symbols role a b h k = named_same a b h.0 k.0 [] [] (sym h.1 ∙ k.1)

main_place : (d : Declared) (m : MainLine) (main : MainForm) → IsMainOf d m main → first_at m.form (declared_form_names d) ≡ Some main.form
main_place d m main h = number_place (declared_form_names d) m.form main.form h.form_first (got_within (λ (f : DeclaredForm). f.name) d.forms main.form h.form h.form_is)

pub no_main_place : (d : Declared) (m : MainLine) → first_at m.form (declared_form_names d) ≡ None → (main : MainForm) → IsMainOf d m main → ⊥
no_main_place d m e main h = let clash : None ≡ Some main.form = sym e ∙ main_place d m main h in cc

-- the sorts of the main form are those of the form at the place of its name
pub main_sorts_at : (d : Declared) (m : MainLine) (place : ℕ) (f : DeclaredForm) → first_at m.form (declared_form_names d) ≡ Some place → slice_get d.forms place ≡ Some f → (main : MainForm) → (h : IsMainOf d m main) → AreMainSorts f.symbols h.environment h.signature
main_sorts_at d m place f e is main h =
    let same : main.form ≡ place = some_same main.form place (sym (main_place d m main h) ∙ e) in
    let form_same : h.form ≡ f = some_same h.form f (sym h.form_is ∙ ap (slice_get d.forms) same ∙ is) in
    subst (λ (x : DeclaredForm). AreMainSorts x.symbols h.environment h.signature) form_same
    (record { input = (h.input.least, h.input.is); subject_sort = h.subject_sort; subject = h.subject; output = (h.output.least, h.output.is) })

pub no_main_plain : (d : Declared) (m : MainLine) (place : ℕ) (f : DeclaredForm) (environment signature : List ℕ) → first_at m.form (declared_form_names d) ≡ Some place → slice_get d.forms place ≡ Some f → AreMainSorts f.symbols environment signature
    → (IsPlain d signature → ⊥) → (main : MainForm) → IsMainOf d m main → ⊥
no_main_plain d m place f environment signature e is sorts n main h =
    let same : h.signature ≡ signature = one_name f.symbols Out h.signature signature (main_sorts_at d m place f e is main h).output sorts.output in
    n (subst (IsPlain d) same (h.signature_line, h.signature_is, h.signature_plain))

pub no_main_constructors : (d : Declared) (m : MainLine) (place : ℕ) (f : DeclaredForm) (environment signature : List ℕ) → first_at m.form (declared_form_names d) ≡ Some place → slice_get d.forms place ≡ Some f → AreMainSorts f.symbols environment signature
    → ((empty add : ℕ) → AreConstructors d m environment signature empty add → ⊥) → (main : MainForm) → IsMainOf d m main → ⊥
no_main_constructors d m place f environment signature e is sorts n main h =
    let own = main_sorts_at d m place f e is main h in
    let same_s : h.signature ≡ signature = one_name f.symbols Out h.signature signature own.output sorts.output in
    let same_e : h.environment ≡ environment = one_name f.symbols In h.environment environment own.input sorts.input in
    n main.empty main.add (subst (λ x. AreConstructors d m x signature main.empty main.add) same_e (subst (λ x. AreConstructors d m h.environment x main.empty main.add) same_s (record { empty_is = h.empty; add_is = h.add })))

pub main_is : (d : Declared) (m : MainLine) (place empty add : ℕ) (f : DeclaredForm) (environment signature : List ℕ) → first_at m.form (declared_form_names d) ≡ Some place → slice_get d.forms place ≡ Some f → AreMainSorts f.symbols environment signature
    → IsPlain d signature → AreConstructors d m environment signature empty add → IsMainOf d m (record { form = place; empty = empty; add = add })
main_is d m place empty add f environment signature e is sorts plain made = record {
  form = f;
  form_is = is;
  form_first = number_at (declared_form_names d) m.form place e;
  environment = environment;
  input = record { least = sorts.input.0; is = sorts.input.1 };
  subject_sort = sorts.subject_sort;
  subject = sorts.subject;
  signature = signature;
  output = record { least = sorts.output.0; is = sorts.output.1 };
  signature_line = plain.0;
  signature_is = plain.1;
  signature_plain = plain.2;
  empty = made.empty_is;
  add = made.add_is;
}

-- ---- at their places

pub line_found : (ps : List Production) (label : List ℕ) (i : ℕ) (p : Production) → first_at label (map (λ l. l.label) (map line ps)) ≡ Some i → p ≡ get_or ps i p → slice_get (map line ps) i ≡ Some (line p)
line_found ps label i p e is =
    let lt = number_found (map (λ (l : Line). l.label) (map line ps)) label i e in
    line_at ps i p (omega (arith, lt, length-map (map line ps) (λ (l : Line). l.label), length-map ps line)) is

pub form_found : (fs : List FormLine) (name : List ℕ) (i : ℕ) (f : FormLine) → first_at name (map (λ x. x.name) (map declared_form fs)) ≡ Some i → f ≡ get_or fs i f → slice_get (map declared_form fs) i ≡ Some (declared_form f)
form_found fs name i f e is =
    let lt = number_found (map (λ (x : DeclaredForm). x.name) (map declared_form fs)) name i e in
    form_at fs i f (omega (arith, lt, length-map (map declared_form fs) (λ (x : DeclaredForm). x.name), length-map fs declared_form)) is

-- ---- the sorts of main forms

-- a list of one item
pub one_item : {X : Type 0} (xs : List X) → length xs ≡ 1 → (x : X) × (xs ≡ x ∷ [])
one_item [] e = absurd (omega arith)
one_item (x ∷ []) e = (x, refl)
one_item (x ∷ y ∷ xs) e = absurd (omega arith)

pub main_sorts_are : (symbols : List FormSymbol) (count : ℕ) (environment signature : List ℕ) → count ≡ length (sorts_at Sub symbols) → count ≡ 1 → IsOneName symbols In environment → IsOneName symbols Out signature → AreMainSorts symbols environment signature
main_sorts_are symbols count environment signature e one input output =
    let w = one_item (sorts_at Sub symbols) (sym e ∙ one) in
    record { input = input; subject_sort = w.0; subject = w.1; output = output }

-- ---- names that are used, and variables

pub use_there : (d : Declared) (name : List ℕ) (i : ℕ) (b : Bool) → first_at name d.uses ≡ Some i → b ≡ false → IsTrue b ↔ (Contains d.uses name → ⊥)
use_there d name i b e f = ((λ t. absurd (false≢true (sym f ∙ t))), λ n. absurd (n (found_in d.uses name i e)))

pub use_none : (d : Declared) (name : List ℕ) (b : Bool) → first_at name d.uses ≡ None → b ≡ true → IsTrue b ↔ (Contains d.uses name → ⊥)
use_none d name b e f = ((λ t. none_in d.uses name e), λ n. f)

-- the stem that is found is the first
pub var_found : (d : Declared) (vars : List VarLine) (stem : List ℕ) (i : ℕ) (v : VarLine) → d.vars ≡ vars → first_at stem (stems d) ≡ Some i → v ≡ get_or vars i v → var_named d stem ≡ Some v
var_found d vars stem i v same e is =
    find_place (λ (x : VarLine). x.stem) d.vars stem i v e ∙ ap Some (sym (is ∙ ap (λ xs. get_or xs i v) (sym same)))

some_var : (a b : VarLine) → Some a ≡ Some b → a ≡ b
some_var a b e = cc

none_var : (a : VarLine) → None ≡ Some a → ⊥
none_var a e = cc

pub variable_is : (d : Declared) (name sort : List ℕ) (v : VarLine) (b : Bool) → var_named d (without_digits name) ≡ Some v → IsTrue b ↔ (v.sort ≡ sort) → IsTrue b ↔ IsVariableOf d name sort
variable_is d name sort v b found h =
    ((λ t. (v, found, h.0 t)), λ k. h.1 (ap (λ (x : VarLine). x.sort) (some_var v k.0 (sym found ∙ k.1)) ∙ k.2))

pub variable_none : (d : Declared) (name sort : List ℕ) (b : Bool) → first_at (without_digits name) (stems d) ≡ None → b ≡ false → IsTrue b ↔ IsVariableOf d name sort
variable_none d name sort b e f =
    ((λ t. absurd (false≢true (sym f ∙ t))), λ k. absurd (none_var k.0 (sym (find_nothing (λ (x : VarLine). x.stem) d.vars (without_digits name) e) ∙ k.1)))

-- ---- the names of parts

pub parts_are : (d : Declared) (label : List ℕ) (names : List (List ℕ)) (p : Line) (b : Bool) → production_named d label ≡ Some p
    → IsTrue b ↔ (IsPlain d p.sort × AreTextsDistinct names × NamesFit d names (parts_of_symbols p.symbols)) → IsTrue b ↔ ArePartNames d label names
parts_are d label names p b found h = (
  (λ t. let k = h.0 t in record { line = p; line_is = found; plain = k.0; once = k.1; fit = k.2 }),
  λ k.
      let same : k.line ≡ p = some_line k.line p (sym k.line_is ∙ found) in
      h.1 (subst (λ (x : Line). IsPlain d x.sort) same k.plain, k.once, subst (λ (x : Line). NamesFit d names (parts_of_symbols x.symbols)) same k.fit),
)
  where
    some_line : (a b : Line) → Some a ≡ Some b → a ≡ b
    some_line a b e = cc

pub parts_none : (d : Declared) (label : List ℕ) (names : List (List ℕ)) (b : Bool) → first_at label (labels (declared_parts d)) ≡ None → b ≡ false → IsTrue b ↔ ArePartNames d label names
parts_none d label names b e f =
    ((λ t. absurd (false≢true (sym f ∙ t))), λ k. absurd (none_line k.line (sym (find_nothing (λ (x : Line). x.label) d.productions label e) ∙ k.line_is)))
  where
    none_line : (a : Line) → None ≡ Some a → ⊥
    none_line a e = cc

-- the production that is found is the first
pub production_found : (d : Declared) (label : List ℕ) (i : ℕ) (p : Line) → first_at label (labels (declared_parts d)) ≡ Some i → slice_get d.productions i ≡ Some p → production_named d label ≡ Some p
production_found d label i p e is =
    let many : length (labels (declared_parts d)) ≡ length d.productions = length-map d.productions (λ (x : Line). x.label) in
    let within : i < length (labels (declared_parts d)) = number_found (labels (declared_parts d)) label i e in
    find_place (λ (x : Line). x.label) d.productions label i p e ∙ sym (slice_get-get_or d.productions i p (omega (arith, many, within))) ∙ is

pub ok_map : {X : Type 0} {E : Type 0} (r : Result X E) (P Q : X → Type 0) → ((x : X) → P x → Q x) → IfOk r P → IfOk r Q
ok_map (Ok x) P Q f h = f x h
ok_map (Err e) P Q f h = tt

pub fits_plain : (known before : Declared) (p : PlainLine) (row : Row) (r : Result Bool NoMemory) → row ≡ Plain p → IfOk r (λ b. IsTrue b ↔ ArePartNames known p.label p.names.items)
    → IfOk r (λ b. IsTrue b ↔ RowFits known before row)
fits_plain known before p row r e h = subst (λ x. IfOk r (λ b. IsTrue b ↔ RowFits known before x)) (sym e) h
