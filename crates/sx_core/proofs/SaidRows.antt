-- Where a file says something, each of its rows is as stated after those before it.
use Rattle.std.proofs.Common.{◌≡◌, ℕ, List, [], ◌∷◌, ◌++◌, inl, inr, map, refl, sym, ap, ◌∙◌, subst, append_assoc, append-nil}
use Rattle.std.specs.Prelude.{Contains}
use Rattle.std.specs.List.{flat_map}
use Rattle.sx_lines.specs.Lines.{Lines, over, line, line_texts}
use Rattle.sx_lines.specs.Takes.{Takes}
use Rattle.sx_term.specs.Sorts.{Shape}
use Rattle.sx_rules.specs.Rules.{Premise, holds, apart}
use Rattle.sx_rules.specs.Views.{FormData, NamedRule}
use Rattle.sx_rules.specs.Good.{IsAmong}
use Rattle.sx_core.specs.File.{SortRow, ConRow, FormRow, Declaration, sort_line, con_line}
use Rattle.sx_core.specs.File.{form_line, PremiseRow, if_line, not_line, RuleRows, CoreFile}
use Rattle.sx_core.specs.Problem.{Problem}
use Rattle.sx_core.specs.Stated.{sort_rows, con_rows, form_rows, IsCoreName, AreStatedNames}
use Rattle.sx_core.specs.Stated.{AreCons, AreForms, AreCorePremises, IsCoreRule, AreCoreRules}
use Rattle.sx_lines.specs.Distinct.{AreTextsDistinct}
use Rattle.sx_core.specs.Stated.{IsGoal, SaysCore}
use Rattle.sx_core.specs.Resolving.{sort_names, IsConOf, IsFormOf}
use Rattle.sx_core.specs.Statements.{form_names}
use Rattle.sx_core.specs.Table.{RowParts, Row, row_with, row_text, declaration_row, premise_row, rule_rows}
use Rattle.sx_core.specs.Table.{rows_of}
use Rattle.sx_core.specs.Fitting.{Context, PartsFit, core_sorts_at, cons_at, forms_at, sorts_among}
use Rattle.sx_core.specs.Fitting.{cons_among, forms_among, Declare, AllRowsFit, AreSorts}
use Rattle.sx_core.specs.CoreRead.{ReadTo, AreLinesOf}
use Rattle.sx_core.specs.declared.keyword.Keyword.{Keyword}
use Rattle.sx_core.specs.declared.keyword.Keyword.TheVariants.{Head, Sort, Con, Form, Rule, If, Not}
use Rattle.sx_core.specs.declared.keyword.Keyword.TheVariants.{Then, End, Goal}
use Rattle.sx_core.proofs.Wording.{map_last}
use Rattle.sx_rules.proofs.NameLaws.{among_contains, contains_among}
use Rattle.sx_core.proofs.ResolveLaws.{cons_snoc, forms_snoc}
use Rattle.sx_core.proofs.ReaderLaws.{among_snoc, none_more}
use Rattle.sx_core.proofs.EndLaws.{sort_or_none, only_sort, declared_rows, sorts_declared}
use Rattle.sx_core.proofs.OneProblem.{Spelled, AllSpelled, sorts_named, form_named, declarations_spelled, file_spelled}
use Rattle.sx_core.proofs.SameRows.{names_last}

-- ---- names

among_mid : (names : List (List ℕ)) (name : List ℕ) (more : List (List ℕ)) → IsAmong name (names ++ name ∷ more)
among_mid [] name more = inl refl
among_mid (x ∷ names) name more = inr (among_mid names name more)

not_among : (names : List (List ℕ)) (name : List ℕ) (more : List (List ℕ)) → AreTextsDistinct (names ++ name ∷ more) → IsAmong name names → ⊥
not_among [] name more d h = h
not_among (x ∷ names) name more d (inl e) = d.0 (among_contains (names ++ name ∷ more) x (subst (λ (z : List ℕ). IsAmong z (names ++ name ∷ more)) (sym e) (among_mid names name more)))
not_among (x ∷ names) name more d (inr h) = not_among names name more d.1 h

-- a name in the midst of distinct names does not stand before itself
new_name : (names : List (List ℕ)) (name : List ℕ) (more : List (List ℕ)) → AreTextsDistinct (names ++ name ∷ more) → Contains names name → ⊥
new_name names name more d h = not_among names name more d (contains_among names name h)

distinct_on : (names : List (List ℕ)) (name : List ℕ) (more : List (List ℕ)) → AreTextsDistinct (names ++ name ∷ more) → AreTextsDistinct ((names ++ name ∷ []) ++ more)
distinct_on names name more d = subst AreTextsDistinct (sym (append_assoc names (name ∷ []) more)) d

-- ---- what one more row declares

abbrev sorts_of : Row → List SortRow
sorts_of r = core_sorts_at r.keyword r.parts

abbrev cons_of : Row → List ConRow
cons_of r = cons_at r.keyword r.parts

abbrev forms_of : Row → List FormRow
forms_of r = forms_at r.keyword r.parts

abbrev with_sort : Context → List ℕ → Context
with_sort c name = record { sorts = c.sorts; taken = c.taken ++ name ∷ []; cons = c.cons; shapes = c.shapes; forms = c.forms }

abbrev with_con : Context → List ℕ → Shape → Context
with_con c name s = record { sorts = c.sorts; taken = c.taken; cons = c.cons ++ name ∷ []; shapes = c.shapes ++ s ∷ []; forms = c.forms }

abbrev with_form : Context → FormData → Context
with_form c f = record { sorts = c.sorts; taken = c.taken; cons = c.cons; shapes = c.shapes; forms = c.forms ++ f ∷ [] }

module _ (all : List SortRow) (rows : List Row) (c : Context) (h : Declare all rows c) where
  next_sort : (x : SortRow) → Declare all (rows ++ row_with Sort x ∷ []) (with_sort c x.name)
  next_sort x = record {
    sorts = h.sorts;
    taken = ap (λ (z : List (List ℕ)). z ++ x.name ∷ []) h.taken ∙ sym (ap sort_names (among_snoc sorts_of rows (row_with Sort x)) ∙ names_last (sorts_among rows) x);
    cons = subst (λ (z : List ConRow). AreCons all z c.cons c.shapes) (sym (none_more cons_of rows (row_with Sort x) refl)) h.cons;
    forms = subst (λ (z : List FormRow). AreForms all z c.forms) (sym (none_more forms_of rows (row_with Sort x) refl)) h.forms;
  }

  next_con : (x : ConRow) (name : List ℕ) (s : Shape) → x.name ≡ name → IsConOf all x s → Declare all (rows ++ row_with Con x ∷ []) (with_con c name s)
  next_con x name s e is = record {
    sorts = h.sorts;
    taken = h.taken ∙ sym (ap sort_names (none_more sorts_of rows (row_with Con x) refl));
    cons = subst (λ (z : List ConRow). AreCons all z (c.cons ++ name ∷ []) (c.shapes ++ s ∷ [])) (sym (among_snoc cons_of rows (row_with Con x))) (cons_snoc all (cons_among rows) c.cons c.shapes x name s h.cons e is);
    forms = subst (λ (z : List FormRow). AreForms all z c.forms) (sym (none_more forms_of rows (row_with Con x) refl)) h.forms;
  }

  next_form : (x : FormRow) (f : FormData) → IsFormOf all x f → Declare all (rows ++ row_with Form x ∷ []) (with_form c f)
  next_form x f is = record {
    sorts = h.sorts;
    taken = h.taken ∙ sym (ap sort_names (none_more sorts_of rows (row_with Form x) refl));
    cons = subst (λ (z : List ConRow). AreCons all z c.cons c.shapes) (sym (none_more cons_of rows (row_with Form x) refl)) h.cons;
    forms = subst (λ (z : List FormRow). AreForms all z (c.forms ++ f ∷ [])) (sym (among_snoc forms_of rows (row_with Form x))) (forms_snoc all (forms_among rows) c.forms x f h.forms is);
  }

  next_kept : (r : Row) → sorts_of r ≡ [] → cons_of r ≡ [] → forms_of r ≡ [] → Declare all (rows ++ r ∷ []) c
  next_kept r a b d = record {
    sorts = h.sorts;
    taken = h.taken ∙ sym (ap sort_names (none_more sorts_of rows r a));
    cons = subst (λ (z : List ConRow). AreCons all z c.cons c.shapes) (sym (none_more cons_of rows r b)) h.cons;
    forms = subst (λ (z : List FormRow). AreForms all z c.forms) (sym (none_more forms_of rows r d)) h.forms;
  }

-- ---- the declarations

-- after these declarations the constructors and forms are those before and these, and each of them is as stated
record Declared (all : List SortRow) (before rows : List Row) (c : Context) (ss : List Shape) (fs : List FormData) : Type 0 where
  end : Context
  declare : Declare all (before ++ rows) end
  shapes : end.shapes ≡ c.shapes ++ ss
  forms : end.forms ≡ c.forms ++ fs
  fit : AllRowsFit all before rows

no_cons : (all : List SortRow) (names : List (List ℕ)) (ss : List Shape) → AreCons all [] names ss → ss ≡ []
no_cons all [] [] h = refl
no_cons all [] (s ∷ ss) h = absurd h
no_cons all (n ∷ names) ss h = absurd h

no_forms : (all : List SortRow) (fs : List FormData) → AreForms all [] fs → fs ≡ []
no_forms all [] h = refl
no_forms all (f ∷ fs) h = absurd h

module _ (all : List SortRow) where
  declared_on : (before : List Row) (r : Row) (rows : List Row) (c d : Context) (ss ts : List Shape) (fs gs : List FormData) → Declare all before c → PartsFit c r.keyword r.parts → d.shapes ++ ss ≡ c.shapes ++ ts → d.forms ++ fs ≡ c.forms ++ gs
      → Declared all (before ++ r ∷ []) rows d ss fs → Declared all before (r ∷ rows) c ts gs
  declared_on before r rows c d ss ts fs gs h fits a b w = record {
    end = w.end;
    declare = subst (λ (z : List Row). Declare all z w.end) (append_assoc before (r ∷ []) rows) w.declare;
    shapes = w.shapes ∙ a;
    forms = w.forms ∙ b;
    fit = ((c, h, fits), w.fit);
  }

  said_declarations : (ds : List Declaration) (before : List Row) (c : Context) (ns : List (List ℕ)) (ss : List Shape) (fs : List FormData) → Declare all before c → AllSpelled (map declaration_row ds)
      → AreCons all (con_rows ds) ns ss → AreForms all (form_rows ds) fs → AreTextsDistinct (c.taken ++ map (λ row. row.name) (sort_rows ds)) → AreTextsDistinct (c.cons ++ ns) → AreTextsDistinct (form_names c.forms ++ form_names fs)
      → Declared all before (map declaration_row ds) c ss fs
  said_declarations [] before c ns ss fs h sp hc hf dt dc df = record {
    end = c;
    declare = subst (λ (z : List Row). Declare all z c) (sym (append-nil before)) h;
    shapes = sym (ap (λ (z : List Shape). c.shapes ++ z) (no_cons all ns ss hc) ∙ append-nil c.shapes);
    forms = sym (ap (λ (z : List FormData). c.forms ++ z) (no_forms all fs hf) ∙ append-nil c.forms);
    fit = tt;
  }
  said_declarations (sort_line x ∷ ds) before c ns ss fs h sp hc hf dt dc df =
      declared_on before (row_with Sort x) (map declaration_row ds) c (with_sort c x.name) ss ss fs fs h
      (sp.0, new_name c.taken x.name (map (λ row. row.name) (sort_rows ds)) dt) refl refl
      (said_declarations ds (before ++ row_with Sort x ∷ []) (with_sort c x.name) ns ss fs (next_sort all before c h x) sp.1 hc hf
      (distinct_on c.taken x.name (map (λ row. row.name) (sort_rows ds)) dt) dc df)
  said_declarations (con_line x ∷ ds) before c [] ss fs h sp hc hf dt dc df = absurd hc
  said_declarations (con_line x ∷ ds) before c (n ∷ ns) [] fs h sp hc hf dt dc df = absurd hc
  said_declarations (con_line x ∷ ds) before c (n ∷ ns) (s ∷ ss) fs h sp hc hf dt dc df =
      let is : IsConOf all x s = record { sort = hc.1; kids = hc.2; may = hc.3 } in
      declared_on before (row_with Con x) (map declaration_row ds) c (with_con c n s) ss (s ∷ ss) fs fs h
      (sp.0, (λ k. new_name c.cons n ns dc (subst (Contains c.cons) hc.0 k)), s, subst (λ (z : List SortRow). IsConOf z x s) (sym h.sorts) is) (append_assoc c.shapes (s ∷ []) ss) refl
      (said_declarations ds (before ++ row_with Con x ∷ []) (with_con c n s) ns ss fs (next_con all before c h x n s hc.0 is) sp.1 hc.4 hf dt (distinct_on c.cons n ns dc) df)
  said_declarations (form_line x ∷ ds) before c ns ss [] h sp hc hf dt dc df = absurd hf
  said_declarations (form_line x ∷ ds) before c ns ss (f ∷ fs) h sp hc hf dt dc df =
      let is : IsFormOf all x f = record { name = hf.0; places = hf.1; one = hf.2 } in
      declared_on before (row_with Form x) (map declaration_row ds) c (with_form c f) ss ss fs (f ∷ fs) h
      (sp.0.0, sp.0.1, (λ k. new_name (form_names c.forms) f.name (form_names fs) df (subst (Contains (form_names c.forms)) hf.0 k)), f, subst (λ (z : List SortRow). IsFormOf z x f) (sym h.sorts) is) refl (append_assoc c.forms (f ∷ []) fs)
      (said_declarations ds (before ++ row_with Form x ∷ []) (with_form c f) ns ss fs (next_form all before c h x f is) sp.1 hc hf.3 dt dc
      (subst (λ (z : List (List ℕ)). AreTextsDistinct (z ++ form_names fs)) (sym (map_last (λ (g : FormData). g.name) c.forms f)) (distinct_on (form_names c.forms) f.name (form_names fs) df)))

-- ---- the rules and the goal

-- a word after the declarations
abbrev IsLater : Keyword → Type 0
IsLater Sort = ⊥
IsLater Con = ⊥
IsLater Form = ⊥
IsLater _ = Unit {0}

-- each of the rows is no declaration, and as stated
abbrev AllLater : Context → List Row → Type 0
AllLater c [] = Unit {0}
AllLater c (r ∷ rows) = IsLater r.keyword × PartsFit c r.keyword r.parts × AllLater c rows

later_append : (c : Context) (xs ys : List Row) → AllLater c xs → AllLater c ys → AllLater c (xs ++ ys)
later_append c [] ys h k = k
later_append c (x ∷ xs) ys h k = (h.0, h.1, later_append c xs ys h.2 k)

later_none : (k : Keyword) (p : RowParts k) → IsLater k → (core_sorts_at k p ≡ []) × (cons_at k p ≡ []) × (forms_at k p ≡ [])
later_none Head p h = (refl, refl, refl)
later_none Sort p h = absurd h
later_none Con p h = absurd h
later_none Form p h = absurd h
later_none Rule p h = (refl, refl, refl)
later_none If p h = (refl, refl, refl)
later_none Not p h = (refl, refl, refl)
later_none Then p h = (refl, refl, refl)
later_none End p h = (refl, refl, refl)
later_none Goal p h = (refl, refl, refl)

module _ (all : List SortRow) (c : Context) where
  later_fit : (rows before : List Row) → Declare all before c → AllLater c rows → AllRowsFit all before rows × Declare all (before ++ rows) c
  later_fit [] before d h = (tt, subst (λ (z : List Row). Declare all z c) (sym (append-nil before)) d)
  later_fit (r ∷ rows) before d h =
      let q = later_none r.keyword r.parts h.0 in
      let w = later_fit rows (before ++ r ∷ []) (next_kept all before c d r q.0 q.1 q.2) h.2 in
      (((c, d, h.1), w.0), subst (λ (z : List Row). Declare all z c) (append_assoc before (r ∷ []) rows) w.1)

fits_append : (all : List SortRow) (xs before ys : List Row) → AllRowsFit all before xs → AllRowsFit all (before ++ xs) ys → AllRowsFit all before (xs ++ ys)
fits_append all [] before ys h k = subst (λ (z : List Row). AllRowsFit all z ys) (append-nil before) k
fits_append all (x ∷ xs) before ys h k = (h.0, fits_append all xs (before ++ x ∷ []) ys h.1 (subst (λ (z : List Row). AllRowsFit all z ys) (sym (append_assoc before (x ∷ []) xs)) k))

module _ (c : Context) (named : AreStatedNames (map (λ row. row.name) c.sorts)) (forms : AreStatedNames (form_names c.forms)) where
  premises_later : (rows : List PremiseRow) (ps : List Premise) → AreCorePremises c.forms rows ps → AllLater c (map premise_row rows)
  premises_later [] ps h = tt
  premises_later (if_line r ∷ rows) [] h = absurd h
  premises_later (if_line r ∷ rows) (holds j ∷ ps) h = (tt, (j, (form_named c.forms r.form j.form forms h.0.form, h.0)), premises_later rows ps h.1)
  premises_later (if_line r ∷ rows) (apart t u ∷ ps) h = absurd h
  premises_later (not_line l m ∷ rows) [] h = absurd h
  premises_later (not_line l m ∷ rows) (holds j ∷ ps) h = absurd h
  premises_later (not_line l m ∷ rows) (apart t u ∷ ps) h = (tt, h.2, premises_later rows ps h.3)

  rule_later : (l : RuleRows) (r : NamedRule) → IsCoreRule c.sorts c.forms l r → AllLater c (rule_rows l)
  rule_later l r h = (
    tt,
    ((subst IsCoreName (sym h.name) h.is_name, sorts_named c.sorts l.sorts r.rule.sorts named h.sorts), r.rule.sorts, h.sorts),
    later_append c (map premise_row l.premises) (row_with Then l.conclusion ∷ row_with End tt ∷ []) (premises_later l.premises r.rule.premises h.premises)
        (tt, (r.rule.conclusion, (form_named c.forms l.conclusion.form r.rule.conclusion.form forms h.conclusion.form, h.conclusion)), (tt, tt, tt)),
  )

  rules_later : (ls : List RuleRows) (rs : List NamedRule) → AreCoreRules c.sorts c.forms ls rs → AllLater c (flat_map rule_rows ls)
  rules_later [] rs h = tt
  rules_later (l ∷ ls) [] h = absurd h
  rules_later (l ∷ ls) (r ∷ rs) h = later_append c (rule_rows l) (flat_map rule_rows ls) (rule_later l r h.0) (rules_later ls rs h.1)

-- ---- the whole file

nothing_declared : List SortRow → Context
nothing_declared all = record { sorts = all; taken = sort_names []; cons = []; shapes = []; forms = [] }

module _ (f : CoreFile) (p : Problem) (s : SaysCore f p) where
  abbrev said_sorts : List SortRow
  said_sorts = sort_rows f.declarations

  sorts_are_named : AreStatedNames (map (λ row. row.name) said_sorts)
  sorts_are_named = subst AreStatedNames s.sorts s.sort_names

  sorts_are_distinct : AreTextsDistinct (sort_names said_sorts)
  sorts_are_distinct = subst (λ (x : List (List ℕ)). AreTextsDistinct (sort_names [] ++ x)) s.sorts s.sorts_distinct

  at_head : Declare said_sorts (row_with Head tt ∷ []) (nothing_declared said_sorts)
  unfolding nothing_declared
  at_head = record { sorts = refl; taken = refl; cons = tt; forms = tt }

  declared : Declared said_sorts (row_with Head tt ∷ []) (map declaration_row f.declarations) (nothing_declared said_sorts) p.shapes p.forms
  unfolding nothing_declared
  declared =
      said_declarations said_sorts f.declarations (row_with Head tt ∷ []) (nothing_declared said_sorts) p.cons p.shapes p.forms at_head
      (declarations_spelled said_sorts sorts_are_named f.declarations p.cons p.shapes p.forms sorts_are_named s.cons s.con_names s.forms s.form_names)
      s.cons s.forms sorts_are_distinct s.cons_distinct s.forms_distinct

  pub last : Context
  last = declared.end

  last_shapes : last.shapes ≡ p.shapes
  unfolding nothing_declared last
  last_shapes = declared.shapes

  last_forms : last.forms ≡ p.forms
  unfolding nothing_declared last
  last_forms = declared.forms

  named_last : AreStatedNames (map (λ row. row.name) last.sorts)
  unfolding last
  named_last = subst (λ (z : List SortRow). AreStatedNames (map (λ row. row.name) z)) (sym declared.declare.sorts) sorts_are_named

  forms_last : AreStatedNames (form_names last.forms)
  forms_last = subst (λ (z : List FormData). AreStatedNames (form_names z)) (sym last_forms) s.form_names

  rules_last : AllLater last (flat_map rule_rows f.rules)
  unfolding last
  rules_last =
      rules_later last named_last forms_last f.rules p.rules
      (subst (λ (z : List SortRow). AreCoreRules z last.forms f.rules p.rules) (sym declared.declare.sorts) (subst (λ (z : List FormData). AreCoreRules said_sorts z f.rules p.rules) (sym last_forms) s.rules))

  goal_last : AllLater last (row_with Goal f.goal ∷ [])
  goal_last = (
    tt,
    (
      form_named p.forms f.goal.form p.goal.form s.form_names s.goal.form,
      p.goal,
      subst (λ (z : List Shape). IsGoal z last.forms f.goal p.goal) (sym last_shapes) (subst (λ (z : List FormData). IsGoal p.shapes z f.goal p.goal) (sym last_forms) s.goal),
    ),
    tt,
  )

  abbrev declared_front : List Row
  declared_front = row_with Head tt ∷ map declaration_row f.declarations

  abbrev later_rows : List Row
  later_rows = flat_map rule_rows f.rules ++ row_with Goal f.goal ∷ []

  rows_parts : declared_front ++ later_rows ≡ rows_of f
  rows_parts = ap (λ (z : List Row). row_with Head tt ∷ z) (sym (append_assoc (map declaration_row f.declarations) (flat_map rule_rows f.rules) (row_with Goal f.goal ∷ [])))

  later : AllRowsFit said_sorts declared_front later_rows × Declare said_sorts (declared_front ++ later_rows) last
  unfolding last
  later = later_fit said_sorts last later_rows declared_front declared.declare (later_append last (flat_map rule_rows f.rules) (row_with Goal f.goal ∷ []) rules_last goal_last)

  pub said_fit : AllRowsFit said_sorts [] (rows_of f)
  unfolding nothing_declared
  said_fit =
      subst (AllRowsFit said_sorts []) rows_parts
      ((nothing_declared said_sorts, record { sorts = refl; taken = refl; cons = tt; forms = tt }, tt), fits_append said_sorts (map declaration_row f.declarations) (row_with Head tt ∷ []) later_rows declared.fit later.0)

  pub said_declare : Declare said_sorts (rows_of f) last
  said_declare = subst (λ (z : List Row). Declare said_sorts z last) rows_parts later.1

-- ---- the lines of a file

texts_taken : (lines : Lines) (xs : List (List ℕ)) → line_texts lines ≡ xs → (n : ℕ) × Takes xs lines (over n)
texts_taken (over n) [] e = (n, refl)
texts_taken (over n) (x ∷ xs) e = absurd (let q : [] ≡ x ∷ xs = e in cc)
texts_taken (line n text after more) [] e = absurd (let q : text ∷ line_texts more ≡ [] = e in cc)
texts_taken (line n text after more) (x ∷ xs) e =
    let q = both text x (line_texts more) xs e in
    let w = texts_taken more xs q.1 in
    (w.0, (q.0, w.1))
  where
    both : (a b : List ℕ) (u v : List (List ℕ)) → a ∷ u ≡ b ∷ v → (a ≡ b) × (u ≡ v)
    both a b u v e = (cc, cc)

spelled_sort : (r : Row) (y : SortRow) → Spelled r.keyword r.parts → r ≡ row_with Sort y → IsCoreName y.name
spelled_sort r y h e = subst (λ (z : Row). Spelled z.keyword z.parts) e h

none_one : (x : SortRow) → [] ≡ x ∷ [] → ⊥
none_one x e = cc

-- the sorts of lines are those of their rows
lines_sorts : (rows : List Row) (found : List SortRow) (lines next : Lines) (n : ℕ) → next ≡ over n → Takes (map row_text rows) lines next → AllSpelled rows → AreTextsDistinct (sort_names (found ++ sorts_among rows)) → AreSorts found lines (found ++ sorts_among rows)
lines_sorts [] found lines next n o t sp d = subst (λ (z : Lines). AreSorts found z (found ++ [])) (sym (t ∙ o)) (sym (append-nil found))
lines_sorts (r ∷ rows) found (over m) next n o t sp d = absurd t
lines_sorts (r ∷ rows) found (line m text after more) next n o t sp d = elim (sort_or_none r.keyword r.parts) [
  | inl w ↦ inl (
      let x = w.0 in
      let same : sorts_of r ≡ x ∷ [] = ap sorts_of w.1 in
      let e : found ++ sorts_among (r ∷ rows) ≡ (found ++ x ∷ []) ++ sorts_among rows = ap (λ (z : List SortRow). found ++ (z ++ sorts_among rows)) same ∙ sym (append_assoc found (x ∷ []) (sorts_among rows)) in (
        x,
        (t.0 ∙ ap row_text w.1, spelled_sort r x sp.0 w.1, new_sort found x (sorts_among rows) (subst (λ (z : List SortRow). AreTextsDistinct (sort_names z)) (ap (λ (z : List SortRow). found ++ (z ++ sorts_among rows)) same) d)),
        subst (AreSorts (found ++ x ∷ []) more) (sym e) (lines_sorts rows (found ++ x ∷ []) more next n o t.1 sp.1 (subst (λ (z : List SortRow). AreTextsDistinct (sort_names z)) e d)),
      ))
  | inr none ↦ inr (
      let e : found ++ sorts_among (r ∷ rows) ≡ found ++ sorts_among rows = ap (λ (z : List SortRow). found ++ (z ++ sorts_among rows)) none in (
        (λ x h. none_one x (sym none ∙ ap sorts_of (only_sort text x h.1 h.0 r t.0 (λ y q. spelled_sort r y sp.0 q)))),
        subst (AreSorts found more) (sym e) (lines_sorts rows found more next n o t.1 sp.1 (subst (λ (z : List SortRow). AreTextsDistinct (sort_names z)) e d)),
      ))
]
  where
    names_append : (xs : List SortRow) (x : SortRow) (ys : List SortRow) → sort_names (xs ++ x ∷ ys) ≡ sort_names xs ++ x.name ∷ map (λ row. row.name) ys
    names_append xs x ys = ap (λ (z : List (List ℕ)). sort_names [] ++ z) (parts xs)
      where
        parts : (zs : List SortRow) → map (λ row. row.name) (zs ++ x ∷ ys) ≡ map (λ row. row.name) zs ++ x.name ∷ map (λ row. row.name) ys
        parts [] = refl
        parts (z ∷ zs) = ap (λ (w : List (List ℕ)). z.name ∷ w) (parts zs)

    new_sort : (xs : List SortRow) (x : SortRow) (ys : List SortRow) → AreTextsDistinct (sort_names (xs ++ x ∷ ys)) → Contains (sort_names xs) x.name → ⊥
    new_sort xs x ys g = new_name (sort_names xs) x.name (map (λ row. row.name) ys) (subst AreTextsDistinct (names_append xs x ys) g)

-- the lines of a file that says something are read to the end
pub said_read : (lines : Lines) (f : CoreFile) (p : Problem) → AreLinesOf lines f → SaysCore f p → (c : Context) × (n : ℕ) × ReadTo lines (rows_of f) c (over n)
said_read lines f p a s =
    let w = texts_taken lines (map row_text (rows_of f)) a in
    let among : sorts_among (rows_of f) ≡ sort_rows f.declarations =
    declared_rows (λ (z : Row). core_sorts_at z.keyword z.parts) refl (λ q. refl) (λ q. refl) (λ q. refl) (λ q. refl) refl (λ q. refl) f.declarations f.rules f.goal ∙ sorts_declared f.declarations in
    let sorts : AreSorts [] lines (sort_rows f.declarations) =
    subst (AreSorts [] lines) among (lines_sorts (rows_of f) [] lines (over w.0) w.0 refl w.1 (file_spelled f p s) (subst (λ (z : List SortRow). AreTextsDistinct (sort_names z)) (sym among) (sorts_are_distinct f p s))) in
    let declare = said_declare f p s in (
      last f p s,
      w.0,
      record {
        sorts = subst (AreSorts [] lines) (sym declare.sorts) sorts;
        takes = w.1;
        declare = subst (λ (z : List SortRow). Declare z (rows_of f) (last f p s)) (sym declare.sorts) declare;
        fit = subst (λ (z : List SortRow). AllRowsFit z [] (rows_of f)) (sym declare.sorts) (said_fit f p s);
        front = (f, [], sym (append-nil (rows_of f)));
      },
    )
