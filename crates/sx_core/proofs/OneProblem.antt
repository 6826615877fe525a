-- Lines state one problem at most.
use Rattle.std.proofs.Common.{◌≡◌, ℕ, zero, suc, true, false, List, [], ◌∷◌, ◌++◌, Some, map, refl, sym, ap, ◌∙◌, subst, append_assoc}
use Rattle.std.specs.Prelude.{slice_get, codes}
use Rattle.std.specs.Option.{option_map}
use Rattle.std.specs.List.{flat_map}
use Rattle.std.proofs.lemmas.Option.{slice_get-map}
use Rattle.sx_lines.specs.Words.{is_name}
use Rattle.sx_lines.specs.Lines.{Lines}
use Rattle.sx_term.specs.Tree.{Tree}
use Rattle.sx_term.specs.Sorts.{Shape}
use Rattle.sx_term.specs.declared.lex_kind.LexKind.TheVariants.{Id, Num, Str}
use Rattle.sx_term.specs.declared.sort.Sort.{Sort as SortOf}
use Rattle.sx_term.specs.declared.sort.Sort.TheVariants.{Lex, Plain, Typed}
use Rattle.sx_rules.specs.Modes.{Goal as GoalOf}
use Rattle.sx_rules.specs.Rules.{Judgement, Premise, holds, apart}
use Rattle.sx_rules.specs.declared.rule.Place.{Place}
use Rattle.sx_rules.specs.Views.{FormData, NamedRule}
use Rattle.sx_core.specs.Problem.{Problem}
use Rattle.sx_core.specs.File.{SortRow, PlaceRow, Declaration, sort_line, con_line, form_line}
use Rattle.sx_core.specs.File.{JudgementRow, PremiseRow, if_line, not_line, RuleRows, CoreFile}
use Rattle.sx_core.specs.File.{judgement_text}
use Rattle.sx_core.specs.Rows.{AreNamed}
use Rattle.sx_core.specs.Resolving.{sort_names}
use Rattle.sx_core.specs.Stated.{sort_rows, con_rows, form_rows, IsCoreName, AreStatedNames}
use Rattle.sx_core.specs.Stated.{NamesSort, NameSorts, AreCons, AreStatedPlaces}
use Rattle.sx_lines.specs.Distinct.{AreTextsDistinct}
use Rattle.sx_core.specs.Stated.{AreForms, NamesForm, IsJudgement, AreCorePremises, IsCoreRule, AreCoreRules}
use Rattle.sx_core.specs.Stated.{IsGoal, SaysCore}
use Rattle.sx_core.specs.Statements.{form_names}
use Rattle.sx_core.specs.TermsText.{terms_text, HaveCores}
use Rattle.sx_core.specs.Table.{RowParts, parts_text, Row, row_with, row_text, ApartRow, declaration_row}
use Rattle.sx_core.specs.Table.{premise_row, rule_rows, rows_of}
use Rattle.sx_core.specs.CoreRead.{AreLinesOf}
use Rattle.sx_core.specs.Laws.{OneProblemIsStated}
use Rattle.sx_core.specs.declared.keyword.Keyword.{Keyword}
use Rattle.sx_core.specs.declared.keyword.Keyword.TheVariants.{Head, Sort, Con, Form, Rule, If, Not}
use Rattle.sx_core.specs.declared.keyword.Keyword.TheVariants.{Then, End, Goal}
use Rattle.sx_core.proofs.NumberLaws.{one_place}
use Rattle.sx_core.proofs.ResolveLaws.{cons_same, forms_same}
use Rattle.sx_core.proofs.SortLaws.{sorts_same, some_same, none_some}
use Rattle.sx_core.proofs.StatementLaws.{terms_same, terms_stop, cores_of, judgement_open, words_terms}
use Rattle.sx_core.proofs.PartLaws.{sort_same, con_same, form_same, rule_same}
use Rattle.sx_core.proofs.TableLaws.{only_row, row_keyword}
use Rattle.sx_core.proofs.TermsLaws.{tail_is}
use Rattle.sx_core.proofs.Wording.{name_space, one_word}

-- ---- a line is that of one row

-- the names are names, and the terms have core texts
abbrev pub Spelled : (k : Keyword) → RowParts k → Type 0
Spelled Head p = Unit {0}
Spelled Sort r = IsCoreName r.name
Spelled Con r = AreStatedNames (r.name ∷ r.sort ∷ r.kids)
Spelled Form r = IsCoreName r.name × AreNamed r.places
Spelled Rule r = AreStatedNames (r.name ∷ r.sorts)
Spelled If r = IsCoreName r.form × HaveCores r.terms
Spelled Not r = HaveCores (r.left ∷ r.right ∷ [])
Spelled Then r = IsCoreName r.form × HaveCores r.terms
Spelled End p = Unit {0}
Spelled Goal r = IsCoreName r.form × HaveCores r.terms

-- each of the rows is spelled so
abbrev pub AllSpelled : List Row → Type 0
AllSpelled [] = Unit {0}
AllSpelled (r ∷ rows) = Spelled r.keyword r.parts × AllSpelled rows

pub all_spelled : (xs ys : List Row) → AllSpelled xs → AllSpelled ys → AllSpelled (xs ++ ys)
all_spelled [] ys h k = k
all_spelled (x ∷ xs) ys h k = (h.0, all_spelled xs ys h.1 k)

judgement_same : (a b : JudgementRow) → IsCoreName a.form × HaveCores a.terms → IsCoreName b.form × HaveCores b.terms → judgement_text a ≡ judgement_text b → a ≡ b
judgement_same a b h k e =
    let q = one_word a.form b.form (terms_text a.terms) (terms_text b.terms) (name_space a.form h.0) (name_space b.form k.0) (terms_stop a.terms) (terms_stop b.terms)
    (tail_is 32 32 (a.form ++ terms_text a.terms) (b.form ++ terms_text b.terms) (sym (judgement_open a) ∙ e ∙ judgement_open b)) in
    ap (λ (x : List ℕ). record { form = x; terms = a.terms }) q.0 ∙ ap (λ (x : List Tree). record { form = b.form; terms = x }) (terms_same a.terms b.terms h.1 k.1 q.1)

two_same : (a b c d : Tree) → a ∷ b ∷ [] ≡ c ∷ d ∷ [] → (a ≡ c) × (b ≡ d)
two_same a b c d e = (cc, cc)

apart_same : (a b : ApartRow) → HaveCores (a.left ∷ a.right ∷ []) → HaveCores (b.left ∷ b.right ∷ []) → parts_text Not a ≡ parts_text Not b → a ≡ b
apart_same a b h k e =
    let q = two_same a.left a.right b.left b.right (terms_same (a.left ∷ a.right ∷ []) (b.left ∷ b.right ∷ []) h k (sym (words_terms (a.left ∷ a.right ∷ [])) ∙ e ∙ words_terms (b.left ∷ b.right ∷ []))) in
    ap (λ (x : Tree). record { left = x; right = a.right }) q.0 ∙ ap (λ (x : Tree). record { left = b.left; right = x }) q.1

parts_same : (k : Keyword) (p q : RowParts k) → Spelled k p → Spelled k q → parts_text k p ≡ parts_text k q → p ≡ q
parts_same Head p q h j e = refl
parts_same Sort p q h j e = sort_same p q h j e
parts_same Con p q h j e = con_same p q h j e
parts_same Form p q h j e = form_same p q h j e
parts_same Rule p q h j e = rule_same p q h j e
parts_same If p q h j e = judgement_same p q h j e
parts_same Not p q h j e = apart_same p q h j e
parts_same Then p q h j e = judgement_same p q h j e
parts_same End p q h j e = refl
parts_same Goal p q h j e = judgement_same p q h j e

pub row_same : (r s : Row) → Spelled r.keyword r.parts → Spelled s.keyword s.parts → row_text r ≡ row_text s → r ≡ s
row_same r s h k e =
    only_row (row_text r) r.keyword (parts_text r.keyword r.parts) (row_keyword r) (λ (z : Row). Spelled z.keyword z.parts → r ≡ z)
    (λ p q j. ap (row_with r.keyword) (parts_same r.keyword r.parts p h j q)) s e k

head_is : (a b : List ℕ) (x y : List (List ℕ)) → a ∷ x ≡ b ∷ y → (a ≡ b) × (x ≡ y)
head_is a b x y e = (cc, cc)

nothing_same : (a : List ℕ) (x : List (List ℕ)) → [] ≡ a ∷ x → ⊥
nothing_same a x e = cc

rows_same : (xs ys : List Row) → AllSpelled xs → AllSpelled ys → map row_text xs ≡ map row_text ys → xs ≡ ys
rows_same [] [] h k e = refl
rows_same [] (y ∷ ys) h k e = absurd (nothing_same (row_text y) (map row_text ys) e)
rows_same (x ∷ xs) [] h k e = absurd (nothing_same (row_text x) (map row_text xs) (sym e))
rows_same (x ∷ xs) (y ∷ ys) h k e =
    let q = head_is (row_text x) (row_text y) (map row_text xs) (map row_text ys) e in
    ap (λ (z : Row). z ∷ xs) (row_same x y h.0 k.0 q.0) ∙ ap (λ (z : List Row). y ∷ z) (rows_same xs ys h.1 k.1 q.1)

-- ---- the rows are those of one file

-- what the rows from some row on are of
record Tail : Type 0 where
  declarations : List Declaration
  premises : List PremiseRow
  conclusion : JudgementRow
  rules : List RuleRows
  goal : JudgementRow

nothing : JudgementRow
nothing = record { form = []; terms = [] }

abbrev tail : List Declaration → List PremiseRow → JudgementRow → List RuleRows → JudgementRow → Tail
tail ds ps c rs g = record { declarations = ds; premises = ps; conclusion = c; rules = rs; goal = g }

abbrev put : (k : Keyword) → RowParts k → Tail → Tail
put Head p t = t
put Sort r t = tail (sort_line r ∷ t.declarations) t.premises t.conclusion t.rules t.goal
put Con r t = tail (con_line r ∷ t.declarations) t.premises t.conclusion t.rules t.goal
put Form r t = tail (form_line r ∷ t.declarations) t.premises t.conclusion t.rules t.goal
put Rule r t = tail t.declarations [] nothing (record { name = r.name; sorts = r.sorts; premises = t.premises; conclusion = t.conclusion } ∷ t.rules) t.goal
put If r t = tail t.declarations (if_line r ∷ t.premises) t.conclusion t.rules t.goal
put Not r t = tail t.declarations (not_line r.left r.right ∷ t.premises) t.conclusion t.rules t.goal
put Then r t = tail t.declarations t.premises r t.rules t.goal
put End p t = t
put Goal r t = tail t.declarations t.premises t.conclusion t.rules r

abbrev back : List Row → Tail
back [] = tail [] [] nothing [] nothing
back (r ∷ rows) = put r.keyword r.parts (back rows)

back_premises : (ps : List PremiseRow) (more : List Row) (c : JudgementRow) (rs : List RuleRows) (g : JudgementRow) → back more ≡ tail [] [] c rs g → back (map premise_row ps ++ more) ≡ tail [] ps c rs g
back_premises [] more c rs g h = h
back_premises (if_line r ∷ ps) more c rs g h = ap (λ (t : Tail). put If r t) (back_premises ps more c rs g h)
back_premises (not_line l m ∷ ps) more c rs g h = ap (λ (t : Tail). put Not (record { left = l; right = m }) t) (back_premises ps more c rs g h)

back_rule : (r : RuleRows) (more : List Row) (rs : List RuleRows) (g : JudgementRow) → back more ≡ tail [] [] nothing rs g → back (rule_rows r ++ more) ≡ tail [] [] nothing (r ∷ rs) g
back_rule r more rs g h =
    ap (λ (t : Tail). put Rule (record { name = r.name; sorts = r.sorts }) t)
    (ap back (append_assoc (map premise_row r.premises) (row_with Then r.conclusion ∷ row_with End tt ∷ []) more)
    ∙ back_premises r.premises (row_with Then r.conclusion ∷ row_with End tt ∷ more) r.conclusion rs g (ap (λ (t : Tail). put Then r.conclusion t) h))

back_rules : (rs : List RuleRows) (g : JudgementRow) → back (flat_map rule_rows rs ++ row_with Goal g ∷ []) ≡ tail [] [] nothing rs g
back_rules [] g = refl
back_rules (r ∷ rs) g =
    ap back (append_assoc (rule_rows r) (flat_map rule_rows rs) (row_with Goal g ∷ []))
    ∙ back_rule r (flat_map rule_rows rs ++ row_with Goal g ∷ []) rs g (back_rules rs g)

back_declarations : (ds : List Declaration) (more : List Row) (rs : List RuleRows) (g : JudgementRow) → back more ≡ tail [] [] nothing rs g → back (map declaration_row ds ++ more) ≡ tail ds [] nothing rs g
back_declarations [] more rs g h = h
back_declarations (sort_line r ∷ ds) more rs g h = ap (λ (t : Tail). put Sort r t) (back_declarations ds more rs g h)
back_declarations (con_line r ∷ ds) more rs g h = ap (λ (t : Tail). put Con r t) (back_declarations ds more rs g h)
back_declarations (form_line r ∷ ds) more rs g h = ap (λ (t : Tail). put Form r t) (back_declarations ds more rs g h)

back_file : (f : CoreFile) → back (rows_of f) ≡ tail f.declarations [] nothing f.rules f.goal
back_file f =
    ap back (append_assoc (map declaration_row f.declarations) (flat_map rule_rows f.rules) (row_with Goal f.goal ∷ []))
    ∙ back_declarations f.declarations (flat_map rule_rows f.rules ++ row_with Goal f.goal ∷ []) f.rules f.goal (back_rules f.rules f.goal)

pub file_same : (f g : CoreFile) → rows_of f ≡ rows_of g → f ≡ g
file_same f g e = ap (λ (t : Tail). record { declarations = t.declarations; rules = t.rules; goal = t.goal }) (sym (back_file f) ∙ ap back e ∙ back_file g)

-- ---- the rows of a file that says something are spelled

pub row_named : (all : List SortRow) (n : ℕ) (r : SortRow) → AreStatedNames (map (λ row. row.name) all) → slice_get all n ≡ Some r → IsCoreName r.name
row_named [] n r h e = absurd (none_some r e)
row_named (x ∷ all) zero r h e = subst (λ (z : SortRow). IsCoreName z.name) (some_same x r e) h.0
row_named (x ∷ all) (suc n) r h e = row_named all n r h.1 e

pub sort_named : (all : List SortRow) (name : List ℕ) (s : SortOf) → AreStatedNames (map (λ row. row.name) all) → NamesSort all name s → IsCoreName name
unfolding is_name
sort_named all name (Lex Id) n h = subst IsCoreName (sym h) refl
sort_named all name (Lex Num) n h = subst IsCoreName (sym h) refl
sort_named all name (Lex Str) n h = subst IsCoreName (sym h) refl
sort_named all name (Plain m) n h = row_named all m (record { name = name; typed = false }) n h
sort_named all name (Typed m) n h = row_named all m (record { name = name; typed = true }) n h

pub sorts_named : (all : List SortRow) (names : List (List ℕ)) (ss : List SortOf) → AreStatedNames (map (λ row. row.name) all) → NameSorts all names ss → AreStatedNames names
sorts_named all [] ss n h = tt
sorts_named all (name ∷ names) [] n h = absurd h
sorts_named all (name ∷ names) (s ∷ ss) n h = (sort_named all name s n h.0, sorts_named all names ss n h.1)

pub places_named : (all : List SortRow) (rows : List PlaceRow) (ps : List Place) → AreStatedNames (map (λ row. row.name) all) → AreStatedPlaces all rows ps → AreNamed rows
places_named all [] ps n h = tt
places_named all (r ∷ rows) [] n h = absurd h
places_named all (r ∷ rows) (p ∷ ps) n h = (sort_named all r.sort p.sort n h.1, places_named all rows ps n h.3)

pub declarations_spelled : (all : List SortRow) → AreStatedNames (map (λ row. row.name) all) → (ds : List Declaration) (cs : List (List ℕ)) (ss : List Shape) (fs : List FormData)
    → AreStatedNames (map (λ row. row.name) (sort_rows ds)) → AreCons all (con_rows ds) cs ss → AreStatedNames cs → AreForms all (form_rows ds) fs → AreStatedNames (form_names fs) → AllSpelled (map declaration_row ds)
declarations_spelled all n [] cs ss fs a b c d e = tt
declarations_spelled all n (sort_line r ∷ ds) cs ss fs a b c d e = (a.0, declarations_spelled all n ds cs ss fs a.1 b c d e)
declarations_spelled all n (con_line r ∷ ds) [] ss fs a b c d e = absurd b
declarations_spelled all n (con_line r ∷ ds) (m ∷ cs) [] fs a b c d e = absurd b
declarations_spelled all n (con_line r ∷ ds) (m ∷ cs) (s ∷ ss) fs a b c d e =
    ((subst IsCoreName (sym b.0) c.0, (sort_named all r.sort s.sort n b.1, sorts_named all r.kids s.kids n b.2)), declarations_spelled all n ds cs ss fs a b.4 c.1 d e)
declarations_spelled all n (form_line r ∷ ds) cs ss [] a b c d e = absurd d
declarations_spelled all n (form_line r ∷ ds) cs ss (f ∷ fs) a b c d e =
    ((subst IsCoreName (sym d.0) e.0, places_named all r.places f.places n d.1), declarations_spelled all n ds cs ss fs a b c d.3 e.1)

name_at : (known : List FormData) (n : ℕ) (f : FormData) → AreStatedNames (form_names known) → slice_get known n ≡ Some f → IsCoreName f.name
name_at [] n f h e = absurd (none_some f e)
name_at (x ∷ known) zero f h e = subst (λ (z : FormData). IsCoreName z.name) (some_same x f e) h.0
name_at (x ∷ known) (suc n) f h e = name_at known n f h.1 e

pub form_named : (known : List FormData) (name : List ℕ) (n : ℕ) → AreStatedNames (form_names known) → NamesForm known name n → IsCoreName name
form_named known name n h w = subst IsCoreName w.2 (name_at known n w.0 h w.1)

module _ (all : List SortRow) (known : List FormData) (named : AreStatedNames (map (λ row. row.name) all)) (forms : AreStatedNames (form_names known)) where
  judgement_spelled : (r : JudgementRow) (j : Judgement) → IsJudgement known r j → IsCoreName r.form × HaveCores r.terms
  judgement_spelled r j h = (form_named known r.form j.form forms h.form, cores_of r.terms h.readable)

  premises_spelled : (rows : List PremiseRow) (ps : List Premise) → AreCorePremises known rows ps → AllSpelled (map premise_row rows)
  premises_spelled [] ps h = tt
  premises_spelled (if_line r ∷ rows) [] h = absurd h
  premises_spelled (if_line r ∷ rows) (holds j ∷ ps) h = (judgement_spelled r j h.0, premises_spelled rows ps h.1)
  premises_spelled (if_line r ∷ rows) (apart t u ∷ ps) h = absurd h
  premises_spelled (not_line l m ∷ rows) [] h = absurd h
  premises_spelled (not_line l m ∷ rows) (holds j ∷ ps) h = absurd h
  premises_spelled (not_line l m ∷ rows) (apart t u ∷ ps) h = (cores_of (l ∷ m ∷ []) h.2, premises_spelled rows ps h.3)

  rules_spelled : (ls : List RuleRows) (rs : List NamedRule) → AreCoreRules all known ls rs → AllSpelled (flat_map rule_rows ls)
  rules_spelled [] rs h = tt
  rules_spelled (l ∷ ls) [] h = absurd h
  rules_spelled (l ∷ ls) (r ∷ rs) h =
      all_spelled (rule_rows l) (flat_map rule_rows ls) (
        (subst IsCoreName (sym h.0.name) h.0.is_name, sorts_named all l.sorts r.rule.sorts named h.0.sorts),
        all_spelled (map premise_row l.premises) (row_with Then l.conclusion ∷ row_with End tt ∷ []) (premises_spelled l.premises r.rule.premises h.0.premises) (judgement_spelled l.conclusion r.rule.conclusion h.0.conclusion, (tt, tt)),
      )
      (rules_spelled ls rs h.1)

pub file_spelled : (f : CoreFile) (p : Problem) → SaysCore f p → AllSpelled (rows_of f)
file_spelled f p s =
    let all = sort_rows f.declarations in
    let named : AreStatedNames (map (λ row. row.name) (sort_rows f.declarations)) = subst AreStatedNames s.sorts s.sort_names in (
      tt,
      all_spelled (map declaration_row f.declarations ++ flat_map rule_rows f.rules) (row_with Goal f.goal ∷ [])
          (all_spelled (map declaration_row f.declarations) (flat_map rule_rows f.rules)
          (declarations_spelled (sort_rows f.declarations) named f.declarations p.cons p.shapes p.forms named s.cons s.con_names s.forms s.form_names)
          (rules_spelled (sort_rows f.declarations) p.forms named s.form_names f.rules p.rules s.rules))
          ((form_named p.forms f.goal.form p.goal.form s.form_names s.goal.form, cores_of f.goal.terms s.goal.readable), tt),
    )

-- ---- a file says one thing

form_at : (known : List FormData) (name : List ℕ) (n : ℕ) → NamesForm known name n → slice_get (form_names known) n ≡ Some name
form_at known name n w = slice_get-map (λ (f : FormData). f.name) known n ∙ ap (option_map (λ (f : FormData). f.name)) w.1 ∙ ap Some w.2

module _ (all : List SortRow) (known : List FormData) (sorts : AreTextsDistinct (sort_names all)) (forms : AreTextsDistinct (form_names known)) where
  one_form : (name : List ℕ) (n m : ℕ) → NamesForm known name n → NamesForm known name m → n ≡ m
  one_form name n m h k = one_place (form_names known) forms n m name (form_at known name n h) (form_at known name m k)

  one_judgement : (r : JudgementRow) (j k : Judgement) → IsJudgement known r j → IsJudgement known r k → j ≡ k
  one_judgement r j k a b =
      ap (λ (x : ℕ). record { form = x; places = j.places }) (one_form r.form j.form k.form a.form b.form)
      ∙ ap (λ (x : List Tree). record { form = k.form; places = x }) (a.places ∙ sym b.places)

  premises_same : (rows : List PremiseRow) (ps qs : List Premise) → AreCorePremises known rows ps → AreCorePremises known rows qs → ps ≡ qs
  premises_same [] [] [] h k = refl
  premises_same [] [] (q ∷ qs) h k = absurd k
  premises_same [] (p ∷ ps) qs h k = absurd h
  premises_same (if_line r ∷ rows) [] qs h k = absurd h
  premises_same (if_line r ∷ rows) (holds j ∷ ps) [] h k = absurd k
  premises_same (if_line r ∷ rows) (holds j ∷ ps) (holds i ∷ qs) h k = ap (λ (x : Judgement). holds x ∷ ps) (one_judgement r j i h.0 k.0) ∙ ap (λ (x : List Premise). holds i ∷ x) (premises_same rows ps qs h.1 k.1)
  premises_same (if_line r ∷ rows) (holds j ∷ ps) (apart t u ∷ qs) h k = absurd k
  premises_same (if_line r ∷ rows) (apart t u ∷ ps) qs h k = absurd h
  premises_same (not_line l m ∷ rows) [] qs h k = absurd h
  premises_same (not_line l m ∷ rows) (holds j ∷ ps) qs h k = absurd h
  premises_same (not_line l m ∷ rows) (apart t u ∷ ps) [] h k = absurd k
  premises_same (not_line l m ∷ rows) (apart t u ∷ ps) (holds i ∷ qs) h k = absurd k
  premises_same (not_line l m ∷ rows) (apart t u ∷ ps) (apart v w ∷ qs) h k =
      ap (λ (x : Tree). apart x u ∷ ps) (sym h.0 ∙ k.0) ∙ ap (λ (x : Tree). apart v x ∷ ps) (sym h.1 ∙ k.1) ∙ ap (λ (x : List Premise). apart v w ∷ x) (premises_same rows ps qs h.3 k.3)

  one_rule : (l : RuleRows) (r s : NamedRule) → IsCoreRule all known l r → IsCoreRule all known l s → r ≡ s
  one_rule l r s h k =
      ap (λ (x : List ℕ). record { name = x; rule = r.rule }) (sym h.name ∙ k.name)
      ∙ ap (λ (x : List SortOf). record { name = s.name; rule = record { sorts = x; premises = r.rule.premises; conclusion = r.rule.conclusion } }) (sorts_same all l.sorts r.rule.sorts s.rule.sorts sorts h.sorts k.sorts)
      ∙ ap (λ (x : List Premise). record { name = s.name; rule = record { sorts = s.rule.sorts; premises = x; conclusion = r.rule.conclusion } }) (premises_same l.premises r.rule.premises s.rule.premises h.premises k.premises)
      ∙ ap (λ (x : Judgement). record { name = s.name; rule = record { sorts = s.rule.sorts; premises = s.rule.premises; conclusion = x } }) (one_judgement l.conclusion r.rule.conclusion s.rule.conclusion h.conclusion k.conclusion)

  rules_same : (ls : List RuleRows) (rs ss : List NamedRule) → AreCoreRules all known ls rs → AreCoreRules all known ls ss → rs ≡ ss
  rules_same [] [] [] h k = refl
  rules_same [] [] (s ∷ ss) h k = absurd k
  rules_same [] (r ∷ rs) ss h k = absurd h
  rules_same (l ∷ ls) [] ss h k = absurd h
  rules_same (l ∷ ls) (r ∷ rs) [] h k = absurd k
  rules_same (l ∷ ls) (r ∷ rs) (s ∷ ss) h k = ap (λ (x : NamedRule). x ∷ rs) (one_rule l r s h.0 k.0) ∙ ap (λ (x : List NamedRule). s ∷ x) (rules_same ls rs ss h.1 k.1)

  one_goal : (S : List Shape) (r : JudgementRow) (g i : GoalOf) → IsGoal S known r g → IsGoal S known r i → g ≡ i
  one_goal S r g i h k =
      ap (λ (x : ℕ). record { form = x; terms = g.terms }) (one_form r.form g.form i.form h.form k.form)
      ∙ ap (λ (x : List Tree). record { form = i.form; terms = x }) (h.terms ∙ sym k.terms)

pub one_said : (f : CoreFile) (p q : Problem) → SaysCore f p → SaysCore f q → p ≡ q
one_said f p q h k =
    let distinct : AreTextsDistinct (sort_names (sort_rows f.declarations)) = subst (λ (x : List (List ℕ)). AreTextsDistinct (codes "id" ∷ codes "num" ∷ codes "str" ∷ x)) h.sorts h.sorts_distinct in
    let cons = cons_same (sort_rows f.declarations) (con_rows f.declarations) p.cons q.cons p.shapes q.shapes distinct h.cons k.cons in
    let forms = forms_same (sort_rows f.declarations) (form_rows f.declarations) p.forms q.forms distinct h.forms k.forms in
    let rules = rules_same (sort_rows f.declarations) p.forms distinct h.forms_distinct f.rules p.rules q.rules h.rules (subst (λ (x : List FormData). AreCoreRules (sort_rows f.declarations) x f.rules q.rules) (sym forms) k.rules) in
    let goal = one_goal (sort_rows f.declarations) p.forms distinct h.forms_distinct p.shapes f.goal p.goal q.goal h.goal
    (subst (λ (x : List Shape). IsGoal x p.forms f.goal q.goal) (sym cons.1) (subst (λ (x : List FormData). IsGoal q.shapes x f.goal q.goal) (sym forms) k.goal)) in
    ap (λ (x : List (List ℕ)). record { sorts = x; cons = p.cons; shapes = p.shapes; forms = p.forms; rules = p.rules; goal = p.goal }) (h.sorts ∙ sym k.sorts)
    ∙ ap (λ (x : List (List ℕ)). record { sorts = q.sorts; cons = x; shapes = p.shapes; forms = p.forms; rules = p.rules; goal = p.goal }) cons.0
    ∙ ap (λ (x : List Shape). record { sorts = q.sorts; cons = q.cons; shapes = x; forms = p.forms; rules = p.rules; goal = p.goal }) cons.1
    ∙ ap (λ (x : List FormData). record { sorts = q.sorts; cons = q.cons; shapes = q.shapes; forms = x; rules = p.rules; goal = p.goal }) forms
    ∙ ap (λ (x : List NamedRule). record { sorts = q.sorts; cons = q.cons; shapes = q.shapes; forms = q.forms; rules = x; goal = p.goal }) rules
    ∙ ap (λ (x : GoalOf). record { sorts = q.sorts; cons = q.cons; shapes = q.shapes; forms = q.forms; rules = q.rules; goal = x }) goal

pub one_of_lines : (lines : Lines) (f g : CoreFile) (p q : Problem) → AreLinesOf lines f → AreLinesOf lines g → SaysCore f p → SaysCore g q → p ≡ q
one_of_lines lines f g p q a b h k =
    let same = file_same f g (rows_same (rows_of f) (rows_of g) (file_spelled f p h) (file_spelled g q k) (sym a ∙ b)) in
    one_said f p q h (subst (λ (x : CoreFile). SaysCore x q) (sym same) k)

pub one_problem : OneProblemIsStated
one_problem lines f g p q a b h k = one_of_lines lines f g p q a b h.says k.says
