-- The parts of lines: a text is that of one row only, and what a refusal of the parts is for the line.
use Rattle.std.proofs.Common.{◌≡◌, ℕ, Bool, true, false, List, [], ◌∷◌, ◌++◌, map, refl, sym, ap, ◌∙◌, subst, arith}
use Rattle.std.specs.Prelude.{codes, Contains, Option, Some, None, MatchOption, slice_get, is_some}
use Rattle.std.proofs.lemmas.Bool.{false≢true}
use Rattle.sx_term.specs.Tree.{Tree}
use Rattle.sx_term.specs.Sorts.{Shape}
use Rattle.sx_term.specs.declared.sort.Sort.{Sort as SortOf}
use Rattle.sx_term.specs.Core.{core}
use Rattle.sx_rules.specs.Modes.{Goal as GoalOf, inputs}
use Rattle.sx_rules.specs.Rules.{Judgement}
use Rattle.sx_rules.specs.Views.{FormData, modes_of, sorts_of}
use Rattle.sx_term.specs.declared.role.Role.{Role}
use Rattle.sx_term.specs.declared.role.Role.TheVariants.{In, Sub, Out}
use Rattle.sx_core.specs.File.{SortRow, ConRow, PlaceRow, FormRow, JudgementRow, sort_line}
use Rattle.sx_core.specs.File.{con_line, form_line, words_text, core_kind_text, core_role_text}
use Rattle.sx_core.specs.File.{core_place_text, judgement_text}
use Rattle.sx_core.specs.Stated.{IsCoreName, AreStatedNames, NameSorts, IsGoal, AreReadable}
use Rattle.sx_core.specs.Rows.{AreNamed, IsDeclarationLine, NoRow}
use Rattle.sx_core.specs.Words.{IsNameRead, NameRefused, AreNamesRead, NamesRefused}
use Rattle.sx_core.specs.Resolving.{NoCoreRowIs, IsConOf, IsFormOf}
use Rattle.sx_core.specs.Statements.{form_names, IsJudgementRead, IsDeepJudgement, IsGoalRead}
use Rattle.sx_core.specs.Statements.{IsDeepGoal}
use Rattle.sx_core.specs.TermsText.{terms_text, RowRead, IsDeepRow, RefusedAs}
use Rattle.sx_core.specs.Table.{core_keyword_text, RowParts, parts_text, Row, row_with, RuleRow, IsKeyword}
use Rattle.sx_core.specs.Fitting.{Context, PartsFit, IsFullJudgement, IsDeep, IsFitting, IsDeepLine}
use Rattle.sx_core.specs.declared.keyword.Keyword.{Keyword}
use Rattle.sx_core.specs.declared.keyword.Keyword.TheVariants.{Head, Sort, Con, Form, Rule, If, Not}
use Rattle.sx_core.specs.declared.keyword.Keyword.TheVariants.{Then, End, Goal}
use Rattle.sx_core.specs.declared.terms_row.RowError.{RowError}
use Rattle.sx_core.specs.declared.terms_row.RowError.TheVariants.{Memory, Shape as Bad, TooDeep}
use Rattle.sx_core.proofs.TermsLaws.{tail_is}
use Rattle.sx_core.proofs.Wording.{name_space, one_word, one_words, words_stop, names_words, AreWords}
use Rattle.sx_core.proofs.RowLaws.{same_after, place_words, first_of}
use Rattle.sx_core.proofs.TableLaws.{one_keyword, only_row}
use Rattle.sx_core.proofs.StatementLaws.{judgement_open, terms_stop, cores_of, shallow_of, readable_of}
use Rattle.sx_core.proofs.FitLaws.{have_length}

clash : (x y : List ℕ) (a b : ℕ) → first_of x ≡ a → first_of y ≡ b → (a ≡ b → ⊥) → x ≡ y → ⊥
clash x y a b p q n e = n (sym p ∙ ap first_of e ∙ q)

first_same : (a b : List ℕ) (x y : List (List ℕ)) → a ∷ x ≡ b ∷ y → a ≡ b
first_same a b x y e = cc

rest_same : (a b : List ℕ) (x y : List (List ℕ)) → a ∷ x ≡ b ∷ y → x ≡ y
rest_same a b x y e = cc

no_lines : (a : List ℕ) (x : List (List ℕ)) → [] ≡ a ∷ x → ⊥
no_lines a x e = cc

-- ---- one row only

role_same : (r s : Role) (a b : List ℕ) → core_role_text r ++ a ≡ core_role_text s ++ b → (r ≡ s) × (a ≡ b)
role_same In In a b e = (refl, same_after (codes "in:") a b e)
role_same Sub Sub a b e = (refl, same_after (codes "sub:") a b e)
role_same Out Out a b e = (refl, same_after (codes "out:") a b e)
role_same In Sub a b e = absurd (clash _ _ 105 115 refl refl (λ q. omega arith) e)
role_same In Out a b e = absurd (clash _ _ 105 111 refl refl (λ q. omega arith) e)
role_same Sub In a b e = absurd (clash _ _ 115 105 refl refl (λ q. omega arith) e)
role_same Sub Out a b e = absurd (clash _ _ 115 111 refl refl (λ q. omega arith) e)
role_same Out In a b e = absurd (clash _ _ 111 105 refl refl (λ q. omega arith) e)
role_same Out Sub a b e = absurd (clash _ _ 111 115 refl refl (λ q. omega arith) e)

place_same : (p q : PlaceRow) → core_place_text p ≡ core_place_text q → p ≡ q
place_same p q e =
    let h = role_same p.role q.role p.sort q.sort e in
    ap (λ (x : Role). record { role = x; sort = p.sort }) h.0 ∙ ap (λ (x : List ℕ). record { role = q.role; sort = x }) h.1

places_same : (ps qs : List PlaceRow) → map core_place_text ps ≡ map core_place_text qs → ps ≡ qs
places_same [] [] e = refl
places_same [] (q ∷ qs) e = absurd (no_lines (core_place_text q) (map core_place_text qs) e)
places_same (p ∷ ps) [] e = absurd (no_lines (core_place_text p) (map core_place_text ps) (sym e))
places_same (p ∷ ps) (q ∷ qs) e =
    let h = place_same p q (first_same (core_place_text p) (core_place_text q) (map core_place_text ps) (map core_place_text qs) e) in
    let k = places_same ps qs (rest_same (core_place_text p) (core_place_text q) (map core_place_text ps) (map core_place_text qs) e) in
    ap (λ r. r ∷ ps) h ∙ ap (λ r. q ∷ r) k

kind_words : (typed : Bool) → AreWords (core_kind_text typed ∷ [])
kind_words true = (((λ e. omega arith), ((λ e. omega arith), ((λ e. omega arith), ((λ e. omega arith), ((λ e. omega arith), tt))))), tt)
kind_words false = (((λ e. omega arith), ((λ e. omega arith), ((λ e. omega arith), ((λ e. omega arith), ((λ e. omega arith), tt))))), tt)

kind_same : (a b : Bool) → core_kind_text a ≡ core_kind_text b → a ≡ b
kind_same true true e = refl
kind_same false false e = refl
kind_same true false e = absurd (clash _ _ 116 112 refl refl (λ q. omega arith) e)
kind_same false true e = absurd (clash _ _ 112 116 refl refl (λ q. omega arith) e)

pub sort_same : (a b : SortRow) → IsCoreName a.name → IsCoreName b.name → parts_text Sort a ≡ parts_text Sort b → a ≡ b
sort_same a b h k e =
    let q = one_words (a.name ∷ core_kind_text a.typed ∷ []) (b.name ∷ core_kind_text b.typed ∷ []) (name_space a.name h, kind_words a.typed) (name_space b.name k, kind_words b.typed) e in
    let n = first_same a.name b.name (core_kind_text a.typed ∷ []) (core_kind_text b.typed ∷ []) q in
    let t = kind_same a.typed b.typed (first_same (core_kind_text a.typed) (core_kind_text b.typed) [] [] (rest_same a.name b.name (core_kind_text a.typed ∷ []) (core_kind_text b.typed ∷ []) q)) in
    ap (λ (x : List ℕ). record { name = x; typed = a.typed }) n ∙ ap (λ (x : Bool). record { name = b.name; typed = x }) t

pub con_same : (a b : ConRow) → AreStatedNames (a.name ∷ a.sort ∷ a.kids) → AreStatedNames (b.name ∷ b.sort ∷ b.kids) → parts_text Con a ≡ parts_text Con b → a ≡ b
con_same a b h k e =
    let q = one_words (a.name ∷ a.sort ∷ a.kids) (b.name ∷ b.sort ∷ b.kids) (names_words (a.name ∷ a.sort ∷ a.kids) h) (names_words (b.name ∷ b.sort ∷ b.kids) k) e in
    let n = first_same a.name b.name (a.sort ∷ a.kids) (b.sort ∷ b.kids) q in
    let r = rest_same a.name b.name (a.sort ∷ a.kids) (b.sort ∷ b.kids) q in
    let s = first_same a.sort b.sort a.kids b.kids r in
    let t = rest_same a.sort b.sort a.kids b.kids r in
    ap (λ (x : List ℕ). record { name = x; sort = a.sort; kids = a.kids }) n ∙ ap (λ (x : List ℕ). record { name = b.name; sort = x; kids = a.kids }) s ∙ ap (λ (x : List (List ℕ)). record { name = b.name; sort = b.sort; kids = x }) t

pub form_same : (a b : FormRow) → IsCoreName a.name × AreNamed a.places → IsCoreName b.name × AreNamed b.places → parts_text Form a ≡ parts_text Form b → a ≡ b
form_same a b h k e =
    let q = one_words (a.name ∷ map core_place_text a.places) (b.name ∷ map core_place_text b.places) (name_space a.name h.0, place_words a.places h.1) (name_space b.name k.0, place_words b.places k.1) e in
    let n = first_same a.name b.name (map core_place_text a.places) (map core_place_text b.places) q in
    let t = places_same a.places b.places (rest_same a.name b.name (map core_place_text a.places) (map core_place_text b.places) q) in
    ap (λ (x : List ℕ). record { name = x; places = a.places }) n ∙ ap (λ (x : List PlaceRow). record { name = b.name; places = x }) t

pub rule_same : (a b : RuleRow) → AreStatedNames (a.name ∷ a.sorts) → AreStatedNames (b.name ∷ b.sorts) → parts_text Rule a ≡ parts_text Rule b → a ≡ b
rule_same a b h k e =
    let q = one_words (a.name ∷ a.sorts) (b.name ∷ b.sorts) (names_words (a.name ∷ a.sorts) h) (names_words (b.name ∷ b.sorts) k) e in
    ap (λ (x : List ℕ). record { name = x; sorts = a.sorts }) (first_same a.name b.name a.sorts b.sorts q) ∙ ap (λ (x : List (List ℕ)). record { name = b.name; sorts = x }) (rest_same a.name b.name a.sorts b.sorts q)

-- ---- lines

-- the parts are these, and as stated
abbrev pub IsPart : Context → (k : Keyword) → List ℕ → RowParts k → Type 0
IsPart c k rest p = (rest ≡ parts_text k p) × PartsFit c k p

pub line_fits : (c : Context) (k : Keyword) (text rest : List ℕ) → IsKeyword text k rest → (p : RowParts k) → IsPart c k rest p → IsFitting c text (row_with k p)
line_fits c k text rest h p q = (h.parts ∙ ap (λ (x : List ℕ). core_keyword_text k ++ x) q.0, q.1)

deep_same : (c : Context) (k : Keyword) (text rest : List ℕ) → IsKeyword text k rest → (depth : ℕ) → IsDeepLine c text depth → IsDeep c k rest depth
deep_same c k text rest h depth d =
    let q = one_keyword text d.0 k d.1 rest d.2 h in
    subst (λ (x : List ℕ). IsDeep c k x depth) q.1 (subst (λ (l : Keyword). IsDeep c l d.1 depth) q.0 d.3)

pub line_refused : (c : Context) (k : Keyword) (text rest : List ℕ) (e : RowError) → IsKeyword text k rest → RefusedAs (IsPart c k rest) (IsDeep c k rest) e → RefusedAs (IsFitting c text) (IsDeepLine c text) e
line_refused c k text rest Memory h n = tt
line_refused c k text rest Bad h n = (
  (λ r q. only_row text k rest h (λ (x : Row). PartsFit c x.keyword x.parts → ⊥) (λ p e f. n.0 p (e, f)) r q.0 q.1),
  λ depth d. n.1 depth (deep_same c k text rest h depth d),
)
line_refused c k text rest (TooDeep depth) h n = (
  (λ r q. only_row text k rest h (λ (x : Row). PartsFit c x.keyword x.parts → ⊥) (λ p e f. n.0 p (e, f)) r q.0 q.1),
  (k, rest, h, n.1),
)

-- ---- a name that is taken

pub taken_name : (names : List (List ℕ)) (name : List ℕ) (r : Option ℕ) (b : Bool) → MatchOption r (Contains names name → ⊥) (λ n. slice_get names n ≡ Some name) → b ≡ is_some r → b ≡ true → ((n : ℕ) → slice_get names n ≡ Some name → Contains names name) → Contains names name
taken_name names name None b h e f g = absurd (false≢true (sym e ∙ f))
taken_name names name (Some n) b h e f g = g n h

pub free_name : (names : List (List ℕ)) (name : List ℕ) (r : Option ℕ) (b : Bool) → MatchOption r (Contains names name → ⊥) (λ n. slice_get names n ≡ Some name) → b ≡ is_some r → b ≡ false → Contains names name → ⊥
free_name names name None b h e f = h
free_name names name (Some n) b h e f = absurd (false≢true (sym f ∙ e))

-- ---- declarations

module _ (c : Context) (rest : List ℕ) where
  pub sort_part : (r : SortRow) → IsDeclarationLine (codes "sort" ++ rest) (sort_line r) → (Contains c.taken r.name → ⊥) → IsPart c Sort rest r
  sort_part r h n = (same_after (codes "sort") rest (parts_text Sort r) h.line, (h.spelled, n))

  pub sort_bad : (e : RowError) → NoRow sort_line (codes "sort") rest e → RefusedAs (IsPart c Sort rest) (IsDeep c Sort rest) e
  sort_bad Memory n = tt
  sort_bad Bad n = ((λ r p. n r (record { line = ap (λ (x : List ℕ). codes "sort" ++ x) p.0; spelled = p.1.0 })), λ depth d. d)
  sort_bad (TooDeep depth) n = absurd n

  pub sort_taken : (r : SortRow) → IsDeclarationLine (codes "sort" ++ rest) (sort_line r) → Contains c.taken r.name → RefusedAs (IsPart c Sort rest) (IsDeep c Sort rest) Bad
  sort_taken r h k = (
    (λ q p. p.1.1 (subst (λ (x : SortRow). Contains c.taken x.name) (sort_same r q h.spelled p.1.0 (sym (same_after (codes "sort") rest (parts_text Sort r) h.line) ∙ p.0)) k)),
    λ depth d. d,
  )

  con_text : (r : ConRow) → IsDeclarationLine (codes "con" ++ rest) (con_line r) → rest ≡ parts_text Con r
  con_text r h = same_after (codes "con") rest (parts_text Con r) h.line

  con_one : (r : ConRow) → IsDeclarationLine (codes "con" ++ rest) (con_line r) → (q : ConRow) → IsPart c Con rest q → r ≡ q
  con_one r h q p = con_same r q h.spelled p.1.0 (sym (con_text r h) ∙ p.0)

  pub con_part : (r : ConRow) (s : Shape) → IsDeclarationLine (codes "con" ++ rest) (con_line r) → (Contains c.cons r.name → ⊥) → IsConOf c.sorts r s → IsPart c Con rest r
  con_part r s h n k = (con_text r h, (h.spelled, n, s, k))

  pub con_bad : (e : RowError) → NoRow con_line (codes "con") rest e → RefusedAs (IsPart c Con rest) (IsDeep c Con rest) e
  con_bad Memory n = tt
  con_bad Bad n = ((λ r p. n r (record { line = ap (λ (x : List ℕ). codes "con" ++ x) p.0; spelled = p.1.0 })), λ depth d. d)
  con_bad (TooDeep depth) n = absurd n

  pub con_taken : (r : ConRow) → IsDeclarationLine (codes "con" ++ rest) (con_line r) → Contains c.cons r.name → RefusedAs (IsPart c Con rest) (IsDeep c Con rest) Bad
  con_taken r h k = ((λ q p. p.1.1 (subst (λ (x : ConRow). Contains c.cons x.name) (con_one r h q p) k)), λ depth d. d)

  pub con_not : (r : ConRow) (e : RowError) → IsDeclarationLine (codes "con" ++ rest) (con_line r) → NoCoreRowIs (IsConOf c.sorts r) e → RefusedAs (IsPart c Con rest) (IsDeep c Con rest) e
  con_not r Memory h n = tt
  con_not r Bad h n = ((λ q p. n p.1.2 (subst (λ (x : ConRow). IsConOf c.sorts x p.1.2) (sym (con_one r h q p)) p.1.3)), λ depth d. d)
  con_not r (TooDeep depth) h n = absurd n

  form_text : (r : FormRow) → IsDeclarationLine (codes "form" ++ rest) (form_line r) → rest ≡ parts_text Form r
  form_text r h = same_after (codes "form") rest (parts_text Form r) h.line

  form_one : (r : FormRow) → IsDeclarationLine (codes "form" ++ rest) (form_line r) → (q : FormRow) → IsPart c Form rest q → r ≡ q
  form_one r h q p = form_same r q h.spelled (p.1.0, p.1.1) (sym (form_text r h) ∙ p.0)

  pub form_part : (r : FormRow) (f : FormData) → IsDeclarationLine (codes "form" ++ rest) (form_line r) → (Contains (form_names c.forms) r.name → ⊥) → IsFormOf c.sorts r f → IsPart c Form rest r
  form_part r f h n k = (form_text r h, (h.spelled.0, h.spelled.1, n, f, k))

  pub form_bad : (e : RowError) → NoRow form_line (codes "form") rest e → RefusedAs (IsPart c Form rest) (IsDeep c Form rest) e
  form_bad Memory n = tt
  form_bad Bad n = ((λ r p. n r (record { line = ap (λ (x : List ℕ). codes "form" ++ x) p.0; spelled = (p.1.0, p.1.1) })), λ depth d. d)
  form_bad (TooDeep depth) n = absurd n

  pub form_taken : (r : FormRow) → IsDeclarationLine (codes "form" ++ rest) (form_line r) → Contains (form_names c.forms) r.name → RefusedAs (IsPart c Form rest) (IsDeep c Form rest) Bad
  form_taken r h k = ((λ q p. p.1.2 (subst (λ (x : FormRow). Contains (form_names c.forms) x.name) (form_one r h q p) k)), λ depth d. d)

  pub form_not : (r : FormRow) (e : RowError) → IsDeclarationLine (codes "form" ++ rest) (form_line r) → NoCoreRowIs (IsFormOf c.sorts r) e → RefusedAs (IsPart c Form rest) (IsDeep c Form rest) e
  form_not r Memory h n = tt
  form_not r Bad h n = ((λ q p. n p.1.3 (subst (λ (x : FormRow). IsFormOf c.sorts x p.1.3) (sym (form_one r h q p)) p.1.4)), λ depth d. d)
  form_not r (TooDeep depth) h n = absurd n

  -- ---- the first line of a rule

  rule_of : (name more : List ℕ) (names : List (List ℕ)) → IsNameRead rest name more → AreNamesRead more names → rest ≡ parts_text Rule (record { name = name; sorts = names })
  rule_of name more names r n = r.parts ∙ ap (λ (x : List ℕ). 32 ∷ (name ++ x)) n.parts

  pub rule_part : (name more : List ℕ) (names : List (List ℕ)) (sorts : List SortOf) → IsNameRead rest name more → AreNamesRead more names → NameSorts c.sorts names sorts → IsPart c Rule rest (record { name = name; sorts = names })
  rule_part name more names sorts r n s = (rule_of name more names r n, ((r.named, n.named), sorts, s))

  pub rule_unnamed : (e : RowError) → NameRefused rest e → RefusedAs (IsPart c Rule rest) (IsDeep c Rule rest) e
  rule_unnamed Memory n = tt
  rule_unnamed Bad n = ((λ r p. n r.name (words_text r.sorts) p.1.0.0 (words_stop r.sorts) p.0), λ depth d. d)
  rule_unnamed (TooDeep depth) n = absurd n

  pub rule_no_names : (name more : List ℕ) (e : RowError) → IsNameRead rest name more → NamesRefused more e → RefusedAs (IsPart c Rule rest) (IsDeep c Rule rest) e
  rule_no_names name more Memory r n = tt
  rule_no_names name more Bad r n = (
    (λ q p. n q.sorts p.1.0.1 (one_word name q.name more (words_text q.sorts) (name_space name r.named) (name_space q.name p.1.0.0) r.stops (words_stop q.sorts) (tail_is 32 32 (name ++ more) (q.name ++ words_text q.sorts) (sym r.parts ∙ p.0))).1),
    λ depth d. d,
  )
  rule_no_names name more (TooDeep depth) r n = absurd n

  pub rule_no_sorts : (name more : List ℕ) (names : List (List ℕ)) (e : RowError) → IsNameRead rest name more → AreNamesRead more names → NoCoreRowIs (NameSorts c.sorts names) e → RefusedAs (IsPart c Rule rest) (IsDeep c Rule rest) e
  rule_no_sorts name more names Memory r n s = tt
  rule_no_sorts name more names Bad r n s = (
    (λ q p. s p.1.1 (subst (λ (x : RuleRow). NameSorts c.sorts x.sorts p.1.1) (sym (rule_same (record { name = name; sorts = names }) q (r.named, n.named) p.1.0 (sym (rule_of name more names r n) ∙ p.0))) p.1.2)),
    λ depth d. d,
  )
  rule_no_sorts name more names (TooDeep depth) r n s = absurd s

  -- ---- judgements

  full_of : (row : JudgementRow) (j : Judgement) → rest ≡ judgement_text row → IsFullJudgement c.forms row j → IsJudgementRead c.forms rest j
  full_of row j e h = record { row = row; parts = e; named = h.0; is = h.1 }

  pub if_part : (j : Judgement) (h : IsJudgementRead c.forms rest j) → IsPart c If rest h.row
  if_part j h = (h.parts, (j, (h.named, h.is)))

  pub then_part : (j : Judgement) (h : IsJudgementRead c.forms rest j) → IsPart c Then rest h.row
  then_part j h = (h.parts, (j, (h.named, h.is)))

  pub if_bad : (e : RowError) → RefusedAs (IsJudgementRead c.forms rest) (IsDeepJudgement c.forms rest) e → RefusedAs (IsPart c If rest) (IsDeep c If rest) e
  if_bad Memory n = tt
  if_bad Bad n = ((λ r p. n.0 p.1.0 (full_of r p.1.0 p.0 p.1.1)), n.1)
  if_bad (TooDeep depth) n = ((λ r p. n.0 p.1.0 (full_of r p.1.0 p.0 p.1.1)), n.1)

  pub then_bad : (e : RowError) → RefusedAs (IsJudgementRead c.forms rest) (IsDeepJudgement c.forms rest) e → RefusedAs (IsPart c Then rest) (IsDeep c Then rest) e
  then_bad Memory n = tt
  then_bad Bad n = ((λ r p. n.0 p.1.0 (full_of r p.1.0 p.0 p.1.1)), n.1)
  then_bad (TooDeep depth) n = ((λ r p. n.0 p.1.0 (full_of r p.1.0 p.0 p.1.1)), n.1)

  -- ---- two terms

  two_words : (l r : Tree) → words_text (core l ∷ core r ∷ []) ≡ terms_text (l ∷ r ∷ [])
  two_words l r = refl

  pub not_part : (l r : Tree) → RowRead rest 2 (l ∷ r ∷ []) → IsPart c Not rest (record { left = l; right = r })
  not_part l r h = (h.3, readable_of (l ∷ r ∷ []) h.1 h.2)

  pub not_bad : (e : RowError) → RefusedAs (RowRead rest 2) (IsDeepRow rest 2) e → RefusedAs (IsPart c Not rest) (IsDeep c Not rest) e
  not_bad Memory n = tt
  not_bad Bad n = ((λ q p. n.0 (q.left ∷ q.right ∷ []) (refl, cores_of (q.left ∷ q.right ∷ []) p.1, shallow_of (q.left ∷ q.right ∷ []) p.1, p.0)), n.1)
  not_bad (TooDeep depth) n = ((λ q p. n.0 (q.left ∷ q.right ∷ []) (refl, cores_of (q.left ∷ q.right ∷ []) p.1, shallow_of (q.left ∷ q.right ∷ []) p.1, p.0)), n.1)

  -- ---- the goal

  goal_row : (g : GoalOf) → IsGoalRead c.shapes c.forms rest g → JudgementRow
  goal_row g h = record { form = h.form.word; terms = g.terms }

  pub goal_part : (g : GoalOf) (h : IsGoalRead c.shapes c.forms rest g) → IsPart c Goal rest (record { form = h.form.word; terms = g.terms }) × IsGoal c.shapes c.forms (record { form = h.form.word; terms = g.terms }) g
  goal_part g h =
      let is : IsGoal c.shapes c.forms (record { form = h.form.word; terms = g.terms }) g = record { form = h.form.is; terms = refl; readable = readable_of g.terms h.terms.row.1 h.terms.row.2; subject = h.subject; sorted = h.terms.sorted } in
      ((h.form.parts ∙ ap (λ (x : List ℕ). 32 ∷ (h.form.word ++ x)) h.terms.row.3 ∙ sym (judgement_open (record { form = h.form.word; terms = g.terms })), (h.form.named, g, is)), is)

  goal_of : (row : JudgementRow) (g : GoalOf) → rest ≡ judgement_text row → IsCoreName row.form → IsGoal c.shapes c.forms row g → IsGoalRead c.shapes c.forms rest g
  goal_of row g e n h = record {
    rest = terms_text row.terms;
    form = record { word = row.form; parts = e ∙ judgement_open row; named = n; stops = terms_stop row.terms; is = h.form };
    subject = h.subject;
    terms = record {
      row = (
        have_length c.shapes [] g.terms (inputs (modes_of c.forms g.form) (sorts_of c.forms g.form)) h.sorted,
        cores_of g.terms (subst AreReadable (sym h.terms) h.readable),
        shallow_of g.terms (subst AreReadable (sym h.terms) h.readable),
        ap terms_text (sym h.terms),
      );
      sorted = h.sorted;
    };
  }

  pub goal_bad : (e : RowError) → RefusedAs (IsGoalRead c.shapes c.forms rest) (IsDeepGoal c.forms rest) e → RefusedAs (IsPart c Goal rest) (IsDeep c Goal rest) e
  goal_bad Memory n = tt
  goal_bad Bad n = ((λ r p. n.0 p.1.1 (goal_of r p.1.1 p.0 p.1.0 p.1.2)), n.1)
  goal_bad (TooDeep depth) n = ((λ r p. n.0 p.1.1 (goal_of r p.1.1 p.0 p.1.0 p.1.2)), n.1)

  -- ---- the first line and the end of a rule

  pub head_bad : (rest ≡ codes " 1" → ⊥) → RefusedAs (IsPart c Head rest) (IsDeep c Head rest) Bad
  head_bad n = ((λ r p. n p.0), λ depth d. d)

  pub end_bad : (rest ≡ [] → ⊥) → RefusedAs (IsPart c End rest) (IsDeep c End rest) Bad
  end_bad n = ((λ r p. n p.0), λ depth d. d)
