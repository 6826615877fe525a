-- Two readings of the same lines: one goes on after the other, or both end at the same line.
use Rattle.std.proofs.Common.{◌≡◌, ℕ, List, [], ◌∷◌, ◌++◌, inl, inr, map, refl, sym, ap, ◌∙◌, subst, append_assoc, append-nil}
use Rattle.std.specs.Prelude.{◌⊎◌}
use Rattle.sx_lines.specs.Lines.{Lines, over, line}
use Rattle.sx_lines.specs.Takes.{Takes}
use Rattle.sx_term.specs.Sorts.{Shape}
use Rattle.sx_rules.specs.Views.{FormData}
use Rattle.sx_core.specs.File.{SortRow}
use Rattle.sx_lines.specs.Distinct.{AreTextsDistinct}
use Rattle.sx_core.specs.Resolving.{sort_names}
use Rattle.sx_core.specs.Table.{RowParts, Row, row_text}
use Rattle.sx_core.specs.Fitting.{Context, PartsFit, Declare, AllRowsFit, cons_among, forms_among}
use Rattle.sx_core.specs.Fitting.{AreSorts}
use Rattle.sx_core.specs.declared.keyword.Keyword.{Keyword}
use Rattle.sx_core.specs.declared.keyword.Keyword.TheVariants.{Head, Sort, Con, Form, Rule, If, Not}
use Rattle.sx_core.specs.declared.keyword.Keyword.TheVariants.{Then, End, Goal}
use Rattle.sx_core.proofs.Wording.{map_last}
use Rattle.sx_core.proofs.AmongLaws.{distinct_snoc}
use Rattle.sx_core.proofs.ResolveLaws.{cons_same, forms_same}
use Rattle.sx_core.proofs.StatementLaws.{cores_of}
use Rattle.sx_core.proofs.FindLaws.{one_sort}
use Rattle.sx_core.proofs.OneProblem.{Spelled, AllSpelled, row_same}

-- ---- rows that are as stated are spelled

pub fits_spelled : (c : Context) (k : Keyword) (p : RowParts k) → PartsFit c k p → Spelled k p
fits_spelled c Head p h = tt
fits_spelled c Sort p h = h.0
fits_spelled c Con p h = h.0
fits_spelled c Form p h = (h.0, h.1)
fits_spelled c Rule p h = h.0
fits_spelled c If p h = (h.1.0, cores_of p.terms h.1.1.readable)
fits_spelled c Not p h = cores_of (p.left ∷ p.right ∷ []) h
fits_spelled c Then p h = (h.1.0, cores_of p.terms h.1.1.readable)
fits_spelled c End p h = tt
fits_spelled c Goal p h = (h.0, cores_of p.terms h.2.readable)

pub rows_spelled : (all : List SortRow) (before rows : List Row) → AllRowsFit all before rows → AllSpelled rows
rows_spelled all before [] h = tt
rows_spelled all before (r ∷ rows) h = (fits_spelled h.0.0 r.keyword r.parts h.0.2, rows_spelled all (before ++ r ∷ []) rows h.1)

-- a row is as stated after those before it
pub fit_at : (all : List SortRow) (before xs : List Row) (r : Row) (more : List Row) → AllRowsFit all before (xs ++ r ∷ more) → (c : Context) × Declare all (before ++ xs) c × PartsFit c r.keyword r.parts
fit_at all before [] r more h = (h.0.0, subst (λ (z : List Row). Declare all z h.0.0) (sym (append-nil before)) h.0.1, h.0.2)
fit_at all before (x ∷ xs) r more h =
    let w = fit_at all (before ++ x ∷ []) xs r more h.1 in
    (w.0, subst (λ (z : List Row). Declare all z w.0) (append_assoc before (x ∷ []) xs) w.1, w.2)

-- ---- rows of the same lines

-- the second rows go on after the first, and the next line is that of their next row
pub record GoesOn (xs ys : List Row) (next : Lines) : Type 0 where
  pub after_row : Row
  pub more : List Row
  pub parts : ys ≡ xs ++ after_row ∷ more
  pub number : ℕ
  pub text : List ℕ
  pub bytes : List ℕ
  pub others : Lines
  pub next_is : next ≡ line number text bytes others
  pub is : text ≡ row_text after_row

abbrev pub Compared : List Row → List Row → Lines → Lines → Type 0
Compared xs ys a b = ((xs ≡ ys) × (a ≡ b)) ⊎ GoesOn xs ys a ⊎ GoesOn ys xs b

one_more : (x y : Row) (xs ys : List Row) (a b : Lines) → x ≡ y → Compared xs ys a b → Compared (x ∷ xs) (y ∷ ys) a b
one_more x y xs ys a b e (inl h) = inl (ap (λ (z : Row). z ∷ xs) e ∙ ap (λ (z : List Row). y ∷ z) h.0, h.1)
one_more x y xs ys a b e (inr (inl h)) = inr (inl (record {
  after_row = h.after_row;
  more = h.more;
  parts = ap (λ (z : Row). z ∷ ys) (sym e) ∙ ap (λ (z : List Row). x ∷ z) h.parts;
  number = h.number;
  text = h.text;
  bytes = h.bytes;
  others = h.others;
  next_is = h.next_is;
  is = h.is;
}))
one_more x y xs ys a b e (inr (inr h)) = inr (inr (record {
  after_row = h.after_row;
  more = h.more;
  parts = ap (λ (z : Row). z ∷ xs) e ∙ ap (λ (z : List Row). y ∷ z) h.parts;
  number = h.number;
  text = h.text;
  bytes = h.bytes;
  others = h.others;
  next_is = h.next_is;
  is = h.is;
}))

first_more : (y : Row) (ys : List Row) (n : ℕ) (text after : List ℕ) (more a : Lines) → line n text after more ≡ a → text ≡ row_text y → GoesOn [] (y ∷ ys) a
first_more y ys n text after more a e h = record { after_row = y; more = ys; parts = refl; number = n; text = text; bytes = after; others = more; next_is = sym e; is = h }

pub compared : (xs ys : List Row) (lines a b : Lines) → AllSpelled xs → AllSpelled ys → Takes (map row_text xs) lines a → Takes (map row_text ys) lines b → Compared xs ys a b
compared [] [] lines a b h k t u = inl (refl, sym t ∙ u)
compared [] (y ∷ ys) (over n) a b h k t u = absurd u
compared [] (y ∷ ys) (line n text after more) a b h k t u = inr (inl (first_more y ys n text after more a t u.0))
compared (x ∷ xs) [] (over n) a b h k t u = absurd t
compared (x ∷ xs) [] (line n text after more) a b h k t u = inr (inr (first_more x xs n text after more b u t.0))
compared (x ∷ xs) (y ∷ ys) (over n) a b h k t u = absurd t
compared (x ∷ xs) (y ∷ ys) (line n text after more) a b h k t u =
    one_more x y xs ys a b (row_same x y h.0 k.0 (sym t.0 ∙ u.0)) (compared xs ys more a b h.1 k.1 t.1 u.1)

-- the lines after the same lines are the same
pub one_rest : (xs : List (List ℕ)) (lines a b : Lines) → Takes xs lines a → Takes xs lines b → a ≡ b
one_rest [] lines a b t u = sym t ∙ u
one_rest (x ∷ xs) (over n) a b t u = absurd t
one_rest (x ∷ xs) (line n text after more) a b t u = one_rest xs more a b t.1 u.1

-- ---- the sorts of lines

pub names_last : (rows : List SortRow) (x : SortRow) → sort_names (rows ++ x ∷ []) ≡ sort_names rows ++ x.name ∷ []
names_last rows x = ap (λ (z : List (List ℕ)). sort_names [] ++ z) (map_last (λ (r : SortRow). r.name) rows x)

pub sorts_distinct : (found : List SortRow) (lines : Lines) (all : List SortRow) → AreTextsDistinct (sort_names found) → AreSorts found lines all → AreTextsDistinct (sort_names all)
sorts_distinct found (over n) all d h = subst (λ (z : List SortRow). AreTextsDistinct (sort_names z)) h d
sorts_distinct found (line n text after more) all d (inl h) =
    sorts_distinct (found ++ h.0 ∷ []) more all
    (subst (λ (z : List (List ℕ)). AreTextsDistinct z) (sym (names_last found h.0)) (distinct_snoc (sort_names found) h.0.name d h.1.2)) h.2
sorts_distinct found (line n text after more) all d (inr h) = sorts_distinct found more all d h.1

pub one_sorts : (found : List SortRow) (lines : Lines) (all others : List SortRow) → AreSorts found lines all → AreSorts found lines others → all ≡ others
one_sorts found (over n) all others h k = sym h ∙ k
one_sorts found (line n text after more) all others (inl h) (inl k) =
    let e = one_sort text h.0 k.0 (h.1.0, h.1.1) (k.1.0, k.1.1) in
    one_sorts (found ++ h.0 ∷ []) more all others h.2 (subst (λ (z : SortRow). AreSorts (found ++ z ∷ []) more others) (sym e) k.2)
one_sorts found (line n text after more) all others (inl h) (inr k) = absurd (k.0 h.0 h.1)
one_sorts found (line n text after more) all others (inr h) (inl k) = absurd (h.0 k.0 k.1)
one_sorts found (line n text after more) all others (inr h) (inr k) = one_sorts found more all others h.1 k.1

-- ---- rows declare one thing

pub one_context : (all : List SortRow) (rows : List Row) (c d : Context) → AreTextsDistinct (sort_names all) → Declare all rows c → Declare all rows d → c ≡ d
one_context all rows c d distinct h k =
    let cons = cons_same all (cons_among rows) c.cons d.cons c.shapes d.shapes distinct h.cons k.cons in
    let forms = forms_same all (forms_among rows) c.forms d.forms distinct h.forms k.forms in
    ap (λ (x : List SortRow). record { sorts = x; taken = c.taken; cons = c.cons; shapes = c.shapes; forms = c.forms }) (h.sorts ∙ sym k.sorts)
    ∙ ap (λ (x : List (List ℕ)). record { sorts = d.sorts; taken = x; cons = c.cons; shapes = c.shapes; forms = c.forms }) (h.taken ∙ sym k.taken)
    ∙ ap (λ (x : List (List ℕ)). record { sorts = d.sorts; taken = d.taken; cons = x; shapes = c.shapes; forms = c.forms }) cons.0
    ∙ ap (λ (x : List Shape). record { sorts = d.sorts; taken = d.taken; cons = d.cons; shapes = x; forms = c.forms }) cons.1
    ∙ ap (λ (x : List FormData). record { sorts = d.sorts; taken = d.taken; cons = d.cons; shapes = d.shapes; forms = x }) forms
