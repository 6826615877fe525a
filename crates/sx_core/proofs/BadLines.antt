-- A line is bad in one way at most, and a line that goes on is not bad.
use Rattle.std.proofs.Common.{◌≡◌, ℕ, ◌<◌, ◌≤◌, List, length, [], ◌∷◌, ◌++◌, inl, inr, map, refl, sym, ap, ◌∙◌, subst, arith, append_assoc}
use Rattle.std.specs.Prelude.{Some, ◌⊎◌}
use Rattle.std.specs.List.{flat_map}
use Rattle.sx_lines.specs.Lines.{Lines, over, line}
use Rattle.sx_lines.specs.Takes.{Takes, line_number}
use Rattle.sx_term.specs.Tree.{Tree, depth_of}
use Rattle.sx_term.specs.Core.{core}
use Rattle.sx_term.specs.Read.{StandsAt}
use Rattle.sx_term.proofs.OneReading.{one_reading}
use Rattle.sx_rules.specs.Deep.{AreShallow}
use Rattle.sx_rules.specs.Modes.{inputs}
use Rattle.sx_rules.specs.Views.{FormData, places_at, modes_of, sorts_of}
use Rattle.sx_core.specs.File.{JudgementRow, CoreFile}
use Rattle.sx_core.specs.Statements.{IsFormRead}
use Rattle.sx_core.specs.TermsText.{terms_text, HaveCores, IsDeepRow}
use Rattle.sx_core.specs.Table.{Row, row_with, row_text, declaration_row, rule_rows, rows_of, parts_text}
use Rattle.sx_core.specs.Table.{IsKeyword, NoKeyword, Has}
use Rattle.sx_core.specs.Fitting.{Context, PartsFit, IsFitting, IsDeep, IsDeepLine}
use Rattle.sx_core.specs.Order.{AreRowsInOrder, Phase, at_start, at_declarations, at_rules, at_premises}
use Rattle.sx_core.specs.Order.{at_conclusion, at_end, step}
use Rattle.sx_core.specs.CoreRead.{IsBadCoreLine, IsTooDeep, IsRuleOpen, IsMissingRow, IsBadAt, IsDeepAt}
use Rattle.sx_core.specs.declared.keyword.Keyword.{Keyword}
use Rattle.sx_core.specs.declared.keyword.Keyword.TheVariants.{Head, Sort, Con, Form, Rule, If, Not}
use Rattle.sx_core.specs.declared.keyword.Keyword.TheVariants.{Then, End, Goal}
use Rattle.sx_lines.specs.declared.kind.Kind.{Kind}
use Rattle.sx_lines.specs.declared.kind.Kind.TheVariants.{Head as BadHead, Directive, Shape, Order}
use Rattle.sx_lines.specs.declared.kind.Kind.TheVariants.{Unfinished, Main, Variable}
use Rattle.sx_core.proofs.TermsLaws.{tail_is, digits_after, one_only, stands_one}
use Rattle.sx_core.proofs.Wording.{name_space, one_word}
use Rattle.sx_core.proofs.TableLaws.{row_keyword, one_keyword}
use Rattle.sx_core.proofs.OrderLaws.{Reaches, reach_split, file_reaches, goal_ends, end_step, none_next, IsInside, open_inside}
use Rattle.sx_core.proofs.OneProblem.{row_same}
use Rattle.sx_core.proofs.SameRows.{fits_spelled, one_rest}

-- ---- fronts

pub front_reach : (xs : List Row) → AreRowsInOrder xs → (q : Phase) × Reaches at_start xs q
front_reach xs f =
    let a = reach_split xs f.1 at_start at_end (subst (λ (x : List Row). Reaches at_start x at_end) f.2 (file_reaches f.0)) in
    (a.0, a.1)

pub front_less : (xs : List Row) (r : Row) (more : List Row) → AreRowsInOrder (xs ++ r ∷ more) → AreRowsInOrder (xs ++ r ∷ [])
front_less xs r more f = (f.0, more ++ f.1, f.2 ∙ append_assoc xs (r ∷ more) f.1 ∙ sym (append_assoc xs (r ∷ []) (more ++ f.1)))

first : List Row → Row
first [] = row_with Head tt
first (r ∷ rows) = r

head_first : (xs : List Row) (r : Row) (more : List Row) → AreRowsInOrder (xs ++ r ∷ more) → xs ≡ [] → r ≡ row_with Head tt
unfolding first
head_first xs r more f e = sym (ap first f.2 ∙ ap (λ (z : List Row). first ((z ++ r ∷ more) ++ f.1)) e)

goal_last : (xs : List Row) (r : Row) (more : List Row) → AreRowsInOrder (xs ++ r ∷ more) → Has Goal xs → ⊥
goal_last xs r more f h =
    let a = front_reach (xs ++ r ∷ more) f in
    let b = reach_split xs (r ∷ more) at_start a.0 a.1 in
    let e = goal_ends xs at_start b.0 h b.1 in
    end_step r.keyword b.2.0 (ap (λ (p : Phase). step p r.keyword) (sym e) ∙ b.2.1)

line_keyword : (text : List ℕ) (r : Row) → text ≡ row_text r → IsKeyword text r.keyword (parts_text r.keyword r.parts)
line_keyword text r e = subst (λ (z : List ℕ). IsKeyword z r.keyword (parts_text r.keyword r.parts)) (sym e) (row_keyword r)

-- ---- a line that goes on is not bad

module _ (c : Context) (rows : List Row) (r : Row) (more : List Row) (text : List ℕ) (is : text ≡ row_text r) (fit : PartsFit c r.keyword r.parts) (front : AreRowsInOrder (rows ++ r ∷ more)) where
  pub not_bad : (kind : Kind) → IsBadCoreLine c rows text kind → ⊥
  not_bad BadHead h = h.1 (is ∙ ap row_text (head_first rows r more front h.0))
  not_bad Directive h = h.1 r.keyword (parts_text r.keyword r.parts) (line_keyword text r is)
  not_bad Shape h = h.2 r (is, fit)
  not_bad Order (inl h) = goal_last rows r more front h
  not_bad Order (inr h) =
      let e = row_same r h.1 (fits_spelled c r.keyword r.parts fit) (fits_spelled c h.1.keyword h.1.parts h.2.1) (sym is ∙ h.2.0) in
      h.3 (subst (λ (z : Row). AreRowsInOrder (rows ++ z ∷ [])) e (front_less rows r more front))
  not_bad Unfinished h = h
  not_bad Main h = h
  not_bad Variable h = h

  pub not_deep : (depth : ℕ) → IsTooDeep c rows text depth → ⊥
  not_deep depth h = h.1 r (is, fit)

-- ---- a core text that is too deep has one depth

deep_is_not : (t u : Tree) → u ≡ t → depth_of u ≤ 1000 → 1000 < depth_of t → ⊥
deep_is_not t u e h k = let q = ap depth_of e in omega (arith, h, k, q)

deep_terms : (ts us : List Tree) (t u : Tree) (x y : List ℕ) (m n : ℕ) → HaveCores ts → AreShallow ts → HaveCores us → AreShallow us → terms_text ts ++ (32 ∷ x) ≡ terms_text us ++ (32 ∷ y) → StandsAt x 0 m t → StandsAt y 0 n u → 1000 < depth_of t → 1000 < depth_of u → u ≡ t
deep_terms [] [] t u x y m n c a g b e s k past more = stands_one x m n t u s (subst (λ (z : List ℕ). StandsAt z 0 n u) (sym (tail_is 32 32 x y e)) k)
deep_terms [] (w ∷ us) t u x y m n c a g b e s k past more =
    absurd (deep_is_not t w (one_only x m t s w (terms_text us ++ (32 ∷ y)) g.0 (digits_after us y) (tail_is 32 32 x ((core w ++ terms_text us) ++ (32 ∷ y)) e ∙ append_assoc (core w) (terms_text us) (32 ∷ y))).0 b.0 past)
deep_terms (v ∷ ts) [] t u x y m n c a g b e s k past more =
    absurd (deep_is_not u v (one_only y n u k v (terms_text ts ++ (32 ∷ x)) c.0 (digits_after ts x) (tail_is 32 32 y ((core v ++ terms_text ts) ++ (32 ∷ x)) (sym e) ∙ append_assoc (core v) (terms_text ts) (32 ∷ x))).0 a.0 more)
deep_terms (v ∷ ts) (w ∷ us) t u x y m n c a g b e s k past more =
    let q = one_reading v w (terms_text ts ++ (32 ∷ x)) (terms_text us ++ (32 ∷ y)) c.0 g.0 (digits_after ts x) (digits_after us y)
    (sym (append_assoc (core v) (terms_text ts) (32 ∷ x)) ∙ tail_is 32 32 ((core v ++ terms_text ts) ++ (32 ∷ x)) ((core w ++ terms_text us) ++ (32 ∷ y)) e ∙ append_assoc (core w) (terms_text us) (32 ∷ y)) in
    deep_terms ts us t u x y m n c.1 a.1 g.1 b.1 q.1 s k past more

deep_row : (s : List ℕ) (n m d e : ℕ) → IsDeepRow s n d → IsDeepRow s m e → d ≡ e
deep_row s n m d e h k =
    let q = deep_terms h.good k.good h.deep k.deep h.rest k.rest h.end k.end h.cores h.shallow k.cores k.shallow (sym h.parts ∙ k.parts) h.stands k.stands
    (subst (λ (z : ℕ). 1000 < z) h.is h.over) (subst (λ (z : ℕ). 1000 < z) k.is k.over) in
    h.is ∙ sym (ap depth_of q) ∙ sym k.is

after_form : (known : List FormData) (text : List ℕ) (f g : ℕ) (x y : List ℕ) → IsFormRead known text f x → IsFormRead known text g y → x ≡ y
after_form known text f g x y h k =
    (one_word h.word k.word x y (name_space h.word h.named) (name_space k.word k.named) h.stops k.stops (tail_is 32 32 (h.word ++ x) (k.word ++ y) (sym h.parts ∙ k.parts))).1

after_deep : (known : List FormData) (text : List ℕ) (f g : ℕ) (x y : List ℕ) (n m d e : ℕ) → IsFormRead known text f x → IsFormRead known text g y → IsDeepRow x n d → IsDeepRow y m e → d ≡ e
after_deep known text f g x y n m d e h k a b = deep_row x n m d e a (subst (λ (z : List ℕ). IsDeepRow z m e) (sym (after_form known text f g x y h k)) b)

deep_parts : (c : Context) (k : Keyword) (rest : List ℕ) (d e : ℕ) → IsDeep c k rest d → IsDeep c k rest e → d ≡ e
deep_parts c Head rest d e h k = absurd h
deep_parts c Sort rest d e h k = absurd h
deep_parts c Con rest d e h k = absurd h
deep_parts c Form rest d e h k = absurd h
deep_parts c Rule rest d e h k = absurd h
deep_parts c If rest d e h k = after_deep c.forms rest h.form k.form h.rest k.rest (length (places_at c.forms h.form)) (length (places_at c.forms k.form)) d e h.is k.is h.deep k.deep
deep_parts c Not rest d e h k = deep_row rest 2 2 d e h k
deep_parts c Then rest d e h k = after_deep c.forms rest h.form k.form h.rest k.rest (length (places_at c.forms h.form)) (length (places_at c.forms k.form)) d e h.is k.is h.deep k.deep
deep_parts c End rest d e h k = absurd h
deep_parts c Goal rest d e h k =
    after_deep c.forms rest h.form k.form h.rest k.rest (length (inputs (modes_of c.forms h.form) (sorts_of c.forms h.form))) (length (inputs (modes_of c.forms k.form) (sorts_of c.forms k.form))) d e h.is k.is h.deep k.deep

deep_line : (c : Context) (text : List ℕ) (d e : ℕ) → IsDeepLine c text d → IsDeepLine c text e → d ≡ e
deep_line c text d e h k =
    let q = one_keyword text k.0 h.0 k.1 h.1 k.2 h.2 in
    deep_parts c h.0 h.1 d e h.3 (subst (λ (x : List ℕ). IsDeep c h.0 x e) q.1 (subst (λ (l : Keyword). IsDeep c l k.1 e) q.0 k.3))

-- ---- the kinds of a line exclude each other

module _ (c : Context) (rows : List Row) (text : List ℕ) where
  fitting_keyword : (r : Row) → IsFitting c text r → NoKeyword text → ⊥
  fitting_keyword r h n = n r.keyword (parts_text r.keyword r.parts) (line_keyword text r h.0)

  one_kind : (k l : Kind) → IsBadCoreLine c rows text k → IsBadCoreLine c rows text l → k ≡ l
  one_kind Unfinished l h j = absurd h
  one_kind Main l h j = absurd h
  one_kind Variable l h j = absurd h
  one_kind BadHead Unfinished h j = absurd j
  one_kind BadHead Main h j = absurd j
  one_kind BadHead Variable h j = absurd j
  one_kind BadHead BadHead h j = refl
  one_kind BadHead Directive h j = absurd (j.0.0 h.0)
  one_kind BadHead Shape h j = absurd (j.0.0 h.0)
  one_kind BadHead Order h (inl j) = absurd (subst (Has Goal) h.0 j)
  one_kind BadHead Order h (inr j) = absurd (j.0.0 h.0)
  one_kind Directive Unfinished h j = absurd j
  one_kind Directive Main h j = absurd j
  one_kind Directive Variable h j = absurd j
  one_kind Directive BadHead h j = absurd (h.0.0 j.0)
  one_kind Directive Directive h j = refl
  one_kind Directive Shape h j = absurd (j.1 h.1)
  one_kind Directive Order h (inl j) = absurd (h.0.1 j)
  one_kind Directive Order h (inr j) = absurd (fitting_keyword j.1 j.2 h.1)
  one_kind Shape Unfinished h j = absurd j
  one_kind Shape Main h j = absurd j
  one_kind Shape Variable h j = absurd j
  one_kind Shape BadHead h j = absurd (h.0.0 j.0)
  one_kind Shape Directive h j = absurd (h.1 j.1)
  one_kind Shape Shape h j = refl
  one_kind Shape Order h (inl j) = absurd (h.0.1 j)
  one_kind Shape Order h (inr j) = absurd (h.2 j.1 j.2)
  one_kind Order Unfinished h j = absurd j
  one_kind Order Main h j = absurd j
  one_kind Order Variable h j = absurd j
  one_kind Order BadHead (inl h) j = absurd (subst (Has Goal) j.0 h)
  one_kind Order BadHead (inr h) j = absurd (h.0.0 j.0)
  one_kind Order Directive (inl h) j = absurd (j.0.1 h)
  one_kind Order Directive (inr h) j = absurd (fitting_keyword h.1 h.2 j.1)
  one_kind Order Shape (inl h) j = absurd (j.0.1 h)
  one_kind Order Shape (inr h) j = absurd (j.2 h.1 h.2)
  one_kind Order Order h j = refl

  bad_not_deep : (k : Kind) (depth : ℕ) → IsBadCoreLine c rows text k → IsTooDeep c rows text depth → ⊥
  bad_not_deep BadHead depth h d = d.0.0 h.0
  bad_not_deep Directive depth h d = h.1 d.2.0 d.2.1 d.2.2
  bad_not_deep Shape depth h d = h.3 depth d.2
  bad_not_deep Order depth (inl h) d = d.0.1 h
  bad_not_deep Order depth (inr h) d = d.1 h.1 h.2
  bad_not_deep Unfinished depth h d = h
  bad_not_deep Main depth h d = h
  bad_not_deep Variable depth h d = h

-- ---- what is missing

cons_same : (x y : Row) (a b : List Row) → x ∷ a ≡ y ∷ b → (x ≡ y) × (a ≡ b)
cons_same x y a b e = (cc, cc)

no_row : (xs : List Row) (x : Row) (a : List Row) → [] ≡ xs ++ x ∷ a → ⊥
no_row [] x a e = cc
no_row (y ∷ xs) x a e = cc

-- two places of a list: the same, or one after the other
parted : (f g : List Row) (x y : Row) (a b : List Row) → f ++ x ∷ a ≡ g ++ y ∷ b → (f ≡ g) ⊎ ((mid : List Row) × (g ≡ f ++ x ∷ mid) × (a ≡ mid ++ y ∷ b)) ⊎ ((mid : List Row) × (f ≡ g ++ y ∷ mid) × (b ≡ mid ++ x ∷ a))
parted [] [] x y a b e = inl refl
parted [] (z ∷ g) x y a b e = let q = cons_same x z a (g ++ y ∷ b) e in inr (inl (g, ap (λ (w : Row). w ∷ g) (sym q.0), q.1))
parted (z ∷ f) [] x y a b e = let q = cons_same z y (f ++ x ∷ a) b e in inr (inr (f, ap (λ (w : Row). w ∷ f) q.0, sym q.1))
parted (z ∷ f) (w ∷ g) x y a b e =
    let q = cons_same z w (f ++ x ∷ a) (g ++ y ∷ b) e in
    elim (parted f g x y a b q.1) [
      | inl h ↦ inl (ap (λ (v : Row). v ∷ f) q.0 ∙ ap (λ (v : List Row). w ∷ v) h)
      | inr h ↦ elim h [
        | inl k ↦ inr (inl (k.0, ap (λ (v : Row). v ∷ g) (sym q.0) ∙ ap (λ (v : List Row). z ∷ v) k.1, k.2))
        | inr k ↦ inr (inr (k.0, ap (λ (v : Row). v ∷ f) q.0 ∙ ap (λ (v : List Row). w ∷ v) k.1, k.2))
      ]
    ]

inside_rule : (p m : Phase) → IsInside p → step p Rule ≡ Some m → ⊥
inside_rule at_start m h e = h
inside_rule at_declarations m h e = h
inside_rule at_rules m h e = h
inside_rule at_premises m h e = none_next m e
inside_rule at_conclusion m h e = none_next m e
inside_rule at_end m h e = h

-- between two lines that begin rules one ends
between : (f mid b : List Row) (x y : Row) → x.keyword ≡ Rule → y.keyword ≡ Rule → (Has End mid → ⊥) → AreRowsInOrder ((f ++ x ∷ mid) ++ y ∷ b) → ⊥
between f mid b x y e g n h =
    let a = front_reach ((f ++ x ∷ mid) ++ y ∷ b) h in
    let s = reach_split (f ++ x ∷ mid) (y ∷ b) at_start a.0 a.1 in
    inside_rule s.0 s.2.0 (open_inside f mid x s.0 e n s.1) (ap (step s.0) (sym g) ∙ s.2.1)

has_more : (k : Keyword) (xs ys : List Row) → Has k xs → Has k (xs ++ ys)
has_more k [] ys h = absurd h
has_more k (x ∷ xs) ys (inl e) = inl e
has_more k (x ∷ xs) ys (inr h) = inr (has_more k xs ys h)

not_between : (rows f g mid : List Row) (o : IsRuleOpen rows f) (p : IsRuleOpen rows g) → AreRowsInOrder rows → g ≡ f ++ o.rule ∷ mid → o.inside ≡ mid ++ p.rule ∷ p.inside → ⊥
not_between rows f g mid o p h e q =
    between f mid p.inside o.rule p.rule o.begins p.begins (λ k. o.not_ended (subst (Has End) (sym q) (has_more End mid (p.rule ∷ p.inside) k)))
    (subst AreRowsInOrder (p.parts ∙ ap (λ (z : List Row). z ++ p.rule ∷ p.inside) e) h)

one_open : (rows f g : List Row) → IsRuleOpen rows f → IsRuleOpen rows g → AreRowsInOrder rows → f ≡ g
one_open rows f g o p h =
    elim (parted f g o.rule p.rule o.inside p.inside (sym o.parts ∙ p.parts)) [
      | inl e ↦ e
      | inr k ↦ elim k [
        | inl w ↦ absurd (not_between rows f g w.0 o p h w.1 w.2)
        | inr w ↦ absurd (not_between rows g f w.0 p o h w.1 w.2)
      ]
    ]

has_last : (xs : List Row) (g : JudgementRow) → Has Goal (xs ++ row_with Goal g ∷ [])
has_last [] g = inl refl
has_last (x ∷ xs) g = inr (has_last xs g)

module _ (lines : Lines) (rows : List Row) (end : ℕ) where
  nothing_open : (front : List Row) → rows ≡ [] → IsRuleOpen rows front → ⊥
  nothing_open front e o = no_row front o.rule o.inside (sym e ∙ o.parts)

  one_missing : (n m : ℕ) (k l : Kind) → AreRowsInOrder rows → IsMissingRow lines rows end n k → IsMissingRow lines rows end m l → (n ≡ m) × (k ≡ l)
  one_missing n m Directive l f h j = absurd h
  one_missing n m Shape l f h j = absurd h
  one_missing n m Order l f h j = absurd h
  one_missing n m Variable l f h j = absurd h
  one_missing n m BadHead Directive f h j = absurd j
  one_missing n m BadHead Shape f h j = absurd j
  one_missing n m BadHead Order f h j = absurd j
  one_missing n m BadHead Variable f h j = absurd j
  one_missing n m BadHead BadHead f h j = (h.1 ∙ sym j.1, refl)
  one_missing n m BadHead Unfinished f h j = absurd (nothing_open j.0 h.0 j.2)
  one_missing n m BadHead Main f h j = absurd (j.0.0 h.0)
  one_missing n m Unfinished Directive f h j = absurd j
  one_missing n m Unfinished Shape f h j = absurd j
  one_missing n m Unfinished Order f h j = absurd j
  one_missing n m Unfinished Variable f h j = absurd j
  one_missing n m Unfinished BadHead f h j = absurd (nothing_open h.0 j.0 h.2)
  one_missing n m Unfinished Unfinished f h j =
      let e = one_open rows h.0 j.0 h.2 j.2 f in
      let q = one_rest (map row_text j.0) lines h.1 j.1 (subst (λ (z : List Row). Takes (map row_text z) lines h.1) e h.3) j.3 in
      (h.4 ∙ ap line_number q ∙ sym j.4, refl)
  one_missing n m Unfinished Main f h j = absurd (j.1 h.0 h.2)
  one_missing n m Main Directive f h j = absurd j
  one_missing n m Main Shape f h j = absurd j
  one_missing n m Main Order f h j = absurd j
  one_missing n m Main Variable f h j = absurd j
  one_missing n m Main BadHead f h j = absurd (h.0.0 j.0)
  one_missing n m Main Unfinished f h j = absurd (h.1 j.0 j.2)
  one_missing n m Main Main f h j = (h.2 ∙ sym j.2, refl)

-- nothing is missing in a whole file
module _ (lines : Lines) (file : CoreFile) where
  no_rows : rows_of file ≡ [] → ⊥
  no_rows e = cc

  pub none_missing : (end n : ℕ) (k : Kind) → IsMissingRow lines (rows_of file) end n k → ⊥
  none_missing end n BadHead h = no_rows h.0
  none_missing end n Unfinished h = open_inside h.0 h.2.inside h.2.rule at_end h.2.begins h.2.not_ended (subst (λ (z : List Row). Reaches at_start z at_end) h.2.parts (file_reaches file))
  none_missing end n Main h = h.0.1 (has_last (row_with Head tt ∷ (map declaration_row file.declarations ++ flat_map rule_rows file.rules)) file.goal)
  none_missing end n Directive h = h
  none_missing end n Shape h = h
  none_missing end n Order h = h
  none_missing end n Variable h = h

-- ---- the next line

pub one_bad : (lines : Lines) (rows : List Row) (c : Context) (next : Lines) (n m : ℕ) (k l : Kind) → AreRowsInOrder rows → IsBadAt lines rows c next n k → IsBadAt lines rows c next m l → (n ≡ m) × (k ≡ l)
one_bad lines rows c (over end) n m k l f h j = one_missing lines rows end n m k l f h j
one_bad lines rows c (line at text after more) n m k l f h j = (h.0 ∙ sym j.0, one_kind c rows text k l h.1 j.1)

pub one_deep : (rows : List Row) (c : Context) (next : Lines) (n m d e : ℕ) → IsDeepAt rows c next n d → IsDeepAt rows c next m e → (n ≡ m) × (d ≡ e)
one_deep rows c (over end) n m d e h j = absurd h
one_deep rows c (line at text after more) n m d e h j = (h.0 ∙ sym j.0, deep_line c text d e h.1.2 j.1.2)

pub bad_or_deep : (lines : Lines) (rows : List Row) (c : Context) (next : Lines) (n m : ℕ) (k : Kind) (d : ℕ) → IsBadAt lines rows c next n k → IsDeepAt rows c next m d → ⊥
bad_or_deep lines rows c (over end) n m k d h j = j
bad_or_deep lines rows c (line at text after more) n m k d h j = bad_not_deep c rows text k d h.1 j.1
