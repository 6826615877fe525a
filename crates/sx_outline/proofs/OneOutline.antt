-- A language file has one answer.
use Rattle.std.proofs.Common.{◌≡◌, ◌≢◌, ℕ, Bool, true, false, List, [], ◌∷◌, Result, Ok, Err, refl, sym, ap, subst, ◌∙◌, inl, inr}
use Rattle.sx_lines.specs.Lines.{Lines, over, line, lines_from}
use Rattle.sx_grammar.specs.Parts.{labels, number_of}
use Rattle.sx_directives.specs.declared.file_kind.FileKind.{FileKind}
use Rattle.sx_directives.specs.declared.file_kind.FileKind.TheVariants as files
use Rattle.sx_directives.specs.declared.rows.PlainLine.{PlainLine}
use Rattle.sx_directives.specs.Rows.{IsRow, HasWord}
use Rattle.sx_directives.specs.declared.rows.MainLine.{MainLine}
use Rattle.sx_directives.specs.declared.row.Row.{Row}
use Rattle.sx_directives.specs.declared.row.Row.TheVariants.{Language, Sort, Prod, Var, Form, Main}
use Rattle.sx_directives.specs.declared.row.Row.TheVariants.{Rule, Bar, End, Extension, Use, Plain}
use Rattle.sx_directives.specs.declared.row.Row.TheVariants.{To}
use Rattle.sx_lines.specs.declared.kind.Kind.{Kind}
use Rattle.sx_lines.specs.declared.kind.Kind.TheVariants.{Head, Directive, Shape, Order, Unfinished}
use Rattle.sx_lines.specs.declared.kind.Kind.TheVariants.{Main as NoMain, Variable}
use Rattle.sx_outline.specs.declared.main_form.MainForm.{MainForm}
use Rattle.sx_outline.specs.declared.outline_error.OutlineError.{OutlineError}
use Rattle.sx_outline.specs.declared.outline_error.OutlineError.TheVariants.{Memory, NotUtf8}
use Rattle.sx_outline.specs.declared.outline_error.OutlineError.TheVariants.{Notation}
use Rattle.sx_outline.specs.Declarations.{Declared, nothing, declare, declared_parts}
use Rattle.sx_outline.specs.Fitting.{IsMainOf, declared_form_names}
use Rattle.sx_outline.specs.Known.{Declares, RowGoesOn, kept_lines}
use Rattle.sx_outline.specs.Stages.{RuleData, Stage, at_start, at_declarations, at_body, at_plains}
use Rattle.sx_outline.specs.Stages.{at_rules, at_premises, at_conclusion, at_end, State, start}
use Rattle.sx_outline.specs.Stages.{begun_plain, IsDue, MayComeNext, Steps, StepsAt, StepsByRow, IsBad}
use Rattle.sx_outline.specs.Stages.{IsInside, IsWhole, state_after_row, at_stage as to}
use Rattle.sx_outline.specs.Outcomes.{IsReadingOutcome}
use Rattle.sx_outline.specs.Outlined.{OutlineData, declared_by, IsEnd, IsMissing, IsOutlineOf}
use Rattle.sx_outline.specs.Outlined.{IsReadAs, IsOutlineAnswer}
use Rattle.sx_outline.proofs.SameRows.{SameRow, same_row}
use Rattle.sx_outline.proofs.SameLaws.{has_word, same_declare, same_stands, same_main, same_goes}

-- ---- what is known

goes_once : (d : Declared) (row : Row) (a b : Declared) (NextA NextB : Bool → Declared → Type 0) → ((is_body : Bool) (next : Declared) → NextA is_body next → NextB is_body next → a ≡ b)
    → RowGoesOn d row a NextA → RowGoesOn d row b NextB → a ≡ b
goes_once d (Rule name) a b NextA NextB f h k = h ∙ sym k
goes_once d (Plain p) a b NextA NextB f h k = f true d h k
goes_once d row a b NextA NextB f h k = f false (declare d row) h k

pub one_known : (kind : FileKind) (is_body : Bool) (d : Declared) (left : Lines) (a b : Declared) → Declares kind is_body d left a → Declares kind is_body d left b → a ≡ b
one_known kind is_body d (over n) a b h k = h ∙ sym k
one_known kind true d (line n text after more) a b h k = one_known kind false d more a b h k
one_known kind false d (line n text after more) a b (inl h) (inl k) =
    goes_once d k.0 a b (λ is_body next. Declares kind is_body next more a) (λ is_body next. Declares kind is_body next more b) (λ is_body next x y. one_known kind is_body next more a b x y)
    (same_goes d h.0 k.0 a (λ is_body next. Declares kind is_body next more a) (same_row kind text h.0 k.0 h.1 k.1) h.2) k.2
one_known kind false d (line n text after more) a b (inl h) (inr k) = absurd (k.0 h.0 h.1)
one_known kind false d (line n text after more) a b (inr h) (inl k) = absurd (h.0 k.0 k.1)
one_known kind false d (line n text after more) a b (inr h) (inr k) = one_known kind false d more a b h.1 k.1

-- ---- where a line leads

declared_with : State → Declared → State
declared_with s d = record { stage = s.stage; declared = d; plains = s.plains; rules = s.rules }

begun_same : (n : ℕ) (a b : PlainLine) → a.label ≡ b.label → a.names.items ≡ b.names.items → begun_plain n a ≡ begun_plain n b
begun_same n a b e f = λ i. record { number = n; label = e i; names = f i }

same_after : (s : State) (n : ℕ) (r q : Row) → SameRow r q → state_after_row s n r ≡ state_after_row s n q
unfolding declared_with
same_after s n (Language a) (Language b) e = refl
same_after s n (Sort a) (Sort b) e = ap (declared_with s) (same_declare s.declared (Sort a) (Sort b) e)
same_after s n (Prod a) (Prod b) e = ap (declared_with s) (same_declare s.declared (Prod a) (Prod b) e)
same_after s n (Var a) (Var b) e = ap (declared_with s) (same_declare s.declared (Var a) (Var b) e)
same_after s n (Form a) (Form b) e = ap (declared_with s) (same_declare s.declared (Form a) (Form b) e)
same_after s n (Main a) (Main b) e = ap (declared_with s) (same_declare s.declared (Main a) (Main b) e)
same_after s n (Rule a) (Rule b) e = ap (λ x. state_after_row s n (Rule x)) e
same_after s n Bar Bar e = refl
same_after s n End End e = refl
same_after s n (Extension a) (Extension b) e = refl
same_after s n (Use a) (Use b) e = refl
same_after s n (Plain a) (Plain b) e = ap (λ x. to s (at_body x)) (begun_same n a b e.0 e.1)
same_after s n (To a) (To b) e = ap (λ x. state_after_row s n (To x)) e
same_after s n _ _ e = absurd e

one_by_row : (kind : FileKind) (known other : Declared) (s : State) (n : ℕ) (text : List ℕ) (t u : State) → StepsByRow kind known s n text t → StepsByRow kind other s n text u → t ≡ u
one_by_row kind known other s n text t u (r, good, e) (q, fine, f) = e ∙ same_after s n r q (same_row kind text r q good.spelled fine.spelled) ∙ sym f

-- where a line leads does not depend on what is known
pub one_step : (at : Stage) (kind : FileKind) (known other : Declared) (name : List ℕ) (s : State) (n : ℕ) (text : List ℕ) (t u : State) → StepsAt at kind known name s n text t → StepsAt at kind other name s n text u → t ≡ u
one_step at_start kind known other name s n text t u h k = h.1 ∙ sym k.1
one_step at_declarations kind known other name s n text t u h k = one_by_row kind known other s n text t u h k
one_step (at_body b) kind known other name s n text t u h k = h ∙ sym k
one_step at_plains kind known other name s n text t u h k = one_by_row kind known other s n text t u h k
one_step at_rules kind known other name s n text t u h k = one_by_row kind known other s n text t u h k
one_step (at_premises b) kind known other name s n text t u (inl h) (inl k) = h.1 ∙ sym k.1
one_step (at_premises b) kind known other name s n text t u (inl h) (inr k) = absurd (k.0 h.0)
one_step (at_premises b) kind known other name s n text t u (inr h) (inl k) = absurd (h.0 k.0)
one_step (at_premises b) kind known other name s n text t u (inr h) (inr k) = h.1 ∙ sym k.1
one_step (at_conclusion b) kind known other name s n text t u h k = h ∙ sym k
one_step (at_end r) kind known other name s n text t u h k = one_by_row kind known other s n text t u h k

-- ---- a bad line

pub due_row : (at : Stage) (kind : FileKind) (known : Declared) (name : List ℕ) (s : State) (n : ℕ) (text : List ℕ) (t : State) → IsDue at → StepsAt at kind known name s n text t → StepsByRow kind known s n text t
due_row at_start kind known name s n text t due h = absurd due
due_row at_declarations kind known name s n text t due h = h
due_row (at_body b) kind known name s n text t due h = absurd due
due_row at_plains kind known name s n text t due h = h
due_row at_rules kind known name s n text t due h = h
due_row (at_premises b) kind known name s n text t due h = absurd due
due_row (at_conclusion b) kind known name s n text t due h = absurd due
due_row (at_end r) kind known name s n text t due h = h

-- a line that leads on is not bad
pub good_or_bad : (kind : FileKind) (known : Declared) (name : List ℕ) (s : State) (n : ℕ) (text : List ℕ) (t : State) (wrong : Kind) → Steps kind known name s n text t → IsBad kind known name s text wrong → ⊥
good_or_bad kind known name s n text t Head steps bad =
    let h : StepsAt at_start kind known name s n text t = subst (λ x. StepsAt x kind known name s n text t) bad.0 steps in
    bad.1 h.0
good_or_bad kind known name s n text t Directive steps bad =
    let h = due_row s.stage kind known name s n text t bad.0 steps in
    bad.1 (has_word kind text h.0 h.1.spelled)
good_or_bad kind known name s n text t Shape steps bad =
    let h = due_row s.stage kind known name s n text t bad.0 steps in
    bad.2 h.0 h.1.spelled h.1.fits
good_or_bad kind known name s n text t Order steps bad =
    let h = due_row s.stage kind known name s n text t bad.0 steps in
    bad.4 (same_stands s.stage s.declared.mains h.0 bad.1 (same_row kind text h.0 bad.1 h.1.spelled bad.2) h.1.stands)
good_or_bad kind known name s n text t NoMain steps bad =
    let h = due_row s.stage kind known name s n text t bad.0 steps in
    let main = same_main known h.0 (Main bad.1) (same_row kind text h.0 (Main bad.1) h.1.spelled bad.2) h.1.main in
    bad.4 main.0 main.1
good_or_bad kind known name s n text t Unfinished steps bad = absurd bad
good_or_bad kind known name s n text t Variable steps bad = absurd bad

not_due : (at : Stage) → at ≡ at_start → IsDue at → ⊥
not_due at e due = subst IsDue e due

unread_word : (kind : FileKind) (text : List ℕ) (row : Row) → (HasWord kind text → ⊥) → IsRow kind text row → ⊥
unread_word kind text row n is = n (has_word kind text row is)

-- the main line may stand there, so another row of it may too
may_stand : (kind : FileKind) (s : State) (text : List ℕ) (row : Row) (m : MainLine) → IsRow kind text row → (MayComeNext s row → ⊥) → IsRow kind text (Main m) → MayComeNext s (Main m) → ⊥
may_stand kind s text row m is n main stands = n (same_stands s.stage s.declared.mains (Main m) row (same_row kind text (Main m) row main is) stands)

-- a line is bad in one way
one_kind : (kind : FileKind) (known : Declared) (name : List ℕ) (s : State) (text : List ℕ) (k l : Kind) → IsBad kind known name s text k → IsBad kind known name s text l → k ≡ l
one_kind kind known name s text Head Head h m = refl
one_kind kind known name s text Head Directive h m = absurd (not_due s.stage h.0 m.0)
one_kind kind known name s text Head Shape h m = absurd (not_due s.stage h.0 m.0)
one_kind kind known name s text Head Order h m = absurd (not_due s.stage h.0 m.0)
one_kind kind known name s text Head NoMain h m = absurd (not_due s.stage h.0 m.0)
one_kind kind known name s text Directive Head h m = absurd (not_due s.stage m.0 h.0)
one_kind kind known name s text Directive Directive h m = refl
one_kind kind known name s text Directive Shape h m = absurd (h.1 m.1)
one_kind kind known name s text Directive Order h m = absurd (unread_word kind text m.1 h.1 m.2)
one_kind kind known name s text Directive NoMain h m = absurd (unread_word kind text (Main m.1) h.1 m.2)
one_kind kind known name s text Shape Head h m = absurd (not_due s.stage m.0 h.0)
one_kind kind known name s text Shape Directive h m = absurd (m.1 h.1)
one_kind kind known name s text Shape Shape h m = refl
one_kind kind known name s text Shape Order h m = absurd (h.2 m.1 m.2 m.3)
one_kind kind known name s text Shape NoMain h m = absurd (h.2 (Main m.1) m.2 tt)
one_kind kind known name s text Order Head h m = absurd (not_due s.stage m.0 h.0)
one_kind kind known name s text Order Directive h m = absurd (unread_word kind text h.1 m.1 h.2)
one_kind kind known name s text Order Shape h m = absurd (m.2 h.1 h.2 h.3)
one_kind kind known name s text Order Order h m = refl
one_kind kind known name s text Order NoMain h m = absurd (may_stand kind s text h.1 m.1 h.2 h.4 m.2 m.3)
one_kind kind known name s text NoMain Head h m = absurd (not_due s.stage m.0 h.0)
one_kind kind known name s text NoMain Directive h m = absurd (unread_word kind text (Main h.1) m.1 h.2)
one_kind kind known name s text NoMain Shape h m = absurd (m.2 (Main h.1) h.2 tt)
one_kind kind known name s text NoMain Order h m = absurd (may_stand kind s text m.1 h.1 m.2 m.4 h.2 h.3)
one_kind kind known name s text NoMain NoMain h m = refl
one_kind kind known name s text Unfinished _ h m = absurd h
one_kind kind known name s text Variable _ h m = absurd h
one_kind kind known name s text _ Unfinished h m = absurd m
one_kind kind known name s text _ Variable h m = absurd m

-- ---- the end

one_form : (d : Declared) (m n : MainLine) (a b : MainForm) → m ≡ n → IsMainOf d m a → IsMainOf d n b → a ≡ b
one_form d m n a b e h k =
    let forms : a.form ≡ b.form = h.form_first ∙ ap (λ (x : MainLine). number_of (declared_form_names d) x.form) e ∙ sym k.form_first in
    let empties : a.empty ≡ b.empty = h.empty.first ∙ ap (λ (x : MainLine). number_of (labels (declared_parts d)) x.empty) e ∙ sym k.empty.first in
    let adds : a.add ≡ b.add = h.add.first ∙ ap (λ (x : MainLine). number_of (labels (declared_parts d)) x.add) e ∙ sym k.add.first in
    ap (λ (x : ℕ). let main : MainForm = record { form = x; empty = a.empty; add = a.add } in main) forms
    ∙ ap (λ (x : ℕ). let main : MainForm = record { form = b.form; empty = x; add = a.add } in main) empties
    ∙ ap (λ (x : ℕ). let main : MainForm = record { form = b.form; empty = b.empty; add = x } in main) adds

one_line : (m n : MainLine) → m ∷ [] ≡ n ∷ [] → m ≡ n
one_line m n e = cc

same_outline : (o p : OutlineData) (m n : MainLine) → declared_by o m ≡ declared_by p n → o.main ≡ p.main → o.rules ≡ p.rules → o ≡ p
same_outline o p m n e f g =
    ap (λ (x : Declared). let all : OutlineData = record { parts = declared_parts x; vars = x.vars; forms = x.forms; main = o.main; rules = o.rules } in all) e
    ∙ ap (λ (x : MainForm). let all : OutlineData = record { parts = p.parts; vars = p.vars; forms = p.forms; main = x; rules = o.rules } in all) f
    ∙ ap (λ (x : List RuleData). let all : OutlineData = record { parts = p.parts; vars = p.vars; forms = p.forms; main = p.main; rules = x } in all) g

one_outline : (s : State) (o p : OutlineData) → IsOutlineOf s o → IsOutlineOf s p → o ≡ p
one_outline s o p h k =
    let e : declared_by o h.line ≡ declared_by p k.line = sym h.declared ∙ k.declared in
    same_outline o p h.line k.line e (one_form s.declared h.line k.line o.main p.main (one_line h.line k.line (ap (λ (x : Declared). x.mains) e)) h.main k.main) (sym h.rules ∙ k.rules)

pub inside_or_whole : (at : Stage) (n : ℕ) → IsInside at n → IsWhole at → ⊥
inside_or_whole at_start n h w = h
inside_or_whole at_declarations n h w = h
inside_or_whole (at_body b) n h w = w
inside_or_whole at_plains n h w = h
inside_or_whole at_rules n h w = h
inside_or_whole (at_premises b) n h w = w
inside_or_whole (at_conclusion b) n h w = w
inside_or_whole (at_end r) n h w = w

pub one_inside : (at : Stage) (n m : ℕ) → IsInside at n → IsInside at m → n ≡ m
one_inside at_start n m h k = absurd h
one_inside at_declarations n m h k = absurd h
one_inside (at_body b) n m h k = sym h ∙ k
one_inside at_plains n m h k = absurd h
one_inside at_rules n m h k = absurd h
one_inside (at_premises b) n m h k = sym h ∙ k
one_inside (at_conclusion b) n m h k = sym h ∙ k
one_inside (at_end r) n m h k = sym h ∙ k

start_whole : (at : Stage) → at ≡ at_start → IsWhole at → ⊥
start_whole at e w = subst IsWhole e w

start_inside : (at : Stage) (n : ℕ) → at ≡ at_start → IsInside at n → ⊥
start_inside at n e h = subst (λ x. IsInside x n) e h

no_line : (o : OutlineData) (s : State) → IsOutlineOf s o → s.declared.mains ≡ [] → ⊥
no_line o s h e = none_is h.line (sym (ap (λ (x : Declared). x.mains) h.declared) ∙ e)
  where
    none_is : (m : MainLine) → m ∷ [] ≡ [] → ⊥
    none_is m e = cc

whole_missing : (s : State) (end number : ℕ) (kind : Kind) (o : OutlineData) → IsWhole s.stage → IsOutlineOf s o → IsMissing s end number kind → ⊥
whole_missing s end number Head o w is h = start_whole s.stage h.0 w
whole_missing s end number Unfinished o w is h = inside_or_whole s.stage number h w
whole_missing s end number NoMain o w is h = no_line o s is h.1
whole_missing s end number Directive o w is h = h
whole_missing s end number Shape o w is h = h
whole_missing s end number Order o w is h = h
whole_missing s end number Variable o w is h = h

bad_at : ℕ → Kind → Result OutlineData OutlineError
bad_at n kind = Err (Notation n kind)

one_missing : (s : State) (end n m : ℕ) (k l : Kind) → IsMissing s end n k → IsMissing s end m l → bad_at n k ≡ bad_at m l
one_missing s end n m Head Head h g = ap (λ x. bad_at x Head) (h.1 ∙ sym g.1)
one_missing s end n m Head Unfinished h g = absurd (start_inside s.stage m h.0 g)
one_missing s end n m Head NoMain h g = absurd (start_whole s.stage h.0 g.0)
one_missing s end n m Unfinished Head h g = absurd (start_inside s.stage n g.0 h)
one_missing s end n m Unfinished Unfinished h g = ap (λ x. bad_at x Unfinished) (one_inside s.stage n m h g)
one_missing s end n m Unfinished NoMain h g = absurd (inside_or_whole s.stage n h g.0)
one_missing s end n m NoMain Head h g = absurd (start_whole s.stage g.0 h.0)
one_missing s end n m NoMain Unfinished h g = absurd (inside_or_whole s.stage m g h.0)
one_missing s end n m NoMain NoMain h g = ap (λ x. bad_at x NoMain) (h.2 ∙ sym g.2)
one_missing s end n m Directive _ h g = absurd h
one_missing s end n m Shape _ h g = absurd h
one_missing s end n m Order _ h g = absurd h
one_missing s end n m Variable _ h g = absurd h
one_missing s end n m _ Directive h g = absurd g
one_missing s end n m _ Shape h g = absurd g
one_missing s end n m _ Order h g = absurd g
one_missing s end n m _ Variable h g = absurd g

one_end : (s : State) (end : ℕ) (a b : Result OutlineData OutlineError) → IsEnd s end a → IsEnd s end b → a ≡ b
unfolding bad_at
one_end s end (Ok o) (Ok p) h k = ap (λ x. Ok x) (one_outline s o p h.1 k.1)
one_end s end (Ok o) (Err (Notation n kind)) h k = absurd (whole_missing s end n kind o h.0 h.1 k)
one_end s end (Ok o) (Err Memory) h k = absurd k
one_end s end (Ok o) (Err (NotUtf8 place)) h k = absurd k
one_end s end (Err (Notation n kind)) (Ok o) h k = absurd (whole_missing s end n kind o k.0 k.1 h)
one_end s end (Err (Notation n kind)) (Err (Notation m other)) h k = one_missing s end n m kind other h k
one_end s end (Err (Notation n kind)) (Err Memory) h k = absurd k
one_end s end (Err (Notation n kind)) (Err (NotUtf8 place)) h k = absurd k
one_end s end (Err Memory) b h k = absurd h
one_end s end (Err (NotUtf8 place)) b h k = absurd h

-- ---- the file

-- two outcomes of the same lines are of the same end, or of the same bad line
pub both_outcomes : (R : Type 0) (AfterA AfterB : State → ℕ → Type 0) (BadA BadB : ℕ → Kind → Type 0) → ((t : State) (end : ℕ) → AfterA t end → AfterB t end → R)
    → ((n : ℕ) (bad : Kind) → BadA n bad → BadB n bad → R) → (kind : FileKind) (known : Declared) (name : List ℕ) (s : State) (left : Lines)
    → IsReadingOutcome kind known name s left AfterA BadA → IsReadingOutcome kind known name s left AfterB BadB → R
both_outcomes R AfterA AfterB BadA BadB f g kind known name s (over n) h k = f s n h k
both_outcomes R AfterA AfterB BadA BadB f g kind known name s (line n text after more) (inl h) (inl k) =
    both_outcomes R AfterA AfterB BadA BadB f g kind known name k.0 more
    (subst (λ t. IsReadingOutcome kind known name t more AfterA BadA) (one_step s.stage kind known known name s n text h.0 k.0 h.1 k.1) h.2) k.2
both_outcomes R AfterA AfterB BadA BadB f g kind known name s (line n text after more) (inl h) (inr k) = absurd (good_or_bad kind known name s n text h.0 k.0 h.1 k.1)
both_outcomes R AfterA AfterB BadA BadB f g kind known name s (line n text after more) (inr h) (inl k) = absurd (good_or_bad kind known name s n text k.0 h.0 k.1 h.1)
both_outcomes R AfterA AfterB BadA BadB f g kind known name s (line n text after more) (inr h) (inr k) =
    g n k.0 (subst (BadA n) (one_kind kind known name s text h.0 k.0 h.1 k.1) h.2) k.2

one_reading : (name bytes : List ℕ) (a b : Result OutlineData OutlineError) → IsReadAs name bytes a → IsReadAs name bytes b → a ≡ b
one_reading name bytes a b h k =
    let lines = kept_lines (lines_from 1 bytes) in
    let e : h.known ≡ k.known = one_known files.Language false nothing lines h.known k.known h.declares k.declares in
    both_outcomes (a ≡ b) (λ s end. IsEnd s end a) (λ s end. IsEnd s end b) (λ n bad. a ≡ Err (Notation n bad)) (λ n bad. b ≡ Err (Notation n bad))
    (λ s end x y. one_end s end a b x y) (λ n bad x y. x ∙ sym y) files.Language k.known name start lines
    (subst (λ d. IsReadingOutcome files.Language d name start lines (λ s end. IsEnd s end a) (λ n bad. a ≡ Err (Notation n bad))) e h.outcome) k.outcome

pub one_answer : (name bytes : List ℕ) (a b : Result OutlineData OutlineError) → IsOutlineAnswer name bytes a → IsOutlineAnswer name bytes b → (a ≢ Err Memory) → (b ≢ Err Memory) → a ≡ b
one_answer name bytes (Err Memory) b h k n m = absurd (n refl)
one_answer name bytes a (Err Memory) h k n m = absurd (m refl)
one_answer name bytes (Ok o) (Ok p) h k n m = one_reading name bytes (Ok o) (Ok p) h k
one_answer name bytes (Ok o) (Err (NotUtf8 place)) h k n m = absurd (k.0 h.utf8)
one_answer name bytes (Ok o) (Err (Notation l kind)) h k n m = one_reading name bytes (Ok o) (Err (Notation l kind)) h k
one_answer name bytes (Err (NotUtf8 place)) (Ok p) h k n m = absurd (h.0 k.utf8)
one_answer name bytes (Err (NotUtf8 place)) (Err (NotUtf8 other)) h k n m = ap (λ x. Err (NotUtf8 x)) (h.1 ∙ sym k.1)
one_answer name bytes (Err (NotUtf8 place)) (Err (Notation l kind)) h k n m = absurd (h.0 k.utf8)
one_answer name bytes (Err (Notation l kind)) (Ok p) h k n m = one_reading name bytes (Err (Notation l kind)) (Ok p) h k
one_answer name bytes (Err (Notation l kind)) (Err (NotUtf8 place)) h k n m = absurd (k.0 h.utf8)
one_answer name bytes (Err (Notation l kind)) (Err (Notation i other)) h k n m = one_reading name bytes (Err (Notation l kind)) (Err (Notation i other)) h k
