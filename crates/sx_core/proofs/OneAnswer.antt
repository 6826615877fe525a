-- Two answers for the bytes of a core file agree.
use Rattle.std.proofs.Common.{◌≡◌, ◌≢◌, ℕ, List, [], ◌∷◌, ◌++◌, ◌⊎◌, inl, inr, refl, sym, ap, ◌∙◌, subst}
use Rattle.std.specs.Prelude.{Result, Ok, Err}
use Rattle.std.specs.Str.{IsUtf8}
use Rattle.std.specs.Str.Lossy.{utf8_valid_len}
use Rattle.sx_lines.specs.Lines.{Lines, over, line, lines_from}
use Rattle.sx_lines.specs.Reading.{kept}
use Rattle.sx_rules.specs.Good.{IsRuleSet, IsRuleSetRefused}
use Rattle.sx_rules.specs.declared.error.RuleError.{RuleError}
use Rattle.sx_rules.specs.declared.error.RuleError.TheVariants.{Memory as NoRoom, TooManyRules}
use Rattle.sx_rules.specs.declared.error.RuleError.TheVariants.{TooManyVars, SameRule, SortDiffers}
use Rattle.sx_rules.specs.declared.error.RuleError.TheVariants.{Discipline, NotModed}
use Rattle.sx_rules.proofs.Refusals.{one_refusal, not_refused}
use Rattle.sx_core.specs.File.{SortRow, CoreFile}
use Rattle.sx_core.specs.Problem.{Problem}
use Rattle.sx_core.specs.Stated.{SaysCore}
use Rattle.sx_lines.specs.Distinct.{AreTextsDistinct}
use Rattle.sx_core.specs.Resolving.{sort_names}
use Rattle.sx_core.specs.Table.{Row, rows_of}
use Rattle.sx_core.specs.Fitting.{Context, PartsFit, Declare, AllRowsFit}
use Rattle.sx_core.specs.Order.{AreRowsInOrder}
use Rattle.sx_core.specs.CoreRead.{ReadTo, IsBadAt, IsDeepAt, AreLinesOf, AreRulesRefused}
use Rattle.sx_core.specs.CoreRead.{AreLinesAnswered, IsCoreAnswer}
use Rattle.sx_core.specs.Laws.{OneCoreAnswer}
use Rattle.sx_lines.specs.declared.kind.Kind.{Kind}
use Rattle.sx_core.specs.declared.error.CoreFileError.{CoreFileError}
use Rattle.sx_core.specs.declared.error.CoreFileError.TheVariants.{Memory, NotUtf8, Notation}
use Rattle.sx_core.specs.declared.error.CoreFileError.TheVariants.{TooDeep, Rules}
use Rattle.sx_core.proofs.FindLaws.{lexical_distinct}
use Rattle.sx_core.proofs.OneProblem.{one_of_lines}
use Rattle.sx_core.proofs.SameRows.{rows_spelled, fit_at, GoesOn, compared, sorts_distinct, one_sorts, one_context}
use Rattle.sx_core.proofs.BadLines.{not_bad, not_deep, none_missing, one_bad, one_deep, bad_or_deep}
use Rattle.sx_core.proofs.SaidRows.{said_read}

-- ---- two readings of the same lines

over_line : (n m : ℕ) (text after : List ℕ) (more : Lines) → over n ≡ line m text after more → ⊥
over_line n m text after more e = cc

module _ (lines : Lines) (rows ys : List Row) (c d : Context) (next others : Lines) (h : ReadTo lines rows c next) (k : ReadTo lines ys d others) where
  same_sorts : c.sorts ≡ d.sorts
  same_sorts = one_sorts [] lines c.sorts d.sorts h.sorts k.sorts

  distinct : AreTextsDistinct (sort_names c.sorts)
  distinct = sorts_distinct [] lines c.sorts lexical_distinct h.sorts

  same_context : rows ≡ ys → c ≡ d
  same_context e =
      one_context c.sorts rows c d distinct h.declare
      (subst (λ (z : List SortRow). Declare z rows d) (sym same_sorts) (subst (λ (z : List Row). Declare d.sorts z d) (sym e) k.declare))

  -- the next row of the longer reading is as stated after the shorter one
  next_fits : (g : GoesOn rows ys next) → PartsFit c g.after_row.keyword g.after_row.parts
  next_fits g =
      let w = fit_at d.sorts [] rows g.after_row g.more (subst (AllRowsFit d.sorts []) g.parts k.fit) in
      let e = one_context c.sorts rows w.0 c distinct (subst (λ (z : List SortRow). Declare z rows w.0) (sym same_sorts) w.1) h.declare in
      subst (λ (z : Context). PartsFit z g.after_row.keyword g.after_row.parts) e w.2

  front_on : (g : GoesOn rows ys next) → AreRowsInOrder (rows ++ g.after_row ∷ g.more)
  front_on g = subst AreRowsInOrder g.parts k.front

  pub goes_bad : GoesOn rows ys next → (n : ℕ) (kind : Kind) → IsBadAt lines rows c next n kind → ⊥
  goes_bad g n kind b =
      let at = subst (λ (z : Lines). IsBadAt lines rows c z n kind) g.next_is b in
      not_bad c rows g.after_row g.more g.text g.is (next_fits g) (front_on g) kind at.1

  pub goes_deep : GoesOn rows ys next → (n depth : ℕ) → IsDeepAt rows c next n depth → ⊥
  goes_deep g n depth b =
      let at = subst (λ (z : Lines). IsDeepAt rows c z n depth) g.next_is b in
      not_deep c rows g.after_row g.more g.text g.is (next_fits g) (front_on g) depth at.1

-- ---- a line that is not taken

-- the first line that is not taken is bad, or has a core text that is too deep
abbrev Halt : Type 0
Halt = (ℕ × Kind) ⊎ (ℕ × ℕ)

abbrev IsHaltAt : Lines → List Row → Context → Lines → Halt → Type 0
IsHaltAt lines rows c next (inl (n, kind)) = IsBadAt lines rows c next n kind
IsHaltAt lines rows c next (inr (n, depth)) = IsDeepAt rows c next n depth

abbrev Halts : Lines → Halt → Type 0
Halts lines h = (rows : List Row) × (c : Context) × (next : Lines) × ReadTo lines rows c next × IsHaltAt lines rows c next h

one_halt_here : (lines : Lines) (rows : List Row) (c : Context) (next : Lines) (h k : Halt) → AreRowsInOrder rows → IsHaltAt lines rows c next h → IsHaltAt lines rows c next k → h ≡ k
one_halt_here lines rows c next (inl (n, kind)) (inl (m, other)) f a b = let q = one_bad lines rows c next n m kind other f a b in λ i. inl (q.0 i, q.1 i)
one_halt_here lines rows c next (inl (n, kind)) (inr (m, depth)) f a b = absurd (bad_or_deep lines rows c next n m kind depth a b)
one_halt_here lines rows c next (inr (n, depth)) (inl (m, kind)) f a b = absurd (bad_or_deep lines rows c next m n kind depth b a)
one_halt_here lines rows c next (inr (n, depth)) (inr (m, other)) f a b = let q = one_deep rows c next n m depth other a b in λ i. inr (q.0 i, q.1 i)

goes_halt : (lines : Lines) (rows ys : List Row) (c d : Context) (next others : Lines) → ReadTo lines rows c next → ReadTo lines ys d others → GoesOn rows ys next → (h : Halt) → IsHaltAt lines rows c next h → ⊥
goes_halt lines rows ys c d next others a b g (inl (n, kind)) h = goes_bad lines rows ys c d next others a b g n kind h
goes_halt lines rows ys c d next others a b g (inr (n, depth)) h = goes_deep lines rows ys c d next others a b g n depth h

one_halt : (lines : Lines) (h k : Halt) → Halts lines h → Halts lines k → h ≡ k
one_halt lines h k (rows, c, next, a, x) (ys, d, others, b, y) =
    elim (compared rows ys lines next others (rows_spelled c.sorts [] rows a.fit) (rows_spelled d.sorts [] ys b.fit) a.takes b.takes) [
      | inl e ↦ one_halt_here lines rows c next h k a.front x
          (subst (λ (z : List Row). IsHaltAt lines z c next k) (sym e.0) (subst (λ (z : Context). IsHaltAt lines ys z next k) (sym (same_context lines rows ys c d next others a b e.0)) (subst (λ (z : Lines). IsHaltAt lines ys d z k) (sym e.1) y)))
      | inr w ↦ elim w [
        | inl g ↦ absurd (goes_halt lines rows ys c d next others a b g h x)
        | inr g ↦ absurd (goes_halt lines ys rows d c others next b a g k y)
      ]
    ]

-- the lines of a file that says something are all taken
none_here : (lines : Lines) (f : CoreFile) (c : Context) (end : ℕ) (h : Halt) → IsHaltAt lines (rows_of f) c (over end) h → ⊥
none_here lines f c end (inl (n, kind)) h = none_missing lines f end n kind h
none_here lines f c end (inr (n, depth)) h = h

said_goes : (lines : Lines) (f : CoreFile) (p : Problem) (h : Halt) → AreLinesOf lines f → SaysCore f p → Halts lines h → ⊥
said_goes lines f p h a s (rows, c, next, r, x) =
    let w = said_read lines f p a s in
    let b = w.2 in
    elim (compared rows (rows_of f) lines next (over w.1) (rows_spelled c.sorts [] rows r.fit) (rows_spelled w.0.sorts [] (rows_of f) b.fit) r.takes b.takes) [
      | inl e ↦ none_here lines f c w.1 h (subst (λ (z : List Row). IsHaltAt lines z c (over w.1) h) e.0 (subst (λ (z : Lines). IsHaltAt lines rows c z h) e.1 x))
      | inr q ↦ elim q [
        | inl g ↦ goes_halt lines rows (rows_of f) c w.0 next (over w.1) r b g h x
        | inr g ↦ over_line w.1 g.number g.text g.bytes g.others g.next_is
      ]
    ]

-- ---- rules that are no rule set

record Unruled (lines : Lines) (e : RuleError) : Type 0 where
  file : CoreFile
  problem : Problem
  lines_are : AreLinesOf lines file
  says : SaysCore file problem
  refused : IsRuleSetRefused problem.shapes problem.forms problem.rules e
  room : e ≢ NoRoom

unruled : (lines : Lines) (f : CoreFile) (e : RuleError) → AreLinesOf lines f → AreRulesRefused f e → Unruled lines e
unruled lines f NoRoom a h = absurd h
unruled lines f TooManyRules a h = record { file = f; problem = h.0; lines_are = a; says = h.1; refused = h.2; room = λ q. cc }
unruled lines f (TooManyVars x) a h = record { file = f; problem = h.0; lines_are = a; says = h.1; refused = h.2; room = λ q. cc }
unruled lines f (SameRule x) a h = record { file = f; problem = h.0; lines_are = a; says = h.1; refused = h.2; room = λ q. cc }
unruled lines f (SortDiffers x) a h = record { file = f; problem = h.0; lines_are = a; says = h.1; refused = h.2; room = λ q. cc }
unruled lines f (Discipline x y z) a h = record { file = f; problem = h.0; lines_are = a; says = h.1; refused = h.2; room = λ q. cc }
unruled lines f (NotModed x y) a h = record { file = f; problem = h.0; lines_are = a; says = h.1; refused = h.2; room = λ q. cc }

abbrev RefusedBy : RuleError → Problem → Type 0
RefusedBy e p = IsRuleSetRefused p.shapes p.forms p.rules e

one_unruled : (lines : Lines) (e g : RuleError) → Unruled lines e → Unruled lines g → e ≡ g
one_unruled lines e g h k =
    let same = one_of_lines lines k.file h.file k.problem h.problem k.lines_are h.lines_are k.says h.says in
    one_refusal h.problem.shapes h.problem.forms h.problem.rules e g h.refused (subst (RefusedBy g) same k.refused) h.room k.room

not_unruled : (lines : Lines) (f : CoreFile) (p : Problem) (e : RuleError) → AreLinesOf lines f → SaysCore f p → IsRuleSet p.shapes p.forms p.rules → Unruled lines e → ⊥
not_unruled lines f p e a s r h =
    let same = one_of_lines lines h.file f h.problem p h.lines_are a h.says s in
    h.room (not_refused p.shapes p.forms p.rules e r (subst (RefusedBy e) same h.refused))

-- ---- the lines

bad_halt : (n m : ℕ) (k l : Kind) → ◌≡◌ {A = Halt} (inl (n, k)) (inl (m, l)) → (n ≡ m) × (k ≡ l)
bad_halt n m k l e = let q : ◌≡◌ {A = ℕ × Kind} (n, k) (m, l) = cc in (ap (λ (z : ℕ × Kind). z.0) q, ap (λ (z : ℕ × Kind). z.1) q)

deep_halt : (n m d e : ℕ) → ◌≡◌ {A = Halt} (inr (n, d)) (inr (m, e)) → (n ≡ m) × (d ≡ e)
deep_halt n m d e h = let q : ◌≡◌ {A = ℕ × ℕ} (n, d) (m, e) = cc in (ap (λ (z : ℕ × ℕ). z.0) q, ap (λ (z : ℕ × ℕ). z.1) q)

two_halts : (n m d : ℕ) (k : Kind) → ◌≡◌ {A = Halt} (inl (n, k)) (inr (m, d)) → ⊥
two_halts n m d k e = cc

module _ (lines : Lines) where
  one_error : (a b : CoreFileError) → AreLinesAnswered lines (Err a) → AreLinesAnswered lines (Err b) → a ≢ Memory → b ≢ Memory → a ≡ b
  one_error Memory b h k n m = absurd (n refl)
  one_error (NotUtf8 place) b h k n m = absurd h
  one_error (Notation x kind) Memory h k n m = absurd (m refl)
  one_error (Notation x kind) (NotUtf8 place) h k n m = absurd k
  one_error (Notation x kind) (Notation y other) h k n m =
      let q = bad_halt x y kind other (one_halt lines (inl (x, kind)) (inl (y, other)) h k) in λ i. Notation (q.0 i) (q.1 i)
  one_error (Notation x kind) (TooDeep y depth) h k n m = absurd (two_halts x y depth kind (one_halt lines (inl (x, kind)) (inr (y, depth)) h k))
  one_error (Notation x kind) (Rules e) h k n m = let w = unruled lines k.0 e k.1 k.2 in absurd (said_goes lines w.file w.problem (inl (x, kind)) w.lines_are w.says h)
  one_error (TooDeep x depth) Memory h k n m = absurd (m refl)
  one_error (TooDeep x depth) (NotUtf8 place) h k n m = absurd k
  one_error (TooDeep x depth) (Notation y kind) h k n m = absurd (two_halts y x depth kind (one_halt lines (inl (y, kind)) (inr (x, depth)) k h))
  one_error (TooDeep x depth) (TooDeep y other) h k n m =
      let q = deep_halt x y depth other (one_halt lines (inr (x, depth)) (inr (y, other)) h k) in λ i. TooDeep (q.0 i) (q.1 i)
  one_error (TooDeep x depth) (Rules e) h k n m = let w = unruled lines k.0 e k.1 k.2 in absurd (said_goes lines w.file w.problem (inr (x, depth)) w.lines_are w.says h)
  one_error (Rules e) Memory h k n m = absurd (m refl)
  one_error (Rules e) (NotUtf8 place) h k n m = absurd k
  one_error (Rules e) (Notation y kind) h k n m = let w = unruled lines h.0 e h.1 h.2 in absurd (said_goes lines w.file w.problem (inl (y, kind)) w.lines_are w.says k)
  one_error (Rules e) (TooDeep y depth) h k n m = let w = unruled lines h.0 e h.1 h.2 in absurd (said_goes lines w.file w.problem (inr (y, depth)) w.lines_are w.says k)
  one_error (Rules e) (Rules g) h k n m = ap Rules (one_unruled lines e g (unruled lines h.0 e h.1 h.2) (unruled lines k.0 g k.1 k.2))

  no_error : (p : Problem) (e : CoreFileError) → AreLinesAnswered lines (Ok p) → AreLinesAnswered lines (Err e) → e ≢ Memory → ⊥
  no_error p Memory h k n = n refl
  no_error p (NotUtf8 place) h k n = k
  no_error p (Notation x kind) h k n = said_goes lines h.0 p (inl (x, kind)) h.1 h.2.says k
  no_error p (TooDeep x depth) h k n = said_goes lines h.0 p (inr (x, depth)) h.1 h.2.says k
  no_error p (Rules e) h k n = not_unruled lines h.0 p e h.1 h.2.says h.2.rule_set (unruled lines k.0 e k.1 k.2)

-- ---- the bytes

-- the bytes are no text, or the lines are answered
abbrev Read : List ℕ → Result Problem CoreFileError → Type 0
Read bytes x = ((IsUtf8 bytes → ⊥) × (x ≡ Err (NotUtf8 (utf8_valid_len bytes)))) ⊎ (IsUtf8 bytes × AreLinesAnswered (kept (lines_from 1 bytes)) x)

read_of : (bytes : List ℕ) (x : Result Problem CoreFileError) → IsCoreAnswer bytes x → x ≢ Err Memory → Read bytes x
read_of bytes (Ok p) h n = inr h
read_of bytes (Err Memory) h n = absurd (n refl)
read_of bytes (Err (NotUtf8 place)) h n = inl (h.0, ap (λ (z : ℕ). Err (NotUtf8 z)) h.1)
read_of bytes (Err (Notation x kind)) h n = inr h
read_of bytes (Err (TooDeep x depth)) h n = inr h
read_of bytes (Err (Rules e)) h n = inr h

one_of_all : (lines : Lines) (a b : Result Problem CoreFileError) → AreLinesAnswered lines a → AreLinesAnswered lines b → a ≢ Err Memory → b ≢ Err Memory → a ≡ b
one_of_all lines (Ok p) (Ok q) h k n m = ap Ok (one_of_lines lines h.0 k.0 p q h.1 k.1 h.2.says k.2.says)
one_of_all lines (Ok p) (Err e) h k n m = absurd (no_error lines p e h k (λ q. m (ap Err q)))
one_of_all lines (Err e) (Ok p) h k n m = absurd (no_error lines p e k h (λ q. n (ap Err q)))
one_of_all lines (Err e) (Err g) h k n m = ap Err (one_error lines e g h k (λ q. n (ap Err q)) (λ q. m (ap Err q)))

one_read : (bytes : List ℕ) (a b : Result Problem CoreFileError) → Read bytes a → Read bytes b → a ≢ Err Memory → b ≢ Err Memory → a ≡ b
one_read bytes a b (inl h) (inl k) n m = h.1 ∙ sym k.1
one_read bytes a b (inl h) (inr k) n m = absurd (h.0 k.0)
one_read bytes a b (inr h) (inl k) n m = absurd (k.0 h.0)
one_read bytes a b (inr h) (inr k) n m = one_of_all (kept (lines_from 1 bytes)) a b h.1 k.1 n m

pub one_answer : OneCoreAnswer
one_answer bytes a b h k n m = one_read bytes a b (read_of bytes a h n) (read_of bytes b k m) n m
