-- Plain bodies are added one after the other.
use Rattle.std.proofs.Common.{◌≡◌, ℕ, zero, suc, ◌+◌, ◌<◌, ◌≤◌, List, [], ◌∷◌, ◌++◌, ◌⊎◌, inl, inr, Bool, true, false, if◌then◌else◌, map, drop, length, get_or, Option, Some, Ok, Err, refl, sym, ap, ◌∙◌, subst, arith, append_assoc}
use Rattle.std.specs.Prelude.{slice_get, IsSome, Result, IfOk}
use Rattle.std.specs.List.{AllByRecursion}
use Rattle.std.specs.Prelude.{nat_lt, ◌==◌}
use Rattle.std.proofs.lemmas.Bool.{eqb-true, ltb-true, ltb-false}
use Rattle.std.proofs.lemmas.List.{at_drop_more, at_drop_all}
use Rattle.std.proofs.lemmas.Option.{slice_get_within}
use Rattle.sx_term.specs.Tree.{Tree, Trees, node, lexeme, hole, none, ◌▹◌}
use Rattle.sx_term.specs.declared.sort.Sort.{Sort}
use Rattle.sx_term.specs.Sorts.{Shape, HasSort, KidsHaveSorts}
use Rattle.sx_term.specs.Instances.{Stands, StandsInKids}
use Rattle.sx_term.specs.Untyped.{IsUntypedSort}
use Rattle.sx_plain.specs.declared.plain_error.PlainError.{PlainError}
use Rattle.sx_plain.specs.declared.plain_error.PlainError.TheVariants as plain
use Rattle.sx_plain.specs.Adds.{with_entry, IsBodyAdded}
use Rattle.sx_plain.specs.Plain.{Body, Table, image}
use Rattle.sx_plain.specs.Tables.{Begins, HasBodies, Desugars}
use Rattle.sx_plain.proofs.Tables.{begins-at}
use Rattle.sx_plain.proofs.Grown.{bodies_stay_sorted}
use Rattle.sx_extension.specs.PlainBodies.{BodyData, body_data, IsBodyOf}
use Rattle.sx_extension.specs.PlainTables.{AddsBody, AddsAll, IsFirstRefused, HasAll, IsPlainReason}
use Rattle.sx_extension.specs.PlainTables.{IsTableRefusal, IsNotAdded}
use Rattle.sx_extension.specs.declared.table_error.TableError.{TableError}
use Rattle.sx_extension.specs.declared.table_error.TableError.TheVariants.{Memory, Plain, NoPlain}
use Rattle.sx_extension.specs.declared.plain_body.PlainBody.{PlainBody}

-- a variable of a well sorted term has a sort
module _ (shapes : List Shape) (vars : List Sort) (v : ℕ) where
  mutual
    pub variable_below : (t : Tree) (sort : Sort) → HasSort shapes vars t sort → Stands v t → v < length vars
    variable_below (node label ts) sort h s = variables_below ts h.0.kids h.3 s
    variable_below (lexeme kind text) sort h s = absurd s
    variable_below (hole w) sort h s = slice_get_within vars v sort (subst (λ (n : ℕ). slice_get vars n ≡ Some sort) (sym s) h)

    variables_below : (ts : Trees) (sorts : List Sort) → KidsHaveSorts shapes vars ts sorts → StandsInKids v ts → v < length vars
    variables_below none sorts h s = absurd s
    variables_below (t ▹ ts) [] h s = absurd h
    variables_below (t ▹ ts) (x ∷ xs) h (inl s) = variable_below t x h.0 s
    variables_below (t ▹ ts) (x ∷ xs) h (inr s) = variables_below ts xs h.1 s

-- the bodies of a table are of constructors of more shapes too
pub more_shapes : (base before all : List Shape) (table : Table) → Begins before all → HasBodies base before table → HasBodies base all table
more_shapes base before all table begins known label body e =
    let old = known label body e in
    (old.0, sym (begins-at before all label begins (slice_get_within before label old.0 old.1)) ∙ old.1, old.2, old.3)

pub begins_on : (base before all : List Shape) → Begins base before → Begins before all → Begins base all
begins_on base before all b a = (b.0 ++ a.0, a.1 ∙ ap (λ (ss : List Shape). ss ++ a.0) b.1 ∙ append_assoc base b.0 a.0)

-- after a body is added each body of the table is of its constructor
pub after_add : (base all : List Shape) (first n : ℕ) (old new : Table) (b : BodyData) (t : Tree) → IsBodyOf all first b → n ≡ length base → Begins base all → HasBodies base all old → t ≡ b.term →
    (r : Result (Unit {0}) PlainError) → IsBodyAdded n old new b.label b.parts t r → IfOk r (λ _. HasBodies base all new)
after_add base all first n old new b t is m begins known same (Ok x) h =
    let by_term = subst (λ (u : Tree). IsBodyAdded n old new b.label b.parts u (Ok tt)) same h in
    let by_parts = subst (λ (k : ℕ). IsBodyAdded n old new b.label k b.term (Ok tt)) is.many by_term in
    let by_base = subst (λ (k : ℕ). IsBodyAdded k old new b.label (length is.shape.kids) b.term (Ok tt)) m by_parts in
    bodies_stay_sorted base all old new b.label is.shape b.term begins known is.is is.plain is.sorted by_base
after_add base all first n old new b t is m begins known same (Err e) h = tt

pub map_drop : {A B : Type 0} (f : A → B) (xs : List A) (i : ℕ) (x : A) → i < length xs → x ≡ get_or xs i x → map f (drop i xs) ≡ f x ∷ map f (drop (i + 1) xs)
map_drop f xs i x h e = at_drop_more (map f) xs i x h ∙ ap (λ y. f y ∷ map f (drop (i + 1) xs)) (sym e)

pub map_drop_all : {A B : Type 0} (f : A → B) (xs : List A) (i : ℕ) → length xs ≤ i → map f (drop i xs) ≡ []
map_drop_all f xs i h = at_drop_all (map f) xs i h

-- one body more of a list
module _ (n : ℕ) (start : Table) (xs : List PlainBody) where
  -- what is added to the table by the bodies from this number on is added to the first by all
  abbrev pub AddsOn : Table → ℕ → Type 0
  AddsOn old i = (new : Table) → AddsAll n old (map body_data (drop i xs)) new → AddsAll n start (map body_data xs) new

  -- what is refused among those from this number on is refused among all
  abbrev pub RefusesOn : Table → ℕ → Type 0
  RefusesOn old i = (m : ℕ) (e : PlainError) → IsFirstRefused n old (map body_data (drop i xs)) m e → IsFirstRefused n start (map body_data xs) (i + m) e

  module _ (old middle : Table) (i : ℕ) (x : PlainBody) (h : i < length xs) (e : x ≡ get_or xs i x) where
    pub adds_on : AddsBody n old (body_data x) middle → AddsOn old i → AddsOn middle (i + 1)
    adds_on a k new r = k new (subst (λ (bs : List BodyData). AddsAll n old bs new) (sym (map_drop body_data xs i x h e)) (middle, a, r))

    pub refuses_on : AddsBody n old (body_data x) middle → RefusesOn old i → RefusesOn middle (i + 1)
    refuses_on a k m d r =
        let q : i + suc m ≡ (i + 1) + m = omega arith in
        subst (λ (j : ℕ). IsFirstRefused n start (map body_data xs) j d) q
        (k (suc m) d (subst (λ (bs : List BodyData). IsFirstRefused n old bs (suc m) d) (sym (map_drop body_data xs i x h e)) (middle, a, r)))

    pub refused_here : (d : PlainError) → IsBodyAdded n old middle (body_data x).label (body_data x).parts (body_data x).term (Err d) → RefusesOn old i → IsPlainReason d → IsFirstRefused n start (map body_data xs) i d
    refused_here d a k reason =
        let q : i + 0 ≡ i = omega arith in
        subst (λ (j : ℕ). IsFirstRefused n start (map body_data xs) j d) q
        (k 0 d (subst (λ (bs : List BodyData). IsFirstRefused n old bs 0 d) (sym (map_drop body_data xs i x h e)) (same_refusal d a reason)))
      where
        same_refusal : (d : PlainError) → IsBodyAdded n old middle (body_data x).label (body_data x).parts (body_data x).term (Err d) → IsPlainReason d → IsBodyAdded n old old (body_data x).label (body_data x).parts (body_data x).term (Err d)
        same_refusal plain.Memory a r = absurd r
        same_refusal (plain.Twice l) a r = a
        same_refusal (plain.UsesLater l) a r = a
        same_refusal (plain.Drops v) a r = a
        same_refusal (plain.TooDeep v) a r = a
        same_refusal (plain.TooBig v) a r = a

  pub not_added : (old middle : Table) (i : ℕ) (x : PlainBody) → i < length xs → x ≡ get_or xs i x → (d : PlainError) → IsBodyAdded n old middle (body_data x).label (body_data x).parts (body_data x).term (Err d) → RefusesOn old i →
      (r : TableError) → IsTableRefusal i d r → IsNotAdded n start (map body_data xs) r
  not_added old middle i x h e d a k Memory is = tt
  not_added old middle i x h e d a k (NoPlain label) is = absurd is
  not_added old middle i x h e d a k (Plain m y) is =
      let here = refused_here old middle i x h e d a k is.0 in
      let by_place = subst (λ (j : ℕ). IsFirstRefused n start (map body_data xs) j d) (sym is.1) here in
      (subst (λ (z : PlainError). IsPlainReason z) (sym is.2) is.0, subst (λ (z : PlainError). IsFirstRefused n start (map body_data xs) m z) (sym is.2) by_place)

  pub adds_done : (old : Table) (i : ℕ) → length xs ≤ i → AddsOn old i → AddsAll n start (map body_data xs) old
  adds_done old i h k = k old (subst (λ (bs : List BodyData). AddsAll n old bs old) (sym (map_drop_all body_data xs i h)) (λ label. refl))

pub body_at : (P : BodyData → Type 0) (xs : List PlainBody) (i : ℕ) (x : PlainBody) → AllByRecursion P (map body_data xs) → i < length xs → x ≡ get_or xs i x → P (body_data x)
body_at P [] i x h l e = absurd (omega arith)
body_at P (y ∷ xs) zero x h l e = subst (λ (z : PlainBody). P (body_data z)) (sym e) h.0
body_at P (y ∷ xs) (suc i) x h l e = body_at P xs i x h.1 (omega arith) e

-- labels below those of the bodies keep their entries
pub keeps_below : (all : List Shape) (first n : ℕ) (old new : Table) (bs : List BodyData) → AllByRecursion (IsBodyOf all first) bs → AddsAll n old bs new → (label : ℕ) → label < first → old label ≡ new label
keeps_below all first n old new [] h a label l = sym (a label)
keeps_below all first n old new (b ∷ bs) h a label l =
    let middle = a.0 in
    let body : Body = record { arity = b.parts; flat = image old b.term } in
    let away : with_entry old b.label body label ≡ old label = other_label old b.label body label (let m = h.0.new in omega (arith, l, m)) in
    sym (a.1.5 label ∙ away) ∙ keeps_below all first n middle new bs h.1 a.2 label l
  where
    other_label : (old : Table) (label : ℕ) (body : Body) (other : ℕ) → other < label → with_entry old label body other ≡ old other
    other_label old label body other l = go (other == label) refl
      where
        go : (b : Bool) → (other == label) ≡ b → (if b then Some body else old other) ≡ old other
        go true t = let q = eqb-true other label t in absurd (omega (arith, l, q))
        go false t = refl

pub every_entry : (base before all : List Shape) (old new : Table) → Begins before all → Desugars base before old → HasAll all (length before) new → ((label : ℕ) → label < length before → old label ≡ new label) →
    (label : ℕ) (shape : Shape) → slice_get all label ≡ Some shape → IsUntypedSort shape.sort → (label < length base) ⊎ IsSome (new label)
every_entry base before all old new begins known has keeps label shape at plain = go (nat_lt label (length before)) refl
  where
    go : (b : Bool) → nat_lt label (length before) ≡ b → (label < length base) ⊎ IsSome (new label)
    go true t =
        let l = ltb-true label (length before) t in
        elim (known.every label shape (begins-at before all label begins l ∙ at) plain) [ inl x ↦ inl x | inr x ↦ inr (subst (λ (o : Option Body). IsSome o) (keeps label l) x) ]
    go false t = inr (has label (let m = ltb-false label (length before) t in m) (shape, at, plain))
