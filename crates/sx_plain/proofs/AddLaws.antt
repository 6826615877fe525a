-- Laws of adding entries.
use Rattle.std.proofs.Common.{◌≡◌, ◌≢◌, arith, ℕ, zero, suc, ◌+◌, ◌-◌, ◌<◌, ◌≤◌, drop, set, get_or, Vec, Bool, true, false, List, [], ◌∷◌, ◌++◌, ◌⊎◌, inl, inr, length, Option, Some, None, if◌then◌else◌, refl, sym, ap, ◌∙◌, subst}
use Rattle.std.specs.Prelude.{nat_lt, ◌==◌, option_map, IsSome}
use Rattle.std.specs.declared.alloc.Global.{Global}
use Rattle.std.proofs.lemmas.Bool.{ltb-true, ltb-false, eqb-true}
use Rattle.std.proofs.lemmas.List.{get_or-set_same, get_or-set_other, map-append}
use Rattle.std.proofs.Math.ListN.{length-map}
use Rattle.std.proofs.Math.Logic.{∥∥₁_map, ∥∥₁_map₂}
use Rattle.sx_term.specs.declared.term.Term.{Term, Node}
use Rattle.sx_term.specs.Tree.{Tree, Trees, node, lexeme, hole, none, ◌▹◌}
use Rattle.sx_term.specs.Term.{tree}
use Rattle.sx_term.proofs.Kids.{trees, tree-at_node, trees-drop, trees-drop_all}
use Rattle.sx_term.specs.Instances.{Stands}
use Rattle.sx_plain.specs.declared.entry.Entry.{Entry}
use Rattle.sx_plain.specs.Plain.{Body, Table, image}
use Rattle.sx_plain.specs.Tables.{IsFlat, IsPlainTable, FitsTable, IsCovered, AreCovered}
use Rattle.sx_plain.specs.Entries.{body, bodies, entries_from}
use Rattle.sx_plain.specs.Adds.{with_entry, uncovered, label_or, first_uncovered, first_uncovered_of}
use Rattle.sx_plain.specs.Adds.{UsesAll}
use Rattle.sx_plain.proofs.Tables.{image-base, stands-image, image-stands}

-- the kids' first label is the node's, where the node's own is known
pub later-found : (base : ℕ) (table : Table) (t : Term) (label : ℕ) (kids : Vec Term Global) (ts : List Term) (i : ℕ) (k : Term) (found : ℕ) → t ≡ Node label kids → ts ≡ kids.items →
    uncovered base (table label) label ≡ None → first_uncovered_of base table (trees (drop i ts)) ≡ first_uncovered_of base table (trees ts) →
    i < length ts → k ≡ get_or ts i k → Some found ≡ first_uncovered base table (tree k) → Some found ≡ first_uncovered base table (tree t)
later-found base table t label kids ts i k found e s own same l g f =
    let here : Some found ≡ first_uncovered_of base table (trees (drop i ts)) =
    ap (λ (o : Option ℕ). label_or o (first_uncovered_of base table (trees (drop (i + 1) ts)))) f ∙ ap (first_uncovered_of base table) (sym (trees-drop ts i k l g)) in
    here ∙ same ∙ ap (λ (x : List Term). first_uncovered_of base table (trees x)) s
    ∙ ap (λ (o : Option ℕ). label_or o (first_uncovered_of base table (trees kids.items))) (sym own)
    ∙ ap (first_uncovered base table) (sym (tree-at_node t label kids e))

pub none-later : (base : ℕ) (table : Table) (t : Term) (label : ℕ) (kids : Vec Term Global) (ts : List Term) (i : ℕ) → t ≡ Node label kids → ts ≡ kids.items →
    uncovered base (table label) label ≡ None → first_uncovered_of base table (trees (drop i ts)) ≡ first_uncovered_of base table (trees ts) → length ts ≤ i →
    None ≡ first_uncovered base table (tree t)
none-later base table t label kids ts i e s own same l =
    ap (first_uncovered_of base table) (sym (trees-drop_all ts i l)) ∙ same ∙ ap (λ (x : List Term). first_uncovered_of base table (trees x)) s
    ∙ ap (λ (o : Option ℕ). label_or o (first_uncovered_of base table (trees kids.items))) (sym own)
    ∙ ap (first_uncovered base table) (sym (tree-at_node t label kids e))

-- where there is none, each label is base or has an entry
or-first : (a b : Option ℕ) → label_or a b ≡ None → a ≡ None
or-first None b e = refl
or-first (Some n) b e = cc

or-second : (a b : Option ℕ) → label_or a b ≡ None → b ≡ None
or-second None b e = e
or-second (Some n) b e = cc

known : (base : ℕ) (o : Option Body) (label : ℕ) → uncovered base o label ≡ None → (label < base) ⊎ IsSome o
known base (Some b) label e = inr refl
known base None label e = go (nat_lt label base) refl e
  where
    go : (x : Bool) → nat_lt label base ≡ x → (let o : Option ℕ = if x then None else Some label in o) ≡ None → (label < base) ⊎ IsSome (let o : Option Body = None in o)
    go true f g = inl (ltb-true label base f)
    go false f g = cc

mutual
  pub covered : (base : ℕ) (table : Table) (t : Tree) → first_uncovered base table t ≡ None → IsCovered base table t
  covered base table (node label ts) e =
      (known base (table label) label (or-first _ (first_uncovered_of base table ts) e), all_covered base table ts (or-second (uncovered base (table label) label) (first_uncovered_of base table ts) e))
  covered base table (lexeme kind text) e = tt
  covered base table (hole v) e = tt

  all_covered : (base : ℕ) (table : Table) (ts : Trees) → first_uncovered_of base table ts ≡ None → AreCovered base table ts
  all_covered base table none e = tt
  all_covered base table (t ▹ ts) e =
      (covered base table t (or-first (first_uncovered base table t) (first_uncovered_of base table ts) e), all_covered base table ts (or-second (first_uncovered base table t) (first_uncovered_of base table ts) e))

-- entries
get-none : (es : List (Option Body)) (i : ℕ) → get_or (es ++ None ∷ []) i None ≡ get_or es i None
get-none [] zero = refl
get-none [] (suc i) = refl
get-none (e ∷ es) zero = refl
get-none (e ∷ es) (suc i) = get-none es i

pub more-none : (base : ℕ) (es : List (Option Entry)) → entries_from base (bodies (es ++ None ∷ [])) ≡ entries_from base (bodies es)
more-none base es = λ i label. here label i
  where
    here : (label : ℕ) → entries_from base (bodies (es ++ None ∷ [])) label ≡ entries_from base (bodies es) label
    here label =
        ap (λ (bs : List (Option Body)). entries_from base bs label) (map-append (option_map body) es (None ∷ []))
        ∙ ap (λ (o : Option Body). if nat_lt label base then None else o) (get-none (bodies es) (label - base))

get-push : (es : List (Option Body)) (o : Option Body) (i p : ℕ) → p ≡ length es → i ≢ p → get_or (es ++ o ∷ []) i None ≡ get_or es i None
get-push [] o zero p e n = absurd (n (sym e))
get-push [] o (suc i) p e n = refl
get-push (x ∷ es) o zero p e n = refl
get-push (x ∷ es) o (suc i) p e n = get-push es o i (length es) refl (λ q. n (let r : suc i ≡ p = omega arith in r))

get-pushed : (es : List (Option Body)) (o : Option Body) (i : ℕ) → i ≡ length es → get_or (es ++ o ∷ []) i None ≡ o
get-pushed [] o zero e = refl
get-pushed [] o (suc i) e = absurd (omega arith)
get-pushed (x ∷ es) o zero e = absurd (omega arith)
get-pushed (x ∷ es) o (suc i) e = get-pushed es o i (omega arith)

-- entries that hold the body at the place of the label, and else what they held, are the table with the entry
put-is : (base label : ℕ) (es new : List (Option Body)) (b : Body) → base ≤ label → get_or new (label - base) None ≡ Some b →
    ((i : ℕ) → i ≢ (label - base) → get_or new i None ≡ get_or es i None) → (other : ℕ) → entries_from base new other ≡ with_entry (entries_from base es) label b other
put-is base label es new b l here rest other = go (nat_lt other base) (other == label) refl refl
  where
    differ : (other == label) ≡ false → other ≡ label → ⊥
    differ f q = let g : (label == label) ≡ false = subst (λ (n : ℕ). (n == label) ≡ false) q f in let h : (label == label) ≡ true = grind arith in cc

    go : (x y : Bool) → nat_lt other base ≡ x → (other == label) ≡ y →
        (let o : Option Body = if x then None else get_or new (other - base) None in o) ≡ (if y then Some b else (if x then None else get_or es (other - base) None))
    go true true e f =
        let a = ltb-true other base e in
        let q = eqb-true other label f in absurd (omega arith)
    go true false e f = refl
    go false true e f = let q = eqb-true other label f in ap (λ (n : ℕ). get_or new (n - base) None) q ∙ here
    go false false e f =
        let a = ltb-false other base e in
        rest (other - base) (λ q. differ f (let r : other ≡ label = omega arith in r))

map-set : (es : List (Option Entry)) (i : ℕ) (e : Entry) → bodies (set es i (Some e)) ≡ set (bodies es) i (Some (body e))
map-set [] i e = refl
map-set (x ∷ es) zero e = refl
map-set (x ∷ es) (suc i) e = ap (λ (bs : List (Option Body)). option_map body x ∷ bs) (map-set es i e)

pub put-set : (base label p : ℕ) (es : List (Option Entry)) (e : Entry) → base ≤ label → p ≡ label - base → p < length es →
    (other : ℕ) → entries_from base (bodies (set es p (Some e))) other ≡ with_entry (entries_from base (bodies es)) label (body e) other
put-set base label p es e l q h other =
    let n = length-map es (option_map body) in
    ap (λ (bs : List (Option Body)). entries_from base bs other) (map-set es p e ∙ ap (λ (i : ℕ). set (bodies es) i (Some (body e))) q)
    ∙ put-is base label (bodies es) (set (bodies es) (label - base) (Some (body e))) (body e) l
    (get_or-set_same (bodies es) (label - base) (Some (body e)) None (omega arith))
    (λ i m. get_or-set_other (bodies es) (label - base) i (Some (body e)) None m) other

pub put-push : (base label p : ℕ) (es : List (Option Entry)) (e : Entry) → base ≤ label → p ≡ label - base → p ≡ length es →
    (other : ℕ) → entries_from base (bodies (es ++ Some e ∷ [])) other ≡ with_entry (entries_from base (bodies es)) label (body e) other
put-push base label p es e l q h other =
    let n = length-map es (option_map body) in
    let r : label - base ≡ length (bodies es) = omega arith in
    ap (λ (bs : List (Option Body)). entries_from base bs other) (map-append (option_map body) es (Some e ∷ []))
    ∙ put-is base label (bodies es) (bodies es ++ Some (body e) ∷ []) (body e) l
    (get-pushed (bodies es) (Some (body e)) (label - base) r)
    (λ i m. get-push (bodies es) (Some (body e)) i (label - base) r m) other

-- a table with one more flat entry is a table
with-is : (base label : ℕ) (table new : Table) (b : Body) → base ≤ label → IsFlat base b → ((other : ℕ) → new other ≡ with_entry table label b other) → IsPlainTable base table → IsPlainTable base new
with-is base label table new b l flat same is = record {
  keeps_base = λ other k. same other ∙ below other k (other == label) refl;
  flat = λ other body e. flat_at other body (other == label) refl (sym (same other) ∙ e);
}
  where
    below : (other : ℕ) → other < base → (y : Bool) → (other == label) ≡ y → (let o : Option Body = if y then Some b else table other in o) ≡ None
    below other k true f = let q = eqb-true other label f in absurd (omega arith)
    below other k false f = is.keeps_base other k

    flat_at : (other : ℕ) (body : Body) (y : Bool) → (other == label) ≡ y → (let o : Option Body = if y then Some b else table other in o) ≡ Some body → IsFlat base body
    flat_at other body true f e = let q : b ≡ body = cc in subst (λ (x : Body). IsFlat base x) q flat
    flat_at other body false f e = is.flat other body e

pub put_is_table : (base label : ℕ) (table new : Table) (b : Body) → base ≤ label → ∥ IsFlat base b ∥₁ → ((other : ℕ) → new other ≡ with_entry table label b other) → ∥ IsPlainTable base table ∥₁ → ∥ IsPlainTable base new ∥₁
put_is_table base label table new b l flat same is = ∥∥₁_map₂ flat is (λ f i. with-is base label table new b l f same i)

-- a push of no entry, done or refused, leaves the table as it is
pub pushed-none : (base : ℕ) (es new : List (Option Entry)) (done : Bool) → new ≡ (if done then es ++ None ∷ [] else es) → entries_from base (bodies new) ≡ entries_from base (bodies es)
pushed-none base es new true e = ap (λ (x : List (Option Entry)). entries_from base (bodies x)) e ∙ more-none base es
pushed-none base es new false e = ap (λ (x : List (Option Entry)). entries_from base (bodies x)) e

-- a push of the entry, done or refused, leaves a table
pub pushed-is : (base label p : ℕ) (es new : List (Option Entry)) (e : Entry) (done : Bool) → base ≤ label → p ≡ label - base → p ≡ length es → ∥ IsFlat base (body e) ∥₁ →
    new ≡ (if done then es ++ Some e ∷ [] else es) → ∥ IsPlainTable base (entries_from base (bodies es)) ∥₁ → ∥ IsPlainTable base (entries_from base (bodies new)) ∥₁
pushed-is base label p es new e true l q h flat n is =
    put_is_table base label (entries_from base (bodies es)) (entries_from base (bodies new)) (body e) l flat
    (λ other. ap (λ (x : List (Option Entry)). entries_from base (bodies x) other) n ∙ put-push base label p es e l q h other) is
pushed-is base label p es new e false l q h flat n is = subst (λ (x : List (Option Entry)). ∥ IsPlainTable base (entries_from base (bodies x)) ∥₁) (sym n) is

-- the image of a term that uses just its parts, and only base labels and labels with entries, is flat
pub flat-image : (base : ℕ) (table : Table) (arity : ℕ) (t u : Tree) → u ≡ image table t → first_uncovered base table t ≡ None → FitsTable table t →
    ((v : ℕ) → Stands v t → v < arity) → UsesAll arity t → ∥ IsPlainTable base table ∥₁ → ∥ IsFlat base (record { arity = arity; flat = u }) ∥₁
flat-image base table arity t u e known_all fits within all is = ∥∥₁_map is (λ i. subst (λ (x : Tree). IsFlat base (record { arity = arity; flat = x })) (sym e) (record {
  labels = image-base base table i t fits (covered base table t known_all);
  parts = λ v. (λ h. within v (stands-image table t v h), λ l. image-stands base table i t v fits (all v l));
}))
