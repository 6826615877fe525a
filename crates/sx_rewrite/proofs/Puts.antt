-- Instances by what is put for the variables, as it is measured and as it is made.
use Rattle.std.proofs.Common.{◌≡◌, arith, ℕ, zero, suc, ◌-◌, ◌^◌, ◌<◌, ◌≤◌, min, Bool, true, false, List, [], ◌∷◌, ◌++◌, map, Option, Some, None, length, if◌then◌else◌, inl, inr, refl, sym, ap, ◌∙◌, subst, append-nil}
use Rattle.std.specs.Prelude.{Err, nat_lt, slice_index_or}
use Rattle.std.proofs.lemmas.Bool.{lt-ltb, le-ltb}
use Rattle.sx_term.specs.Tree.{Tree, Trees, node, lexeme, hole, none, ◌▹◌, forest, depth_of}
use Rattle.sx_term.specs.Tree.{greatest_depth, size_of, total_size}
use Rattle.sx_term.specs.Instances.{instance, instances, Stands, StandsInKids, bound_by}
use Rattle.sx_term.proofs.Instancing.{instance-same}
use Rattle.sx_term.proofs.Kids.{listed-forest}
use Rattle.sx_plain.specs.declared.measure.Measure.{Measure}
use Rattle.sx_plain.specs.Plain.{Body}
use Rattle.sx_plain.specs.Measures.{depth_with, size_with, greatest}
use Rattle.sx_plain.specs.PartMeasures.{depths_of, sizes_of}
use Rattle.sx_plain.proofs.Measured.{sat, depths, sizes, node-depth, node-size}
use Rattle.sx_plain.proofs.PartLaws.{node-sats}
use Rattle.sx_rewrite.specs.declared.rewrite_error.RewriteError.{RewriteError}
use Rattle.sx_rewrite.specs.declared.rewrite_error.RewriteError.TheVariants.{Memory, RewriteSpent}
use Rattle.sx_rewrite.specs.declared.rewrite_error.RewriteError.TheVariants.{RewriteDeep, TooDeep}
use Rattle.sx_rewrite.specs.declared.rewrite_error.RewriteError.TheVariants.{TooBig}
use Rattle.sx_rules.specs.Rules.{Rule}
use Rattle.sx_rewrite.specs.Measured.{node_terms}
use Rattle.sx_rewrite.specs.Put.{conclusion_terms}
use Rattle.sx_rewrite.specs.Rewriting.{RewriteRefusal, too_deep, too_big, first_over}
use Rattle.sx_rewrite.specs.Puts.{IsMeasureOf, AreMeasuresOf, IsSmallTerm, AreMadeOf, IsLimited}
use Rattle.sx_rewrite.specs.Puts.{Tells}

-- the measures are the depths and the sizes
depths-are : (ts : List Tree) (ms : List Measure) → AreMeasuresOf ts ms → depths_of ms ≡ depths ts
depths-are [] [] h = refl
depths-are [] (m ∷ ms) h = absurd h
depths-are (t ∷ ts) [] h = absurd h
depths-are (t ∷ ts) (m ∷ ms) h =
    let a = h.0.0 in
    let b = depths-are ts ms h.1 in
    λ i. a i ∷ b i

sizes-are : (ts : List Tree) (ms : List Measure) → AreMeasuresOf ts ms → sizes_of ms ≡ map sat (sizes ts)
sizes-are [] [] h = refl
sizes-are [] (m ∷ ms) h = absurd h
sizes-are (t ∷ ts) [] h = absurd h
sizes-are (t ∷ ts) (m ∷ ms) h =
    let a = h.0.1 in
    let b = sizes-are ts ms h.1 in
    λ i. a i ∷ b i

abbrev body_of : Tree → Option Body
body_of t = Some (record { arity = 0; flat = t })

-- an instance is as deep and as big as it is measured
pub put-depth : (more : List Tree) (ms : List Measure) (t : Tree) → AreMeasuresOf more ms → depth_with (depths_of ms) t ≡ depth_of (instance (bound_by more) t)
put-depth more ms t h =
    ap (λ (ds : List ℕ). depth_with ds t) (depths-are more ms h)
    ∙ sym (subst (λ (ts : List Tree). depth_of (instance (bound_by ts) t) ≡ depth_with (depths ts) t) (listed-forest more) (node-depth (body_of t) 0 (forest more)))

pub put-size : (more : List Tree) (ms : List Measure) (t : Tree) → AreMeasuresOf more ms → sat (size_with (sizes_of ms) t) ≡ sat (size_of (instance (bound_by more) t))
put-size more ms t h =
    ap (λ (ns : List ℕ). sat (size_with ns t)) (sizes-are more ms h)
    ∙ node-sats (body_of t) (sizes more)
    ∙ sym (ap sat (subst (λ (ts : List Tree). size_of (instance (bound_by ts) t) ≡ size_with (sizes ts) t) (listed-forest more) (node-size (body_of t) 0 (forest more))))

-- what is put for a variable is no deeper and no bigger than the instance
mutual
  depth-within : (s : ℕ → Tree) (t : Tree) (v : ℕ) → Stands v t → depth_of (s v) ≤ depth_of (instance s t)
  depth-within s (node l ts) v h = let k = depths-within s ts v h in omega arith
  depth-within s (lexeme k x) v h = absurd h
  depth-within s (hole w) v h = let e = ap (λ (x : ℕ). depth_of (s x)) h in omega (arith, e)

  depths-within : (s : ℕ → Tree) (ts : Trees) (v : ℕ) → StandsInKids v ts → depth_of (s v) ≤ greatest_depth (instances s ts)
  depths-within s none v h = absurd h
  depths-within s (t ▹ ts) v (inl h) = let k = depth-within s t v h in omega arith
  depths-within s (t ▹ ts) v (inr h) = let k = depths-within s ts v h in omega arith

mutual
  size-within : (s : ℕ → Tree) (t : Tree) (v : ℕ) → Stands v t → size_of (s v) ≤ size_of (instance s t)
  size-within s (node l ts) v h = let k = sizes-within s ts v h in omega arith
  size-within s (lexeme k x) v h = absurd h
  size-within s (hole w) v h = let e = ap (λ (x : ℕ). size_of (s x)) h in omega (arith, e)

  sizes-within : (s : ℕ → Tree) (ts : Trees) (v : ℕ) → StandsInKids v ts → size_of (s v) ≤ total_size (instances s ts)
  sizes-within s none v h = absurd h
  sizes-within s (t ▹ ts) v (inl h) = let k = size-within s t v h in omega arith
  sizes-within s (t ▹ ts) v (inr h) = let k = sizes-within s ts v h in omega arith

made-at : (more made : List Tree) → AreMadeOf more made → (v : ℕ) → IsSmallTerm (bound_by more v) → bound_by made v ≡ bound_by more v
made-at [] [] h v s = refl
made-at [] (u ∷ us) h v s = absurd h
made-at (t ∷ ts) [] h v s = absurd h
made-at (t ∷ ts) (u ∷ us) h zero s = h.0 s
made-at (t ∷ ts) (u ∷ us) h (suc v) s = made-at ts us h.1 v s

-- an instance that passes no limit is made by what is made
pub put-made : (more made : List Tree) (t : Tree) → AreMadeOf more made → IsSmallTerm (instance (bound_by more) t) → instance (bound_by made) t ≡ instance (bound_by more) t
put-made more made t h s =
    instance-same (bound_by made) (bound_by more) t
    (λ v st.
    let d = depth-within (bound_by more) t v st in
    let n = size-within (bound_by more) t v st in
    let a = s.0 in
    let b = s.1 in
    made-at more made h v (omega (arith, a, d), omega (arith, b, n)))

-- the first of terms that is over
pub over-deep : (t : Tree) (ts : List Tree) → 1000 < depth_of t → first_over (t ∷ ts) ≡ Some (too_deep (depth_of t))
over-deep t ts l =
    ap (λ (b : Bool). if b then Some (too_deep (depth_of t)) else if nat_lt 1000000 (size_of t) then Some (too_big (min (size_of t) (2 ^ 64 - 1))) else first_over ts) (lt-ltb 1000 (depth_of t) l)

pub over-big : (t : Tree) (ts : List Tree) → depth_of t ≤ 1000 → 1000000 < size_of t → first_over (t ∷ ts) ≡ Some (too_big (min (size_of t) (2 ^ 64 - 1)))
over-big t ts d l =
    ap (λ (b : Bool). if b then Some (too_deep (depth_of t)) else if nat_lt 1000000 (size_of t) then Some (too_big (min (size_of t) (2 ^ 64 - 1))) else first_over ts) (le-ltb 1000 (depth_of t) d)
    ∙ ap (λ (b : Bool). if b then Some (too_big (min (size_of t) (2 ^ 64 - 1))) else first_over ts) (lt-ltb 1000000 (size_of t) l)

pub over-none : (t : Tree) (ts : List Tree) → IsSmallTerm t → first_over (t ∷ ts) ≡ first_over ts
over-none t ts (d, n) =
    ap (λ (b : Bool). if b then Some (too_deep (depth_of t)) else if nat_lt 1000000 (size_of t) then Some (too_big (min (size_of t) (2 ^ 64 - 1))) else first_over ts) (le-ltb 1000 (depth_of t) d)
    ∙ ap (λ (b : Bool). if b then Some (too_big (min (size_of t) (2 ^ 64 - 1))) else first_over ts) (le-ltb 1000000 (size_of t) n)

-- a measured term passes no limit, or it is the first that does
pub limited-small : (t : Tree) (m : Measure) → (m.depth ≤ 1000) × (m.size ≤ 1000000) → IsMeasureOf t m → IsSmallTerm t
limited-small t m (d, n) (a, b) = (omega (arith, d, a), omega (arith, n, b))

pub limited-tells : (t : Tree) (ts : List Tree) (m : Measure) (e : RewriteError) → IsLimited m (Err e) → IsMeasureOf t m → Tells (first_over (t ∷ ts)) e
limited-tells t ts m Memory h k = absurd h
limited-tells t ts m (RewriteSpent n) h k = absurd h
limited-tells t ts m RewriteDeep h k = absurd h
limited-tells t ts m (TooDeep n) (l, e) (a, b) =
    over-deep t ts (omega (arith, l, a)) ∙ ap (λ (x : ℕ). let o : Option RewriteRefusal = Some (too_deep x) in o) (sym (e ∙ a))
limited-tells t ts m (TooBig n) (d, l, e) (a, b) =
    over-big t ts (omega (arith, d, a)) (omega (arith, l, b)) ∙ ap (λ (x : ℕ). let o : Option RewriteRefusal = Some (too_big x) in o) (sym (e ∙ b))

-- the first of two lists of terms
abbrev pub or_else : Option RewriteRefusal → Option RewriteRefusal → Option RewriteRefusal
or_else None o = o
or_else (Some r) o = Some r

pub over-both : (ts us : List Tree) → first_over (ts ++ us) ≡ or_else (first_over ts) (first_over us)
over-both [] us = refl
over-both (t ∷ ts) us = go (over-both ts us) (nat_lt 1000 (depth_of t)) (nat_lt 1000000 (size_of t))
  where
    go : first_over (ts ++ us) ≡ or_else (first_over ts) (first_over us) → (x y : Bool) →
        (if x then Some (too_deep (depth_of t)) else if y then Some (too_big (min (size_of t) (2 ^ 64 - 1))) else first_over (ts ++ us))
        ≡ or_else (if x then Some (too_deep (depth_of t)) else if y then Some (too_big (min (size_of t) (2 ^ 64 - 1))) else first_over ts) (first_over us)
    go again true y = refl
    go again false true = refl
    go again false false = again

pub over-left : (ts us : List Tree) (e : RewriteError) → Tells (first_over ts) e → Tells (first_over (ts ++ us)) e
over-left ts us Memory h = tt
over-left ts us (RewriteSpent n) h = absurd h
over-left ts us RewriteDeep h = absurd h
over-left ts us (TooDeep n) h = over-both ts us ∙ ap (λ (o : Option RewriteRefusal). or_else o (first_over us)) h
over-left ts us (TooBig n) h = over-both ts us ∙ ap (λ (o : Option RewriteRefusal). or_else o (first_over us)) h

pub over-right : (ts us : List Tree) → first_over ts ≡ None → first_over (ts ++ us) ≡ first_over us
over-right ts us h = over-both ts us ∙ ap (λ (o : Option RewriteRefusal). or_else o (first_over us)) h

-- the terms of a node: its bindings, and then the places of its conclusion
node-split : (o : Option Rule) (binds : List Tree) → node_terms o binds ≡ binds ++ conclusion_terms o binds
node-split None binds = sym (append-nil binds)
node-split (Some rule) binds = refl

pub node-left : (o : Option Rule) (binds : List Tree) (e : RewriteError) → Tells (first_over binds) e → Tells (first_over (node_terms o binds)) e
node-left o binds e h = subst (λ (ts : List Tree). Tells (first_over ts) e) (sym (node-split o binds)) (over-left binds (conclusion_terms o binds) e h)

pub node-right : (o : Option Rule) (binds : List Tree) → first_over binds ≡ None → first_over (node_terms o binds) ≡ first_over (conclusion_terms o binds)
node-right o binds h = ap first_over (node-split o binds) ∙ over-right binds (conclusion_terms o binds) h

-- a measure is no deeper than the greatest
pub within-greatest : (ms : List Measure) (v : ℕ) (d : Measure) → v < length ms → (slice_index_or ms v d).depth ≤ greatest (depths_of ms)
within-greatest [] v d l = absurd (omega (arith, l))
within-greatest (m ∷ ms) zero d l = omega arith
within-greatest (m ∷ ms) (suc v) d l = let h = within-greatest ms v d (omega (arith, l)) in omega (arith, h)
